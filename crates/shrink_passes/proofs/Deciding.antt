-- The decisions of inlining, made of the program as it stands, are those that one walk of the program at the start allows.
use Rattle.std.proofs.Common.{◌≡◌, ℕ, zero, suc, ◌+◌, ◌*◌, ◌≤◌, max, Bool, true, false, ◌&&◌, List, [], ◌∷◌, Option, Some, None, ◌++◌, append_assoc, refl, sym, ap, ◌∙◌, subst, arith, ◌⊎◌, inl, inr, ⊎_elim}
use Rattle.std.specs.Prelude.{nat_eq, nat_le, if◌then◌else◌, reverse}
use Rattle.std.proofs.lemmas.Bool.{eq-eqb, le-leb, leb-true}
use Rattle.std.proofs.lemmas.List.{reverse-reverse, reverse-append, append-nil}
use Rattle.trees.specs.Measures.{depth}
use Rattle.box_terms.specs.BoxSyntax.{BoxTerm}
use Rattle.lambda_box.specs.BoxProgram.{BoxConstant, BoxFamily, BoxProgram}
use Rattle.lambda_box.specs.BoxForm.{IsBoxProgram}
use Rattle.shrink_passes.specs.declared.counting.Sight.{Sight}
use Rattle.shrink_passes.specs.declared.counting.Sight.TheVariants.{Once, Often}
use Rattle.shrink_passes.specs.Uses.{uses, total, greatest, uses_program, deepest}
use Rattle.shrink_passes.specs.Inline.{put_in, changed, standing, stands, with_body, is_put_in, inline_from, inline_program}
use Rattle.shrink_passes.specs.Sights.{sight, sight_constants, sight_program, is_once}
use Rattle.shrink_passes.proofs.Putting.{level, no_deeper, as_deep, no_shallower, reaches, put_uses, put_level, unused_level}
use Rattle.shrink_passes.proofs.Sighting.{Shows, sight_shows, looser}
use Rattle.shrink_passes.proofs.Standing.{total_standing, greatest_standing, total_more, greatest_within, greatest_over, greatest_le, greatest_same, greatest_reaches}
use Rattle.shrink_passes.proofs.Forming.{body_unused, done_unused, Later, later, step_form}

-- the greatest number of nodes above a use of constant k in a program
abbrev pub level_program : ℕ → BoxProgram → ℕ
level_program k P = max (greatest (level k 0) P.constants) (level k 0 P.main)

same_order : (a b c d : ℕ) → (a ≤ b → c ≤ d) → (c ≤ d → a ≤ b) → nat_le a b ≡ nat_le c d
same_order a b c d f g = go (nat_le a b) (nat_le c d) refl refl
  where
    go : (x y : Bool) → nat_le a b ≡ x → nat_le c d ≡ y → x ≡ y
    go true true e h = refl
    go true false e h = sym (sym h ∙ le-leb c d (f (leb-true a b e)))
    go false true e h = sym e ∙ le-leb a b (g (leb-true c d h))
    go false false e h = refl

none_unused_levels : (k : ℕ) (ds : List BoxConstant) → total (uses k) ds ≡ 0 → greatest (level k 0) ds ≡ 0
none_unused_levels k [] e = refl
none_unused_levels k (d ∷ ds) e = omega (arith, unused_level k 0 d.body (omega arith), none_unused_levels k ds (omega arith))

module _ (Fs : List BoxFamily) (done : List BoxConstant) (f : BoxTerm → BoxTerm) (d : BoxConstant) (rest : List BoxConstant) (main : BoxTerm) (ok : IsBoxProgram (stands Fs done f (d ∷ rest) main)) where
  abbrev k : ℕ
  k = d.name.0

  abbrev b : BoxTerm
  b = f d.body

  abbrev now : BoxProgram
  now = stands Fs done f (d ∷ rest) main

  abbrev next : BoxProgram
  next = stands Fs done (with_body f d) rest main

  unused_b : uses k b ≡ 0
  unused_b = body_unused Fs done f d rest main ok

  unused_done : total (uses k) done ≡ 0
  unused_done = done_unused Fs done f d rest main ok

  -- the uses of d are in what is to come and in main
  here_uses : uses_program k now ≡ total (λ t. uses k (f t)) rest + uses k (f main)
  here_uses = omega (arith, total_standing (uses k) f rest (changed f d ∷ done), unused_b, unused_done)

  here_level : level_program k now ≡ max (greatest (λ t. level k 0 (f t)) rest) (level k 0 (f main))
  here_level = omega (arith, greatest_standing (level k 0) f rest (changed f d ∷ done), unused_level k 0 b unused_b, none_unused_levels k done unused_done)

  pub now_deep : deepest now ≡ max (max (greatest (λ t. depth (f t)) rest) (max (depth b) (greatest depth done))) (depth (f main))
  now_deep = omega (arith, greatest_standing depth f rest (changed f d ∷ done))

  next_deep : deepest next ≡ max (max (greatest (λ t. depth (put_in k b (f t))) rest) (greatest depth done)) (depth (put_in k b (f main)))
  next_deep = omega (arith, greatest_standing depth (with_body f d) rest done)

  -- the program without d is as deep as before just if the body fits at its use
  fits : deepest next ≤ deepest now → level_program k now + depth b ≤ deepest now
  fits l =
      omega (arith, here_level, now_deep, next_deep, greatest_over (λ t. depth (put_in k b (f t))) (λ t. level k 0 (f t)) (depth b) (λ t. omega (arith, as_deep k b 0 (f t))) rest, as_deep k b 0 (f main))

  fitting : level_program k now + depth b ≤ deepest now → deepest next ≤ deepest now
  fitting l =
      omega (arith, here_level, now_deep, next_deep, greatest_within (λ t. depth (put_in k b (f t))) (λ t. depth (f t)) (λ t. level k 0 (f t)) (depth b) (λ t. omega (arith, no_deeper k b 0 (f t))) rest, no_deeper k b 0 (f main))

  -- and never less deep
  some_or_none : (n m : ℕ) → n + m ≡ 1 → (1 ≤ n) ⊎ (1 ≤ m)
  some_or_none zero m e = inr (omega arith)
  some_or_none (suc n) m e = inl (omega arith)

  pub next_deeper : uses_program k now ≡ 1 → deepest now ≤ deepest next
  next_deeper e =
      let all = greatest_le (λ t. depth (f t)) (λ t. depth (put_in k b (f t))) (λ t. no_shallower k b (f t)) rest in
      let last = no_shallower k b (f main) in
      ⊎_elim
      (λ p. omega (arith, now_deep, next_deep, all, last, greatest_reaches (λ t. uses k (f t)) (λ t. depth (put_in k b (f t))) (depth b) (λ t l. reaches k b (f t) l) rest p))
      (λ p. omega (arith, now_deep, next_deep, all, last, reaches k b (f main) p))
      (some_or_none (total (λ t. uses k (f t)) rest) (uses k (f main)) (sym here_uses ∙ e))

  -- the uses of another constant that isn't used in the body stay
  module _ (j : ℕ) (apart : j ≡ k → ⊥) (none : uses j b ≡ 0) where
    no_product : (n : ℕ) → n * uses j b ≡ 0
    no_product n = ap (λ z. n * z) none ∙ omega arith

    pub other_uses : uses_program j next ≡ uses_program j now
    other_uses =
        omega (
          arith,
          none,
          total_standing (uses j) f rest (changed f d ∷ done),
          total_standing (uses j) (with_body f d) rest done,
          total_more (λ t. uses j (put_in k b (f t))) (λ t. uses k (f t)) (λ t. uses j (f t)) 0 (λ t. omega (arith, no_product (uses k (f t)), put_uses k b j apart (f t))) rest,
          put_uses k b j apart (f main),
          no_product (uses k (f main)),
        )

    pub other_level : level_program j next ≡ level_program j now
    other_level =
        omega (
          arith,
          unused_level j 0 b none,
          greatest_standing (level j 0) f rest (changed f d ∷ done),
          greatest_standing (level j 0) (with_body f d) rest done,
          greatest_same (λ t. level j 0 (put_in k b (f t))) (λ t. level j 0 (f t)) (λ t. put_level k b j apart none 0 (f t)) rest,
          put_level k b j apart none 0 (f main),
        )

  -- the decision
  module _ (s : Option Sight) (shows : Shows s (uses_program k now) (level_program k now)) where
    both_true : (x y : Bool) → x ≡ true → (x && y) ≡ y
    both_true true y e = refl
    both_true false y e = absurd (cc)

    not_both : (x y : Bool) → x ≡ false → (x && y) ≡ false
    not_both true y e = absurd (cc)
    not_both false y e = refl

    not_one : (u : ℕ) → (u ≡ 1 → ⊥) → nat_eq u 1 ≡ false
    not_one u h = grind (arith, h)

    pub decides : is_put_in Fs done f d rest main ≡ is_once (deepest now) (depth b) s
    decides = go s shows
      where
        go : (s : Option Sight) → Shows s (uses_program k now) (level_program k now) → is_put_in Fs done f d rest main ≡ is_once (deepest now) (depth b) s
        go None h = not_both (nat_eq (uses_program k now) 1) (nat_le (deepest next) (deepest now)) (not_one (uses_program k now) (λ e. omega (arith, e, h.0)))
        go (Some (Once x)) h =
            both_true (nat_eq (uses_program k now) 1) (nat_le (deepest next) (deepest now)) (eq-eqb (uses_program k now) 1 h.0)
            ∙ same_order (deepest next) (deepest now) (x + depth b) (deepest now) (λ l. omega (arith, fits l, h.1)) (λ l. fitting (omega (arith, l, h.1)))
        go (Some Often) h = not_both (nat_eq (uses_program k now) 1) (nat_le (deepest next) (deepest now)) (not_one (uses_program k now) (λ e. omega (arith, e, h)))

    pub stays_deep : is_once (deepest now) (depth b) s ≡ true → deepest next ≡ deepest now
    stays_deep = go s shows
      where
        go : (s : Option Sight) → Shows s (uses_program k now) (level_program k now) → is_once (deepest now) (depth b) s ≡ true → deepest next ≡ deepest now
        go None h e = absurd (cc)
        go (Some (Once x)) h e = omega (arith, next_deeper h.0, fitting (omega (arith, h.1, leb-true (x + depth b) (deepest now) e)))
        go (Some Often) h e = absurd (cc)

-- of each constant to come the table shows how the program as it stands uses it
abbrev Shown : (ℕ → Option Sight) → BoxProgram → List BoxConstant → Type 0
Shown S P [] = Unit {0}
Shown S P (d ∷ rest) = Shows (S d.name.0) (uses_program d.name.0 P) (level_program d.name.0 P) × Shown S P rest

shown_next : (S : ℕ → Option Sight) (Fs : List BoxFamily) (done : List BoxConstant) (f : BoxTerm → BoxTerm) (d : BoxConstant) (rest : List BoxConstant) (main : BoxTerm) (ok : IsBoxProgram (stands Fs done f (d ∷ rest) main)) (es : List BoxConstant) →
    Later Fs done f d rest main ok es → Shown S (stands Fs done f (d ∷ rest) main) es → Shown S (stands Fs done (with_body f d) rest main) es
shown_next S Fs done f d rest main ok [] l h = tt
shown_next S Fs done f d rest main ok (e ∷ es) l h = (
  subst (λ u. Shows (S e.name.0) u (level_program e.name.0 (stands Fs done (with_body f d) rest main))) (sym (other_uses Fs done f d rest main ok e.name.0 l.0 l.1))
      (subst (λ n. Shows (S e.name.0) (uses_program e.name.0 (stands Fs done f (d ∷ rest) main)) n) (sym (other_level Fs done f d rest main ok e.name.0 l.0 l.1)) h.0),
  shown_next S Fs done f d rest main ok es l.2 h.1,
)

-- what holds between two steps: the whole passage gives what the steps from here give, and the table still tells of what is to come
module _ (S : ℕ → Option Sight) (g : ℕ) (Fs : List BoxFamily) (main : BoxTerm) (whole : BoxProgram) where
  pub record Going (f : BoxTerm → BoxTerm) (done rest : List BoxConstant) : Type 0 where
    pub same : whole ≡ inline_from Fs done f rest main
    pub form : IsBoxProgram (stands Fs done f rest main)
    pub shown : Shown S (stands Fs done f rest main) rest
    pub deep : deepest (stands Fs done f rest main) ≡ g

  module _ (f : BoxTerm → BoxTerm) (done : List BoxConstant) (d : BoxConstant) (rest : List BoxConstant) (h : Going f done (d ∷ rest)) where
    at_depth : is_once (deepest (stands Fs done f (d ∷ rest) main)) (depth (f d.body)) (S d.name.0) ≡ is_once g (depth (f d.body)) (S d.name.0)
    at_depth = ap (λ x. is_once x (depth (f d.body)) (S d.name.0)) h.deep

    choice : is_put_in Fs done f d rest main ≡ is_once g (depth (f d.body)) (S d.name.0)
    choice = decides Fs done f d rest main h.form (S d.name.0) h.shown.0 ∙ at_depth

    pub go_put : is_once g (depth (f d.body)) (S d.name.0) ≡ true → Going (with_body f d) done rest
    go_put is_yes = record {
      same = h.same ∙ ap (λ z. if z then inline_from Fs done (with_body f d) rest main else inline_from Fs (changed f d ∷ done) f rest main) (choice ∙ is_yes);
      form = step_form Fs done f d rest main h.form;
      shown = shown_next S Fs done f d rest main h.form rest (later Fs done f d rest main h.form) h.shown.1;
      deep = stays_deep Fs done f d rest main h.form (S d.name.0) h.shown.0 (at_depth ∙ is_yes) ∙ h.deep;
    }

    pub go_on : is_once g (depth (f d.body)) (S d.name.0) ≡ false → Going f (changed f d ∷ done) rest
    go_on is_no = record {
      same = h.same ∙ ap (λ z. if z then inline_from Fs done (with_body f d) rest main else inline_from Fs (changed f d ∷ done) f rest main) (choice ∙ is_no);
      form = h.form;
      shown = h.shown.1;
      deep = h.deep;
    }

    pub body_shallow : depth (f d.body) ≤ g
    body_shallow = omega (arith, h.deep, now_deep Fs done f d rest main h.form)

  pub main_shallow : (f : BoxTerm → BoxTerm) (done rest : List BoxConstant) → Going f done rest → depth (f main) ≤ g
  main_shallow f done rest h = let e = h.deep in omega arith

-- at the start

unchanged : (d : BoxConstant) → changed (λ t. t) d ≡ d
unchanged d = refl

standing_self : (rest done : List BoxConstant) → standing (λ t. t) rest done ≡ reverse rest ++ done
standing_self [] done = refl
standing_self (d ∷ rest) done = ap (λ (x : BoxConstant). standing (λ t. t) rest (x ∷ done)) (unchanged d) ∙ standing_self rest (d ∷ done) ∙ sym (append_assoc (reverse rest) (d ∷ []) done) ∙ ap (λ (ys : List BoxConstant). ys ++ done) (sym (reverse-append (d ∷ []) rest))

pub start_constants : (cs : List BoxConstant) → standing (λ t. t) (reverse cs) [] ≡ cs
start_constants cs = standing_self (reverse cs) [] ∙ append-nil (reverse (reverse cs)) ∙ reverse-reverse cs

pub start_program : (P : BoxProgram) → stands P.families [] (λ t. t) (reverse P.constants) P.main ≡ P
start_program P = λ i. record { constants = start_constants P.constants i; families = P.families; main = P.main }

sight_constants_shows : (k : ℕ) (ds : List BoxConstant) (s : Option Sight) (u l u' l' : ℕ) → Shows s u l → u' ≡ u + total (uses k) ds → l' ≡ max l (greatest (level k 0) ds) → Shows (sight_constants k ds s) u' l'
sight_constants_shows k [] s u l u' l' h p q = looser s u l u' l' h (omega arith) (omega arith)
sight_constants_shows k (d ∷ ds) s u l u' l' h p q =
    sight_constants_shows k ds (sight k 0 d.body s) (u + uses k d.body) (max l (level k 0 d.body)) u' l' (sight_shows k 0 d.body s u l (u + uses k d.body) (max l (level k 0 d.body)) h refl refl) (omega arith) (omega arith)

total_reverse : (h : BoxTerm → ℕ) (cs : List BoxConstant) → total h cs ≡ total h (reverse cs)
total_reverse h cs = subst (λ (ds : List BoxConstant). total h ds ≡ total h (reverse cs)) (start_constants cs) (omega (arith, total_standing h (λ t. t) (reverse cs) []))

pub greatest_reverse : (h : BoxTerm → ℕ) (cs : List BoxConstant) → greatest h cs ≡ greatest h (reverse cs)
greatest_reverse h cs = subst (λ (ds : List BoxConstant). greatest h ds ≡ greatest h (reverse cs)) (start_constants cs) (omega (arith, greatest_standing h (λ t. t) (reverse cs) []))

pub program_shows : (k : ℕ) (P : BoxProgram) → Shows (sight_program k P) (uses_program k P) (level_program k P)
program_shows k P =
    let rest = reverse P.constants in
    let us = total_reverse (uses k) P.constants in
    let ls = greatest_reverse (level k 0) P.constants in
    let s = sight_constants k rest None in
    let here : Shows s (total (uses k) rest) (greatest (level k 0) rest) = sight_constants_shows k rest None 0 0 (total (uses k) rest) (greatest (level k 0) rest) (refl, refl) (omega arith) (omega arith) in
    sight_shows k 0 P.main s (total (uses k) rest) (greatest (level k 0) rest) (uses_program k P) (level_program k P) here (omega arith) (omega arith)

all_shown : (P : BoxProgram) (S : ℕ → Option Sight) → ((k : ℕ) → S k ≡ sight_program k P) → (ds : List BoxConstant) → Shown S P ds
all_shown P S e [] = tt
all_shown P S e (d ∷ ds) = (subst (λ (s : Option Sight). Shows s (uses_program d.name.0 P) (level_program d.name.0 P)) (sym (e d.name.0)) (program_shows d.name.0 P), all_shown P S e ds)

pub start_going : (P : BoxProgram) (S : ℕ → Option Sight) (g : ℕ) → ((k : ℕ) → S k ≡ sight_program k P) → g ≡ deepest P → IsBoxProgram P →
    Going S g P.families P.main (inline_program P) (λ t. t) [] (reverse P.constants)
start_going P S g e q ok =
    let start = sym (start_program P) in
    record {
      same = refl;
      form = subst IsBoxProgram start ok;
      shown = subst (λ (Q : BoxProgram). Shown S Q (reverse P.constants)) start (all_shown P S e (reverse P.constants));
      deep = ap deepest (start_program P) ∙ sym q;
    }
