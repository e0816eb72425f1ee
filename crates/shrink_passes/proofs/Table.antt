-- The table of the bodies that are put in, between two steps of inlining.
use Rattle.std.proofs.Common.{◌≡◌, ℕ, zero, suc, ◌+◌, ◌<◌, ◌≤◌, Bool, true, false, List, [], ◌∷◌, reverse, length, get_or, drop, Option, Some, None, refl, sym, ap, ◌∙◌, subst, arith}
use Rattle.std.specs.Prelude.{nat_eq, cond}
use Rattle.std.proofs.lemmas.Bool.{eqb-true}
use Rattle.std.proofs.lemmas.List.{reverse-reverse}
use Rattle.trees.specs.Measures.{depth, depth_limit}
use Rattle.box_terms.specs.BoxSyntax.{BoxTerm}
use Rattle.lambda_box.specs.BoxProgram.{BoxConstant, BoxFamily, BoxProgram}
use Rattle.lambda_box.specs.BoxForm.{IsBoxProgram}
use Rattle.shrink_passes.specs.declared.counting.Sight.{Sight}
use Rattle.shrink_passes.specs.Uses.{deepest}
use Rattle.shrink_passes.specs.Inline.{changed, inline_program}
use Rattle.shrink_passes.specs.Sights.{is_once, sight_program}
use Rattle.shrink_passes.specs.Filled.{filled}
use Rattle.shrink_passes.specs.ShrinkLaws.{Inlined}
use Rattle.shrink_passes.proofs.InlineSteps.{inline_is_right}
use Rattle.shrink_passes.proofs.Forming.{Later, later}
use Rattle.shrink_passes.proofs.Fillings.{filled_more, filled_same, filled_nothing, NoBodyUses}
use Rattle.shrink_passes.proofs.Deciding.{Going, go_put, go_on, start_going, body_shallow, main_shallow}

-- no constant to come is in the table, or used in its bodies
abbrev pub EachNew : (ℕ → Option BoxTerm) → List BoxConstant → Type 0
EachNew m [] = Unit {0}
EachNew m (d ∷ ds) = (m d.name.0 ≡ None) × ((j : ℕ) → NoBodyUses d.name.0 (m j)) × EachNew m ds

pub record Looped (P : BoxProgram) (S : ℕ → Option Sight) (g : ℕ) (m : ℕ → Option BoxTerm) (done rest : List BoxConstant) : Type 0 where
  pub going : Going S g P.families P.main (inline_program P) (filled m) done rest
  pub new : EachNew m rest

module _ (P : BoxProgram) (S : ℕ → Option Sight) (g : ℕ) (m : ℕ → Option BoxTerm) (done : List BoxConstant) (d : BoxConstant) (rest : List BoxConstant) (h : Looped P S g m done (d ∷ rest)) where
  module _ (n : ℕ → Option BoxTerm) (more : (j : ℕ) → n j ≡ cond (nat_eq d.name.0 j) (Some (filled m d.body)) (m j)) where
    each_new : (es : List BoxConstant) → Later P.families done (filled m) d rest P.main h.going.form es → EachNew m es → EachNew n es
    each_new [] l e = tt
    each_new (x ∷ es) l e = (new (nat_eq d.name.0 x.name.0) refl, (λ j. clear j (nat_eq d.name.0 j) refl), each_new es l.2 e.2)
      where
        new : (z : Bool) → nat_eq d.name.0 x.name.0 ≡ z → n x.name.0 ≡ None
        new true q = absurd (l.0 (sym (eqb-true d.name.0 x.name.0 q)))
        new false q = more x.name.0 ∙ ap (λ z. cond z (Some (filled m d.body)) (m x.name.0)) q ∙ e.0

        clear : (j : ℕ) (z : Bool) → nat_eq d.name.0 j ≡ z → NoBodyUses x.name.0 (n j)
        clear j true q = subst (NoBodyUses x.name.0) (sym (more j ∙ ap (λ z. cond z (Some (filled m d.body)) (m j)) q)) l.1
        clear j false q = subst (NoBodyUses x.name.0) (sym (more j ∙ ap (λ z. cond z (Some (filled m d.body)) (m j)) q)) (e.1 j)

    pub loop_put : is_once g (depth (filled m d.body)) (S d.name.0) ≡ true → Looped P S g n done rest
    loop_put is_yes = record {
      going = subst (λ (f : BoxTerm → BoxTerm). Going S g P.families P.main (inline_program P) f done rest) (λ i t. sym (filled_more m n d.name.0 (filled m d.body) more h.new.0 h.new.1 t) i) (go_put S g P.families P.main (inline_program P) (filled m) done d rest h.going is_yes);
      new = each_new rest (later P.families done (filled m) d rest P.main h.going.form) h.new.2;
    }

  module _ (n : ℕ → Option BoxTerm) (same : (j : ℕ) → n j ≡ m j) where
    still_new : (es : List BoxConstant) → EachNew m es → EachNew n es
    still_new [] e = tt
    still_new (x ∷ es) e = (same x.name.0 ∙ e.0, (λ j. subst (NoBodyUses x.name.0) (sym (same j)) (e.1 j)), still_new es e.2)

    pub loop_on : is_once g (depth (filled m d.body)) (S d.name.0) ≡ false → Looped P S g n (changed (filled m) d ∷ done) rest
    loop_on is_no = record {
      going = subst (λ (f : BoxTerm → BoxTerm). Going S g P.families P.main (inline_program P) f (changed (filled m) d ∷ done) rest) (λ i t. filled_same m n (λ k. sym (same k)) t i) (go_on S g P.families P.main (inline_program P) (filled m) done d rest h.going is_no);
      new = still_new rest h.new.2;
    }

  pub fill_shallow : g ≤ depth_limit → depth (filled m d.body) ≤ depth_limit
  fill_shallow l = let s = body_shallow S g P.families P.main (inline_program P) (filled m) done d rest h.going in omega arith

nothing_new : (m : ℕ → Option BoxTerm) → ((k : ℕ) → m k ≡ None) → (ds : List BoxConstant) → EachNew m ds
nothing_new m e [] = tt
nothing_new m e (d ∷ ds) = (e d.name.0, (λ j. subst (NoBodyUses d.name.0) (sym (e j)) tt), nothing_new m e ds)

pub loop_starts : (P : BoxProgram) (S : ℕ → Option Sight) (g : ℕ) (m : ℕ → Option BoxTerm) (rest : List BoxConstant) → ((k : ℕ) → S k ≡ sight_program k P) → g ≡ deepest P → IsBoxProgram P → ((k : ℕ) → m k ≡ None) → rest ≡ reverse P.constants →
    Looped P S g m [] rest
loop_starts P S g m rest e q ok none is = subst (λ (ds : List BoxConstant). Looped P S g m [] ds) (sym is) (record {
  going = subst (λ (f : BoxTerm → BoxTerm). Going S g P.families P.main (inline_program P) f [] (reverse P.constants)) (λ i t. sym (filled_nothing m none t) i) (start_going P S g e q ok);
  new = nothing_new m none (reverse P.constants);
})

pub loop_shallow : (P : BoxProgram) (S : ℕ → Option Sight) (g : ℕ) (m : ℕ → Option BoxTerm) (done rest : List BoxConstant) → Looped P S g m done rest → g ≤ depth_limit → depth (filled m P.main) ≤ depth_limit
loop_shallow P S g m done rest h l = let s = main_shallow S g P.families P.main (inline_program P) (filled m) done rest h.going in omega arith

pub loop_ends : (P : BoxProgram) (S : ℕ → Option Sight) (g : ℕ) (m : ℕ → Option BoxTerm) (done rest : List BoxConstant) (Fs : List BoxFamily) (main : BoxTerm) → Looped P S g m done rest → rest ≡ [] → Fs ≡ P.families → main ≡ filled m P.main →
    inline_program P ≡ record { constants = done; families = Fs; main = main }
loop_ends P S g m done rest Fs main h e f q =
    (subst (λ (ds : List BoxConstant). Looped P S g m done ds) e h).going.same ∙ (λ i. record { constants = done; families = sym f i; main = sym q i })

-- the constants in the order of declarations
pub in_order : (xs cs : List BoxConstant) → reverse xs ≡ cs → xs ≡ reverse cs
in_order xs cs e = sym (reverse-reverse xs) ∙ ap reverse e

pub next_item : (xs : List BoxConstant) (i : ℕ) (x : BoxConstant) → i < length xs → x ≡ get_or xs i x → drop i xs ≡ x ∷ drop (i + 1) xs
next_item [] i x l e = absurd (omega arith)
next_item (y ∷ xs) zero x l e = ap (λ (z : BoxConstant). z ∷ xs) (sym e)
next_item (y ∷ xs) (suc i) x l e = let q : suc i + 1 ≡ suc (i + 1) = omega arith in next_item xs i x (omega arith) e ∙ ap (λ n. x ∷ drop n (y ∷ xs)) (sym q)

-- one step of the loop, as it is decided
pub loop_step : (P : BoxProgram) (S : ℕ → Option Sight) (g : ℕ) (m n : ℕ → Option BoxTerm) (done next : List BoxConstant) (d : BoxConstant) (rest : List BoxConstant) → Looped P S g m done (d ∷ rest) →
    (put : Bool) → put ≡ is_once g (depth (filled m d.body)) (S d.name.0) → (body : BoxTerm) → body ≡ filled m d.body →
    (put ≡ true → ((j : ℕ) → n j ≡ cond (nat_eq d.name.0 j) (Some body) (m j)) × (next ≡ done)) →
    (put ≡ false → ((j : ℕ) → n j ≡ m j) × (next ≡ record { name = d.name; body = body } ∷ done)) → Looped P S g n next rest
loop_step P S g m n done next d rest h true choice body is f k =
    let r = f refl in
    subst (λ (ds : List BoxConstant). Looped P S g n ds rest) (sym r.1) (loop_put P S g m done d rest h n (λ j. r.0 j ∙ ap (λ (t : BoxTerm). cond (nat_eq d.name.0 j) (Some t) (m j)) is) (sym choice))
loop_step P S g m n done next d rest h false choice body is f k =
    let r = k refl in
    let q : changed (filled m) d ∷ done ≡ next = ap (λ (t : BoxTerm). record { name = d.name; body = t } ∷ done) (sym is) ∙ sym r.1 in
    subst (λ (ds : List BoxConstant). Looped P S g n ds rest) q (loop_on P S g m done d rest h n r.0 (sym choice))

-- after the last step
pub loop_inlined : (P : BoxProgram) → IsBoxProgram P → (S : ℕ → Option Sight) (g : ℕ) (m : ℕ → Option BoxTerm) (done rest : List BoxConstant) (Fs : List BoxFamily) (main : BoxTerm) → Looped P S g m done rest → rest ≡ [] → Fs ≡ P.families →
    main ≡ filled m P.main → Inlined P (record { constants = done; families = Fs; main = main })
loop_inlined P ok S g m done rest Fs main h e f q = subst (λ (Q : BoxProgram). Inlined P Q) (loop_ends P S g m done rest Fs main h e f q) (inline_is_right P ok)
