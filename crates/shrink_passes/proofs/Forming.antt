-- A step of inlining keeps the form of programs.
use Rattle.std.proofs.Common.{◌≡◌, ◌≢◌, ℕ, zero, suc, ◌+◌, ◌<◌, ◌≤◌, Bool, true, false, List, [], ◌∷◌, length, get_or, AllPairs, refl, sym, ap, ◌∙◌, subst, arith, ◌⊎◌, inl, inr, ⊎_elim}
use Rattle.std.specs.Prelude.{nat_eq, if◌then◌else◌}
use Rattle.std.proofs.lemmas.Bool.{eqb-true, eq-eqb, false≢true}
use Rattle.trees.specs.Tree.{Rel, Done, Next}
use Rattle.trees.specs.Closed.{Closed, ClosedTerms, EveryTerm}
use Rattle.trees.specs.Shape.{binders_of}
use Rattle.trees.proofs.Closed.{loose-closed, loose-least}
use Rattle.pc_terms.specs.declared.leaf.Name.{Name}
use Rattle.box_terms.specs.BoxSyntax.{BConstOf, BoxTerm, BoxTerms, Box, BLambda, BLetIn, BApp, BConst, BConstruct, BCase, BFix}
use Rattle.lambda_box.specs.BoxProgram.{BoxConstant, BoxFamily, Has, here, there, NamesKept, NamesOnly}
use Rattle.lambda_box.specs.BoxForm.{IsFixBody, boxed, last, more, AreFixBodies, HasBoxForm, HasBoxFormTerms, IsBoxBody, AreOrdered, IsBoxProgram}
use Rattle.lambda_box.proofs.Naming.{named_more}
use Rattle.shrink_passes.specs.Uses.{uses, uses_terms, total}
use Rattle.shrink_passes.specs.Inline.{put_in, put_in_terms, changed, standing, stands, with_body}

-- closed terms stand under more variables

pub closed_more : {k m : ℕ} (t : BoxTerm) → Closed k t → k ≤ m → Closed m t
closed_more {k} {m} t c l = let h = loose-least k t c in loose-closed m t (omega arith)

module _ (k : ℕ) (b : BoxTerm) where
  mutual
    pub put_closed : (m : ℕ) (t : BoxTerm) → Closed 0 b → Closed m t → Closed m (put_in k b t)
    put_closed m (Rel i) h c = c
    put_closed m Box h c = tt
    put_closed m (BLambda t) h c = (put_closed (1 + m) t h c.0, tt)
    put_closed m (BLetIn a t) h c = (put_closed (0 + m) a h c.0, (put_closed (1 + m) t h c.1.0, tt))
    put_closed m (BApp f a) h c = (put_closed (0 + m) f h c.0, (put_closed (0 + m) a h c.1.0, tt))
    put_closed m (BConst c') h c = either (nat_eq c'.0 k)
      where
        either : (z : Bool) → Closed m (if z then b else BConst c')
        either true = closed_more b h (omega arith)
        either false = tt
    put_closed m (BConstruct f i) h c = tt
    put_closed m (BCase f s bs) h c = (put_closed (0 + m) s h c.0, (put_closed_terms m bs h c.1.0, tt))
    put_closed m (BFix i rargs bodies) h c = (put_closed_terms m bodies h c.0, tt)

    pub put_closed_terms : (m : ℕ) (ts : BoxTerms) → Closed 0 b → ClosedTerms m ts → ClosedTerms m (put_in_terms k b ts)
    put_closed_terms m Done h c = tt
    put_closed_terms m (Next n t ts) h c = (put_closed (n + m) t h c.0, put_closed_terms m ts h c.1)

  -- the form

  pub binders_put : (ts : BoxTerms) → binders_of (put_in_terms k b ts) ≡ binders_of ts
  binders_put Done = refl
  binders_put (Next n t ts) = ap (◌∷◌ n) (binders_put ts)

  fix_body_put : {r : ℕ} {t : BoxTerm} → IsFixBody r t → IsFixBody r (put_in k b t)
  fix_body_put boxed = boxed
  fix_body_put last = last
  fix_body_put (more h) = more (fix_body_put h)

  fix_bodies_put : (n : ℕ) (rs : List ℕ) (ts : BoxTerms) → AreFixBodies n rs ts → AreFixBodies n rs (put_in_terms k b ts)
  fix_bodies_put n [] Done h = tt
  fix_bodies_put n [] (Next m t ts) h = absurd h
  fix_bodies_put n (r ∷ rs) Done h = absurd h
  fix_bodies_put n (r ∷ rs) (Next m t ts) h = (h.0, fix_body_put h.1, fix_bodies_put n rs ts h.2)

  module _ (Fs : List BoxFamily) (g : HasBoxForm Fs b) where
    mutual
      pub put_form : (t : BoxTerm) → HasBoxForm Fs t → HasBoxForm Fs (put_in k b t)
      put_form (Rel i) h = tt
      put_form Box h = h
      put_form (BLambda t) h = (tt, (put_form t h.1.0, tt))
      put_form (BLetIn a t) h = (tt, (put_form a h.1.0, (put_form t h.1.1.0, tt)))
      put_form (BApp f a) h = (tt, (put_form f h.1.0, (put_form a h.1.1.0, tt)))
      put_form (BConst c) h = either (nat_eq c.0 k)
        where
          either : (z : Bool) → HasBoxForm Fs (if z then b else BConst c)
          either true = g
          either false = h
      put_form (BConstruct f i) h = h
      put_form (BCase f s bs) h = ((h.0.0, h.0.1, h.0.2, binders_put bs ∙ h.0.3), (put_form s h.1.0, (put_form_terms bs h.1.1.0, tt)))
      put_form (BFix i rargs bodies) h = ((h.0.0, fix_bodies_put (length rargs) rargs bodies h.0.1), (put_form_terms bodies h.1.0, tt))

      put_form_terms : (ts : BoxTerms) → HasBoxFormTerms Fs ts → HasBoxFormTerms Fs (put_in_terms k b ts)
      put_form_terms Done h = tt
      put_form_terms (Next n t ts) h = (put_form t h.0, put_form_terms ts h.1)

  -- what other constants a list has, another has too
  abbrev pub Keeps : List BoxConstant → List BoxConstant → Type 0
  Keeps cs ds = (c : Name) → (c.0 ≡ k → ⊥) → NamesKept cs (BConstOf c) → NamesKept ds (BConstOf c)

  module _ (cs ds : List BoxConstant) (keeps : Keeps cs ds) (g : NamesOnly ds b) where
    mutual
      pub put_named : (t : BoxTerm) → NamesOnly cs t → NamesOnly ds (put_in k b t)
      put_named (Rel i) h = tt
      put_named Box h = (tt, tt)
      put_named (BLambda t) h = (tt, (put_named t h.1.0, tt))
      put_named (BLetIn a t) h = (tt, (put_named a h.1.0, (put_named t h.1.1.0, tt)))
      put_named (BApp f a) h = (tt, (put_named f h.1.0, (put_named a h.1.1.0, tt)))
      put_named (BConst c) h = either (nat_eq c.0 k) refl
        where
          either : (z : Bool) → nat_eq c.0 k ≡ z → NamesOnly ds (if z then b else BConst c)
          either true e = g
          either false e = (keeps c (λ q. false≢true (sym e ∙ eq-eqb c.0 k q)) h.0, tt)
      put_named (BConstruct f i) h = (tt, tt)
      put_named (BCase f s bs) h = (tt, (put_named s h.1.0, (put_named_terms bs h.1.1.0, tt)))
      put_named (BFix i rargs bodies) h = (tt, (put_named_terms bodies h.1.0, tt))

      put_named_terms : (ts : BoxTerms) → EveryTerm (NamesKept cs) ts → EveryTerm (NamesKept ds) (put_in_terms k b ts)
      put_named_terms Done h = tt
      put_named_terms (Next n t ts) h = (put_named t h.0, put_named_terms ts h.1)

  pub put_body : (Fs : List BoxFamily) (cs ds : List BoxConstant) → Keeps cs ds → IsBoxBody Fs ds b → (t : BoxTerm) → IsBoxBody Fs cs t → IsBoxBody Fs ds (put_in k b t)
  put_body Fs cs ds keeps g t h = record {
    closed = put_closed 0 t g.closed h.closed;
    form = put_form Fs g.form t h.form;
    named = put_named cs ds keeps g.named t h.named;
  }

-- names that are apart

-- no constant of the list has number k
abbrev pub Fresh : ℕ → List BoxConstant → Type 0
Fresh k [] = Unit {0}
Fresh k (d ∷ ds) = (d.name.0 ≡ k → ⊥) × Fresh k ds

abbrev pub Apart : List BoxConstant → Type 0
Apart [] = Unit {0}
Apart (d ∷ ds) = Fresh d.name.0 ds × Apart ds

pub same_name : (a b : Name) → a.0 ≡ b.0 → a ≡ b
same_name a b e = λ i. record { 0 = e i }

fresh_from : (k : ℕ) (ds : List BoxConstant) (x : BoxConstant) → ((j : ℕ) → j < length ds → (get_or ds j x).name.0 ≡ k → ⊥) → Fresh k ds
fresh_from k [] x f = tt
fresh_from k (d ∷ ds) x f = (f 0 (omega arith), fresh_from k ds x (λ j l. f (suc j) (omega arith)))

pub apart_from : (ds : List BoxConstant) → AllPairs (λ c d. c.name ≢ d.name) ds → Apart ds
apart_from [] all = tt
apart_from (d ∷ ds) all = (
  fresh_from d.name.0 ds d (λ j l e. all 0 (suc j) d (omega arith) (omega arith) (same_name d.name (get_or ds j d).name (sym e))),
  apart_from ds (λ i j x lt l. all (suc i) (suc j) x (omega arith) (omega arith)),
)

fresh_at : (k : ℕ) (ds : List BoxConstant) (x : BoxConstant) → Fresh k ds → (j : ℕ) → j < length ds → (get_or ds j x).name.0 ≡ k → ⊥
fresh_at k [] x h j l e = absurd (omega arith)
fresh_at k (d ∷ ds) x h zero l e = h.0 e
fresh_at k (d ∷ ds) x h (suc j) l e = fresh_at k ds x h.1 j (omega arith) e

pub apart_pairs : (ds : List BoxConstant) → Apart ds → AllPairs (λ c d. c.name ≢ d.name) ds
apart_pairs [] h i j x lt l = absurd (omega arith)
apart_pairs (d ∷ ds) h zero zero x lt l = absurd (omega arith)
apart_pairs (d ∷ ds) h zero (suc j) x lt l = λ e. fresh_at d.name.0 ds x h.0 j (omega arith) (ap (λ (n : Name). n.0) (sym e))
apart_pairs (d ∷ ds) h (suc i) zero x lt l = absurd (omega arith)
apart_pairs (d ∷ ds) h (suc i) (suc j) x lt l = apart_pairs ds h.1 i j x (omega arith) (omega arith)

-- a term that names constants of the list alone doesn't use another

pub has_other : {d : BoxConstant} {cs : List BoxConstant} (k : ℕ) → Has cs d → Fresh k cs → d.name.0 ≡ k → ⊥
has_other k here f e = f.0 e
has_other k (there h) f e = has_other k h f.1 e

module _ (k : ℕ) (cs : List BoxConstant) (fresh : Fresh k cs) where
  mutual
    pub named_unused : (t : BoxTerm) → NamesOnly cs t → uses k t ≡ 0
    named_unused (Rel i) h = refl
    named_unused Box h = refl
    named_unused (BLambda t) h = named_unused t h.1.0
    named_unused (BLetIn a t) h = omega (arith, named_unused a h.1.0, named_unused t h.1.1.0)
    named_unused (BApp f a) h = omega (arith, named_unused f h.1.0, named_unused a h.1.1.0)
    named_unused (BConst c) h = either (nat_eq c.0 k) refl
      where
        either : (z : Bool) → nat_eq c.0 k ≡ z → (if◌then◌else◌ {A = ℕ} z 1 0) ≡ 0
        either true e = absurd (has_other k h.0.1 fresh (eqb-true c.0 k e))
        either false e = refl
    named_unused (BConstruct f i) h = refl
    named_unused (BCase f s bs) h = omega (arith, named_unused s h.1.0, named_unused_terms bs h.1.1.0)
    named_unused (BFix i rargs bodies) h = named_unused_terms bodies h.1.0

    named_unused_terms : (ts : BoxTerms) → EveryTerm (NamesKept cs) ts → uses_terms k ts ≡ 0
    named_unused_terms Done h = refl
    named_unused_terms (Next n t ts) h = omega (arith, named_unused t h.0, named_unused_terms ts h.1)

-- no body of earlier constants uses a later one
pub ordered_unused : (k : ℕ) (Fs : List BoxFamily) (cs : List BoxConstant) → AreOrdered Fs cs → Fresh k cs → total (uses k) cs ≡ 0
ordered_unused k Fs [] h f = refl
ordered_unused k Fs (d ∷ cs) h f = omega (arith, named_unused k cs f.1 d.body h.0.named, ordered_unused k Fs cs h.1 f.1)

-- what is known of the constants that are done

module _ (f : BoxTerm → BoxTerm) where
  pub done_ordered : (Fs : List BoxFamily) (rest done : List BoxConstant) → AreOrdered Fs (standing f rest done) → AreOrdered Fs done
  done_ordered Fs [] done h = h
  done_ordered Fs (d ∷ rest) done h = (done_ordered Fs rest (changed f d ∷ done) h).1

  pub done_apart : (rest done : List BoxConstant) → Apart (standing f rest done) → Apart done
  done_apart [] done h = h
  done_apart (d ∷ rest) done h = (done_apart rest (changed f d ∷ done) h).1

  -- each constant to come is none of those that are done
  abbrev pub Coming : List BoxConstant → List BoxConstant → Type 0
  Coming [] done = Unit {0}
  Coming (d ∷ rest) done = Fresh d.name.0 done × Coming rest done

  less_coming : (rest : List BoxConstant) (d : BoxConstant) (done : List BoxConstant) → Coming rest (d ∷ done) → Coming rest done
  less_coming [] d done h = tt
  less_coming (e ∷ rest) d done h = (h.0.1, less_coming rest d done h.1)

  pub coming : (rest done : List BoxConstant) → Apart (standing f rest done) → Coming rest done
  coming [] done h = tt
  coming (d ∷ rest) done h = ((done_apart rest (changed f d ∷ done) h).0, less_coming rest (changed f d) done (coming rest (changed f d ∷ done) h))

-- one step

pub has_split : {A : Type 0} {x y : A} {xs : List A} → Has (x ∷ xs) y → (y ≡ x) ⊎ Has xs y
has_split here = inl refl
has_split (there h) = inr h

module _ (k : ℕ) (b : BoxTerm) (f : BoxTerm → BoxTerm) where
  abbrev g : BoxTerm → BoxTerm
  g t = put_in k b (f t)

  keeps_more : (d : BoxConstant) (cs ds : List BoxConstant) → Keeps k b cs ds → Keeps k b (changed f d ∷ cs) (changed g d ∷ ds)
  keeps_more d cs ds keeps c other (t, h) =
      ⊎_elim (λ e. (g d.body, subst (λ (n : Name). Has (changed g d ∷ ds) (record { name = n; body = g d.body })) (sym (ap (λ (x : BoxConstant). x.name) e)) here))
      (λ h. let r = keeps c other (t, h) in (r.0, there r.1)) (has_split h)

  pub standing_keeps : (rest cs ds : List BoxConstant) → Keeps k b cs ds → Keeps k b (standing f rest cs) (standing g rest ds)
  standing_keeps [] cs ds keeps = keeps
  standing_keeps (d ∷ rest) cs ds keeps = standing_keeps rest (changed f d ∷ cs) (changed g d ∷ ds) (keeps_more d cs ds keeps)

  more_body : (Fs : List BoxFamily) (d : BoxConstant) (ds : List BoxConstant) (t : BoxTerm) → IsBoxBody Fs ds t → IsBoxBody Fs (d ∷ ds) t
  more_body Fs d ds t h = record { closed = h.closed; form = h.form; named = named_more d ds t h.named }

  pub standing_body : (Fs : List BoxFamily) (rest ds : List BoxConstant) (t : BoxTerm) → IsBoxBody Fs ds t → IsBoxBody Fs (standing g rest ds) t
  standing_body Fs [] ds t h = h
  standing_body Fs (d ∷ rest) ds t h = standing_body Fs rest (changed g d ∷ ds) t (more_body Fs (changed g d) ds t h)

  pub standing_ordered : (Fs : List BoxFamily) (rest cs ds : List BoxConstant) → Keeps k b cs ds → IsBoxBody Fs ds b → AreOrdered Fs (standing f rest cs) → AreOrdered Fs ds → AreOrdered Fs (standing g rest ds)
  standing_ordered Fs [] cs ds keeps h o p = p
  standing_ordered Fs (d ∷ rest) cs ds keeps h o p =
      let body = (done_ordered f Fs rest (changed f d ∷ cs) o).0 in
      standing_ordered Fs rest (changed f d ∷ cs) (changed g d ∷ ds) (keeps_more d cs ds keeps) (more_body Fs (changed g d) ds b h) o (put_body k b Fs cs ds keeps h (f d.body) body, p)

-- a number that no constant of the first list has is none of the second's
abbrev Fewer : List BoxConstant → List BoxConstant → Type 0
Fewer cs ds = (x : ℕ) → Fresh x cs → Fresh x ds

-- the names that stand there are apart, whatever the bodies become
pub standing_apart : (f g : BoxTerm → BoxTerm) (rest cs ds : List BoxConstant) → Fewer cs ds → Apart (standing f rest cs) → Apart ds → Apart (standing g rest ds)
standing_apart f g [] cs ds fewer h p = p
standing_apart f g (d ∷ rest) cs ds fewer h p =
    standing_apart f g rest (changed f d ∷ cs) (changed g d ∷ ds) (λ x q. (q.0, fewer x q.1)) h (fewer d.name.0 (done_apart f rest (changed f d ∷ cs) h).0, p)

module _ (Fs : List BoxFamily) (done : List BoxConstant) (f : BoxTerm → BoxTerm) (d : BoxConstant) (rest : List BoxConstant) (main : BoxTerm) (ok : IsBoxProgram (stands Fs done f (d ∷ rest) main)) where
  abbrev k : ℕ
  k = d.name.0

  abbrev b : BoxTerm
  b = f d.body

  ordered : AreOrdered Fs (changed f d ∷ done)
  ordered = done_ordered f Fs rest (changed f d ∷ done) ok.constants

  apart : Apart (standing f rest (changed f d ∷ done))
  apart = apart_from (standing f rest (changed f d ∷ done)) ok.distinct_constants

  pub body_form : IsBoxBody Fs done b
  body_form = ordered.0

  pub name_fresh : Fresh k done
  name_fresh = (done_apart f rest (changed f d ∷ done) apart).0

  pub body_unused : uses k b ≡ 0
  body_unused = named_unused k done name_fresh b body_form.named

  pub done_unused : total (uses k) done ≡ 0
  done_unused = ordered_unused k Fs done ordered.1 name_fresh

  -- each constant to come has another number, and isn't used in the body
  abbrev pub Later : List BoxConstant → Type 0
  Later [] = Unit {0}
  Later (e ∷ es) = (e.name.0 ≡ k → ⊥) × (uses e.name.0 b ≡ 0) × Later es

  later_from : (es : List BoxConstant) → Coming f es (changed f d ∷ done) → Later es
  later_from [] h = tt
  later_from (e ∷ es) h = ((λ q. h.0.0 (sym q)), named_unused e.name.0 done h.0.1 b body_form.named, later_from es h.1)

  pub later : Later rest
  later = later_from rest (coming f rest (changed f d ∷ done) apart)

  keeps : Keeps k b (changed f d ∷ done) done
  keeps c other (t, h) = ⊎_elim (λ e. absurd (other (ap (λ (x : BoxConstant). x.name.0) e))) (λ h. (t, h)) (has_split h)

  pub step_form : IsBoxProgram (stands Fs done (with_body f d) rest main)
  step_form = record {
    constants = standing_ordered k b f Fs rest (changed f d ∷ done) done keeps body_form ok.constants ordered.1;
    distinct_constants = apart_pairs (standing (with_body f d) rest done) (standing_apart f (with_body f d) rest (changed f d ∷ done) done (λ x h. h.1) apart (done_apart f rest (changed f d ∷ done) apart).1);
    distinct_families = ok.distinct_families;
    counts = ok.counts;
    main = put_body k b Fs (standing f rest (changed f d ∷ done)) (standing (with_body f d) rest done) (standing_keeps k b f rest (changed f d ∷ done) done keeps) (standing_body k b f Fs rest done b body_form) (f main) ok.main;
  }
