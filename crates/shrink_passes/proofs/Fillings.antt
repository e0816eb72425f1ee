-- What a term becomes with bodies in place of constants, by its former.
use Rattle.std.proofs.Common.{◌≡◌, ◌≤◌, ◌<◌, ℕ, zero, suc, Bool, true, false, List, [], ◌∷◌, length, map, get_or, Option, Some, None, refl, sym, ap, ◌∙◌, subst as along, arith}
use Rattle.std.specs.Prelude.{nat_eq, cond, if◌then◌else◌}
use Rattle.std.proofs.lemmas.Bool.{eqb-true, eq-eqb}
use Rattle.std.specs.Option.{unwrap_or}
use Rattle.trees.specs.Tree.{Rel, Done, Next}
use Rattle.trees.specs.Measures.{depth, depth_trees}
use Rattle.pc_terms.specs.declared.leaf.FamilyId.{FamilyId}
use Rattle.box_terms.specs.BoxSyntax.{BoxTerm, BoxTerms, Box, BLambda, BLetIn, BApp, BConst, BConstruct, BCase, BFix}
use Rattle.box_terms.specs.BoxLists.{arms_of, bodies_of, rargs_of}
use Rattle.box_terms.specs.declared.term.BoxBranch.{BoxBranch}
use Rattle.box_terms.specs.declared.term.BoxDef.{BoxDef}
use Rattle.box_passes.specs.Maps.{map_branch, map_def}
use Rattle.shrink_passes.specs.Uses.{uses}
use Rattle.shrink_passes.specs.Inline.{put_in, put_in_terms}
use Rattle.shrink_passes.specs.Filled.{filled, filled_terms}
use Rattle.shrink_passes.proofs.Putting.{unused}
use Rattle.shrink_passes.proofs.Mapped.{fix_mapped, case_mapped}

module _ (m : ℕ → Option BoxTerm) where
  pub fix_filled : (ds es : List BoxDef) (i : ℕ) → es ≡ map (map_def (filled m)) ds → BFix i (rargs_of es) (bodies_of (length es) es) ≡ filled m (BFix i (rargs_of ds) (bodies_of (length ds) ds))
  fix_filled = fix_mapped (filled m) (filled_terms m) refl (λ n t ts. refl)

  pub case_filled : (f : FamilyId) (s s' : BoxTerm) (bs cs : List BoxBranch) → s' ≡ filled m s → cs ≡ map (map_branch (filled m)) bs → BCase f s' (arms_of cs) ≡ filled m (BCase f s (arms_of bs))
  case_filled = case_mapped (filled m) (filled_terms m) refl (λ n t ts. refl)

  pub arm_filled_is_less : (bs : List BoxBranch) (i : ℕ) (b : BoxBranch) → i < length bs → b ≡ get_or bs i b → depth (filled m b.body) ≤ depth_trees (filled_terms m (arms_of bs))
  arm_filled_is_less [] i b l e = absurd (omega arith)
  arm_filled_is_less (x ∷ bs) zero b l e = along (λ (y : BoxBranch). depth (filled m y.body) ≤ depth_trees (filled_terms m (arms_of (x ∷ bs)))) (sym e) (omega arith)
  arm_filled_is_less (x ∷ bs) (suc i) b l e = let h = arm_filled_is_less bs i b (omega arith) e in omega (arith, h)

  pub body_filled_is_less : (n : ℕ) (ds : List BoxDef) (i : ℕ) (d : BoxDef) → i < length ds → d ≡ get_or ds i d → depth (filled m d.body) ≤ depth_trees (filled_terms m (bodies_of n ds))
  body_filled_is_less n [] i d l e = absurd (omega arith)
  body_filled_is_less n (x ∷ ds) zero d l e = along (λ (y : BoxDef). depth (filled m y.body) ≤ depth_trees (filled_terms m (bodies_of n (x ∷ ds)))) (sym e) (omega arith)
  body_filled_is_less n (x ∷ ds) (suc i) d l e = let h = body_filled_is_less n ds i d (omega arith) e in omega (arith, h)

-- the same table gives the same

mutual
  pub filled_same : (m n : ℕ → Option BoxTerm) → ((k : ℕ) → m k ≡ n k) → (t : BoxTerm) → filled m t ≡ filled n t
  filled_same m n e (Rel i) = refl
  filled_same m n e Box = refl
  filled_same m n e (BLambda t) = ap BLambda (filled_same m n e t)
  filled_same m n e (BLetIn a t) = λ i. BLetIn (filled_same m n e a i) (filled_same m n e t i)
  filled_same m n e (BApp f a) = λ i. BApp (filled_same m n e f i) (filled_same m n e a i)
  filled_same m n e (BConst c) = ap (λ o. unwrap_or o (BConst c)) (e c.0)
  filled_same m n e (BConstruct f c) = refl
  filled_same m n e (BCase f s bs) = λ i. BCase f (filled_same m n e s i) (filled_terms_same m n e bs i)
  filled_same m n e (BFix j rargs bodies) = λ i. BFix j rargs (filled_terms_same m n e bodies i)

  filled_terms_same : (m n : ℕ → Option BoxTerm) → ((k : ℕ) → m k ≡ n k) → (ts : BoxTerms) → filled_terms m ts ≡ filled_terms n ts
  filled_terms_same m n e Done = refl
  filled_terms_same m n e (Next j t ts) = λ i. Next j (filled_same m n e t i) (filled_terms_same m n e ts i)

-- an empty table changes nothing

mutual
  pub filled_nothing : (m : ℕ → Option BoxTerm) → ((k : ℕ) → m k ≡ None) → (t : BoxTerm) → filled m t ≡ t
  filled_nothing m e (Rel i) = refl
  filled_nothing m e Box = refl
  filled_nothing m e (BLambda t) = ap BLambda (filled_nothing m e t)
  filled_nothing m e (BLetIn a t) = λ i. BLetIn (filled_nothing m e a i) (filled_nothing m e t i)
  filled_nothing m e (BApp f a) = λ i. BApp (filled_nothing m e f i) (filled_nothing m e a i)
  filled_nothing m e (BConst c) = ap (λ o. unwrap_or o (BConst c)) (e c.0)
  filled_nothing m e (BConstruct f c) = refl
  filled_nothing m e (BCase f s bs) = λ i. BCase f (filled_nothing m e s i) (filled_terms_nothing m e bs i)
  filled_nothing m e (BFix j rargs bodies) = λ i. BFix j rargs (filled_terms_nothing m e bodies i)

  filled_terms_nothing : (m : ℕ → Option BoxTerm) → ((k : ℕ) → m k ≡ None) → (ts : BoxTerms) → filled_terms m ts ≡ ts
  filled_terms_nothing m e Done = refl
  filled_terms_nothing m e (Next j t ts) = λ i. Next j (filled_nothing m e t i) (filled_terms_nothing m e ts i)

-- one constant more is put in after the others, where none of their bodies uses it

-- no body of the table uses constant k
abbrev pub NoBodyUses : ℕ → Option BoxTerm → Type 0
NoBodyUses k None = Unit {0}
NoBodyUses k (Some b) = uses k b ≡ 0

module _ (m n : ℕ → Option BoxTerm) (k : ℕ) (b : BoxTerm) (more : (j : ℕ) → n j ≡ cond (nat_eq k j) (Some b) (m j)) (new : m k ≡ None) (clear : (j : ℕ) → NoBodyUses k (m j)) where
  mutual
    pub filled_more : (t : BoxTerm) → filled n t ≡ put_in k b (filled m t)
    filled_more (Rel i) = refl
    filled_more Box = refl
    filled_more (BLambda t) = ap BLambda (filled_more t)
    filled_more (BLetIn a t) = λ i. BLetIn (filled_more a i) (filled_more t i)
    filled_more (BApp f a) = λ i. BApp (filled_more f i) (filled_more a i)
    filled_more (BConst c) = either (nat_eq k c.0) refl
      where
        other : (o : Option BoxTerm) → NoBodyUses k o → nat_eq c.0 k ≡ false → unwrap_or o (BConst c) ≡ put_in k b (unwrap_or o (BConst c))
        other None h e = sym (ap (λ z. if z then b else BConst c) e)
        other (Some t) h e = sym (unused k b t h)

        either : (z : Bool) → nat_eq k c.0 ≡ z → unwrap_or (n c.0) (BConst c) ≡ put_in k b (unwrap_or (m c.0) (BConst c))
        either true e =
            let q : k ≡ c.0 = eqb-true k c.0 e in
            let here : n c.0 ≡ Some b = more c.0 ∙ ap (λ z. cond z (Some b) (m c.0)) e in
            let none : m c.0 ≡ None = ap m (sym q) ∙ new in
            ap (λ o. unwrap_or o (BConst c)) here ∙ sym (ap (λ z. if z then b else BConst c) (eq-eqb c.0 k (sym q))) ∙ sym (ap (λ o. put_in k b (unwrap_or o (BConst c))) none)
        either false e =
            let here : n c.0 ≡ m c.0 = more c.0 ∙ ap (λ z. cond z (Some b) (m c.0)) e in
            ap (λ o. unwrap_or o (BConst c)) here ∙ other (m c.0) (clear c.0) (grind (arith, e))
    filled_more (BConstruct f c) = refl
    filled_more (BCase f s bs) = λ i. BCase f (filled_more s i) (filled_terms_more bs i)
    filled_more (BFix j rargs bodies) = λ i. BFix j rargs (filled_terms_more bodies i)

    filled_terms_more : (ts : BoxTerms) → filled_terms n ts ≡ put_in_terms k b (filled_terms m ts)
    filled_terms_more Done = refl
    filled_terms_more (Next j t ts) = λ i. Next j (filled_more t i) (filled_terms_more ts i)
