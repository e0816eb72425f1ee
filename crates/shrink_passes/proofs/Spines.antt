-- Spines of constants: what one is, and what it becomes where arguments are dropped.
use Rattle.std.proofs.Common.{◌≡◌, ℕ, zero, suc, ◌+◌, ◌<◌, ◌≤◌, Bool, true, false, ◌&&◌, List, [], ◌∷◌, Option, Some, None, refl, sym, ap, ◌∙◌, subst, arith, ◌⊎◌, inl, inr, ⊎_elim}
use Rattle.std.specs.Prelude.{nat_eq, if◌then◌else◌}
use Rattle.std.proofs.lemmas.Bool.{cases_lt, eqb-true, eq-eqb, false≢true}
use Rattle.std.proofs.lemmas.Option.{none-some}
use Rattle.std.proofs.Math.Dec.{eqb-suc-suc}
use Rattle.trees.specs.Tree.{Rel, Done, Next}
use Rattle.box_terms.specs.BoxSyntax.{BoxTerm, BoxTerms, Box, BLambda, BLetIn, BApp, BConst, BConstruct, BCase, BFix}
use Rattle.shrink_passes.specs.declared.noting.Use.{Use}
use Rattle.shrink_passes.specs.Uses.{uses}
use Rattle.shrink_passes.specs.DropParams.{is_spine, is_box}
use Rattle.shrink_passes.specs.DeadPlaces.{is_below, one_more, spine, box_there, is_reached}
use Rattle.shrink_passes.specs.Pruned.{is_dropped, pruned}
use Rattle.shrink_passes.proofs.Flagging.{nat_eq_no, below_true, below_false}

-- how many of the first n places aren't dropped
abbrev pub kept_below : (ℕ → Bool) → ℕ → ℕ
kept_below E zero = 0
kept_below E (suc n) = (if E n then 0 else 1) + kept_below E n

pub kept_more : (E : ℕ → Bool) (n : ℕ) → E n ≡ false → kept_below E (suc n) ≡ suc (kept_below E n)
kept_more E n e = ap (λ z. (if z then 0 else 1) + kept_below E n) e ∙ omega arith

pub kept_same : (E : ℕ → Bool) (n : ℕ) → E n ≡ true → kept_below E (suc n) ≡ kept_below E n
kept_same E n e = ap (λ z. (if z then 0 else 1) + kept_below E n) e ∙ omega arith

pub kept_agree : (E F : ℕ → Bool) (n : ℕ) → ((p : ℕ) → p < n → E p ≡ F p) → kept_below E n ≡ kept_below F n
kept_agree E F zero h = refl
kept_agree E F (suc n) h = λ i. (if h n (omega arith) i then 0 else 1) + kept_agree E F n (λ p l. h p (omega arith)) i

kept_rises : (E : ℕ → Bool) (n : ℕ) → kept_below E n ≤ kept_below E (suc n)
kept_rises E n = omega arith

kept_order : (E : ℕ → Bool) (m n : ℕ) → m ≤ n → kept_below E m ≤ kept_below E n
kept_order E m zero l = let q : m ≡ 0 = omega arith in subst (λ x. kept_below E x ≤ 0) (sym q) (omega arith)
kept_order E m (suc n) l = ⊎_elim
    (λ lt. let h = kept_order E m n (omega arith) in omega (arith, h, kept_rises E n))
    (λ le. let q : m ≡ suc n = omega (arith, le, l) in subst (λ x. kept_below E x ≤ kept_below E (suc n)) (sym q) (omega arith)) (cases_lt m (suc n))

kept_less : (E : ℕ → Bool) (m n : ℕ) → m < n → E m ≡ false → kept_below E m < kept_below E n
kept_less E m n l e = let h = kept_order E (suc m) n (omega arith) in omega (arith, h, kept_more E m e)

-- two places that aren't dropped are the same where they are afterwards
pub kept_strict : (E : ℕ → Bool) (m n : ℕ) → E m ≡ false → E n ≡ false → nat_eq (kept_below E m) (kept_below E n) ≡ nat_eq m n
kept_strict E m n e g = either (nat_eq m n) refl
  where
    apart : (m ≡ n → ⊥) → kept_below E m ≡ kept_below E n → ⊥
    apart h q = ⊎_elim
        (λ l. omega (arith, q, kept_less E m n l e))
        (λ l. ⊎_elim (λ r. omega (arith, q, kept_less E n m r g)) (λ r. h (omega (arith, l, r))) (cases_lt n m)) (cases_lt m n)

    either : (z : Bool) → nat_eq m n ≡ z → nat_eq (kept_below E m) (kept_below E n) ≡ z
    either true h = eq-eqb (kept_below E m) (kept_below E n) (ap (kept_below E) (eqb-true m n h))
    either false h = nat_eq_no (kept_below E m) (kept_below E n) (apart (λ q. false≢true (sym h ∙ eq-eqb m n q)))

pub kept_under : (E : ℕ → Bool) (p m : ℕ) → E p ≡ false → is_below (kept_below E p) (kept_below E m) ≡ is_below p m
kept_under E p m e = ⊎_elim
    (λ l. below_true (kept_below E p) (kept_below E m) (kept_less E p m l e) ∙ sym (below_true p m l))
    (λ l. below_false (kept_below E p) (kept_below E m) (kept_order E m p l) ∙ sym (below_false p m l)) (cases_lt p m)

-- what the definition's spine is

abbrev pub is_use : ℕ → ℕ → Option Use → Bool
is_use k p None = false
is_use k p (Some u) = if nat_eq u.name.0 k then nat_eq u.arguments p else false

use_none : (k p : ℕ) (h : Option Use) → false ≡ is_use k 0 (one_more h)
use_none k p None = refl
use_none k p (Some u) = either (nat_eq u.name.0 k)
  where
    either : (z : Bool) → false ≡ (if z then nat_eq (suc u.arguments) 0 else false)
    either true = sym (nat_eq_no (suc u.arguments) 0 (λ e. omega (arith, e)))
    either false = refl

use_more : (k p : ℕ) (h : Option Use) → is_use k p h ≡ is_use k (suc p) (one_more h)
use_more k p None = refl
use_more k p (Some u) = ap (λ z. if nat_eq u.name.0 k then z else false) (sym (eqb-suc-suc u.arguments p))

pub spine_is : (k : ℕ) (t : BoxTerm) (p : ℕ) → is_spine k t p ≡ is_use k p (spine t)
spine_is k (BConst c) zero = either (nat_eq c.0 k)
  where
    either : (z : Bool) → z ≡ (if z then true else false)
    either true = refl
    either false = refl
spine_is k (BConst c) (suc p) = either (nat_eq c.0 k)
  where
    either : (z : Bool) → false ≡ (if z then nat_eq 0 (suc p) else false)
    either true = sym (nat_eq_no 0 (suc p) (λ e. omega (arith, e)))
    either false = refl
spine_is k (BApp f a) zero = use_none k 0 (spine f)
spine_is k (BApp f a) (suc p) = spine_is k f p ∙ use_more k p (spine f)
spine_is k t p = refl

pub spine_no_box : (t : BoxTerm) (u : Use) → spine t ≡ Some u → is_box t ≡ false
spine_no_box Box u e = absurd (none-some u e)
spine_no_box t u e = refl

-- the constant of a spine is used

abbrev UsedBy : BoxTerm → Option Use → Type 0
UsedBy t None = Unit {0}
UsedBy t (Some u) = 1 ≤ uses u.name.0 t

used_more : (f a : BoxTerm) (h : Option Use) → UsedBy f h → UsedBy (BApp f a) (one_more h)
used_more f a None l = tt
used_more f a (Some u) l = omega (arith, l)

spine_used : (t : BoxTerm) → UsedBy t (spine t)
spine_used (BConst c) = let e : nat_eq c.0 c.0 ≡ true = eq-eqb c.0 c.0 refl in subst (λ z. 1 ≤ (if◌then◌else◌ {A = ℕ} z 1 0)) (sym e) (omega arith)
spine_used (BApp f a) = used_more f a (spine f) (spine_used f)
spine_used t = tt

pub use_used : (t : BoxTerm) (u : Use) → spine t ≡ Some u → 1 ≤ uses u.name.0 t
use_used t u e = subst (UsedBy t) e (spine_used t)

-- the spine of what a term becomes

module _ (D : ℕ → ℕ → Bool) where
  abbrev pub shorter : Option Use → Option Use
  shorter None = None
  shorter (Some u) = Some (record { name = u.name; arguments = kept_below (D u.name.0) u.arguments })

  shorter_more : (f a : BoxTerm) (h : Option Use) (z : Bool) → is_dropped D h ≡ z → spine f ≡ shorter h → spine (if z then f else BApp f a) ≡ shorter (one_more h)
  shorter_more f a None true d e = absurd (cc)
  shorter_more f a None false d e = ap one_more e
  shorter_more f a (Some u) true d e = e ∙ ap (λ n. Some (record { name = u.name; arguments = n })) (sym (kept_same (D u.name.0) u.arguments d))
  shorter_more f a (Some u) false d e = ap one_more e ∙ ap (λ n. Some (record { name = u.name; arguments = n })) (sym (kept_more (D u.name.0) u.arguments d))

  pub spine_pruned : (t : BoxTerm) → spine (pruned D t) ≡ shorter (spine t)
  spine_pruned (BApp f a) = shorter_more (pruned D f) (pruned D a) (spine f) (is_dropped D (spine f)) refl (spine_pruned f)
  spine_pruned (Rel i) = refl
  spine_pruned Box = refl
  spine_pruned (BLambda b) = refl
  spine_pruned (BLetIn a t) = refl
  spine_pruned (BConst c) = refl
  spine_pruned (BConstruct f c) = refl
  spine_pruned (BCase f s bs) = refl
  spine_pruned (BFix i rargs bodies) = refl

  -- for place q of constant k, which isn't dropped
  module _ (k q : ℕ) (out : D k q ≡ false) where
    at_name : {A : Type 0} (u : Use) (x y w : A) → (u.name.0 ≡ k → x ≡ y) → (if nat_eq u.name.0 k then x else w) ≡ (if nat_eq u.name.0 k then y else w)
    at_name {A} u x y w e = either (nat_eq u.name.0 k) refl
      where
        either : (z : Bool) → nat_eq u.name.0 k ≡ z → (if◌then◌else◌ {A = A} z x w) ≡ (if z then y else w)
        either true g = e (eqb-true u.name.0 k g)
        either false g = refl

    same_place : (u : Use) → D u.name.0 u.arguments ≡ false → u.name.0 ≡ k → nat_eq (kept_below (D u.name.0) u.arguments) (kept_below (D k) q) ≡ nat_eq u.arguments q
    same_place u d e =
        ap (λ n. nat_eq (kept_below (D n) u.arguments) (kept_below (D k) q)) e
        ∙ kept_strict (D k) u.arguments q (sym (ap (λ n. D n u.arguments) e) ∙ d) out

    pub use_shorter : (h : Option Use) → is_dropped D h ≡ false → is_use k (kept_below (D k) q) (shorter h) ≡ is_use k q h
    use_shorter None d = refl
    use_shorter (Some u) d = at_name u (nat_eq (kept_below (D u.name.0) u.arguments) (kept_below (D k) q)) (nat_eq u.arguments q) false (same_place u d)

    pub box_shorter : (h : Option Use) (a b : BoxTerm) → is_box a ≡ is_box b → is_dropped D h ≡ false → box_there k (kept_below (D k) q) (shorter h) a ≡ box_there k q h b
    box_shorter None a b e d = refl
    box_shorter (Some u) a b e d =
        at_name u (if nat_eq (kept_below (D u.name.0) u.arguments) (kept_below (D k) q) then is_box a else true) (if nat_eq u.arguments q then is_box b else true) true
        (λ n. λ i. if same_place u d n i then e i else true)

    pub reached_shorter : (h : Option Use) → is_reached k (kept_below (D k) q) (shorter h) ≡ is_reached k q h
    reached_shorter None = refl
    reached_shorter (Some u) =
        at_name u (is_below (kept_below (D k) q) (kept_below (D u.name.0) u.arguments)) (is_below q u.arguments) true
        (λ n. ap (λ j. is_below (kept_below (D k) q) (kept_below (D j) u.arguments)) n ∙ kept_under (D k) q u.arguments out)
