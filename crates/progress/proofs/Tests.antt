-- What the tests of the directed evaluation say of a function's value by its head and arguments, and of a constructor that a match is at.
use Rattle.std.proofs.Common.{◌≡◌, ℕ, ◌+◌, ◌<◌, ◌≤◌, ◌==◌, true, false, if◌then◌else◌, List, ◌++◌, length, Some, None, slice_get, ap, ◌∙◌, refl, arith}
use Rattle.std.proofs.lemmas.Bool.{eq-eqb, lt-ltb, le-ltb}
use Rattle.pc_terms.specs.declared.leaf.FamilyId.{FamilyId}
use Rattle.pc_terms.specs.Syntax.{Term, Terms, App, Ind, Construct, Fix, apply, head, args, term_at}
use Rattle.calculus_rules.specs.declared.declaration.Constructor.{Constructor}
use Rattle.calculus_rules.specs.Environment.{Env, FamilyDecl, KeepsFamily}
use Rattle.calculus_rules.specs.Accepted.{IsAccepted}
use Rattle.calculus_rules.specs.Instances.{unfolded}
use Rattle.calculus_rules.specs.Evaluation.{TakesMore, family, constructor, fixpoint, Unfolds, unfolds}
use Rattle.calculus_rules.specs.Lookups.{if_some}
use Rattle.pc_rules.specs.DirectedWeakHead.{unfold_at}
use Rattle.pc_rules.specs.DirectedEvaluation.{is_missing, lacks_arguments, is_below, takes_more, unfolding_at}
use Rattle.calculus_rules.proofs.Spines.{head-apply, args-apply}
use Rattle.pc_rules.proofs.EvaluationReached.{family_there}

-- a value that isn't a lambda goes on with an argument: it is extended, or unfolds; and the tests say so
pub data GoesOn (E : Env) (g v : Term) : Type 0 where
  grows : TakesMore E g → takes_more E (head g) (length (args g)) ≡ true → GoesOn E g v
  turns : {u : Term} → Unfolds g v u → takes_more E (head g) (length (args g)) ≡ false → unfolding_at (head g) (args g) v ≡ Some u → GoesOn E g v

at_spine : {A : Type 0} {g : Term} (k : Term → List Term → A) (h : Term) (xs : List Term) → g ≡ apply h xs → k (head g) (args g) ≡ k (head h) (args h ++ xs)
at_spine k h xs e = (λ j. k (head (e j)) (args (e j))) ∙ (λ j. k (head-apply h xs j) (args-apply h xs j))

pub family_goes : (E : Env) (g v : Term) (f : FamilyId) (xs : List Term) → g ≡ apply (Ind f) xs → GoesOn E g v
family_goes E g v f xs e = grows (family f xs e) (at_spine (λ h xs. takes_more E h (length xs)) (Ind f) xs e)

pub constructor_goes : (E : Env) → IsAccepted E → (g v : Term) (f : FamilyId) (c : ℕ) (F : FamilyDecl) (C : Constructor) (xs : List Term) → KeepsFamily E f F →
    slice_get F.constructors c ≡ Some C → length xs < length F.parameters + length C.args → g ≡ apply (Construct f c) xs → GoesOn E g v
constructor_goes E h g v f c F C xs k i l e =
    grows (constructor f c xs k i l e)
    (at_spine (λ h xs. takes_more E h (length xs)) (Construct f c) xs e ∙ ap (lacks_arguments (length xs) c) (family_there E h f F k)
    ∙ ap (is_missing (length xs) F) i ∙ lt-ltb (length xs) (length F.parameters + length C.args) l)

pub fixpoint_grows : (E : Env) (g v : Term) (i rarg : ℕ) (rargs : List ℕ) (types bodies : Terms) (xs : List Term) → slice_get rargs i ≡ Some rarg → length xs < rarg →
    g ≡ apply (Fix i rargs types bodies) xs → GoesOn E g v
fixpoint_grows E g v i rarg rargs types bodies xs r l e =
    grows (fixpoint i rargs types bodies xs r l e)
    (at_spine (λ h xs. takes_more E h (length xs)) (Fix i rargs types bodies) xs e ∙ ap (is_below (length xs)) r ∙ lt-ltb (length xs) rarg l)

pub fixpoint_turns : (E : Env) (g v : Term) (i rarg : ℕ) (rargs : List ℕ) (types bodies : Terms) (body : Term) (xs : List Term) → slice_get rargs i ≡ Some rarg →
    length xs ≡ rarg → term_at bodies i ≡ Some (length rargs, body) → g ≡ apply (Fix i rargs types bodies) xs → GoesOn E g v
fixpoint_turns E g v i rarg rargs types bodies body xs r l b e =
    turns (unfolds i rargs types bodies xs r l b e)
    (let enough : rarg ≤ length xs = omega arith in
    at_spine (λ h xs. takes_more E h (length xs)) (Fix i rargs types bodies) xs e ∙ ap (is_below (length xs)) r ∙ le-ltb (length xs) rarg enough)
    (at_spine (λ h xs. unfolding_at h xs v) (Fix i rargs types bodies) xs e
    ∙ ap (λ o. if_some o (λ n. if length xs == n then unfold_at i rargs types bodies xs v else None)) r
    ∙ ap (λ z. if z then unfold_at i rargs types bodies xs v else None) (eq-eqb (length xs) rarg l)
    ∙ ap (λ o. if_some o (λ (p : ℕ × Term). if p.0 == length rargs then Some (App (apply (unfolded rargs types bodies p.1) xs) v) else None)) b
    ∙ ap (λ z. if z then Some (App (apply (unfolded rargs types bodies body) xs) v) else None) (eq-eqb (length rargs) (length rargs) refl))
