-- The fixpoint that calls itself on its own argument isn't guarded: no variable is smaller there, so what is smaller is a match that waits for the argument, and the argument isn't equal to one.
use Rattle.std.proofs.Common.{ℕ, zero, suc, ◌≡◌, Bool, true, false, List, [], ◌∷◌, ◌++◌, Option, Some, None, slice_get, refl, sym, ap, ◌∙◌, subst}
use Rattle.pc_terms.specs.declared.leaf.Name.{Name}
use Rattle.pc_terms.specs.declared.leaf.FamilyId.{FamilyId}
use Rattle.pc_terms.specs.Syntax.{Term, Terms, Done, Next, Rel, App, Construct, Case, Fix, apply, head, args, substitute}
use Rattle.calculus_rules.specs.Environment.{Env}
use Rattle.calculus_rules.specs.Context.{Values, values}
use Rattle.calculus_rules.specs.Conversion.{Equal, same, chain}
use Rattle.calculus_rules.specs.Conversion as equality
use Rattle.calculus_rules.specs.Step.{Root, beta, fixpoint, matched, IsConstructor, is_constructor}
use Rattle.calculus_rules.specs.Guardedness.{Mark, Recursive, Argument, Smaller, Other, Marks, IsSmaller, at_variable, at_match, Opens, smaller, argument, IsGuardedIn, IsGuarded}
use Rattle.calculus_rules.specs.Guardedness as guard
use Rattle.calculus_rules.specs.Accepted.{IsAccepted}
use Rattle.calculus_rules.proofs.Congruence.{same_terms}
use Rattle.calculus_rules.proofs.Spines.{head-apply, args-apply, one_item}
use Rattle.typing_laws.proofs.Generating.{of_fix}
use Rattle.equality_laws.proofs.Reducing.{Par, rel, inside, contract, and, group, end, Steps, none, more}
use Rattle.equality_laws.proofs.Roots.{settled}
use Rattle.equality_laws.proofs.FromEquality.{equality_carried}
use Rattle.equality_laws.proofs.ToEquality.{expanding, expanding_meets}
use Rattle.type_laws.proofs.EqualLists.{each_equal_same, equal_apply}
use Rattle.metatheory.specs.Untypable.{EndlessCallsAreUnguarded, EndlessCallsHaveNoType}

-- terms that wait for variable 0, which has no value: it, applied, and a match that waits by its scrutinee; true where the head is a match
data Waits : Bool → Term → Type 0 where
  at_end : Waits false (Rel 0)
  to_match : {b : Bool} {f : FamilyId} {ps bs : Terms} {n : ℕ} {ret s : Term} → Waits b s → Waits true (Case f ps n ret s bs)
  applied : {b : Bool} {g a : Term} → Waits b g → Waits b (App g a)

waits_apply : {b : Bool} (g : Term) (xs : List Term) → Waits b g → Waits b (apply g xs)
waits_apply g [] w = w
waits_apply g (x ∷ xs) w = waits_apply (App g x) xs (applied w)

waits_head : {b : Bool} {t : Term} → Waits b t → Waits b (head t)
waits_head at_end = at_end
waits_head (to_match w) = to_match w
waits_head (applied w) = waits_head w

-- no constructor and no fixpoint waits

no_constructor : {b : Bool} {f : FamilyId} {c : ℕ} → Waits b (Construct f c) → ⊥
no_constructor w = elim w [ ]

no_fixpoint : {b : Bool} {i : ℕ} {rargs : List ℕ} {types bodies : Terms} → Waits b (Fix i rargs types bodies) → ⊥
no_fixpoint w = elim w [ ]

not_built : {E : Env} {f : FamilyId} {c : ℕ} {b : Bool} {t : Term} {qs xs : List Term} → Waits b t → IsConstructor E f c t qs xs → ⊥
not_built {f = f} {c = c} {b = b} {qs = qs} {xs = xs} w (is_constructor k at p q e) =
    no_constructor (subst (Waits b) (ap head e ∙ head-apply (Construct f c) (qs ++ xs)) (waits_head w))

-- a step keeps them waiting

not_root : {E : Env} {b : Bool} {g a w : Term} → Waits b g → Root E [] (App g a) w → ⊥
not_root v beta = elim v [ ]
not_root {b = b} v (fixpoint i rargs types bodies before r l k q e) =
    no_fixpoint (subst (Waits b) (ap head e ∙ head-apply (Fix i rargs types bodies) before) (waits_head v))

waits_step : {E : Env} {b : Bool} {t u : Term} → Waits b t → Par E t u → Waits b u
waits_step at_end rel = at_end
waits_step (to_match w) (inside (group p (and q (and r (group s end))))) = to_match (waits_step w r)
waits_step (to_match w) (contract (group p (and q (and r (group s end)))) (matched k e l)) = absurd (not_built (waits_step w r) k)
waits_step (applied w) (inside (and p (and q end))) = applied (waits_step w p)
waits_step (applied w) (contract (and p (and q end)) root) = absurd (not_root (waits_step w p) root)

waits_steps : {E : Env} {b : Bool} {t u : Term} → Waits b t → Steps E t u → Waits b u
waits_steps w none = w
waits_steps w (more p ps) = waits_steps (waits_step w p) ps

variable_stays : {E : Env} {i : ℕ} {u : Term} → Steps E (Rel i) u → u ≡ Rel i
variable_stays none = refl
variable_stays (more rel ps) = variable_stays ps

-- under a substitution that leaves variable 0 they wait
waits_put : {b : Bool} {t : Term} (s : ℕ → Term) → s 0 ≡ Rel 0 → Waits b t → Waits b (substitute s t)
waits_put s e at_end = subst (Waits false) (sym e) at_end
waits_put s e (to_match w) = to_match (waits_put s e w)
waits_put s e (applied w) = applied (waits_put s e w)

not_equal : (E : Env) → IsAccepted E → (V : Values) (t : Term) → Waits true t → Equal E (None ∷ V) (Rel 0) t → ⊥
not_equal E h V t w e =
    let d = settled E h in
    let s = expanding (None ∷ V) in
    let c = equality_carried d (None ∷ V) s (Rel 0) t (expanding_meets d (None ∷ V)) e in
    absurd (elim (subst (Waits true) (variable_stays c.left) (waits_steps (waits_put s refl w) c.right)) [ ])

-- the marks of the body: the argument, and the fixpoint's variable

abbrev marks : Marks
marks = Argument ∷ Recursive 0 ∷ []

none_smaller : (i : ℕ) → slice_get marks i ≡ Some Smaller → ⊥
none_smaller zero e = absurd (cc)
none_smaller (suc zero) e = absurd (cc)
none_smaller (suc (suc i)) e = absurd (cc)

argument_first : (i : ℕ) → slice_get marks i ≡ Some Argument → i ≡ 0
argument_first zero e = refl
argument_first (suc zero) e = absurd (cc)
argument_first (suc (suc i)) e = absurd (cc)

-- what is smaller is equal to a match that waits; what opens, to a term that waits

record Waiting (E : Env) (V : Values) (b : Bool) (t : Term) : Type 0 where
  reduct : Term
  equals : Equal E V t reduct
  waits : Waits b reduct

match_waits : {E : Env} {V : Values} {b : Bool} {t s : Term} (f : FamilyId) (ps bs : Terms) (n : ℕ) (ret : Term) (xs : List Term) →
    Equal E V t (apply (Case f ps n ret s bs) xs) → Waiting E V b s → Waiting E V true t
match_waits {E} {V} {s = s} f ps bs n ret xs e w = record {
  reduct = apply (Case f ps n ret w.reduct bs) xs;
  equals = chain e (equal_apply E V (Case f ps n ret s bs) (Case f ps n ret w.reduct bs) xs xs
      (equality.inside (equality.group (same_terms ps) (equality.and same (equality.and w.equals (equality.group (same_terms bs) equality.end))))) (each_equal_same xs));
  waits = waits_apply (Case f ps n ret w.reduct bs) xs (to_match w.waits);
}

mutual
  smaller_waits : {E : Env} {r : Option Name} {V : Values} {t : Term} → IsSmaller E r V marks t → Waiting E V true t
  smaller_waits (at_variable i xs e m) = absurd (none_smaller i m)
  smaller_waits (at_match f ps n ret s bs xs e k (smaller o) q) = match_waits f ps bs n ret xs e (smaller_waits o)
  smaller_waits {E} {V = V} (at_match f ps n ret s bs xs e k (argument i e' m) q) =
      match_waits f ps bs n ret xs e (record { reduct = Rel 0; equals = subst (λ i. Equal E V s (Rel i)) (argument_first i m) e'; waits = at_end })

argument_not_smaller : (E : Env) → IsAccepted E → {r : Option Name} (V : Values) → IsSmaller E r (None ∷ V) marks (Rel 0) → ⊥
argument_not_smaller E h V s = let w = smaller_waits s in not_equal E h V w.reduct w.waits w.equals

-- the walk of the body

call_is : (i : ℕ) (xs : List Term) → App (Rel 1) (Rel 0) ≡ apply (Rel i) xs → (i ≡ 1) × (xs ≡ Rel 0 ∷ [])
call_is i xs e = let h = ap head e ∙ head-apply (Rel i) xs in let a = ap args e ∙ args-apply (Rel i) xs in (cc, sym a)

no_arguments : (i : ℕ) (xs : List Term) → Rel 1 ≡ apply (Rel i) xs → xs ≡ []
no_arguments i xs e = sym (ap args e ∙ args-apply (Rel i) xs)

call_smaller : (E : Env) → IsAccepted E → {r : Option Name} (V : Values) (i rarg : ℕ) (xs : List Term) (a : Term) → App (Rel 1) (Rel 0) ≡ apply (Rel i) xs →
    slice_get marks i ≡ Some (Recursive rarg) → slice_get xs rarg ≡ Some a → IsSmaller E r (None ∷ V) marks a → ⊥
call_smaller E h {r} V i rarg xs a e m at s =
    let (first, only) = call_is i xs e in
    let recursive : Some (Recursive 0) ≡ Some (Recursive rarg) = ap (slice_get marks) (sym first) ∙ m in
    let zero_is : 0 ≡ rarg = cc in
    let is : Some (Rel 0) ≡ Some a = (λ j. slice_get (sym only j) (zero_is j)) ∙ at in
    argument_not_smaller E h V (subst (IsSmaller E r (None ∷ V) marks) (sym (one_item is)) s)

no_item : (i : ℕ) (a : Term) → slice_get [] i ≡ Some a → ⊥
no_item i a e = absurd (cc)

-- neither the fixpoint's variable nor its call is a fixpoint with arguments
not_fixpoint : {j : ℕ} {t : Term} (i rarg n : ℕ) (types : Terms) (b : Term) (xs : List Term) → head t ≡ Rel j → t ≡ apply (Fix i (rarg ∷ []) types (Next n b Done)) xs → ⊥
not_fixpoint {j} i rarg n types b xs v e =
    let h : Rel j ≡ Fix i (rarg ∷ []) types (Next n b Done) = sym v ∙ ap head e ∙ head-apply (Fix i (rarg ∷ []) types (Next n b Done)) xs in absurd (cc)

not_function : {E : Env} {r : Option Name} {V : Values} → IsGuardedIn E r V marks (Rel 1) → ⊥
not_function (guard.variable n) = n tt
not_function (guard.call {a = a} i rarg xs e m at s g) = no_item rarg a (ap (λ xs. slice_get xs rarg) (sym (no_arguments i xs e)) ∙ at)
not_function (guard.passed {b = b} {types = types} i rarg n xs e at s g u w) = not_fixpoint i rarg n types b xs refl e

not_walked : (E : Env) → IsAccepted E → {r : Option Name} (V : Values) → IsGuardedIn E r (None ∷ V) marks (App (Rel 1) (Rel 0)) → ⊥
not_walked E h V (guard.call {a = a} i rarg xs e m at s g) = call_smaller E h V i rarg xs a e m at s
not_walked E h V (guard.inside p (guard.a_child g gs)) = not_function g
not_walked E h V (guard.passed {b = b} {types = types} i rarg n xs e at s g u w) = not_fixpoint i rarg n types b xs refl e

pub endless_calls_are_unguarded : EndlessCallsAreUnguarded
endless_calls_are_unguarded E h V A (guard.a_body (guard.recursing r q (guard.last p g)) rest) = not_walked E h (None ∷ V) g

pub endless_calls_have_no_type : EndlessCallsHaveNoType
endless_calls_have_no_type E h c types A T d = endless_calls_are_unguarded E h (values c) A (of_fix d).asked
