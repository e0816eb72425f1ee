-- Of a family without constructors there is no value: it would be one of its constructors.
use Rattle.std.proofs.Common.{ℕ, ◌≡◌, ◌∙◌, List, slice_get, sym, ap}
use Rattle.pc_terms.specs.declared.leaf.FamilyId.{FamilyId}
use Rattle.pc_terms.specs.Syntax.{Term, Ind, apply}
use Rattle.calculus_rules.specs.Environment.{Env}
use Rattle.calculus_rules.specs.Step.{IsConstructor, is_constructor}
use Rattle.calculus_rules.specs.Accepted.{IsAccepted}
use Rattle.calculus_rules.proofs.OneEach.{one_of_each}
use Rattle.type_laws.proofs.Canonical.{values_are_constructors}
use Rattle.type_laws.proofs.EvaluationKeeps.{evaluation_keeps}
use Rattle.metatheory.specs.EmptyFamilies.{IsEmptyFamily, EmptyFamiliesHaveNoValues}

-- an empty family has no constructor, whatever its number
no_constructor : {E : Env} → IsAccepted E → {f : FamilyId} {c : ℕ} {v : Term} {qs xs : List Term} → IsEmptyFamily E f → IsConstructor E f c v qs xs → ⊥
no_constructor {E} h {f} {c} (F, kept, none) (is_constructor {F = G} kept' at p q e) =
    let same : G ≡ F = (one_of_each E h).families f G F kept' kept in
    absurd (let is = sym (ap (λ F. slice_get F.constructors c) same) ∙ at in let empty = ap (λ Cs. slice_get Cs c) none in cc)

pub empty_families_have_no_values : EmptyFamiliesHaveNoValues
empty_families_have_no_values E h f empty t (xs, d) v n e =
    let (c, qs, ys, i) = values_are_constructors E h f xs t v n e (evaluation_keeps E h e (apply (Ind f) xs) d).typed in
    no_constructor h empty i
