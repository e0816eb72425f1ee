-- A match whose scrutinee is a constructor of its family has a branch for it, with as many names as the constructor has arguments.
use Rattle.std.proofs.Common.{◌≡◌, ℕ, zero, suc, List, [], length, Some, slice_get, sym, ap, ◌∙◌}
use Rattle.pc_terms.specs.declared.leaf.FamilyId.{FamilyId}
use Rattle.pc_terms.specs.Syntax.{Term, Terms, Case, term_at}
use Rattle.calculus_rules.specs.declared.declaration.Constructor.{Constructor}
use Rattle.calculus_rules.specs.Environment.{Env}
use Rattle.calculus_rules.specs.Context.{Context}
use Rattle.calculus_rules.specs.Step.{IsConstructor, is_constructor}
use Rattle.calculus_rules.specs.Typing.{bare, Types, Branches, no_branches, branch}
use Rattle.calculus_rules.specs.Accepted.{IsAccepted}
use Rattle.calculus_rules.proofs.OneEach.{one_of_each}
use Rattle.calculus_rules.proofs.Spines.{one_item}
use Rattle.typing_laws.proofs.Generating.{of_case}

branch_with : {E : Env} {c : Context} {f : FamilyId} {ps : List Term} {ret : Term} {k : ℕ} {Cs : List Constructor} {bs : Terms} → Branches bare E c f ps ret k Cs bs →
    (n : ℕ) (C : Constructor) → slice_get Cs n ≡ Some C → (body : Term) × (term_at bs n ≡ Some (length C.args, body))
branch_with no_branches n C e = absurd (cc)
branch_with (branch {C = D} {body = b} l es d rest) zero C e = (b, (λ j. Some (l j, b)) ∙ ap (λ (C : Constructor). Some (length C.args, b)) (one_item e))
branch_with (branch l es d rest) (suc n) C e = branch_with rest n C e

pub has_branch : (E : Env) → IsAccepted E → (f : FamilyId) (c n : ℕ) (ps bs : Terms) (ret s v T : Term) (qs xs : List Term) → Types bare E [] (Case f ps n ret s bs) T →
    IsConstructor E f c v qs xs → (body : Term) × (term_at bs c ≡ Some (length xs, body))
has_branch E h f c n ps bs ret s v T qs xs d (is_constructor {F = F} {C = C} k i lq lx e) =
    let r = of_case d in
    let one = (one_of_each E h).families f r.family F r.kept k in
    let (body, b) = branch_with r.branches c C (ap (λ F. slice_get F.constructors c) one ∙ i) in
    (body, b ∙ (λ j. Some (sym lx j, body)))
