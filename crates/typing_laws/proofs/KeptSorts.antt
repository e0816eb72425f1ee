-- The argument types of a kept constructor have their kept sorts over the whole environment.
use Rattle.std.proofs.Common.{◌≡◌, ℕ, List, [], Some, sym, ap, ◌∙◌, subst, slice_get}
use Rattle.universe_levels.specs.declared.constraint.Constraint.{Constraint}
use Rattle.pc_terms.specs.declared.leaf.FamilyId.{FamilyId}
use Rattle.calculus_rules.specs.declared.declaration.Constructor.{Constructor}
use Rattle.calculus_rules.specs.declared.declaration.Family.{Family}
use Rattle.calculus_rules.specs.declared.declaration.Block.{Block}
use Rattle.calculus_rules.specs.declared.declaration.Kept.{Kept}
use Rattle.calculus_rules.specs.declared.declaration.Kept.TheVariants.{Block as Whole}
use Rattle.calculus_rules.specs.Environment.{Env, FamilyDecl, KeepsFamily, Has, here, there, with_parameters}
use Rattle.calculus_rules.specs.Context.{extend}
use Rattle.calculus_rules.specs.Typing.{bare, EntrySorts}
use Rattle.calculus_rules.specs.Accepted.{Accepted, empty, constant, block, IsAccepted, env}
use Rattle.calculus_rules.proofs.Bare.{bare_entry_sorts}
use Rattle.typing_laws.proofs.Declarations.{one_more, extends_entry_sorts}
use Rattle.typing_laws.proofs.DeclaredBlock.{declared}
use Rattle.calculus_rules.proofs.Listing.{from_map}

-- the kept sorts are the arguments' sorts
abbrev pub ArgumentSorts : Env → Type 0
ArgumentSorts E = (f : FamilyId) (F : FamilyDecl) (n : ℕ) (C : Constructor) → KeepsFamily E f F → slice_get F.constructors n ≡ Some C →
    EntrySorts bare E (extend [] F.parameters) C.args C.arg_sorts

kept_sorts : {levels : ℕ} {cs : List Constraint} {ds : List Kept} {B : Block} (n c : ℕ) (G : Family) (C : Constructor) → Accepted levels cs ds → Has ds (Whole B) →
    slice_get B.families n ≡ Some G → slice_get G.ctors c ≡ Some C → EntrySorts bare (env levels cs ds) (extend [] B.params) C.args C.arg_sorts
kept_sorts n c G C empty h e i = elim h [ ]
kept_sorts {levels} {cs} n c G C (constant {ds = ds} a f p q) (there h) e i = extends_entry_sorts (one_more levels cs ds _) (kept_sorts n c G C a h e i)
kept_sorts {levels} {cs} n c G C (block {ds = ds} {B = B} a f p) here e i =
    extends_entry_sorts (declared levels cs ds B) (bare_entry_sorts ((p.families n G e).constructors c C i).arguments)
kept_sorts {levels} {cs} n c G C (block {ds = ds} a f p) (there h) e i = extends_entry_sorts (one_more levels cs ds _) (kept_sorts n c G C a h e i)

pub argument_sorts : (E : Env) → IsAccepted E → ArgumentSorts E
argument_sorts E accepted f F c C (B, k, q, i) j =
    let (G, at, e) = from_map (with_parameters B.params) (slice_get B.families f.family) F i in
    subst (λ Ps. EntrySorts bare E (extend [] Ps) C.args C.arg_sorts) (ap (λ F. F.parameters) (sym e))
    (kept_sorts f.family c G C accepted.declarations k at (ap (λ F. slice_get F.constructors c) (sym e) ∙ j))
