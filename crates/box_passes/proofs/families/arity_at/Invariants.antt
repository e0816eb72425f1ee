use Rattle.std.proofs.Common.{◌≡◌, drop}
use Rattle.lambda_box.specs.OrdinaryForm.{family_of}
use Rattle.box_passes.proofs.families.arity_at.Given as goal

-- what is left has the family that the list has
abbrev pub invariant-loop-g : goal.invariant-loop-g
invariant-loop-g l = family_of (drop l.g-index l.g-items) l.f ≡ family_of l.fs l.f
