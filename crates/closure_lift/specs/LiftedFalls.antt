-- Each part of a lifted program is lighter than the whole.
use Rattle.std.specs.Prelude.{suc, ◌+◌, ◌≤◌, ◌≡◌, List, [], ◌∷◌}
use Rattle.std.proofs.Common.{arith}
use Rattle.closure_lift.specs.Lifted.{Block, Bound, AtomIs, OpIs, tail_of, block_of}
use Rattle.closure_lift.specs.LiftedView.{seen, bounds_of, whole, branches_of}
use Rattle.closure_lift.specs.LiftedWeight.{block_weight, branches_weight, bound_weight, bounds_weight}
use Rattle.closure_lift.specs.declared.program.LiftedOp.{LiftedOp}
use Rattle.closure_lift.specs.declared.program.LiftedOp.TheVariants as op
use Rattle.closure_lift.specs.declared.program.LiftedBranch.{LiftedBranch}
use Rattle.closure_lift.specs.declared.program.LiftedBlock.TheDeep.{deep-LiftedOp, deep-LiftedBranch}
use denote.Param.Weighed.{most}

operation_falls : (o : LiftedOp) → deep-LiftedOp o ≤ bound_weight (seen o)
operation_falls (op.Atom a) = omega arith
operation_falls (op.Const k) = omega arith
operation_falls (op.App f a) = omega arith
operation_falls (op.Construct c args) = omega arith
operation_falls (op.Closure g words) = omega arith
operation_falls (op.Case a bs) = omega arith

pub bounds_fall : (os : List LiftedOp) → most (λ x. deep-LiftedOp x) os ≤ bounds_weight (bounds_of os)
bounds_fall [] = omega arith
bounds_fall (o ∷ os) = omega (arith, operation_falls o, bounds_fall os)

tail_weight : (p : Bound) → block_weight (tail_of p) ≡ suc (suc (bound_weight p))
tail_weight (AtomIs a) = omega arith
tail_weight (OpIs o) = omega arith

pub block_weight_is : (ps : List Bound) (t : Block) → suc (block_weight (block_of ps t)) ≡ bounds_weight ps + block_weight t
block_weight_is [] t = omega arith
block_weight_is (AtomIs a ∷ ps) t = omega (arith, block_weight_is ps t)
block_weight_is (OpIs o ∷ ps) t = omega (arith, block_weight_is ps t)

-- the bindings, and what is in the tail
pub block_falls : (ps : List Bound) (o : LiftedOp) → (suc (bounds_weight ps) ≤ block_weight (whole ps o)) × (deep-LiftedOp o ≤ block_weight (whole ps o))
block_falls ps o =
    let all = block_weight_is ps (tail_of (seen o)) in
    let last = tail_weight (seen o) in
    let some = some_weight ps in
    (omega (arith, all, last), omega (arith, all, last, some, operation_falls o))
  where
    some_weight : (ps : List Bound) → 1 ≤ bounds_weight ps
    some_weight [] = omega arith
    some_weight (p ∷ ps) = omega arith

pub branches_fall : (bs : List LiftedBranch) → most (λ x. deep-LiftedBranch x) bs ≤ branches_weight (branches_of bs)
branches_fall [] = omega arith
branches_fall (b ∷ bs) = omega (arith, branches_fall bs)
