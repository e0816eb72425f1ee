-- The weight of lifted blocks: each part is lighter than the whole.
use Rattle.std.specs.Prelude.{ℕ, suc, ◌+◌, List, [], ◌∷◌}
use Rattle.closure_lift.specs.Lifted.{Op, ConstOp, AppOp, ConOp, ClosOp, CaseOp, Block, TailAtom, BindAtom, Tail, Bind, BranchBlocks, NoBranch, Branch, Bound, AtomIs, OpIs}

abbrev mutual
  pub op_weight : Op → ℕ
  op_weight (ConstOp x) = 1
  op_weight (AppOp f a) = 1
  op_weight (ConOp c as') = 1
  op_weight (ClosOp g as') = 1
  op_weight (CaseOp a bs) = suc (branches_weight bs)

  pub block_weight : Block → ℕ
  block_weight (TailAtom a) = 2
  block_weight (Tail op) = suc (suc (op_weight op))
  block_weight (BindAtom a t) = suc (block_weight t)
  block_weight (Bind op t) = suc (op_weight op + block_weight t)

  pub branches_weight : BranchBlocks → ℕ
  branches_weight NoBranch = 1
  branches_weight (Branch n t rest) = suc (block_weight t + branches_weight rest)

abbrev pub bound_weight : Bound → ℕ
bound_weight (AtomIs a) = 0
bound_weight (OpIs op) = op_weight op

abbrev pub bounds_weight : List Bound → ℕ
bounds_weight [] = 1
bounds_weight (p ∷ ps) = suc (bound_weight p + bounds_weight ps)
