-- How many locals the code of a block needs.
use Rattle.std.specs.Prelude.{ℕ, suc, max}
use Rattle.closure_lift.specs.Lifted.{Op, ConstOp, AppOp, ConOp, ClosOp, CaseOp, Block, TailAtom, BindAtom, Tail, Bind, BranchBlocks, NoBranch, Branch}

-- the locals below this number are enough
abbrev mutual
  pub top_op : ℕ → Op → ℕ
  top_op d (ConstOp x) = d
  top_op d (AppOp f a) = d
  top_op d (ConOp c as') = suc d
  top_op d (ClosOp g as') = suc d
  top_op d (CaseOp a bs) = max (suc d) (top_branches (suc d) bs)

  pub top : ℕ → Block → ℕ
  top d (TailAtom a) = d
  top d (BindAtom a t) = max (suc d) (top (suc d) t)
  top d (Tail p) = top_op d p
  top d (Bind p t) = max (suc d) (max (top_op d p) (top (suc d) t))

  pub top_branches : ℕ → BranchBlocks → ℕ
  top_branches d NoBranch = d
  top_branches d (Branch n t bs) = max (top d t) (top_branches d bs)
