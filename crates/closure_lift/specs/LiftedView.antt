-- What the types of lifted programs are seen as. In a block a constant stands by the number of its name, and in `lifted_of` by its place.
use Rattle.std.specs.Prelude.{List, [], ◌∷◌}
use Rattle.closure_lift.specs.Lifted.{ConstOp, AppOp, ConOp, ClosOp, CaseOp, Block, BranchBlocks, NoBranch, Branch, Fn, Bound, AtomIs, OpIs, tail_of, block_of}
use Rattle.closure_lift.specs.declared.program.LiftedOp.{LiftedOp}
use Rattle.closure_lift.specs.declared.program.LiftedOp.TheVariants as op
use Rattle.closure_lift.specs.declared.program.LiftedBranch.{LiftedBranch}
use Rattle.closure_lift.specs.declared.program.Function.{Function}

abbrev pub seen : LiftedOp → Bound
seen (op.Atom a) = AtomIs a
seen (op.Const k) = OpIs (ConstOp k.0)
seen (op.App f a) = OpIs (AppOp f a)
seen (op.Construct c args) = OpIs (ConOp c args)
seen (op.Closure g words) = OpIs (ClosOp g words)
seen (op.Case a bs) = OpIs (CaseOp a bs)

abbrev pub bounds_of : List LiftedOp → List Bound
bounds_of [] = []
bounds_of (o ∷ os) = seen o ∷ bounds_of os

-- the block with these bindings and this tail
abbrev pub whole : List Bound → LiftedOp → Block
whole ps o = block_of ps (tail_of (seen o))

abbrev pub branches_of : List LiftedBranch → BranchBlocks
branches_of [] = NoBranch
branches_of (b ∷ bs) = Branch b.binders b.body (branches_of bs)

abbrev pub fn_of : Function → Fn
fn_of f = record { captured = f.captured; body = f.body }

abbrev pub functions_of : List Function → List Fn
functions_of [] = []
functions_of (f ∷ fs) = fn_of f ∷ functions_of fs
