-- Which bindings of a block are read as a word in the block behind them, and of which branches the only variable is read twice: their marks, in the order
-- in which emission comes to them.
use Rattle.std.specs.Prelude.{◌≡◌, ◌+◌, ℕ, zero, suc, Bool, List, [], ◌∷◌, ◌++◌, length, drop}
use Rattle.closure_lift.specs.Lifted.{Op, ConstOp, AppOp, ConOp, ClosOp, CaseOp, Block, TailAtom, BindAtom, Tail, Bind, BranchBlocks, NoBranch, Branch, Bound, AtomIs, OpIs}
use Rattle.known_calls.specs.KnownPlaces.{Times, Never, ◌plus◌, is_read, is_twice, names, op_reads, block_reads}
use Rattle.known_calls.specs.KnownTests.{Kind, Bare, Fielded}

-- that of a branch of n variables, of which the first is read so often
abbrev pub field_marks : ℕ → Times → List Bool
field_marks zero r = []
field_marks (suc zero) r = is_twice r ∷ []
field_marks (suc (suc n)) r = []

abbrev mutual
  pub op_marks : Op → List Bool
  op_marks (ConstOp x) = []
  op_marks (AppOp f a) = []
  op_marks (ConOp c as') = []
  op_marks (ClosOp g as') = []
  op_marks (CaseOp a bs) = empty_marks bs ++ head_marks bs

  pub block_marks : Block → List Bool
  block_marks (TailAtom a) = []
  block_marks (BindAtom a t) = is_read (block_reads 0 t) ∷ block_marks t
  block_marks (Tail p) = op_marks p
  block_marks (Bind p t) = is_read (block_reads 0 t) ∷ (op_marks p ++ block_marks t)

  -- those of the branches without binders, which come first, and those of the others
  pub empty_marks : BranchBlocks → List Bool
  empty_marks NoBranch = []
  empty_marks (Branch zero t bs) = block_marks t ++ empty_marks bs
  empty_marks (Branch (suc n) t bs) = empty_marks bs

  pub head_marks : BranchBlocks → List Bool
  head_marks NoBranch = []
  head_marks (Branch zero t bs) = head_marks bs
  head_marks (Branch (suc n) t bs) = (field_marks (suc n) (block_reads 0 t) ++ block_marks t) ++ head_marks bs

abbrev pub kind_marks : Kind → BranchBlocks → List Bool
kind_marks Bare bs = empty_marks bs
kind_marks Fielded bs = head_marks bs

-- those of a branch of n variables
abbrev pub branch_marks : ℕ → Block → List Bool
branch_marks n t = field_marks n (block_reads 0 t) ++ block_marks t

abbrev pub bound_marks : Bound → List Bool
bound_marks (AtomIs a) = []
bound_marks (OpIs p) = op_marks p

abbrev pub bound_reads : ℕ → Bound → Times
bound_reads i (AtomIs a) = names i a
bound_reads i (OpIs p) = op_reads i p

-- how often the branches without binders, and the others, name variable i otherwise than as the function of an application
abbrev pub empties_read : ℕ → BranchBlocks → Times
empties_read i NoBranch = Never
empties_read i (Branch zero t bs) = block_reads i t plus empties_read i bs
empties_read i (Branch (suc n) t bs) = empties_read i bs

abbrev pub heads_read : ℕ → BranchBlocks → Times
heads_read i NoBranch = Never
heads_read i (Branch zero t bs) = heads_read i bs
heads_read i (Branch (suc n) t bs) = block_reads (suc n + i) t plus heads_read i bs

-- the first of these marks are such
abbrev pub Begins : List Bool → List Bool → Type 0
Begins ms all = all ≡ ms ++ drop (length ms) all

-- of each variable, the innermost first, how often it is read: before, and now
abbrev pub also : (ℕ → Times) → List Times → List Times
also reads [] = []
also reads (r ∷ rs) = (reads 0 plus r) ∷ also (λ i. reads (suc i)) rs
