-- The form of lifted programs: names are in scope, and counts are within the limits.
use Rattle.std.specs.Prelude.{◌≡◌, ℕ, suc, ◌+◌, ◌<◌, ◌≤◌, List, length, Some, slice_get}
use Rattle.anf_convert.specs.AnfForm.{constructors, fields, AtomFits, AtomsFit}
use Rattle.closure_lift.specs.Lifted.{Op, ConstOp, AppOp, ConOp, ClosOp, CaseOp, Block, TailAtom, BindAtom, Tail, Bind, BranchBlocks, NoBranch, Branch, Fn, Program, branch_count}

-- the greatest number of functions
abbrev pub most_functions : ℕ
most_functions = 32768

-- a closure has as many words as its function takes
pub record IsMadeWith (fs : List Fn) (g n : ℕ) : Type 0 where
  pub fn : Fn
  pub at : slice_get fs g ≡ Some fn
  pub words : fn.captured ≡ n

module _ (fs : List Fn) (k m : ℕ) where
  abbrev mutual
    pub OpFits : ℕ → Op → Type 0
    OpFits n (ConstOp x) = x < k
    OpFits n (AppOp f a) = AtomFits n f × AtomFits n a
    OpFits n (ConOp c as') = (c < constructors) × (0 < length as') × (length as' < fields) × AtomsFit n as'
    OpFits n (ClosOp g as') = IsMadeWith fs g (length as') × AtomsFit n as'
    OpFits n (CaseOp a bs) = AtomFits n a × (branch_count bs ≤ m) × BranchesFit n bs

    pub LiftedBlockFits : ℕ → Block → Type 0
    LiftedBlockFits n (TailAtom a) = AtomFits n a
    LiftedBlockFits n (BindAtom a t) = AtomFits n a × LiftedBlockFits (suc n) t
    LiftedBlockFits n (Tail op) = OpFits n op
    LiftedBlockFits n (Bind op t) = OpFits n op × LiftedBlockFits (suc n) t

    pub BranchesFit : ℕ → BranchBlocks → Type 0
    BranchesFit n NoBranch = Unit {0}
    BranchesFit n (Branch j t rest) = (j < fields) × LiftedBlockFits (j + n) t × BranchesFit n rest

-- what emission asks for: fewer captured words than a block has fields, and not too many functions; lifting refuses a program earlier: one
-- with over 1,000 words, or with too many constants and functions together
pub record Limits (P : Program) : Type 0 where
  pub captured : (g : ℕ) (fn : Fn) → slice_get P.functions g ≡ Some fn → fn.captured < fields
  pub few : length P.functions ≤ most_functions

pub record Formed (P : Program) (m : ℕ) : Type 0 where
  pub functions : (g : ℕ) (fn : Fn) → slice_get P.functions g ≡ Some fn → LiftedBlockFits P.functions (length P.constants) m (suc fn.captured) fn.body
  pub constants : (x : ℕ) (t : Block) → slice_get P.constants x ≡ Some t → LiftedBlockFits P.functions (length P.constants) m 0 t
  pub main : LiftedBlockFits P.functions (length P.constants) m 0 P.main
