-- How many captured words the lambdas and fixpoints of a program have.
use Rattle.std.specs.Prelude.{◌≡◌, ℕ, ◌<◌, List, [], ◌∷◌, length, Some, slice_get, ◌↔◌}
use Rattle.anf_convert.specs.Anf.{AnfOp, ConstOp, AppOp, ConOp, LamOp, FixOp, CaseOp, AnfBlock, TailAtom, Tail, BindAtom, Bind, AnfBranches, NoBranch, Branch, AnfDefs, NoDef, LamDef, BoxDef, AnfProgram, def_count}
use Rattle.anf_convert.specs.Captured.{Scope, Outside, Plain, plains, shares, lam_captured, fix_captured}
use Rattle.closure_lift.specs.Lifted.{Fn}
use Rattle.closure_lift.specs.Lift.{lift}
use Rattle.anf_convert.specs.AnfForm.{AnfFormed}

-- every lambda and every fixpoint in the code has fewer captured words than this
module _ (most : ℕ) where
  abbrev mutual
    pub OpCaptures : Scope → AnfOp → Type 0
    OpCaptures s (ConstOp x) = Unit {0}
    OpCaptures s (AppOp f a) = Unit {0}
    OpCaptures s (ConOp c as') = Unit {0}
    OpCaptures s (LamOp b) = (length (lam_captured s b) < most) × BlockCaptures (Plain s) b
    OpCaptures s (FixOp ds i) = (length (fix_captured s ds) < most) × DefsCapture (shares (fix_captured s ds) (def_count ds) s) ds
    OpCaptures s (CaseOp a bs) = BranchesCapture s bs

    pub BlockCaptures : Scope → AnfBlock → Type 0
    BlockCaptures s (TailAtom a) = Unit {0}
    BlockCaptures s (Tail op) = OpCaptures s op
    BlockCaptures s (BindAtom a t) = BlockCaptures (Plain s) t
    BlockCaptures s (Bind op t) = OpCaptures s op × BlockCaptures (Plain s) t

    pub BranchesCapture : Scope → AnfBranches → Type 0
    BranchesCapture s NoBranch = Unit {0}
    BranchesCapture s (Branch n t rest) = BlockCaptures (plains n s) t × BranchesCapture s rest

    pub DefsCapture : Scope → AnfDefs → Type 0
    DefsCapture s NoDef = Unit {0}
    DefsCapture s (LamDef b rest) = BlockCaptures (Plain s) b × DefsCapture s rest
    DefsCapture s (BoxDef rest) = DefsCapture s rest

  abbrev pub BlocksCapture : List AnfBlock → Type 0
  BlocksCapture [] = Unit {0}
  BlocksCapture (t ∷ ts) = BlockCaptures Outside t × BlocksCapture ts

  pub record ProgramCaptures (P : AnfProgram) : Type 0 where
    pub constants : BlocksCapture P.constants
    pub main : BlockCaptures Outside P.main

-- the functions of the lifted program take as many words as the lambdas and fixpoints have captured ones
abbrev pub CapturedExactly : Type 0
CapturedExactly = (P : AnfProgram) (most m : ℕ) → AnfFormed P m → ProgramCaptures most P ↔ ((g : ℕ) (fn : Fn) → slice_get (lift P).functions g ≡ Some fn → fn.captured < most)
