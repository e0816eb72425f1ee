-- Lifted programs whose constants get other numbers, and the program that a lifted program in memory is seen as.
use Rattle.std.specs.Prelude.{ℕ, suc, nat_eq, if◌then◌else◌, List, [], ◌∷◌, map}
use Rattle.closure_lift.specs.Lifted.{Op, ConstOp, AppOp, ConOp, ClosOp, CaseOp, Block, TailAtom, BindAtom, Tail, Bind, BranchBlocks, NoBranch, Branch, Fn, Program}
use Rattle.closure_lift.specs.declared.program.LiftedConstant.{LiftedConstant}
use Rattle.closure_lift.specs.declared.program.Lifted.{Lifted}

-- constant x gets the number `number x`
module _ (number : ℕ → ℕ) where
  abbrev mutual
    pub renumber_op : Op → Op
    renumber_op (ConstOp x) = ConstOp (number x)
    renumber_op (AppOp f a) = AppOp f a
    renumber_op (ConOp c as') = ConOp c as'
    renumber_op (ClosOp g as') = ClosOp g as'
    renumber_op (CaseOp a bs) = CaseOp a (renumber_branches bs)

    pub renumber : Block → Block
    renumber (TailAtom a) = TailAtom a
    renumber (BindAtom a t) = BindAtom a (renumber t)
    renumber (Tail op) = Tail (renumber_op op)
    renumber (Bind op t) = Bind (renumber_op op) (renumber t)

    pub renumber_branches : BranchBlocks → BranchBlocks
    renumber_branches NoBranch = NoBranch
    renumber_branches (Branch n t rest) = Branch n (renumber t) (renumber_branches rest)

  abbrev pub renumber_functions : List Fn → List Fn
  renumber_functions [] = []
  renumber_functions (f ∷ fs) = record { captured = f.captured; body = renumber f.body } ∷ renumber_functions fs

-- the place of the constant whose name has number x
abbrev pub place_in : List LiftedConstant → ℕ → ℕ
place_in [] x = 0
place_in (c ∷ cs) x = if nat_eq x c.name.0 then 0 else suc (place_in cs x)

-- the program that a lifted program in memory is seen as, in which each constant stands by its place
abbrev pub lifted_of : Lifted → Program
lifted_of Q = record {
  functions = renumber_functions (place_in Q.constants) Q.functions;
  constants = map (λ (c : LiftedConstant). renumber (place_in Q.constants) c.body) Q.constants;
  main = renumber (place_in Q.constants) Q.main;
}
