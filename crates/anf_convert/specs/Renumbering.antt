-- Programs in A-normal form whose constants get other numbers, and the program in which each constant has the number of its place.
use Rattle.std.specs.Prelude.{ℕ, suc, nat_eq, if◌then◌else◌, List, [], ◌∷◌, map}
use Rattle.anf_convert.specs.Anf as anf
use Rattle.anf_convert.specs.Anf.{AnfOp, ConstOp, AppOp, ConOp, LamOp, FixOp, CaseOp, AnfBlock, TailAtom, Tail, BindAtom, Bind, AnfBranches, NoBranch, Branch, AnfDefs, NoDef, LamDef, BoxDef}
use Rattle.anf_convert.specs.declared.program.AnfConstant.{AnfConstant}
use Rattle.anf_convert.specs.declared.program.AnfProgram.{AnfProgram}

-- constant x gets the number `number x`
module _ (number : ℕ → ℕ) where
  abbrev mutual
    pub renumber_op : AnfOp → AnfOp
    renumber_op (ConstOp x) = ConstOp (number x)
    renumber_op (AppOp f a) = AppOp f a
    renumber_op (ConOp c as') = ConOp c as'
    renumber_op (LamOp b) = LamOp (renumber b)
    renumber_op (FixOp ds i) = FixOp (renumber_defs ds) i
    renumber_op (CaseOp a bs) = CaseOp a (renumber_branches bs)

    pub renumber : AnfBlock → AnfBlock
    renumber (TailAtom a) = TailAtom a
    renumber (Tail op) = Tail (renumber_op op)
    renumber (BindAtom a t) = BindAtom a (renumber t)
    renumber (Bind op t) = Bind (renumber_op op) (renumber t)

    pub renumber_branches : AnfBranches → AnfBranches
    renumber_branches NoBranch = NoBranch
    renumber_branches (Branch n t rest) = Branch n (renumber t) (renumber_branches rest)

    pub renumber_defs : AnfDefs → AnfDefs
    renumber_defs NoDef = NoDef
    renumber_defs (LamDef b rest) = LamDef (renumber b) (renumber_defs rest)
    renumber_defs (BoxDef rest) = BoxDef (renumber_defs rest)

-- the place of the constant whose name has number x
abbrev pub place_in : List AnfConstant → ℕ → ℕ
place_in [] x = 0
place_in (c ∷ cs) x = if nat_eq x c.name.0 then 0 else suc (place_in cs x)

-- the program that a program in memory is seen as
abbrev pub anf_of : AnfProgram → anf.AnfProgram
anf_of Q = record {
  constants = map (λ (c : AnfConstant). renumber (place_in Q.constants) c.body) Q.constants;
  main = renumber (place_in Q.constants) Q.main;
}
