-- The greatest number of binders that a lambda of a program in A-normal form is under: one for each variable that is bound outside it, those of bindings among them.
use Rattle.std.specs.Prelude.{ℕ, suc, ◌+◌, max, List, [], ◌∷◌}
use Rattle.anf_convert.specs.Anf.{AnfOp, ConstOp, AppOp, ConOp, LamOp, FixOp, CaseOp, AnfBlock, TailAtom, Tail, BindAtom, Bind, AnfBranches, NoBranch, Branch, AnfDefs, NoDef, LamDef, BoxDef, AnfProgram, def_count}

-- of code under d binders; 0 where it has no lambda. A definition of a fixpoint that is no box is a lambda
abbrev mutual
  pub op_binders : ℕ → AnfOp → ℕ
  op_binders d (ConstOp x) = 0
  op_binders d (AppOp f a) = 0
  op_binders d (ConOp c as') = 0
  op_binders d (LamOp b) = max d (block_binders (suc d) b)
  op_binders d (FixOp ds i) = defs_binders (def_count ds + d) ds
  op_binders d (CaseOp a bs) = branches_binders d bs

  pub block_binders : ℕ → AnfBlock → ℕ
  block_binders d (TailAtom a) = 0
  block_binders d (Tail op) = op_binders d op
  block_binders d (BindAtom a t) = block_binders (suc d) t
  block_binders d (Bind op t) = max (op_binders d op) (block_binders (suc d) t)

  pub branches_binders : ℕ → AnfBranches → ℕ
  branches_binders d NoBranch = 0
  branches_binders d (Branch n t rest) = max (block_binders (n + d) t) (branches_binders d rest)

  pub defs_binders : ℕ → AnfDefs → ℕ
  defs_binders d NoDef = 0
  defs_binders d (LamDef b rest) = max (max d (block_binders (suc d) b)) (defs_binders d rest)
  defs_binders d (BoxDef rest) = defs_binders d rest

abbrev pub blocks_binders : List AnfBlock → ℕ
blocks_binders [] = 0
blocks_binders (t ∷ ts) = max (block_binders 0 t) (blocks_binders ts)

-- of main and of all constants
abbrev pub normal_binders : AnfProgram → ℕ
normal_binders P = max (block_binders 0 P.main) (blocks_binders P.constants)
