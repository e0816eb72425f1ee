-- The weight of blocks in A-normal form: each part is lighter than the whole.
use Rattle.std.specs.Prelude.{ℕ, suc, ◌+◌, List, [], ◌∷◌}
use Rattle.anf_convert.specs.Anf.{AnfOp, ConstOp, AppOp, ConOp, LamOp, FixOp, CaseOp, AnfBlock, TailAtom, Tail, BindAtom, Bind, AnfBranches, NoBranch, Branch, AnfDefs, NoDef, LamDef, BoxDef, AnfBinding, AtomIs, OpIs}

abbrev mutual
  pub op_weight : AnfOp → ℕ
  op_weight (ConstOp x) = 1
  op_weight (AppOp f a) = 1
  op_weight (ConOp c as') = 1
  op_weight (LamOp b) = suc (block_weight b)
  op_weight (FixOp ds i) = suc (defs_weight ds)
  op_weight (CaseOp a bs) = suc (branches_weight bs)

  pub block_weight : AnfBlock → ℕ
  block_weight (TailAtom a) = 2
  block_weight (Tail op) = suc (suc (op_weight op))
  block_weight (BindAtom a t) = suc (block_weight t)
  block_weight (Bind op t) = suc (op_weight op + block_weight t)

  pub branches_weight : AnfBranches → ℕ
  branches_weight NoBranch = 1
  branches_weight (Branch n t rest) = suc (block_weight t + branches_weight rest)

  pub defs_weight : AnfDefs → ℕ
  defs_weight NoDef = 1
  defs_weight (LamDef b rest) = suc (block_weight b + defs_weight rest)
  defs_weight (BoxDef rest) = suc (defs_weight rest)

abbrev pub binding_weight : AnfBinding → ℕ
binding_weight (AtomIs a) = 0
binding_weight (OpIs op) = op_weight op

abbrev pub bindings_weight : List AnfBinding → ℕ
bindings_weight [] = 1
bindings_weight (p ∷ ps) = suc (binding_weight p + bindings_weight ps)
