-- What the types of programs in A-normal form are seen as. In a block a constant stands by the number of its name; `Renumbering` has the program in
-- which it stands by its place.
use Rattle.std.specs.Prelude.{List, [], ◌∷◌}
use Rattle.anf_convert.specs.Anf.{AnfBlock, AnfBranches, NoBranch, Branch, AnfDefs, NoDef, LamDef, BoxDef, ConstOp, AppOp, ConOp, LamOp, FixOp, CaseOp, AnfBinding, AtomIs, OpIs, tail_of, block_of}
use Rattle.anf_convert.specs.declared.program.Op.{Op}
use Rattle.anf_convert.specs.declared.program.Op.TheVariants as op
use Rattle.anf_convert.specs.declared.program.AnfBranch.{AnfBranch}
use Rattle.anf_convert.specs.declared.program.AnfDef.{AnfDef}
use Rattle.anf_convert.specs.declared.program.AnfDef.TheVariants as def

abbrev pub seen : Op → AnfBinding
seen (op.Atom a) = AtomIs a
seen (op.Const k) = OpIs (ConstOp k.0)
seen (op.App f a) = OpIs (AppOp f a)
seen (op.Construct c args) = OpIs (ConOp c args)
seen (op.Lambda b) = OpIs (LamOp b.value)
seen (op.Fix ds i) = OpIs (FixOp ds i)
seen (op.Case a bs) = OpIs (CaseOp a bs)

abbrev pub bindings_of : List Op → List AnfBinding
bindings_of [] = []
bindings_of (o ∷ os) = seen o ∷ bindings_of os

-- the block with these bindings and this tail
abbrev pub whole : List AnfBinding → Op → AnfBlock
whole ps o = block_of ps (tail_of (seen o))

abbrev pub branches_of : List AnfBranch → AnfBranches
branches_of [] = NoBranch
branches_of (b ∷ bs) = Branch b.binders b.body (branches_of bs)

abbrev pub defs_of : List AnfDef → AnfDefs
defs_of [] = NoDef
defs_of (def.Lambda b ∷ ds) = LamDef b (defs_of ds)
defs_of (def.Box ∷ ds) = BoxDef (defs_of ds)
