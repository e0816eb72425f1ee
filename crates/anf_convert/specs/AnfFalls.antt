-- Each part of a program in A-normal form is lighter than the whole.
use Rattle.std.specs.Prelude.{suc, ◌+◌, ◌≤◌, ◌≡◌, List, [], ◌∷◌}
use Rattle.std.proofs.Common.{arith}
use Rattle.anf_convert.specs.Anf.{AnfBlock, AnfBinding, AtomIs, OpIs, block_of, tail_of}
use Rattle.anf_convert.specs.AnfView.{seen, bindings_of, whole, branches_of, defs_of}
use Rattle.anf_convert.specs.AnfWeight.{block_weight, branches_weight, defs_weight, binding_weight, bindings_weight}
use Rattle.anf_convert.specs.declared.program.Op.{Op}
use Rattle.anf_convert.specs.declared.program.Op.TheVariants as op
use Rattle.anf_convert.specs.declared.program.AnfBranch.{AnfBranch}
use Rattle.anf_convert.specs.declared.program.AnfDef.{AnfDef}
use Rattle.anf_convert.specs.declared.program.AnfDef.TheVariants as def
use Rattle.anf_convert.specs.declared.program.AnfBlock.TheDeep.{deep-Op, deep-AnfBranch, deep-AnfDef}
use denote.Param.Weighed.{most}

operation_falls : (o : Op) → deep-Op o ≤ binding_weight (seen o)
operation_falls (op.Atom a) = omega arith
operation_falls (op.Const k) = omega arith
operation_falls (op.App f a) = omega arith
operation_falls (op.Construct c args) = omega arith
operation_falls (op.Lambda b) = omega arith
operation_falls (op.Fix ds i) = omega arith
operation_falls (op.Case a bs) = omega arith

pub bindings_fall : (os : List Op) → most (λ x. deep-Op x) os ≤ bindings_weight (bindings_of os)
bindings_fall [] = omega arith
bindings_fall (o ∷ os) = omega (arith, operation_falls o, bindings_fall os)

tail_weight : (p : AnfBinding) → block_weight (tail_of p) ≡ suc (suc (binding_weight p))
tail_weight (AtomIs a) = omega arith
tail_weight (OpIs o) = omega arith

pub block_weight_is : (ps : List AnfBinding) (t : AnfBlock) → suc (block_weight (block_of ps t)) ≡ bindings_weight ps + block_weight t
block_weight_is [] t = omega arith
block_weight_is (AtomIs a ∷ ps) t = omega (arith, block_weight_is ps t)
block_weight_is (OpIs o ∷ ps) t = omega (arith, block_weight_is ps t)

-- the bindings, and what is in the tail
pub block_falls : (ps : List AnfBinding) (o : Op) → (suc (bindings_weight ps) ≤ block_weight (whole ps o)) × (deep-Op o ≤ block_weight (whole ps o))
block_falls ps o =
    let all = block_weight_is ps (tail_of (seen o)) in
    let last = tail_weight (seen o) in
    let some = some_weight ps in
    (omega (arith, all, last), omega (arith, all, last, some, operation_falls o))
  where
    some_weight : (ps : List AnfBinding) → 1 ≤ bindings_weight ps
    some_weight [] = omega arith
    some_weight (p ∷ ps) = omega arith

pub branches_fall : (bs : List AnfBranch) → most (λ x. deep-AnfBranch x) bs ≤ branches_weight (branches_of bs)
branches_fall [] = omega arith
branches_fall (b ∷ bs) = omega (arith, branches_fall bs)

pub defs_fall : (ds : List AnfDef) → most (λ x. deep-AnfDef x) ds ≤ defs_weight (defs_of ds)
defs_fall [] = omega arith
defs_fall (def.Lambda b ∷ ds) = omega (arith, defs_fall ds)
defs_fall (def.Box ∷ ds) = omega (arith, defs_fall ds)
