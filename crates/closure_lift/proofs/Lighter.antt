-- Parts of a block are lighter than it.
use Rattle.std.proofs.Common.{◌≡◌, ℕ, zero, suc, ◌<◌, ◌≤◌, List, [], ◌∷◌, length, get_or, ap, sym, subst as transport, arith}
use Rattle.anf_convert.specs.Anf.{AnfBinding, AtomIs, OpIs, tail_of, block_of}
use Rattle.anf_convert.specs.AnfView.{seen, bindings_of, branches_of, defs_of}
use Rattle.anf_convert.specs.AnfWeight.{block_weight, branches_weight, defs_weight, binding_weight, bindings_weight}
use Rattle.anf_convert.specs.AnfFalls.{block_weight_is}
use Rattle.anf_convert.specs.declared.program.Op.{Op}
use Rattle.anf_convert.specs.declared.program.AnfBranch.{AnfBranch}
use Rattle.anf_convert.specs.declared.program.AnfDef.{AnfDef}
use Rattle.anf_convert.specs.declared.program.AnfDef.TheVariants as def

in_bindings : (ops : List Op) (i : ℕ) (o : Op) → i < length ops → binding_weight (seen (get_or ops i o)) < bindings_weight (bindings_of ops)
in_bindings [] i o lt = absurd (omega arith)
in_bindings (x ∷ ops) zero o lt = omega arith
in_bindings (x ∷ ops) (suc i) o lt = omega (arith, in_bindings ops i o (omega arith))

tail_weight : (p : AnfBinding) → block_weight (tail_of p) ≡ suc (suc (binding_weight p))
tail_weight (AtomIs a) = omega arith
tail_weight (OpIs o) = omega arith

pub op_lighter : (ops : List Op) (i : ℕ) (o t : Op) → i < length ops → o ≡ get_or ops i o → binding_weight (seen o) < block_weight (block_of (bindings_of ops) (tail_of (seen t)))
op_lighter ops i o t lt is =
    let all = block_weight_is (bindings_of ops) (tail_of (seen t)) in
    let last = tail_weight (seen t) in
    let one : binding_weight (seen (get_or ops i o)) < bindings_weight (bindings_of ops) = in_bindings ops i o lt in
    let same : binding_weight (seen o) ≡ binding_weight (seen (get_or ops i o)) = ap (λ x. binding_weight (seen x)) is in
    omega arith

some_weight : (ps : List AnfBinding) → 1 ≤ bindings_weight ps
some_weight [] = omega arith
some_weight (p ∷ ps) = omega arith

pub tail_lighter : (ps : List AnfBinding) (t : Op) → binding_weight (seen t) < block_weight (block_of ps (tail_of (seen t)))
tail_lighter ps t =
    let all = block_weight_is ps (tail_of (seen t)) in
    let last = tail_weight (seen t) in
    let some = some_weight ps in
    omega arith

in_arms : (arms : List AnfBranch) (i : ℕ) (b : AnfBranch) → i < length arms → block_weight (get_or arms i b).body < branches_weight (branches_of arms)
in_arms [] i b lt = absurd (omega arith)
in_arms (x ∷ arms) zero b lt = omega arith
in_arms (x ∷ arms) (suc i) b lt = omega (arith, in_arms arms i b (omega arith))

pub arm_lighter : (arms : List AnfBranch) (i : ℕ) (b : AnfBranch) → i < length arms → b ≡ get_or arms i b → block_weight b.body < branches_weight (branches_of arms)
arm_lighter arms i b lt is = transport (λ (x : AnfBranch). block_weight x.body < branches_weight (branches_of arms)) (sym is) (in_arms arms i b lt)

abbrev pub def_weight : AnfDef → ℕ
def_weight (def.Lambda b) = block_weight b
def_weight def.Box = 0

in_defs : (ds : List AnfDef) (i : ℕ) (d : AnfDef) → i < length ds → def_weight (get_or ds i d) < defs_weight (defs_of ds)
in_defs [] i d lt = absurd (omega arith)
in_defs (def.Lambda b ∷ ds) zero d lt = omega arith
in_defs (def.Box ∷ ds) zero d lt = omega arith
in_defs (def.Lambda b ∷ ds) (suc i) d lt = omega (arith, in_defs ds i d (omega arith))
in_defs (def.Box ∷ ds) (suc i) d lt = omega (arith, in_defs ds i d (omega arith))

pub def_lighter : (ds : List AnfDef) (i : ℕ) (d : AnfDef) → i < length ds → d ≡ get_or ds i d → def_weight d < defs_weight (defs_of ds)
def_lighter ds i d lt is = transport (λ (x : AnfDef). def_weight x < defs_weight (defs_of ds)) (sym is) (in_defs ds i d lt)
