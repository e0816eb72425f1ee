-- Parts of a lifted block are lighter than it.
use Rattle.std.proofs.Common.{◌≡◌, ℕ, zero, suc, ◌+◌, ◌*◌, ◌<◌, ◌≤◌, List, [], ◌∷◌, length, get_or, ap, arith}
use Rattle.closure_lift.specs.Lifted.{Block, Bound, AtomIs, OpIs, tail_of, block_of}
use Rattle.closure_lift.specs.LiftedView.{seen, bounds_of, branches_of}
use Rattle.closure_lift.specs.LiftedWeight.{block_weight, branches_weight, bound_weight, bounds_weight}
use Rattle.closure_lift.specs.LiftedFalls.{block_weight_is}
use Rattle.closure_lift.specs.declared.program.LiftedOp.{LiftedOp}
use Rattle.closure_lift.specs.declared.program.LiftedBranch.{LiftedBranch}

in_bounds : (ops : List LiftedOp) (i : ℕ) (o : LiftedOp) → i < length ops → bound_weight (seen (get_or ops i o)) < bounds_weight (bounds_of ops)
in_bounds [] i o lt = absurd (omega arith)
in_bounds (x ∷ ops) zero o lt = omega arith
in_bounds (x ∷ ops) (suc i) o lt = omega (arith, in_bounds ops i o (omega arith))

end_weight : (p : Bound) → block_weight (tail_of p) ≡ suc (suc (bound_weight p))
end_weight (AtomIs a) = omega arith
end_weight (OpIs o) = omega arith

some_weight : (ps : List Bound) → 1 ≤ bounds_weight ps
some_weight [] = omega arith
some_weight (p ∷ ps) = omega arith

pub op_lighter : (ops : List LiftedOp) (ps : List Bound) (i : ℕ) (o t : LiftedOp) (b : Block) → i < length ops → o ≡ get_or ops i o → bounds_of ops ≡ ps → block_of ps (tail_of (seen t)) ≡ b → 2 * bound_weight (seen o) + 1 < 2 * block_weight b
op_lighter ops ps i o t b lt is same whole =
    let all = block_weight_is ps (tail_of (seen t)) in
    let last = end_weight (seen t) in
    let one = in_bounds ops i o lt in
    let here : bound_weight (seen o) ≡ bound_weight (seen (get_or ops i o)) = ap (λ x. bound_weight (seen x)) is in
    let bounds : bounds_weight (bounds_of ops) ≡ bounds_weight ps = ap bounds_weight same in
    let block : block_weight (block_of ps (tail_of (seen t))) ≡ block_weight b = ap block_weight whole in
    omega arith

pub tail_lighter : (ps : List Bound) (t : LiftedOp) (b : Block) → block_of ps (tail_of (seen t)) ≡ b → 2 * bound_weight (seen t) + 1 < 2 * block_weight b
tail_lighter ps t b whole =
    let all = block_weight_is ps (tail_of (seen t)) in
    let last = end_weight (seen t) in
    let some = some_weight ps in
    let block : block_weight (block_of ps (tail_of (seen t))) ≡ block_weight b = ap block_weight whole in
    omega arith

some_arms : (bs : List LiftedBranch) → 1 ≤ branches_weight (branches_of bs)
some_arms [] = omega arith
some_arms (b ∷ bs) = omega arith

in_arms : (arms : List LiftedBranch) (i : ℕ) (b : LiftedBranch) → i < length arms → suc (block_weight (get_or arms i b).body) < branches_weight (branches_of arms)
in_arms [] i b lt = absurd (omega arith)
in_arms (x ∷ arms) zero b lt = omega (arith, some_arms arms)
in_arms (x ∷ arms) (suc i) b lt = omega (arith, in_arms arms i b (omega arith))

pub arm_lighter : (arms : List LiftedBranch) (i : ℕ) (b : LiftedBranch) → i < length arms → b ≡ get_or arms i b → 2 * block_weight b.body + 2 < 2 * branches_weight (branches_of arms)
arm_lighter arms i b lt is =
    let one = in_arms arms i b lt in
    let here : block_weight b.body ≡ block_weight (get_or arms i b).body = ap (λ (x : LiftedBranch). block_weight x.body) is in
    omega arith
