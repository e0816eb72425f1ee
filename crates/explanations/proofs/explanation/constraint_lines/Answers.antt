use Rattle.std.proofs.Common.{arith, sym, ◌<◌, ◌≤◌, length}
use Rattle.explanations.proofs.Adding.{adds_as, adds_both, adds_none}
use Rattle.explanations.proofs.Listing.{next_constraint, no_constraint}
use Rattle.explanations.proofs.explanation.constraint_lines.Goals as goal

pub loop-i-preserved : goal.loop-i-preserved
loop-i-preserved c = λ t h.
    let i = c.loop-i.i-index in
    let l : i < length c.args.places.now = grind arith in
    c.loop-i.invariant t (adds_as _ _ _ _ (sym (next_constraint c.args.raw.now c.args.places.now i _ l)) (adds_both _ _ _ _ _ c.constraint_line.ensures.adds h))

pub returns : goal.returns
returns c =
    let i = c.loop-i.i-index in
    let l : length c.args.places.now ≤ i = grind arith in
    record { adds = c.loop-i.invariant _ (adds_as _ _ _ _ (sym (no_constraint c.args.raw.now c.args.places.now i l)) (adds_none _)) }
