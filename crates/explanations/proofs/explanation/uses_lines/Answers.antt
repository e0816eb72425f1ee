use Rattle.std.proofs.Common.{arith, sym, ◌+◌, ◌<◌, ◌≤◌, length}
use Rattle.explanations.proofs.Adding.{adds_as, adds_both, adds_none}
use Rattle.explanations.proofs.Listing.{next_use, no_use}
use Rattle.explanations.proofs.explanation.uses_lines.Goals as goal

pub loop-rule-init : goal.loop-rule-init
loop-rule-init c = λ t h. h

pub loop-rule-preserved : goal.loop-rule-preserved
loop-rule-preserved c = λ t h.
    let i = c.loop-rule.rule in
    let l : i < length c.args.uses.now = grind arith in
    c.loop-rule.invariant t (adds_as _ _ _ _ (sym (next_use c.args.uses.now i (i + 1) l)) (adds_both _ _ _ _ _ c.use_line.ensures.adds h))

pub returns : goal.returns
returns c =
    let i = c.loop-rule.rule in
    let l : length c.args.uses.now ≤ i = grind arith in
    record { adds = c.loop-rule.invariant _ (adds_as _ _ _ _ (sym (no_use c.args.uses.now i (i + 1) l)) (adds_none _)) }
