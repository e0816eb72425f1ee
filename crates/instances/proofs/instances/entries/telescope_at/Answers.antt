use Rattle.std.proofs.Common.{◌<◌, length, arith}
use Rattle.std.proofs.lemmas.Result.{err_from_is_err_and}
use Rattle.instances.proofs.Telescopes.{entries_at-one, entries_at-next}
use Rattle.instances.proofs.instances.entries.telescope_at.Goals as goal

pub returns-in_err-entry-clause-too_deep : goal.returns-in_err-entry-clause-too_deep
returns-in_err-entry-clause-too_deep c =
    let p = err_from_is_err_and c.from_residual.result c.from_residual.ensures.1 in
    let lt : c.loop-i.i < length c.args.telescope.now = grind arith in
    rw (p.1, p.2) (λ e. entries_at-one c.args.params.now c.args.telescope.now c.loop-i.i c.index-entries-i.result (cc) lt (c.in_err-entry.ensures.too_deep e))

pub loop-i-preserved : goal.loop-i-preserved
loop-i-preserved c =
    let lt : c.loop-i.i < length c.as_slice-entries.result.now = grind arith in
    let next = entries_at-next c.args.params.now c.as_slice-entries.result.now c.loop-i.i c.index-entries-i.result c.index-entries-i.is lt in
    let pushed = c.in_ok-push.ensures.ok in
    let entry = c.in_ok-entry.ensures.ok in
    let before = c.loop-i.invariant in
    cc
