use Rattle.std.proofs.Common.{◌<◌, length, arith}
use Rattle.std.proofs.lemmas.Result.{err_from_is_err_and}
use Rattle.box_passes.specs.Saturate.{saturate_constant}
use Rattle.box_passes.proofs.Heading.{deep_at}
use Rattle.box_passes.proofs.saturation.saturated_constants.Goals as goal

pub returns-in_err-body-clause-too_deep : goal.returns-in_err-body-clause-too_deep
returns-in_err-body-clause-too_deep c =
    let p = err_from_is_err_and c.from_residual.result c.from_residual.ensures.1 in
    let l : c.loop-d.d-index < length c.as_slice-d-items.result.now = grind arith in
    rw (p.1, p.2) (λ q. deep_at (saturate_constant c.args.fs.now) c.as_slice-d-items.result.now c.args.cs.now c.loop-d.d-index c.d-item.result c.as_slice-d-items.ensures.is l c.d-item.is (c.in_err-body.ensures.too_deep q))
