use Rattle.std.proofs.lemmas.Result.{err_from_is_err_and}
use Rattle.box_passes.specs.Saturate.{saturate_program}
use Rattle.box_passes.proofs.Heading.{deep_program, shallow_program}
use Rattle.box_passes.proofs.PassResults.{saturated}
use Rattle.box_passes.proofs.saturation.saturate.Goals as goal

pub returns-in_err-constants-clause-too_deep : goal.returns-in_err-constants-clause-too_deep
returns-in_err-constants-clause-too_deep c =
    let p = err_from_is_err_and c.from_residual.result c.from_residual.ensures.1 in
    rw (p.1, p.2) (λ q. deep_program (saturate_program c.args.p.now) (c.in_err-constants.ensures.too_deep q))

pub returns-clause-is : goal.returns-clause-is
returns-clause-is c = (saturated c.args.p.now _ _ _ c.in_ok-constants.ensures.ok c.in_ok-families.ensures.ok c.in_ok-main.ensures.ok).is

pub returns-clause-form : goal.returns-clause-form
returns-clause-form c = (saturated c.args.p.now _ _ _ c.in_ok-constants.ensures.ok c.in_ok-families.ensures.ok c.in_ok-main.ensures.ok).form

pub returns-clause-size : goal.returns-clause-size
returns-clause-size c = (saturated c.args.p.now _ _ _ c.in_ok-constants.ensures.ok c.in_ok-families.ensures.ok c.in_ok-main.ensures.ok).size

pub returns-clause-data_kept : goal.returns-clause-data_kept
returns-clause-data_kept c = (saturated c.args.p.now _ _ _ c.in_ok-constants.ensures.ok c.in_ok-families.ensures.ok c.in_ok-main.ensures.ok).data_kept

pub returns-clause-runs : goal.returns-clause-runs
returns-clause-runs c = (saturated c.args.p.now _ _ _ c.in_ok-constants.ensures.ok c.in_ok-families.ensures.ok c.in_ok-main.ensures.ok).runs

pub returns-clause-counted : goal.returns-clause-counted
returns-clause-counted c = (saturated c.args.p.now _ _ _ c.in_ok-constants.ensures.ok c.in_ok-families.ensures.ok c.in_ok-main.ensures.ok).counted

pub returns-clause-shallow : goal.returns-clause-shallow
returns-clause-shallow c = shallow_program (record { constants = c.in_ok-constants.constants; families = c.in_ok-families.families; main = c.in_ok-main.main }) c.in_ok-constants.ensures.shallow c.in_ok-main.ensures.shallow
