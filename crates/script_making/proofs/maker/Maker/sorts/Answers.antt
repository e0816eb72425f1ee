use Rattle.script_making.proofs.Making.{makes_passed}
use Rattle.script_making.proofs.Comparing.{sorts_put, sorts_halt}
use Rattle.script_making.proofs.maker.Maker.sorts.Goals as goal

pub returns-in_err-compare_sorts : goal.returns-in_err-compare_sorts
returns-in_err-compare_sorts g c = record { makes = makes_passed c.from_residual.ensures.1 (sorts_halt _ _ _ c.args.draft.now (c.in_err-compare_sorts.ensures.answers c.args.draft.now.meter.account)) }

pub returns : goal.returns
returns g c = record { makes = sorts_put _ _ _ _ _ (c.in_ok-compare_sorts.ensures.answers c.args.draft.now.meter.account) c.put.ensures.makes }
