use Rattle.anf_convert.proofs.Renumbered.{parts_are}
use Rattle.anf_convert.proofs.Prepared.{data_kept, form_kept}
use Rattle.anf_convert.proofs.convert.to_anf.Goals as goal

pub returns-clause-is : goal.returns-clause-is
returns-clause-is c = parts_are c.args.p.now _ _ _ c.in_ok-constants.ensures.ok c.in-Ok.ensures.ok c.in_ok-main.ensures.ok

pub returns-clause-data_kept : goal.returns-clause-data_kept
returns-clause-data_kept c =
    data_kept c.args.p.now _ (parts_are c.args.p.now _ _ _ c.in_ok-constants.ensures.ok c.in-Ok.ensures.ok c.in_ok-main.ensures.ok) c.in_ok-constants.ensures.shallow c.in_ok-main.ensures.shallow

pub returns-clause-form : goal.returns-clause-form
returns-clause-form c =
    form_kept c.args.p.now _ (parts_are c.args.p.now _ _ _ c.in_ok-constants.ensures.ok c.in-Ok.ensures.ok c.in_ok-main.ensures.ok) c.in_ok-constants.ensures.shallow c.in_ok-main.ensures.shallow
