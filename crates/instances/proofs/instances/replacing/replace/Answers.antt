use Rattle.instances.proofs.Replaced.{replaced_is}
use Rattle.instances.proofs.instances.replacing.replace.Goals as goal

pub returns-clause-ok : goal.returns-clause-ok
returns-clause-ok c = rw (← replaced_is c.args.list.now c.args.raise c.args.t.now) c.replace_above.ensures.ok

pub returns-clause-too_deep : goal.returns-clause-too_deep
returns-clause-too_deep c = rw (← replaced_is c.args.list.now c.args.raise c.args.t.now) c.replace_above.ensures.too_deep
