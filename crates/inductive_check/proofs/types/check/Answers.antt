use Rattle.std.proofs.Common.{◌-◌}
use Rattle.pc_rules.specs.DirectedRun.{most_nested}
use Rattle.inductive_check.proofs.Sound.{check_counted}
use Rattle.inductive_check.proofs.types.check.Goals as goal

pub returns-clause-counted : goal.returns-clause-counted
returns-clause-counted g c =
    check_counted c.args.setting.now.env.now c.graph.ensures.consistent c.requires.env (most_nested - c.args.m.now.nest) c.args.ctx.now c.requires.ctx c.args.t.now c.args.ty.now _
    c.args.m.now c.check.new.m c.view.ensures.formed c.view-2.ensures.formed c.check.ensures.follows
