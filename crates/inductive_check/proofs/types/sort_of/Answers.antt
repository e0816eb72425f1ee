use Rattle.std.proofs.Common.{◌-◌}
use Rattle.pc_rules.specs.DirectedRun.{most_nested}
use Rattle.inductive_check.proofs.Sound.{sort_counted, sort_over}
use Rattle.inductive_check.proofs.types.sort_of.Goals as goal

pub returns-clause-counted : goal.returns-clause-counted
returns-clause-counted g c =
    sort_counted c.args.env.now c.graph.ensures.consistent c.requires.env (most_nested - c.args.m.now.nest) c.args.ctx.now c.requires.ctx c.args.t.now _ c.args.m.now
    c.sort_of.new.m c.view.ensures.formed c.sort_of.ensures.follows

pub returns-clause-over : goal.returns-clause-over
returns-clause-over g c =
    sort_over c.args.env.now c.graph.ensures.consistent c.requires.env (most_nested - c.args.m.now.nest) c.args.ctx.now c.requires.ctx c.args.t.now _ c.args.m.now
    c.sort_of.new.m c.view.ensures.formed c.sort_of.ensures.follows
