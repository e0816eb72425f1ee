use Rattle.std.proofs.Common.{rules}
use Rattle.guard_check.proofs.Guarded.{is_guarded}
use Rattle.guard_check.proofs.guard.GuardGuarder.fix.Goals as goal

pub returns-in-Fix-clause-guarded : goal.returns-in-Fix-clause-guarded
returns-in-Fix-clause-guarded g c =
    is_guarded c.args.env.now c.args.ctx.now c.args.fix.now c.bodies.result c.args.m.now c.bodies.new.m c.requires.env c.requires.ctx c.requires.counted c.requires.lambdas c.requires.families (search rules)
