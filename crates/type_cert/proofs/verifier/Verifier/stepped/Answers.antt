use Rattle.std.proofs.Common.{rules, ◌<◌}
use Rattle.calculus_rules.specs.Context.{values}
use Rattle.type_cert.proofs.Scripting.{no_script_steps, some_script_steps}
use Rattle.type_cert.proofs.verifier.Verifier.stepped.Goals as goal

pub returns-then-n-eq0 : goal.returns-then-n-eq0
returns-then-n-eq0 c = record { retraces = no_script_steps c.args.self.now.env.now (values c.args.ctx.now) c.args.t.now c.args.n c.args.trail.now (search rules); steps = tt }

pub returns-clause-retraces : goal.returns-clause-retraces
returns-clause-retraces c =
    let more : 0 < c.args.n = search rules in
    some_script_steps c.args.self.now.env.now (values c.args.ctx.now) c.args.t.now c.args.n _ _ c.args.trail.now _ more c.in_ok-term.ensures.ok c.steps.ensures.retraces

pub returns-clause-steps : goal.returns-clause-steps
returns-clause-steps c = rw c.in_ok-term.ensures.ok at c.steps.ensures.steps
