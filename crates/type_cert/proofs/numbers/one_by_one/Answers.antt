use Rattle.std.proofs.Common.{rules, ◌<◌, refl}
use Rattle.calculus_rules.specs.Context.{values}
use Rattle.calculus_rules.specs.WeakHead.{no_step, then_step}
use Rattle.pc_rules.proofs.WeakNext.{weak_next_found}
use Rattle.type_cert.specs.declared.trail.Trail.{Trail}
use Rattle.type_cert.proofs.Retracing.{retraces_passed, passed_nothing}
use Rattle.type_cert.proofs.Stepping.{steps_end, steps_spent, steps_barred, steps_stop, steps_go}
use Rattle.type_cert.proofs.numbers.one_by_one.Goals as goal

pub returns-then-not-tick : goal.returns-then-not-tick
returns-then-not-tick c =
    let t2 : Trail = record { meter = c.tick.new.self; at = c.steps.trail.at } in
    let more : 0 < c.steps.left = search rules in
    record {
      retraces = steps_spent c.args.env.now (values c.args.ctx.now) c.args.item _ c.steps.left c.steps.term c.args.trail.now c.steps.trail t2 c.steps.invariant.leads c.steps.invariant.after
          more (search rules) c.tick.ensures.account c.tick.ensures.nest;
      steps = tt;
    }

pub returns-in_err-next : goal.returns-in_err-next
returns-in_err-next c =
    let t2 : Trail = record { meter = c.tick.new.self; at = c.steps.trail.at } in
    let more : 0 < c.steps.left = search rules in
    let unit : 0 < c.steps.trail.meter.account.left = search rules in
    record {
      retraces = retraces_passed c.from_residual.ensures.1
          (steps_stop c.args.env.now (values c.args.ctx.now) c.args.item _ c.steps.left c.steps.term c.args.trail.now c.steps.trail t2 c.steps.invariant.leads c.steps.invariant.after
          more unit c.tick.ensures.account c.tick.ensures.nest refl _ c.in_err-next.ensures.stops);
      steps = passed_nothing _ c.from_residual.result _ c.from_residual.ensures.1;
    }

pub steps-preserved : goal.steps-preserved
steps-preserved c =
    let t2 : Trail = record { meter = c.tick.new.self; at = c.steps.trail.at } in
    let more : 0 < c.steps.left = search rules in
    let unit : 0 < c.steps.trail.meter.account.left = search rules in
    let e = rw c.in-Some.is at c.in_ok-next.ensures.next in
    let r = steps_go c.args.env.now (values c.args.ctx.now) c.args.item _ c.steps.left c.steps.term c.args.trail.now c.steps.trail t2 c.steps.invariant.leads c.steps.invariant.after
    more unit c.tick.ensures.account c.tick.ensures.nest refl c.in-Some.next e in
    record { leads = r.0; after = r.1; at = c.steps.invariant.at; reached = λ W p. c.steps.invariant.reached W (then_step (weak_next_found _ _ _ _ e) p) }

pub returns-in-None : goal.returns-in-None
returns-in-None c =
    let t2 : Trail = record { meter = c.tick.new.self; at = c.steps.trail.at } in
    let more : 0 < c.steps.left = search rules in
    let unit : 0 < c.steps.trail.meter.account.left = search rules in
    let e = rw c.in-None.is at c.in_ok-next.ensures.next in
    record {
      retraces = steps_barred c.args.env.now (values c.args.ctx.now) c.args.item _ c.steps.left c.steps.term c.args.trail.now c.steps.trail t2 c.steps.invariant.leads c.steps.invariant.after
          more unit c.tick.ensures.account c.tick.ensures.nest refl e;
      steps = tt;
    }

pub returns : goal.returns
returns c = record {
  retraces = steps_end c.args.env.now (values c.args.ctx.now) c.args.item _ c.steps.left c.steps.term c.args.trail.now c.steps.trail c.steps.trail c.steps.invariant.leads c.steps.invariant.after (search rules);
  steps = c.steps.invariant.reached _ no_step;
}
