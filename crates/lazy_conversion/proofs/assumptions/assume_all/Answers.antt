use Rattle.std.proofs.Common.{◌≡◌, ◌∙◌, sym, ap, suc, ◌+◌, arith}
use Rattle.calculus_rules.specs.Context.{values, under}
use Rattle.lazy_conversion.proofs.assumptions.assume_all.Goals as goal

pub loop-i-init : goal.loop-i-init
loop-i-init c = ap values c.in_ok-out.ensures.same

pub loop-i-preserved : goal.loop-i-preserved
loop-i-preserved c =
    let e : c.loop-i.i + 1 ≡ suc c.loop-i.i = omega arith in
    c.in_ok-out-2.ensures.longer ∙ ap (under 1) c.loop-i.invariant ∙ sym (ap (λ n. under n (values c.args.ctx.now)) e)
