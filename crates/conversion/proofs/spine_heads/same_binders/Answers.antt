use Rattle.std.proofs.Common.{◌∙◌, ◌<◌, length, sym, arith}
use Rattle.conversion.proofs.Listing.{binders_same, binders_other}
use Rattle.conversion.proofs.spine_heads.same_binders.Goals as goal

pub returns-then-xs-ys : goal.returns-then-xs-ys
returns-then-xs-ys c = record { is = sym (binders_other c.args.xs.now c.args.ys.now c.if-xs-ys.true) }

pub loop-i-preserved : goal.loop-i-preserved
loop-i-preserved c =
    let h : c.loop-i.i < length c.args.xs.now = grind arith in
    let k : c.loop-i.i < length c.args.ys.now = grind arith in
    c.loop-i.invariant ∙ binders_same c.args.xs.now c.args.ys.now c.loop-i.i c.index-xs-i.result c.index-ys-i.result h k c.index-xs-i.is c.index-ys-i.is (rw (← c.index-xs-i.is, ← c.index-ys-i.is) at c.if-xs-i.false)
