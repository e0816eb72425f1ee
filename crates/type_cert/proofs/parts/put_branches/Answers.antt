use Rattle.std.proofs.Common.{◌∙◌, ◌<◌, length, ap, arith}
use Rattle.type_cert.specs.Pairs.{joined}
use Rattle.type_cert.proofs.Pairing.{arms_next, arms_differ, arms_end, arms_other}
use Rattle.type_cert.proofs.parts.put_branches.Goals as goal

pub returns-then-xs-ys-clause-ok : goal.returns-then-xs-ys-clause-ok
returns-then-xs-ys-clause-ok c = λ o. ap (joined c.args.out.now.items) (arms_other c.args.xs.now c.args.ys.now o c.if-xs-ys.true)

pub returns-then-x-y-clause-ok : goal.returns-then-x-y-clause-ok
returns-then-x-y-clause-ok c =
    let n = c.loop-i.invariant.count in
    let h : c.loop-i.i < length c.args.xs.now = grind arith in
    let k : c.loop-i.i < length c.args.ys.now = omega (arith, n) in
    λ o. c.loop-i.invariant.rest o
    ∙ arms_differ c.args.xs.now c.args.ys.now c.loop-i.i c.loop-i.out.items o c.index-xs-i.result c.index-ys-i.result h k c.index-xs-i.is c.index-ys-i.is
    c.if-x-y.true

pub loop-i-preserved : goal.loop-i-preserved
loop-i-preserved c =
    let n = c.loop-i.invariant.count in
    let h : c.loop-i.i < length c.args.xs.now = grind arith in
    let k : c.loop-i.i < length c.args.ys.now = omega (arith, n) in
    record {
      rest = λ o. c.loop-i.invariant.rest o
          ∙ arms_next c.args.xs.now c.args.ys.now c.loop-i.i c.loop-i.out.items o c.index-xs-i.result c.index-ys-i.result h k c.index-xs-i.is c.index-ys-i.is c.put.new.out.items
          c.if-x-y.false c.in_ok-put.ensures.ok;
      count = n;
    }

pub returns-clause-ok : goal.returns-clause-ok
returns-clause-ok c =
    let n = c.loop-i.invariant.count in
    λ o. c.loop-i.invariant.rest o ∙ arms_end c.args.xs.now c.args.ys.now c.loop-i.i c.loop-i.out.items o (omega arith) (omega (arith, n))
