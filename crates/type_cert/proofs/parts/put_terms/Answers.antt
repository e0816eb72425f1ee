use Rattle.std.proofs.Common.{◌∙◌, ◌<◌, length, ap, arith}
use Rattle.type_cert.specs.Pairs.{joined}
use Rattle.type_cert.proofs.Pairing.{terms_next, terms_end, terms_other}
use Rattle.type_cert.proofs.parts.put_terms.Goals as goal

pub returns-then-ts-us-clause-ok : goal.returns-then-ts-us-clause-ok
returns-then-ts-us-clause-ok c = λ o. ap (joined c.args.out.now.items) (terms_other c.args.ts.now c.args.us.now o c.if-ts-us.true)

pub loop-i-preserved : goal.loop-i-preserved
loop-i-preserved c =
    let n = c.loop-i.invariant.count in
    let h : c.loop-i.i < length c.args.ts.now = grind arith in
    let k : c.loop-i.i < length c.args.us.now = omega (arith, n) in
    record {
      rest = λ o. c.loop-i.invariant.rest o
          ∙ terms_next c.args.ts.now c.args.us.now c.loop-i.i c.loop-i.out.items o c.index-ts-i.result c.index-us-i.result c.put.new.out.items h k c.index-ts-i.is c.index-us-i.is c.in_ok-put.ensures.ok;
      count = n;
    }

pub returns-clause-ok : goal.returns-clause-ok
returns-clause-ok c =
    let n = c.loop-i.invariant.count in
    λ o. c.loop-i.invariant.rest o ∙ terms_end c.args.ts.now c.args.us.now c.loop-i.i c.loop-i.out.items o (omega arith) (omega (arith, n))
