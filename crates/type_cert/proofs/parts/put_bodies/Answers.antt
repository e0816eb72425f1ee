use Rattle.std.proofs.Common.{◌∙◌, ◌<◌, length, arith}
use Rattle.type_cert.proofs.Pairing.{bodies_next, bodies_end}
use Rattle.type_cert.proofs.parts.put_bodies.Goals as goal

pub loop-i-preserved : goal.loop-i-preserved
loop-i-preserved c =
    let n = c.requires in
    let h : c.loop-i.i < length c.args.ds.now = grind arith in
    let k : c.loop-i.i < length c.args.es.now = omega (arith, n) in
    λ o. c.loop-i.invariant o
    ∙ bodies_next c.args.ds.now c.args.es.now c.loop-i.i c.loop-i.out.items o c.args.count c.index-ds-i.result c.index-es-i.result c.put.new.out.items h k c.index-ds-i.is c.index-es-i.is (rw (← c.index-ds-i.is, ← c.index-es-i.is) at c.in_ok-put.ensures.ok)

pub returns-clause-ok : goal.returns-clause-ok
returns-clause-ok c =
    let n = c.requires in
    λ o. c.loop-i.invariant o ∙ bodies_end c.args.ds.now c.args.es.now c.loop-i.i c.loop-i.out.items o c.args.count (omega arith) (omega (arith, n))
