use Rattle.std.proofs.Common.{◌∙◌, ◌<◌, length, sym, arith}
use Rattle.type_cert.proofs.Pairing.{types_next, types_end}
use Rattle.type_cert.proofs.Recursive.{rargs_same, rargs_differ, rargs_end}
use Rattle.type_cert.proofs.parts.put_types.Goals as goal
use Rattle.pc_rules.proofs.SameTrees.{rargs_other}

pub returns-then-ds-es-clause-same : goal.returns-then-ds-es-clause-same
returns-then-ds-es-clause-same c = sym (rargs_other c.args.ds.now c.args.es.now c.if-ds-es.true)

pub returns-then-d-e-clause-same : goal.returns-then-d-e-clause-same
returns-then-d-e-clause-same c =
    let n = c.loop-i.invariant.count in
    let h : c.loop-i.i < length c.args.ds.now = grind arith in
    let k : c.loop-i.i < length c.args.es.now = omega (arith, n) in
    sym (c.loop-i.invariant.same
    ∙ rargs_differ c.args.ds.now c.args.es.now c.loop-i.i c.index-ds-i.result c.index-es-i.result h k c.index-ds-i.is c.index-es-i.is
    c.if-d-e.true)

pub loop-i-preserved : goal.loop-i-preserved
loop-i-preserved c =
    let n = c.loop-i.invariant.count in
    let h : c.loop-i.i < length c.args.ds.now = grind arith in
    let k : c.loop-i.i < length c.args.es.now = omega (arith, n) in
    record {
      rest = λ o. c.loop-i.invariant.rest o
          ∙ types_next c.args.ds.now c.args.es.now c.loop-i.i c.loop-i.out.items o c.index-ds-i.result c.index-es-i.result c.put.new.out.items h k c.index-ds-i.is c.index-es-i.is c.in_ok-put.ensures.ok;
      same = c.loop-i.invariant.same
          ∙ rargs_same c.args.ds.now c.args.es.now c.loop-i.i c.index-ds-i.result c.index-es-i.result h k c.index-ds-i.is c.index-es-i.is
          c.if-d-e.false;
      count = n;
    }

pub returns-clause-same : goal.returns-clause-same
returns-clause-same c =
    let n = c.loop-i.invariant.count in
    sym (c.loop-i.invariant.same ∙ rargs_end c.args.ds.now c.args.es.now c.loop-i.i (omega arith) (omega (arith, n)))

pub returns-clause-ok : goal.returns-clause-ok
returns-clause-ok c =
    let n = c.loop-i.invariant.count in
    λ b o. c.loop-i.invariant.rest o ∙ types_end c.args.ds.now c.args.es.now c.loop-i.i c.loop-i.out.items o (omega arith) (omega (arith, n))
