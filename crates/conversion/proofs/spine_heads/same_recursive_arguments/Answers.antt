use Rattle.std.proofs.Common.{◌∙◌, ◌<◌, length, sym, arith}
use Rattle.conversion.proofs.Listing.{rargs_same}
use Rattle.conversion.proofs.spine_heads.same_recursive_arguments.Goals as goal
use Rattle.pc_rules.proofs.SameTrees.{rargs_other}

pub returns-then-ds-es : goal.returns-then-ds-es
returns-then-ds-es c = record { is = sym (rargs_other c.args.ds.now c.args.es.now c.if-ds-es.true) }

pub loop-i-preserved : goal.loop-i-preserved
loop-i-preserved c =
    let h : c.loop-i.i < length c.args.ds.now = grind arith in
    let k : c.loop-i.i < length c.args.es.now = grind arith in
    c.loop-i.invariant ∙ rargs_same c.args.ds.now c.args.es.now c.loop-i.i c.index-ds-i.result c.index-es-i.result h k c.index-ds-i.is c.index-es-i.is (rw (← c.index-ds-i.is, ← c.index-es-i.is) at c.if-ds-i.false)
