use Rattle.std.proofs.Common.{arith, ◌∙◌, sym}
use Rattle.sexp_reader.proofs.Steps.{atom_len-more, atom_len-none, atom_len-end}
use Rattle.sexp_reader.proofs.atom_end.Goals as goal

pub loop-at-init : goal.loop-at-init
loop-at-init c = (omega arith, omega (arith, atom_len-more c.args.bytes.now c.args.from c.requires.inside c.requires.atom))

pub returns-then-not-is_atom_byte-clause-end : goal.returns-then-not-is_atom_byte-clause-end
returns-then-not-is_atom_byte-clause-end c = omega (arith, c.loop-at.invariant.1, atom_len-none c.args.bytes.now c.loop-at.at c.loop-at-test.true (sym c.is_atom_byte.ensures.atom ∙ c.if-not-is_atom_byte.true))

pub loop-at-preserved : goal.loop-at-preserved
loop-at-preserved c = (omega arith, omega (arith, c.loop-at.invariant.1, atom_len-more c.args.bytes.now c.loop-at.at c.loop-at-test.true (sym c.is_atom_byte.ensures.atom ∙ c.if-not-is_atom_byte.false)))

pub returns-clause-end : goal.returns-clause-end
returns-clause-end c = omega (arith, c.loop-at.invariant.1, atom_len-end c.args.bytes.now c.loop-at.at c.loop-at-test.false)
