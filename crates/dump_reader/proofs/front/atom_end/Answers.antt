use Rattle.std.proofs.Common.{arith, ◌∙◌, sym}
use Rattle.sexp_reader.proofs.Steps.{atom_len-more, atom_len-none, atom_len-end}
use Rattle.dump_reader.proofs.front.atom_end.Goals as goal

pub returns-then-not-is_atom_byte-clause-is : goal.returns-then-not-is_atom_byte-clause-is
returns-then-not-is_atom_byte-clause-is c = omega (arith, c.loop-at.invariant.1, atom_len-none c.args.bytes.now c.loop-at.at c.loop-at-test.true (sym c.is_atom_byte.ensures.is ∙ c.if-not-is_atom_byte.true))

pub loop-at-preserved : goal.loop-at-preserved
loop-at-preserved c = (omega arith, omega (arith, c.loop-at.invariant.1, atom_len-more c.args.bytes.now c.loop-at.at c.loop-at-test.true (sym c.is_atom_byte.ensures.is ∙ c.if-not-is_atom_byte.false)))

pub returns-clause-is : goal.returns-clause-is
returns-clause-is c = omega (arith, c.loop-at.invariant.1, atom_len-end c.args.bytes.now c.loop-at.at c.loop-at-test.false)
