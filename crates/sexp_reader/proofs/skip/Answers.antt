use Rattle.std.proofs.Common.{false, arith, ◌∙◌, sym}
use Rattle.sexp_reader.proofs.Steps.{comment_begins, blank_is_passed, lex-end}
use Rattle.sexp_reader.proofs.skip.Goals as goal

pub loop-at-preserved-then-b-eq59 : goal.loop-at-preserved-then-b-eq59
loop-at-preserved-then-b-eq59 c = (
  c.comment_end-at.ensures.within.1,
  c.loop-at.invariant.1 ∙ comment_begins c.args.bytes.now c.loop-at.at c.loop-at-test.true c.if-b-eq59.true ∙ c.comment_end-at.ensures.same,
)

pub loop-at-preserved : goal.loop-at-preserved
loop-at-preserved c = (
  omega arith,
  c.loop-at.invariant.1 ∙ blank_is_passed c.args.bytes.now c.loop-at.at c.loop-at-test.true c.if-b-eq59.false (sym c.is_blank.ensures.blank ∙ c.if-is_blank.true),
)

pub returns-clause-same : goal.returns-clause-same
returns-clause-same c = c.loop-at.invariant.1 ∙ lex-end c.loop-at.at false c.args.bytes.now c.loop-at-test.false ∙ sym (lex-end c.loop-at.at false c.args.bytes.now c.loop-at-test.false)
