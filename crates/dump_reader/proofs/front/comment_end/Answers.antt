use Rattle.std.proofs.Common.{true, false, sym, ◌∙◌, arith}
use Rattle.sexp_reader.proofs.Steps.{lex-end}
use Rattle.dump_reader.proofs.Counting.{in_comment, comment_behind}
use Rattle.dump_reader.proofs.front.comment_end.Goals as goal

pub returns-then-bytes-at-eq10-clause-same : goal.returns-then-bytes-at-eq10-clause-same
returns-then-bytes-at-eq10-clause-same c = c.loop-at.invariant.2 ∙ comment_behind c.args.bytes.now c.loop-at.at c.loop-at-test.true c.if-bytes-at-eq10.true

pub loop-at-preserved : goal.loop-at-preserved
loop-at-preserved c = (omega arith, omega arith, c.loop-at.invariant.2 ∙ in_comment c.args.bytes.now c.loop-at.at c.loop-at-test.true c.if-bytes-at-eq10.false)

pub returns-clause-same : goal.returns-clause-same
returns-clause-same c = c.loop-at.invariant.2 ∙ lex-end c.loop-at.at true c.args.bytes.now c.loop-at-test.false ∙ sym (lex-end c.loop-at.at false c.args.bytes.now c.loop-at-test.false)
