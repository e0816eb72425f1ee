use Rattle.std.proofs.Common.{arith, ◌∙◌, sym}
use Rattle.sexp_reader.proofs.Steps.{lex-in_comment, lex-comment, lex-blank, lex-end}
use Rattle.cert_text.proofs.scan.skip.Goals as goal
use Rattle.cert_text.proofs.scan.skip.Goals.{then-in_comment, else-in_comment+then-b-eq59, else-in_comment+else-b-eq59+else-not-is_blank}

pub loop-at-preserved : goal.loop-at-preserved
loop-at-preserved c = (
  omega arith,
  omega arith,
  c.loop-at.invariant.2 ∙ elim c.if-in_comment.branch [
    | then-in_comment w ↦ lex-in_comment _ _ _ _ c.loop-at-test.true w.if-in_comment.true w.in_comment-is
    | else-in_comment+then-b-eq59 w ↦ lex-comment _ _ _ _ c.loop-at-test.true w.if-in_comment.false w.if-b-eq59.true w.in_comment-is
    | else-in_comment+else-b-eq59+else-not-is_blank w ↦ lex-blank _ _ _ _ c.loop-at-test.true w.if-in_comment.false w.if-b-eq59.false (sym w.is_blank.ensures.blank ∙ w.if-not-is_blank.false) w.in_comment-is
  ],
)

pub returns-clause-same : goal.returns-clause-same
returns-clause-same c = c.loop-at.invariant.2 ∙ lex-end c.loop-at.at c.loop-at.in_comment c.args.bytes.now c.loop-at-test.false ∙ sym (lex-end c.loop-at.at _ c.args.bytes.now c.loop-at-test.false)
