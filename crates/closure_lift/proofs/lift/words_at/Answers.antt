use Rattle.std.proofs.Common.{arith, ◌<◌, ◌++◌, length, sym, ap, ◌∙◌, get_or}
use Rattle.closure_lift.specs.FreeVariables.{level_words}
use Rattle.closure_lift.proofs.Making.{words_more}
use Rattle.closure_lift.proofs.lift.words_at.Goals as goal

pub loop-level-preserved : goal.loop-level-preserved
loop-level-preserved c =
    let f = level_words c.args.variables.now.0 in
    let xs = c.as_slice-level-items.result.now in
    let i = c.loop-level.level-index in
    let lt : i < length xs = grind arith in
    c.in_ok-name_words.ensures.names ∙ ap (λ z. z ++ f (get_or xs i 0)) c.loop-level.invariant ∙ sym (words_more f xs i lt)
