use Rattle.std.proofs.Common.{◌-◌, length, get_or, sym, ap, ◌∙◌}
use Rattle.std.specs.Prelude.{nat_lt}
use Rattle.anf_convert.specs.Captured.{add_word, captured}
use Rattle.closure_lift.proofs.Backwards.{back_step}
use Rattle.closure_lift.proofs.words.captured_words.Goals as goal

pub loop-past-preserved : goal.loop-past-preserved
loop-past-preserved c =
    let xs = c.args.names.now in
    let p = c.loop-past.past in
    let x = get_or xs (length xs - 1 - p) 0 in
    record {
      found = c.in_ok-add.ensures.is ∙ ap (add_word (nat_lt x c.args.outside) x) c.loop-past.invariant.found ∙ ap (captured c.args.outside) (sym (back_step xs p 0 c.loop-past-test.true));
      kept = c.in_ok-add.ensures.same;
    }
