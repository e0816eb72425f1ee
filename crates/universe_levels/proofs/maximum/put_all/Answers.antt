use Rattle.std.proofs.Common.{◌+◌, drop, sym, ap, subst, ◌∙◌}
use Rattle.std.proofs.lemmas.List.{at_drop_more}
use Rattle.universe_levels.specs.Maximum.{IsRising, with_parts}
use Rattle.universe_levels.proofs.MaximumLemmas.{rising-with_part}
use Rattle.universe_levels.proofs.maximum.put_all.Goals as goal

pub loop-part-preserved : goal.loop-part-preserved
loop-part-preserved c =
    let more = c.in_ok-put.ensures.value in
    record {
      rising = subst IsRising (sym more) (rising-with_part _ c.loop-part.kept.items c.loop-part.invariant.rising);
      value =
          ap (λ ps. with_parts ps (drop (c.loop-part.part-index + 1) c.args.parts.now)) more
          ∙ sym (at_drop_more (with_parts c.loop-part.kept.items) c.args.parts.now c.loop-part.part-index _ c.loop-part-test.true) ∙ c.loop-part.invariant.value;
    }
