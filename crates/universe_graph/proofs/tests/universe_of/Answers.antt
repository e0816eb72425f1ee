use Rattle.std.proofs.Common.{sym, subst, ap, ◌∙◌}
use Rattle.universe_levels.specs.Consistency.{IsOver}
use Rattle.universe_levels.specs.Maximum.{maximum_of}
use Rattle.universe_levels.proofs.OverLemmas.{over-maximum_of}
use Rattle.universe_graph.proofs.tests.universe_of.Goals as goal

pub returns : goal.returns
returns c =
    record { over = subst (IsOver c.args.levels) (sym (c.in_ok-universe.ensures.value ∙ ap maximum_of c.as_slice.ensures.value)) (over-maximum_of c.args.levels c.loop-pair.parts.items c.loop-pair.invariant) }
