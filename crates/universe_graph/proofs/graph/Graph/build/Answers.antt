use Rattle.std.proofs.Common.{subst, sym}
use Rattle.universe_graph.specs.Spans.{span}
use Rattle.universe_graph.specs.Listed.{Clashes}
use Rattle.universe_graph.proofs.ClosingLemmas.{has_steps-more}
use Rattle.universe_graph.proofs.Ranks.{ranked, ranked-le, ranked-solves}
use Rattle.universe_graph.proofs.Refuting.{closed-consistent}
use Rattle.universe_graph.proofs.graph.Graph.build.Goals as goal

pub clash-requires-clause-inconsistent : goal.clash-requires-clause-inconsistent
clash-requires-clause-inconsistent c v solves =
    let begins = c.in_ok-rows.ensures.value in
    let stuck = rw c.if-not-closed.true at c.in_ok-closed.ensures.clash in
    stuck (ranked c.args.levels v) (begins.sound (ranked c.args.levels v) (ranked-solves c.args.levels c.args.constraints.now v c.requires.over solves)) (ranked-le c.args.levels v)

pub returns-then-not-closed-clause-cycle : goal.returns-then-not-closed-clause-cycle
returns-then-not-closed-clause-cycle c =
    let begins = c.in_ok-rows.ensures.value in
    let stuck = rw c.if-not-closed.true at c.in_ok-closed.ensures.clash in (
      subst (Clashes c.args.levels c.args.constraints.now) (sym c.of.ensures.is) c.in_ok-places.ensures.value,
      λ found. stuck (ranked c.args.levels found.0)
          (begins.sound (ranked c.args.levels found.0) (ranked-solves c.args.levels c.args.constraints.now found.0 c.requires.over found.1)) (ranked-le c.args.levels found.0),
    )

pub returns-clause-consistent : goal.returns-clause-consistent
returns-clause-consistent c =
    let begins = c.in_ok-rows.ensures.value in
    let closed = rw c.if-not-closed.false at c.in_ok-closed.ensures.closed in
    closed-consistent c.args.levels c.args.constraints.now (span c.close.new.rows.items) c.requires.over (record {
      sound = λ v solves. c.in_ok-closed.ensures.follows v (begins.sound v solves);
      steps = has_steps-more c.args.levels c.args.constraints.now _ _ c.in_ok-closed.ensures.more begins.steps;
      closed = closed;
    })
