use Rattle.std.proofs.Common.{refl, subst}
use Rattle.std.specs.List.{All, Any}
use Rattle.std.proofs.lemmas.List.{take_all}
use Rattle.std.proofs.lemmas.List.Elements.{All-more}
use Rattle.universe_levels.specs.declared.level.LevelExpr.{LevelExpr}
use Rattle.universe_graph.specs.Spans.{span, Covers}
use Rattle.universe_graph.proofs.hints.covers_by_hints.Goals as goal

pub returns-then-not-covers_hinted : goal.returns-then-not-covers_hinted
returns-then-not-covers_hinted c = record {
  covered = (
    λ t. cc,
    λ all. absurd (let yes = c.covers_hinted.ensures.covered.1 (all c.loop-part.part-index _ c.loop-part-test.true) in cc),
  );
}

pub loop-part-preserved : goal.loop-part-preserved
loop-part-preserved c =
    let P : LevelExpr → Type 0 = λ l. Any (Covers (span c.args.rows.now) l) c.args.high.now in
    All-more P c.args.low.now c.loop-part.part-index _ c.loop-part-test.true c.loop-part.invariant (c.covers_hinted.ensures.covered.0 c.if-not-covers_hinted.false)

pub returns : goal.returns
returns c =
    let P : LevelExpr → Type 0 = λ l. Any (Covers (span c.args.rows.now) l) c.args.high.now in
    let all : All P c.args.low.now = subst (All P) (take_all c.loop-part.part-index c.args.low.now c.loop-part-test.false) c.loop-part.invariant in
    record { covered = (λ t. all, λ _. refl) }
