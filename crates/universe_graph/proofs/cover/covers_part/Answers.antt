use Rattle.std.proofs.Common.{◌≡◌, ◌<◌, ◌≤◌, suc, [], get_or, inl, inr, sym, ◌∙◌, ap, subst, arith}
use Rattle.std.specs.List.{All}
use Rattle.std.proofs.lemmas.Bool.{cases_lt}
use Rattle.std.proofs.lemmas.Grind.{common_steps}
use Rattle.std.proofs.lemmas.List.{take_all}
use Rattle.std.proofs.lemmas.List.Elements.{All-more}
use Rattle.universe_levels.specs.declared.level.LevelExpr.{LevelExpr}
use Rattle.universe_graph.specs.Spans.{chained, span}
use Rattle.universe_graph.proofs.cover.covers_part.Goals as goal

pub loop-i-preserved : goal.loop-i-preserved
loop-i-preserved c =
    let P : LevelExpr → Type 0 = λ h. chained (suc h.add) (span c.args.rows.now c.args.part.level.0 h.level.0) ≤ c.args.part.add in
    let none : LevelExpr = record { level = record { 0 = 0 }; add = 0 } in
    let above : LevelExpr = get_or c.args.high.now c.loop-i.i none in
    let row : c.index-rows-part.result ≡ get_or c.args.rows.now c.args.part.level.0 [] = grind (arith, common_steps) in
    let at : c.span-span.result ≡ span c.args.rows.now c.args.part.level.0 above.level.0 = c.span-span.ensures.value ∙ ap (λ r. get_or r above.level.0 0) row in
    let less : P above = elim (cases_lt c.args.part.add (chained (suc above.add) (span c.args.rows.now c.args.part.level.0 above.level.0))) [
      | inl h ↦ absurd (let yes = c.is_at_most.ensures.covered.1 (subst (λ n. c.args.part.add < chained (suc above.add) n) (sym at) h) in cc)
      | inr h ↦ h
    ] in
    All-more P c.args.high.now c.loop-i.i none c.loop-i-test.true c.loop-i.invariant less

pub returns : goal.returns
returns c =
    let P : LevelExpr → Type 0 = λ h. chained (suc h.add) (span c.args.rows.now c.args.part.level.0 h.level.0) ≤ c.args.part.add in
    let none : All P c.args.high.now = subst (All P) (take_all c.loop-i.i c.args.high.now c.loop-i-test.false) c.loop-i.invariant in
    record {
      covered = (
        λ t. cc,
        λ any. absurd (
            let at : P any.1 = subst P any.3 (none any.0 any.1 any.2) in
            let above = any.4 in
            omega arith),
      );
    }
