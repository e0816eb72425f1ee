use Rattle.std.proofs.Common.{◌≡◌, ℕ, ◌+◌, ◌≤◌, [], length, get_or, ap, ◌∙◌, arith}
use Rattle.std.proofs.lemmas.Grind.{common_steps}
use Rattle.universe_graph.specs.Spans.{span}
use Rattle.universe_graph.specs.Closure.{Follows}
use Rattle.universe_graph.proofs.ClosingLemmas.{follows-through, follows-same, closed-step, closed-same, bounded-span, no-loop}
use Rattle.universe_graph.proofs.closing.close.Goals as goal

pub returns-then-span-gt1-clause-clash : goal.returns-then-span-gt1-clause-clash
returns-then-span-gt1-clause-clash c v follows small =
    let row : c.index-row.result.now ≡ get_or c.loop-level.rows.items c.loop-level.level [] = grind (arith, common_steps) in
    let at : c.span.result ≡ span c.loop-level.rows.items c.loop-level.level c.loop-level.level = c.span.ensures.value ∙ ap (λ r. get_or r c.loop-level.level 0) row in
    no-loop (v c.loop-level.level) _ (c.loop-level.invariant.follows v follows c.loop-level.level c.loop-level.level) (omega arith)

pub returns-then-go_through-limit-clause-follows : goal.returns-then-go_through-limit-clause-follows
returns-then-go_through-limit-clause-follows c v follows =
    follows-same v _ _ c.go_through.ensures.value (follows-through v _ c.loop-level.level (c.loop-level.invariant.follows v follows))

pub returns-then-go_through-limit-clause-clash : goal.returns-then-go_through-limit-clause-clash
returns-then-go_through-limit-clause-clash c v follows small =
    let new : Follows v (span c.go_through.new.rows.items) =
    follows-same v _ _ c.go_through.ensures.value (follows-through v _ c.loop-level.level (c.loop-level.invariant.follows v follows)) in
    let within = c.go_through.ensures.within.1 (λ i j.
    let b = bounded-span (c.args.levels + 1) (v i) (v j) (span c.go_through.new.rows.items i j) (new i j) (small j) in omega arith) in
    omega arith

pub loop-level-preserved : goal.loop-level-preserved
loop-level-preserved c =
    let old = c.loop-level.invariant in
    let row : c.index-row.result.now ≡ get_or c.loop-level.rows.items c.loop-level.level [] = grind (arith, common_steps) in
    let at : c.span.result ≡ span c.loop-level.rows.items c.loop-level.level c.loop-level.level = c.span.ensures.value ∙ ap (λ r. get_or r c.loop-level.level 0) row in
    let unit : span c.loop-level.rows.items c.loop-level.level c.loop-level.level ≡ 1 = omega (arith, old.itself c.loop-level.level (omega arith)) in
    let more : (i j : ℕ) → span c.loop-level.rows.items i j ≤ span c.go_through.new.rows.items i j = λ i j. omega (arith, c.go_through.ensures.value i j) in
    record {
      limit = old.limit;
      height = c.go_through.ensures.height ∙ old.height;
      next = ap length c.copy_from.ensures.value ∙ ap length row ∙ old.square c.loop-level.level [] (omega (arith, old.height)) ∙ old.height;
      square = c.go_through.ensures.square;
      itself = λ i h. omega (arith, more i i, old.itself i h);
      more = λ i j. omega (arith, more i j, old.more i j);
      follows = λ v f. follows-same v _ _ c.go_through.ensures.value (follows-through v _ c.loop-level.level (old.follows v f));
      closed = λ m h. closed-same c.args.levels _ _ m c.go_through.ensures.value
          (closed-step c.args.levels (span c.loop-level.rows.items) c.loop-level.level (omega arith) unit old.closed m h);
      within = c.go_through.ensures.within.0 (omega arith);
    }
