use Rattle.std.proofs.Common.{ℕ, suc, ◌≤◌, below_more, ◌∙◌, arith}
use Rattle.universe_graph.specs.Spans.{span}
use Rattle.universe_graph.proofs.Chains.{chained-one}
use Rattle.universe_graph.proofs.Tables.{offered-more, offered-least, offered-within, offered-follows}
use Rattle.universe_graph.proofs.steps.add_own_steps.Goals as goal

pub loop-i-preserved : goal.loop-i-preserved
loop-i-preserved c =
    let o = c.offer.ensures.spans in
    let more : (i j : ℕ) → span c.loop-i.rows.items i j ≤ span c.offer.new.rows.items i j = offered-more _ _ _ _ _ o in
    record {
      height = c.offer.ensures.height ∙ c.loop-i.invariant.height;
      square = c.offer.ensures.square;
      more = λ i j. omega (arith, more i j, c.loop-i.invariant.more i j);
      steps = below_more _ _ (λ k h. omega (arith, more k k, c.loop-i.invariant.steps k h)) (offered-least _ _ _ _ _ o);
      follows = λ v f. offered-follows v _ _ _ _ _ o (omega (arith, chained-one (suc (v c.loop-i.i)))) (c.loop-i.invariant.follows v f);
      small = λ h. offered-within _ _ _ _ _ 2 o (omega arith) (c.loop-i.invariant.small h);
    }
