use Rattle.std.proofs.Common.{ℕ, suc, ◌≤◌, ◌<◌, inl, inr, ◌≡◌, subst, sym, ◌∙◌, arith}
use Rattle.std.proofs.lemmas.Bool.{cases_lt}
use Rattle.universe_graph.specs.Spans.{span}
use Rattle.universe_graph.proofs.Chains.{chained-sum}
use Rattle.universe_graph.proofs.Tables.{offered-more, offered-least, offered-within, offered-follows}
use Rattle.universe_graph.proofs.steps.add_declared_steps.Goals as goal

pub loop-level-preserved : goal.loop-level-preserved
loop-level-preserved c =
    let o = c.offer.ensures.spans in
    let more : (i j : ℕ) → span c.loop-level.rows.items i j ≤ span c.offer.new.rows.items i j = offered-more _ _ _ _ _ o in
    record {
      height = c.offer.ensures.height ∙ c.loop-level.invariant.height;
      square = c.offer.ensures.square;
      more = λ i j. omega (arith, more i j, c.loop-level.invariant.more i j);
      steps = λ k l h. elim (cases_lt k c.loop-level.level) [
        | inl b ↦ omega (arith, more 0 k, c.loop-level.invariant.steps k l b)
        | inr b ↦
            let same : k ≡ c.loop-level.level = omega arith in
            subst (λ n. 2 ≤ span c.offer.new.rows.items 0 n) (sym same) (offered-least _ _ _ _ _ o)
      ];
      follows = λ v rises f.
          let up : v 0 < v c.loop-level.level = rises c.loop-level.level (omega arith) (omega arith) in
          offered-follows v _ _ _ _ _ o (omega (arith, chained-sum (suc (v 0)) 2 (omega arith) (omega arith))) (c.loop-level.invariant.follows v rises f);
      small = λ h. offered-within _ _ _ _ _ 2 o (omega arith) (c.loop-level.invariant.small h);
    }
