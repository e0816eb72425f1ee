use Rattle.std.proofs.Common.{◌≡◌, ℕ, suc, ◌+◌, ◌<◌, ◌≤◌, length, ap, subst, sym, ◌∙◌, arith}
use Rattle.std.proofs.lemmas.Grind.{common_steps}
use Rattle.universe_graph.specs.Spans.{chained, span}
use Rattle.universe_graph.specs.Closure.{Follows}
use Rattle.universe_graph.proofs.Chains.{chained-zero}
use Rattle.universe_graph.proofs.Tables.{span-blank}
use Rattle.universe_graph.proofs.steps.steps.Goals as goal

pub returns : goal.returns
returns c =
    let own = c.add_own_steps.ensures in
    let declared = c.add_declared_steps.ensures in
    let whole = c.add_constraints.ensures in
    let width : ℕ = c.args.levels + 1 in
    let blank = c.in_ok-rows.ensures.value in
    let none : (i j : ℕ) → span c.in_ok-rows.rows.items i j ≡ 0 = λ i j. ap (λ rows. span rows i j) blank ∙ span-blank _ i j in
    let wide : length c.in_ok-rows.rows.items ≡ c.args.levels + 1 = ap length blank ∙ grind (arith, common_steps) in
    let height_own : length c.add_own_steps.new.rows.items ≡ c.args.levels + 1 = own.height ∙ wide in
    let height_declared : length c.add_declared_steps.new.rows.items ≡ c.args.levels + 1 = declared.height ∙ height_own in
    record {
      value = record {
        height = whole.height ∙ height_declared;
        square = whole.square;
        steps = record {
          itself = λ i h.
              let one : 1 ≤ span c.add_own_steps.new.rows.items i i = own.steps i (omega (arith, wide)) in
              omega (arith, declared.more i i, whole.more i i);
          declared = λ l h k.
              let two : 2 ≤ span c.add_declared_steps.new.rows.items 0 l = declared.steps l h (omega (arith, height_own)) in
              omega (arith, whole.more 0 l);
          constraints = whole.steps;
        };
        sound = λ v solves.
            let rises : (l : ℕ) → 1 ≤ l → l < length c.add_own_steps.new.rows.items → v 0 < v l =
            λ l h k. omega (arith, solves.valuation.set, solves.valuation.declared l h (omega (arith, height_own))) in
            let start : Follows v (span c.in_ok-rows.rows.items) =
            λ i j. subst (λ n. chained (suc (v i)) n ≤ suc (v j)) (sym (none i j)) (omega (arith, chained-zero (suc (v i)))) in
            whole.follows v solves.meets (declared.follows v rises (own.follows v start));
        small = whole.small (declared.small (own.small (λ i j. omega (arith, none i j))));
      };
    }
