use Rattle.std.proofs.Common.{◌≡◌, ℕ, ◌<◌, ◌≤◌, max, List, inl, inr, get_or, set, length, below_more, ap, sym, ◌∙◌, arith}
use Rattle.std.proofs.lemmas.Grind.{common_steps}
use Rattle.std.proofs.lemmas.Bool.{cases_lt}
use Rattle.universe_graph.specs.Spans.{chained}
use Rattle.universe_graph.proofs.Chains.{chained-zero, chained-sum}
use Rattle.universe_graph.proofs.row.lengthen.Goals as goal
use Rattle.universe_graph.proofs.row.lengthen.Goals.{then-on-eq0, else-on-eq0}

written : (xs : List ℕ) (j n k : ℕ) → k < j → get_or (set xs j n) k 0 ≡ get_or xs k 0
written xs j n k h = grind (arith, common_steps)

pub loop-j-preserved : goal.loop-j-preserved
loop-j-preserved c =
    let chain : c.if-on-eq0.chain ≡ chained c.args.by (get_or c.args.next.now c.loop-j.j 0) =
    elim c.if-on-eq0.branch [
      | then-on-eq0 w ↦ w.chain-is ∙ sym (chained-zero c.args.by) ∙ ap (chained c.args.by) (sym w.if-on-eq0.true)
      | else-on-eq0 w ↦ omega (arith, chained-sum c.args.by (get_or c.args.next.now c.loop-j.j 0) (omega arith) (omega (arith, w.if-on-eq0.false)), w.chain-is)
    ] in
    let before : get_or c.loop-j.spans c.loop-j.j 0 ≡ get_or c.args.spans.now c.loop-j.j 0 = c.loop-j.invariant.rest c.loop-j.j (omega arith) in
    let here : c.max-most.result ≡ max (get_or c.args.spans.now c.loop-j.j 0) (chained c.args.by (get_or c.args.next.now c.loop-j.j 0)) = omega (arith, c.max-most.ensures) in
    let length_is : c.loop-j.j < length c.loop-j.spans = omega (arith, c.loop-j.auto.spans) in
    let at : get_or (set c.loop-j.spans c.loop-j.j c.max-most.result) c.loop-j.j 0 ≡ c.max-most.result = grind (arith, common_steps) in
    record {
      done = below_more _ _ (λ k h. written c.loop-j.spans c.loop-j.j c.max-most.result k h ∙ c.loop-j.invariant.done k h) (at ∙ here);
      rest = λ k h. let kept : get_or (set c.loop-j.spans c.loop-j.j c.max-most.result) k 0 ≡ get_or c.loop-j.spans k 0 = grind (arith, common_steps) in
          kept ∙ c.loop-j.invariant.rest k (omega arith);
      bound = below_more _ _ (λ k h. let kept = written c.loop-j.spans c.loop-j.j c.max-most.result k h in omega (arith, c.loop-j.invariant.bound k h)) (omega arith);
      least = λ n all.
          let before : c.loop-j.largest ≤ n = c.loop-j.invariant.least n (λ k h. let kept = written c.loop-j.spans c.loop-j.j c.max-most.result k h in omega (arith, all k (omega arith))) in
          omega (arith, all c.loop-j.j (omega arith));
    }

pub returns-clause-bound : goal.returns-clause-bound
returns-clause-bound c j =
    elim (cases_lt j (length c.loop-j.spans)) [
      | inl h ↦ c.loop-j.invariant.bound j (omega (arith, c.loop-j.auto.spans))
      | inr h ↦ let none : get_or c.loop-j.spans j 0 ≡ 0 = grind (arith, common_steps) in omega arith
    ]

pub returns-clause-least : goal.returns-clause-least
returns-clause-least c n all = c.loop-j.invariant.least n (λ k h. all k)
