use Rattle.std.proofs.Common.{◌≡◌, ℕ, ◌+◌, ◌<◌, ◌≤◌, Bool, true, false, List, length, get_or, set, inl, inr, subst, sym, ◌∙◌, arith}
use Rattle.std.proofs.lemmas.Bool.{cases_eq}
use Rattle.std.proofs.lemmas.Grind.{common_steps}
use Rattle.std.proofs.lemmas.List.{get_or-set_same, get_or-set_other}
use Rattle.universe_levels.specs.declared.constraint.Constraint.{Constraint}
use Rattle.universe_graph.specs.Listed.{MeetsAt}
use Rattle.universe_graph.proofs.clash.retrace.Goals as goal

-- what is marked stays so, and so does the new place
before : (v : ℕ → ℕ) (cs : List Constraint) (marks : List Bool) (i : ℕ) → i < length marks
    → ((k : ℕ) → k < length (set marks i true) → get_or (set marks i true) k false ≡ true → MeetsAt v cs k)
    → ((k : ℕ) → k < length marks → get_or marks k false ≡ true → MeetsAt v cs k) × MeetsAt v cs i
before v cs marks i inside met =
    let long : length (set marks i true) ≡ length marks = grind (arith, common_steps) in
    let here : MeetsAt v cs i = met i (omega arith) (get_or-set_same marks i true false inside) in (
      λ k h t. elim (cases_eq k i) [
        | inl e ↦ subst (MeetsAt v cs) (sym e) here
        | inr n ↦ met k (omega arith) (get_or-set_other marks i k true false n ∙ t)
      ],
      here,
    )

pub returns-then-cannot_be-clause-clashing : goal.returns-then-cannot_be-clause-clashing
returns-then-cannot_be-clause-clashing c v valuation met =
    let known = before v c.args.constraints.now c.loop-i.used.items c.in-Some.place (omega (arith, c.in-Some.ensures.place, c.loop-i.invariant.as_long)) met in
    let step : v c.in-Some.step.from.0 + c.in-Some.step.more ≤ v c.loop-i.level = c.in-Some.ensures.meaning v known.1 in
    let back : v c.loop-i.level + c.loop-i.gain ≤ v c.turning_point-start.result = c.loop-i.invariant.follows v known.0 in
    c.cannot_be.ensures.sound c.args.levels v (c.in-Some.ensures.from c.args.levels c.requires.over) c.if-cannot_be.true valuation (omega arith)

pub loop-i-preserved : goal.loop-i-preserved
loop-i-preserved c = record {
  start = c.loop-i.invariant.start;
  level = c.in-Some.ensures.from c.args.levels c.requires.over;
  gain = omega (arith, c.loop-i.invariant.gain, c.in-Some.ensures.more);
  as_long = let same : length (set c.loop-i.used.items c.in-Some.place true) ≡ length c.loop-i.used.items = grind (arith, common_steps) in same ∙ c.loop-i.invariant.as_long;
  follows = λ v met.
      let known = before v c.args.constraints.now c.loop-i.used.items c.in-Some.place (omega (arith, c.in-Some.ensures.place, c.loop-i.invariant.as_long)) met in
      let step : v c.in-Some.step.from.0 + c.in-Some.step.more ≤ v c.loop-i.level = c.in-Some.ensures.meaning v known.1 in
      let back : v c.loop-i.level + c.loop-i.gain ≤ v c.turning_point-start.result = c.loop-i.invariant.follows v known.0 in
      omega arith;
}
