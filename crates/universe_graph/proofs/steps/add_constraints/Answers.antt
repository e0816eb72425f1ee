use Rattle.std.proofs.Common.{subst, ◌∙◌, arith}
use Rattle.std.proofs.lemmas.List.{take_all}
use Rattle.std.proofs.lemmas.List.Elements.{All-more, All-weaker}
use Rattle.std.specs.List.{All}
use Rattle.universe_levels.specs.declared.constraint.Constraint.{Constraint}
use Rattle.universe_graph.specs.Spans.{span}
use Rattle.universe_graph.specs.Closure.{StepsIn}
use Rattle.universe_graph.proofs.ClosingLemmas.{steps-more}
use Rattle.universe_graph.proofs.steps.add_constraints.Goals as goal

pub loop-constraint-preserved : goal.loop-constraint-preserved
loop-constraint-preserved c =
    let new = c.add_constraint.ensures in
    let old = c.loop-constraint.invariant in
    let Held : Constraint → Type 0 = λ k. StepsIn (span c.add_constraint.new.rows.items) k.relation k.left.0 k.right.0 in
    record {
      height = new.height ∙ old.height;
      square = new.square;
      more = λ i j. omega (arith, new.more i j, old.more i j);
      steps = All-more Held c.args.constraints.now c.loop-constraint.constraint-index _ c.loop-constraint-test.true
          (All-weaker _ Held (λ k h. steps-more _ _ new.more k.relation k.left.0 k.right.0 h) _ old.steps) new.steps;
      follows = λ v all f. new.follows v (all c.loop-constraint.constraint-index _ c.loop-constraint-test.true) (old.follows v all f);
      small = λ h. new.small (old.small h);
    }

pub returns-clause-steps : goal.returns-clause-steps
returns-clause-steps c =
    let Held : Constraint → Type 0 = λ k. StepsIn (span c.loop-constraint.rows.items) k.relation k.left.0 k.right.0 in
    subst (All Held) (take_all c.loop-constraint.constraint-index c.args.constraints.now c.loop-constraint-test.false) c.loop-constraint.invariant.steps
