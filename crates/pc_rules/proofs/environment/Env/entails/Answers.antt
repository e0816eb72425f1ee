use Rattle.std.proofs.Common.{◌≡◌, subst}
use Rattle.universe_levels.specs.Consistency.{AreOver, IsSortOver}
use Rattle.pc_rules.specs.DirectedComparison.{sort_below}
use Rattle.pc_rules.specs.Entailment.{test_of}
use Rattle.calculus_rules.specs.Environment.{Env}
use Rattle.pc_rules.proofs.Entailing.{test_is}
use Rattle.pc_rules.proofs.environment.Env.entails.Goals as goal

pub returns-in-Of-Of-clause-test : goal.returns-in-Of-Of-clause-test
returns-in-Of-Of-clause-test c =
    let E : Env = record { levels = c.self.inside.graph.levels; constraints = c.self.inside.graph.constraints; declarations = c.self.inside.declarations } in
    let Fact : Env → Type 0 = λ E. AreOver E.levels E.constraints → IsSortOver E.levels c.args.low.now → IsSortOver E.levels c.args.high.now →
    c.entails.result ≡ sort_below (test_of E) c.args.low.now c.args.high.now in
    let inside : Fact E = λ over low high.
    let lo = rw c.in-Of-Of.is-0 at low in
    let hi = rw c.in-Of-Of.is-1 at high in
    rw (c.in-Of-Of.is-0, c.in-Of-Of.is-1) (test_is E.levels E.constraints c.self.invariant over _ _ c.parts.ensures.normal.0 lo hi c.entails.result c.entails.ensures.entailed) in
    subst Fact c.self.view_is inside c.requires.over c.requires.low_over c.requires.high_over
