use Rattle.std.proofs.Common.{◌≡◌, ◌+◌, map, subst, ap, sym, ◌∙◌, arith}
use Rattle.std.proofs.lemmas.Grind.{common_steps}
use Rattle.universe_levels.specs.Maximum.{IsNormal}
use Rattle.universe_levels.specs.Parts.{raised}
use Rattle.universe_levels.specs.Valuation.{value_of}
use Rattle.universe_levels.proofs.Raising.{normal-raised, value_of-raised}
use Rattle.universe_levels.proofs.universe.Universe.raise.Goals as goal

pub invariant_of-result : goal.invariant_of-result
invariant_of-result c =
    let whole : c.loop-part.parts.items ≡ map raised c.self.inside.parts.items = grind (arith, common_steps, c.loop-part.invariant) in
    subst IsNormal (sym whole) (normal-raised c.self.inside.parts.items c.self.invariant)

pub returns-clause-meaning : goal.returns-clause-meaning
returns-clause-meaning c v =
    let whole : c.loop-part.parts.items ≡ map raised c.self.inside.parts.items = grind (arith, common_steps, c.loop-part.invariant) in
    ap (value_of v) whole ∙ value_of-raised v c.self.inside.parts.items c.self.invariant.0 ∙ ap (λ ps. value_of v ps + 1) c.self.view_is
