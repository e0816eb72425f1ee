use Rattle.std.proofs.Common.{◌≡◌, ◌++◌, max, ap, subst, sym, ◌∙◌}
use Rattle.universe_levels.specs.Maximum.{IsNormal, maximum_of}
use Rattle.universe_levels.specs.Valuation.{value_of}
use Rattle.universe_levels.proofs.MaximumLemmas.{rising-with_parts, with_parts-some, maximum_of-append, value_of-with_parts}
use Rattle.universe_levels.proofs.universe.Universe.join.Goals as goal

pub invariant_of-result : goal.invariant_of-result
invariant_of-result c =
    let normal : IsNormal c.kept.inside.parts.items = c.kept.invariant in
    subst IsNormal (sym c.in_ok-put_all.ensures.value) (with_parts-some c.kept.inside.parts.items c.as_slice.result.now normal.0, rising-with_parts c.kept.inside.parts.items c.as_slice.result.now normal.1)

pub returns-clause-value : goal.returns-clause-value
returns-clause-value c =
    let normal : IsNormal c.kept.inside.parts.items = c.kept.invariant in
    let first : c.kept.inside.parts.items ≡ c.args.self.now = c.kept.view_is ∙ c.in_ok-kept.ensures.value in
    let second : c.as_slice.result.now ≡ c.args.other.now = c.as_slice.ensures.value ∙ c.other.view_is in
    c.in_ok-put_all.ensures.value ∙ maximum_of-append c.kept.inside.parts.items c.as_slice.result.now normal.1 ∙ ap (λ ps. maximum_of (ps ++ c.as_slice.result.now)) first
    ∙ ap (λ ps. maximum_of (c.args.self.now ++ ps)) second

pub returns-clause-meaning : goal.returns-clause-meaning
returns-clause-meaning c v =
    let first : c.kept.inside.parts.items ≡ c.args.self.now = c.kept.view_is ∙ c.in_ok-kept.ensures.value in
    let second : c.as_slice.result.now ≡ c.args.other.now = c.as_slice.ensures.value ∙ c.other.view_is in
    ap (value_of v) c.in_ok-put_all.ensures.value ∙ value_of-with_parts v c.kept.inside.parts.items c.as_slice.result.now ∙ ap (λ ps. max (value_of v ps) (value_of v c.as_slice.result.now)) first
    ∙ ap (λ ps. max (value_of v c.args.self.now) (value_of v ps)) second
