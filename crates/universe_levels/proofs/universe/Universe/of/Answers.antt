use Rattle.std.proofs.Common.{◌≡◌, ◌≢◌, [], length, ap, subst, sym, ◌∙◌, arith}
use Rattle.std.proofs.lemmas.Bool.Decides.{nat_tests}
use Rattle.universe_levels.specs.Maximum.{IsNormal, with_parts, maximum_of}
use Rattle.universe_levels.specs.Valuation.{value_of}
use Rattle.universe_levels.proofs.MaximumLemmas.{maximum_of-normal, value_of-with_parts}
use Rattle.universe_levels.proofs.universe.Universe.of.Goals as goal

pub invariant_of-result : goal.invariant_of-result
invariant_of-result c =
    let whole : c.put_all.new.kept.items ≡ maximum_of c.args.parts.now =
    c.in_ok-put_all.ensures.value ∙ ap (λ ps. with_parts ps c.args.parts.now) c.new-kept.ensures.items in
    let some : c.args.parts.now ≢ [] = λ e. let none : length c.args.parts.now ≡ 0 = ap length e in absurd (grind (arith, nat_tests, c.if-is_empty.ensures)) in
    subst IsNormal (sym whole) (maximum_of-normal c.args.parts.now some)

pub returns-clause-meaning : goal.returns-clause-meaning
returns-clause-meaning c v =
    let whole : c.put_all.new.kept.items ≡ maximum_of c.args.parts.now =
    c.in_ok-put_all.ensures.value ∙ ap (λ ps. with_parts ps c.args.parts.now) c.new-kept.ensures.items in
    ap (value_of v) whole ∙ value_of-with_parts v [] c.args.parts.now ∙ omega arith
