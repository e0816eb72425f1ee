use Rattle.std.proofs.Common.{◌∙◌}
use Rattle.driver.proofs.Explaining.{broken_says}
use Rattle.driver.proofs.explain.broken_text.Goals as goal

pub returns-clause-text : goal.returns-clause-text
returns-clause-text c =
    broken_says (λ v. v.items) c.behind_line.result c.args.raw.now c.args.place c.args.rule.now c.in_ok-told.field-0 c.number.result c.as_slice.result.now c.number.ensures.is c.in_ok-told.ensures.told
    (c.as_slice.ensures.value ∙ c.in_ok-text.ensures.text) c.behind_line.ensures.text
