use Rattle.std.proofs.Common.{◌∙◌}
use Rattle.explanations.specs.Explanation.{explain_deep}
use Rattle.driver.specs.declared.refusal.Refusal.TheVariants as refusals
use Rattle.driver.specs.Lines.{line_of}
use Rattle.driver.proofs.Explaining.{behind_as}
use Rattle.driver.proofs.explain.deep_text.Goals as goal

pub returns-clause-text : goal.returns-clause-text
returns-clause-text c =
    behind_as (λ v. v.items) c.behind_line.result (line_of refusals.Depth) c.as_slice.result.now (explain_deep c.args.raw.now c.args.place) (c.as_slice.ensures.value ∙ c.in_ok-text.ensures.text) c.behind_line.ensures.text
