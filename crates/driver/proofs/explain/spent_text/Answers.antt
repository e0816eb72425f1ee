use Rattle.std.proofs.Common.{◌≡◌, ◌-◌, ◌∙◌, ap}
use Rattle.explanations.specs.Explanation.{explain_spent}
use Rattle.driver.specs.declared.refusal.Refusal.TheVariants as refusals
use Rattle.driver.specs.Lines.{line_of}
use Rattle.driver.proofs.Explaining.{behind_as}
use Rattle.driver.proofs.explain.spent_text.Goals as goal

pub returns-clause-text : goal.returns-clause-text
returns-clause-text c =
    let u = c.args.before.now in
    let taken : c.saturating_sub-taken.result ≡ c.args.turns - u.left = c.saturating_sub-taken.ensures ∙ ap (λ n. n - u.left) c.from.ensures in
    behind_as (λ v. v.items) c.behind_line.result (line_of refusals.TurnsSpent) c.as_slice.result.now (explain_spent c.args.raw.now (c.args.turns - u.left) c.args.place u)
    (c.as_slice.ensures.value ∙ c.in_ok-text.ensures.text ∙ ap (λ n. explain_spent c.args.raw.now n c.args.place u) taken) c.behind_line.ensures.text
