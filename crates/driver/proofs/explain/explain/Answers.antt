use Rattle.driver.proofs.Explaining.{explain_says, explain_told}
use Rattle.driver.proofs.TextCauses.{within_limits}
use Rattle.driver.proofs.explain.explain.Goals as goal

pub returns-clause-says : goal.returns-clause-says
returns-clause-says g c =
    let bytes = c.args.bytes.now in
    let e = c.in_ok-environment.environment in
    let x = c.explain_env.ensures in
    explain_says (λ v. v.items) g.R.Report.shown c.args.request bytes e c.args.reports.now.items c.explain_env.new.reports.items (within_limits bytes e c.in_ok-environment.ensures.exact) c.explain_env.result x.says x.only_memory

pub returns-clause-told : goal.returns-clause-told
returns-clause-told g c =
    let bytes = c.args.bytes.now in
    let e = c.in_ok-environment.environment in
    explain_told (λ v. v.items) g.R.Report.shown c.args.request bytes e c.args.reports.now.items c.explain_env.new.reports.items (within_limits bytes e c.in_ok-environment.ensures.exact) c.explain_env.result c.explain_env.ensures.says
