use Rattle.driver.proofs.ExportSaying.{call_bytes_say}
use Rattle.driver.proofs.export.export.Goals as goal
use Rattle.module_run.proofs.CallEnding.{told_anyway}

pub returns-clause-says : goal.returns-clause-says
returns-clause-says g c = call_bytes_say c.args.request c.requires.range c.args.bytes.now c.in_ok-module.module c.in_ok-module.ensures.says (λ v. v.items) c.written.result c.written.ensures.says

pub returns-clause-told : goal.returns-clause-told
returns-clause-told g c = told_anyway c.written.result c.in_ok-module.ensures.told
