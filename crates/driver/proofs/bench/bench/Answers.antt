use Rattle.std.proofs.Common.{◌∙◌}
use Rattle.command_line.specs.declared.job.Job.TheVariants.{Bench}
use Rattle.driver.proofs.Answering.{exit_says}
use Rattle.driver.proofs.BenchSaying.{bench_says, lines_are}
use Rattle.driver.proofs.bench.bench.Goals as goal

pub returns-in_err-executed-clause-says : goal.returns-in_err-executed-clause-says
returns-in_err-executed-clause-says g c =
    let q = c.args.request in
    let bytes = c.args.bytes.now in
    let r = c.in_err-executed.field-0.0 in
    exit_says (λ v. v.items) Bench q c.from_residual.result r bytes c.from_residual.ensures.1 (bench_says q r bytes c.in_err-executed.ensures.says)

pub returns-clause-says : goal.returns-clause-says
returns-clause-says g c =
    let x = c.in_ok-executed.executed in
    let says = c.in_ok-executed.ensures.says in
    record { answer = x.line.items; executed = says.executed; text_is = c.in_ok-lines_of.ensures.is ∙ lines_are c.args.request c.args.bytes.now x says }

pub returns-clause-told : goal.returns-clause-told
returns-clause-told g c = c.in_ok-executed.ensures.told
