use Rattle.std.proofs.Common.{subst, arith}
use Rattle.first_order.specs.Texts.{HasNames}
use Rattle.driver.specs.Figures.{ExecutedSays}
use Rattle.driver.proofs.ExecSaying.{figures_say, line_refused, run_refused, shared_says}
use Rattle.driver.proofs.Answering.{exit_at}
use Rattle.driver.proofs.JobTold.{of_run}
use Rattle.driver.proofs.SourceSaying.{names_there}
use Rattle.driver.proofs.exec.execute.Goals as goal

pub returns-in_err-main-clause-says : goal.returns-in_err-main-clause-says
returns-in_err-main-clause-says g c =
    let q = c.args.request in
    let bytes = c.args.bytes.now in
    let r = c.in_err-main.field-0.0 in
    exit_at (λ x. ExecutedSays q x bytes) c.from_residual.result r c.from_residual.ensures.1 (shared_says q r bytes c.in_err-main.ensures.says)

pub measured-requires : goal.measured-requires
measured-requires g c =
    let made = c.in_ok-main.ensures.says in
    let x = made.stages in
    let pages = c.requires.range.pages in
    record { range = (omega (arith, pages.0), omega (arith, pages.1)); compiled = (x.before.program, x.before.form, x.fits, made.module_is) }

pub returns-in_err-run-clause-says : goal.returns-in_err-run-clause-says
returns-in_err-run-clause-says g c =
    let q = c.args.request in
    let bytes = c.args.bytes.now in
    let r = c.in_err-run.field-0.0 in
    exit_at (λ x. ExecutedSays q x bytes) c.from_residual-in_err-run.result r c.from_residual-in_err-run.ensures.1 (run_refused q c.requires.range bytes c.in_ok-main.main c.in_ok-main.ensures.says r c.in_err-run.ensures.says)

pub line_of-requires : goal.line_of-requires
line_of-requires g c =
    let M = c.in_ok-main.main in
    let made = c.in_ok-main.ensures.says in
    let x = made.stages.before.before in
    let k = x.before in
    record { named = subst (λ hs. HasNames hs M.environment.names) made.shapes_are (names_there c.args.bytes.now M.environment k.kept k.type made.spelled k.checked x.shapes x.named) }

pub returns-in_err-line-clause-says : goal.returns-in_err-line-clause-says
returns-in_err-line-clause-says g c =
    let q = c.args.request in
    let bytes = c.args.bytes.now in
    let r = c.in_err-line.field-0.0 in
    exit_at (λ x. ExecutedSays q x bytes) c.from_residual-in_err-line.result r c.from_residual-in_err-line.ensures.1
    (line_refused q c.requires.range bytes c.in_ok-main.main c.in_ok-main.ensures.says c.in_ok-run.run' c.in_ok-run.ensures.says r c.in_err-line.ensures.says)

pub returns-clause-says : goal.returns-clause-says
returns-clause-says g c =
    figures_say c.args.request c.requires.range c.args.bytes.now c.in_ok-main.main c.in_ok-main.ensures.says c.in_ok-run.run' c.in_ok-run.ensures.says c.in_ok-run.ensures.spelled c.in_ok-line.line c.in_ok-line.ensures.says _ _ _ _ (grind arith) (grind arith) (grind arith) (grind arith)

pub returns-clause-told : goal.returns-clause-told
returns-clause-told g c = of_run g.R.Report.shown c.args.request c.args.bytes.now c.in_ok-main.main _ _ _ c.in_ok-main.ensures.says c.in_ok-main.ensures.told c.in_ok-run.ensures.told
