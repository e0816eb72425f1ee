use Rattle.std.proofs.Common.{Err, subst, arith}
use Rattle.command_line.specs.declared.job.Job.TheVariants.{Export}
use Rattle.driver.specs.ExecEnds.{ErasureSays}
use Rattle.driver.specs.Exported.{by_signature, by_erasure}
use Rattle.driver.specs.ExportSays.{CallModuleSays}
use Rattle.driver.proofs.Answering.{cause_of, checked_says, exit_at}
use Rattle.driver.proofs.MadeSaying.{accepting}
use Rattle.driver.proofs.ExportSaying.{signing, call_erasing, export_says, passes_say, takes_some}
use Rattle.driver.proofs.JobTold.{of_account}
use Rattle.driver.proofs.TextCauses.{within_limits}
use Rattle.driver.proofs.export.call_module.Goals as goal
use Rattle.module_run.proofs.CallEnding.{told_anyway}

pub returns-in_err-accepted-clause-says : goal.returns-in_err-accepted-clause-says
returns-in_err-accepted-clause-says g c =
    let q = c.args.request in
    let e = c.in_ok-environment.environment in
    let bytes = c.args.bytes.now in
    let s = within_limits bytes e c.in_ok-environment.ensures.exact in
    let r = c.in_err-accepted.field-0.0 in
    exit_at (λ x. CallModuleSays q x bytes) c.from_residual-in_err-accepted.result r c.from_residual-in_err-accepted.ensures.1 (checked_says Export q r bytes e s tt (cause_of q.turns r e c.in_err-accepted.ensures.says))

pub returns-in_err-signature-clause-says : goal.returns-in_err-signature-clause-says
returns-in_err-signature-clause-says g c =
    let q = c.args.request in
    let e = c.in_ok-environment.environment in
    let bytes = c.args.bytes.now in
    let s = within_limits bytes e c.in_ok-environment.ensures.exact in
    let a = c.in_ok-accepted.accepted in
    let known = c.in_ok-accepted.ensures.says in
    let u = c.accept_within.new.meter.account in
    let r = c.in_err-signature.field-0.0 in
    exit_at (λ x. CallModuleSays q x bytes) c.from_residual-in_err-signature.result r c.from_residual-in_err-signature.ensures.1
    (export_says q r bytes e s (by_signature (accepting q e a.env a.main a.main_type u known.0 known.1 known.2) c.signature_of.new.m.account c.in_err-signature.ensures.says))

pub erased-requires-clause-checked : goal.erased-requires-clause-checked
erased-requires-clause-checked g c = c.in_ok-accepted.ensures.says.2

pub erased-requires-clause-main : goal.erased-requires-clause-main
erased-requires-clause-main g c = c.in_ok-accepted.ensures.says.1

pub returns-in_err-program-clause-says : goal.returns-in_err-program-clause-says
returns-in_err-program-clause-says g c =
    let q = c.args.request in
    let e = c.in_ok-environment.environment in
    let bytes = c.args.bytes.now in
    let s = within_limits bytes e c.in_ok-environment.ensures.exact in
    let a = c.in_ok-accepted.accepted in
    let known = c.in_ok-accepted.ensures.says in
    let u = c.accept_within.new.meter.account in
    let v = c.signature_of.new.m.account in
    let w = c.erased.new.m.account in
    let f = c.in_ok-signature.ensures in
    let there = signing q e a.env a.main a.main_type u known.0 known.1 known.2 c.in_ok-signature.signature f.is f.takes f.few f.named v f.says in
    let r = c.in_err-program.field-0.0 in
    exit_at (λ x. CallModuleSays q x bytes) c.from_residual-in_err-program.result r c.from_residual-in_err-program.ensures.1
    (export_says q r bytes e s (by_erasure there w (subst (λ t. ErasureSays e a.env t v (Err r) w) known.1 c.in_err-program.ensures.says)))

pub call_compiled-requires-clause-range : goal.call_compiled-requires-clause-range
call_compiled-requires-clause-range g c = let pages = c.requires.range.pages in (omega (arith, pages.0), omega (arith, pages.1))

pub call_compiled-requires-clause-some : goal.call_compiled-requires-clause-some
call_compiled-requires-clause-some g c =
    let is = c.count_arguments-count.ensures.is in
    let some = takes_some c.in_ok-signature.signature.args c.in_ok-signature.ensures.takes in
    omega (arith, is, some)

pub call_compiled-requires-clause-most : goal.call_compiled-requires-clause-most
call_compiled-requires-clause-most g c = let is = c.count_arguments-count.ensures.is in let few = c.in_ok-signature.ensures.few in omega (arith, is, few)

pub returns-clause-says : goal.returns-clause-says
returns-clause-says g c =
    let q = c.args.request in
    let e = c.in_ok-environment.environment in
    let bytes = c.args.bytes.now in
    let a = c.in_ok-accepted.accepted in
    let known = c.in_ok-accepted.ensures.says in
    let u = c.accept_within.new.meter.account in
    let f = c.in_ok-signature.ensures in
    let p = c.in_ok-program.ensures in
    let there = call_erasing q e a.env a.main a.main_type u known.0 known.1 known.2 c.in_ok-signature.signature f.is f.takes f.few f.named c.signature_of.new.m.account f.says c.in_ok-program.program p.form p.sources p.erased c.erased.new.m.account p.says in
    passes_say q bytes e (within_limits bytes e c.in_ok-environment.ensures.exact) there c.count_arguments-count.result c.count_arguments-count.ensures.is c.call_compiled.result c.call_compiled.ensures.says

pub returns-clause-told : goal.returns-clause-told
returns-clause-told g c =
    let e = c.in_ok-environment.environment in
    let bytes = c.args.bytes.now in
    let a = c.in_ok-accepted.accepted in
    let known = c.in_ok-accepted.ensures in
    told_anyway c.call_compiled.result (of_account g.R.Report.shown c.args.request bytes e a.env a.main_type c.accept_within.new.meter.account _ _ (within_limits bytes e c.in_ok-environment.ensures.exact) known.says.0 known.told)
