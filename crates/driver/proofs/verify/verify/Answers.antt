use Rattle.dump_reader.specs.Front.{front_bytes}
use Rattle.command_line.specs.declared.job.Job.TheVariants.{Verify}
use Rattle.driver.proofs.Answering.{exit_says}
use Rattle.driver.proofs.TextCauses.{within_limits}
use Rattle.driver.proofs.VerifySaying.{certificate_refused, verified_says, walk_refused}
use Rattle.driver.proofs.verify.verify.Goals as goal

pub certificate_of-requires-clause-from : goal.certificate_of-requires-clause-from
certificate_of-requires-clause-from c = c.in_ok-environment.ensures.exact.0

pub returns-in_err-certificate : goal.returns-in_err-certificate
returns-in_err-certificate c =
    let q = c.args.request in
    let bytes = c.args.bytes.now in
    let e = c.in_ok-environment.environment in
    let s = within_limits (front_bytes bytes) e c.in_ok-environment.ensures.exact.1 in
    let r = c.in_err-certificate.field-0.0 in
    record { says = exit_says (λ v. v.items) Verify q c.from_residual-in_err-certificate.result r bytes c.from_residual-in_err-certificate.ensures.1 (certificate_refused q bytes e s r c.in_err-certificate.ensures.says) }

pub returns-in_err-walked : goal.returns-in_err-walked
returns-in_err-walked c =
    let q = c.args.request in
    let bytes = c.args.bytes.now in
    let e = c.in_ok-environment.environment in
    let s = within_limits (front_bytes bytes) e c.in_ok-environment.ensures.exact.1 in
    let r = c.in_err-walked.field-0.0 in
    record {
      says = exit_says (λ v. v.items) Verify q c.from_residual-in_err-walked.result r bytes c.from_residual-in_err-walked.ensures.1
          (walk_refused q bytes e s c.in_ok-certificate.certificate c.in_ok-certificate.ensures.says r c.in_err-walked.ensures.says);
    }

pub returns : goal.returns
returns c =
    let q = c.args.request in
    let bytes = c.args.bytes.now in
    let e = c.in_ok-environment.environment in
    let s = within_limits (front_bytes bytes) e c.in_ok-environment.ensures.exact.1 in
    let w = c.in_ok-walked.ensures in
    record {
      says = verified_says q bytes e s c.in_ok-certificate.certificate c.in_ok-certificate.ensures.says (λ v. v.items) c.accepted_text.result w.says w.well c.accepted_text.ensures.text c.accepted_text.ensures.only_memory;
    }
