use Rattle.std.proofs.Common.{◌≡◌, ◌∙◌, ap, sym, None, Some, codes}
use Rattle.std.specs.Prelude.{option_map}
use Rattle.clap.specs.Words.{first_of, found_of, rows_of}
use Rattle.clap.proofs.WalkLemmas.{first_value-rows}
use Rattle.command_line.proofs.Numerals.{asked_of_job, asked_of_no_job, asked_without_job}
use Rattle.command_line.proofs.line.asked.Goals as goal

pub returns-in_err-get_str : goal.returns-in_err-get_str
returns-in_err-get_str c =
    let f = found_of c.args.matches.now in
    let first : first_of (codes "job") (rows_of f) ≡ None = sym (first_value-rows f (codes "job")) ∙ (sym c.get_str.ensures ∙ ap (option_map (λ s. s.now)) c.in_err-get_str.was) in
    record { is = c.from_residual.ensures ∙ sym (asked_without_job (rows_of f) first) }

pub returns-in_err-job : goal.returns-in_err-job
returns-in_err-job c =
    let f = found_of c.args.matches.now in
    let first : first_of (codes "job") (rows_of f) ≡ Some c.in_ok-get_str.field-0.now = sym (first_value-rows f (codes "job")) ∙ (sym c.get_str.ensures ∙ ap (option_map (λ s. s.now)) c.in_ok-get_str.was) in
    record { is = c.from_residual-in_err-job.ensures ∙ sym (asked_of_no_job (rows_of f) _ first (sym c.job_of.ensures.is ∙ c.in_err-job.was)) }

pub returns : goal.returns
returns c =
    let f = found_of c.args.matches.now in
    let first : first_of (codes "job") (rows_of f) ≡ Some c.in_ok-get_str.field-0.now = sym (first_value-rows f (codes "job")) ∙ (sym c.get_str.ensures ∙ ap (option_map (λ s. s.now)) c.in_ok-get_str.was) in
    record { is = rw (c.number.ensures.is, c.number-2.ensures.is, c.number-3.ensures.is, c.number-4.ensures.is) (sym (asked_of_job (rows_of f) _ _ first (sym c.job_of.ensures.is ∙ c.in_ok-job.was))) }
