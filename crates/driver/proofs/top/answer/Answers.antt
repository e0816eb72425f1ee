use Rattle.std.proofs.Common.{ℕ, List, Option, Some, sym, subst}
use Rattle.std.specs.Prelude.{Vec}
use Rattle.std.specs.declared.alloc.Global.{Global}
use Rattle.kio.specs.Histories.{given_since}
use Rattle.driver.specs.Serve.{IsInputOf, Says}
use Rattle.driver.specs.ByHistory.{EndSays}
use Rattle.command_line.specs.Line.{words_of}
use Rattle.driver.proofs.Answering.{exit_at}
use Rattle.driver.proofs.Inputs.{answer_says, input_says, job_told, request_says}
use Rattle.driver.proofs.ReadToEnd.{end_after, end_of_reads, end_of_words, reads_input}
use Rattle.driver.proofs.top.answer.Goals as goal

pub returns-in_err-request-clause-says : goal.returns-in_err-request-clause-says
returns-in_err-request-clause-says g c =
    let r = c.in_err-request.field-0.0 in
    exit_at (λ x. Says {V = Vec ℕ Global} (λ v. v.items) x (words_of c.args.words.now) (g.S.Source.left c.args.src.now) (g.S.Source.faults c.args.src.now) (g.S.Source.faults c.args.src.now)) c.from_residual.result r c.from_residual.ensures.1
    (request_says {V = Vec ℕ Global} (λ v. v.items) (words_of c.args.words.now) (g.S.Source.left c.args.src.now) (g.S.Source.faults c.args.src.now) (g.S.Source.faults c.args.src.now) r c.in_err-request.ensures.says)

pub returns-in_err-bytes-clause-says : goal.returns-in_err-bytes-clause-says
returns-in_err-bytes-clause-says g c =
    let r = c.in_err-bytes.field-0.0 in
    exit_at (λ x. Says {V = Vec ℕ Global} (λ v. v.items) x (words_of c.args.words.now) (g.S.Source.left c.args.src.now) (g.S.Source.faults c.args.src.now) (g.S.Source.faults c.input_of.new.src)) c.from_residual-in_err-bytes.result r c.from_residual-in_err-bytes.ensures.1
    (input_says {V = Vec ℕ Global} (λ v. v.items) (words_of c.args.words.now) (g.S.Source.left c.args.src.now) (g.S.Source.faults c.args.src.now) (g.S.Source.faults c.input_of.new.src) c.in_ok-request.request c.in_ok-request.ensures.reads r c.in_err-bytes.ensures.says)

pub returns-clause-says : goal.returns-clause-says
returns-clause-says g c =
    let q = c.in_ok-request.request in
    let input = subst (λ b. IsInputOf q.job q (g.S.Source.left c.args.src.now) b) (sym c.as_slice.ensures.value) c.in_ok-bytes.ensures.says in
    answer_says {V = Vec ℕ Global} (λ v. v.items) (words_of c.args.words.now) (g.S.Source.left c.args.src.now) (g.S.Source.faults c.args.src.now) (g.S.Source.faults c.input_of.new.src) q c.in_ok-request.ensures.reads c.as_slice.result.now input c.answer_on.result c.answer_on.ensures.says

pub returns-clause-told : goal.returns-clause-told
returns-clause-told g c =
    let q = c.in_ok-request.request in
    let input = subst (λ b. IsInputOf q.job q (g.S.Source.left c.args.src.now) b) (sym c.as_slice.ensures.value) c.in_ok-bytes.ensures.says in
    job_told {V = Vec ℕ Global} (λ v. v.items) (words_of c.args.words.now) (g.S.Source.left c.args.src.now) 0 0 q c.in_ok-request.ensures.reads c.as_slice.result.now input g.R.Report.shown c.answer_on.result _ _ c.answer_on.ensures.told

pub returns-in_err-request-clause-history : goal.returns-in_err-request-clause-history
returns-in_err-request-clause-history g c =
    let r = c.in_err-request.field-0.0 in
    let given : Option (List ℕ) = Some (given_since (g.S.Source.given c.args.src.now) (g.S.Source.given c.args.src.now)) in
    exit_at (λ x. Says {V = Vec ℕ Global} (λ v. v.items) x (words_of c.args.words.now) given (g.S.Source.faults c.args.src.now) (g.S.Source.faults c.args.src.now)) c.from_residual.result r c.from_residual.ensures.1
    (request_says {V = Vec ℕ Global} (λ v. v.items) (words_of c.args.words.now) given (g.S.Source.faults c.args.src.now) (g.S.Source.faults c.args.src.now) r c.in_err-request.ensures.says)

pub returns-in_err-bytes-clause-history : goal.returns-in_err-bytes-clause-history
returns-in_err-bytes-clause-history g c =
    let r = c.in_err-bytes.field-0.0 in
    let given : Option (List ℕ) = Some (given_since (g.S.Source.given c.args.src.now) (g.S.Source.given c.input_of.new.src)) in
    exit_at (λ x. Says {V = Vec ℕ Global} (λ v. v.items) x (words_of c.args.words.now) given (g.S.Source.faults c.args.src.now) (g.S.Source.faults c.input_of.new.src)) c.from_residual-in_err-bytes.result r c.from_residual-in_err-bytes.ensures.1
    (input_says {V = Vec ℕ Global} (λ v. v.items) (words_of c.args.words.now) given (g.S.Source.faults c.args.src.now) (g.S.Source.faults c.input_of.new.src) c.in_ok-request.request c.in_ok-request.ensures.reads r c.in_err-bytes.ensures.history)

pub returns-clause-history : goal.returns-clause-history
returns-clause-history g c =
    let q = c.in_ok-request.request in
    let given : Option (List ℕ) = Some (given_since (g.S.Source.given c.args.src.now) (g.S.Source.given c.input_of.new.src)) in
    let input = subst (λ b. IsInputOf q.job q given b) (sym c.as_slice.ensures.value) c.in_ok-bytes.ensures.history in
    answer_says {V = Vec ℕ Global} (λ v. v.items) (words_of c.args.words.now) given (g.S.Source.faults c.args.src.now) (g.S.Source.faults c.input_of.new.src) q c.in_ok-request.ensures.reads c.as_slice.result.now input c.answer_on.result c.answer_on.ensures.says

pub returns-clause-told_history : goal.returns-clause-told_history
returns-clause-told_history g c =
    let q = c.in_ok-request.request in
    let given : Option (List ℕ) = Some (given_since (g.S.Source.given c.args.src.now) (g.S.Source.given c.input_of.new.src)) in
    let input = subst (λ b. IsInputOf q.job q given b) (sym c.as_slice.ensures.value) c.in_ok-bytes.ensures.history in
    job_told {V = Vec ℕ Global} (λ v. v.items) (words_of c.args.words.now) given 0 0 q c.in_ok-request.ensures.reads c.as_slice.result.now input g.R.Report.shown c.answer_on.result _ _ c.answer_on.ensures.told

pub returns-in_err-request-clause-ended : goal.returns-in_err-request-clause-ended
returns-in_err-request-clause-ended g c =
    let r = c.in_err-request.field-0.0 in
    exit_at (λ x. EndSays {V = Vec ℕ Global} x (words_of c.args.words.now) (g.S.Source.given c.args.src.now) (g.S.Source.given c.args.src.now)) c.from_residual.result r c.from_residual.ensures.1
    (end_of_words (Vec ℕ Global) (words_of c.args.words.now) (g.S.Source.given c.args.src.now) (g.S.Source.given c.args.src.now) r c.in_err-request.ensures.says)

pub returns-in_err-bytes-clause-ended : goal.returns-in_err-bytes-clause-ended
returns-in_err-bytes-clause-ended g c =
    let r = c.in_err-bytes.field-0.0 in
    exit_at (λ x. EndSays {V = Vec ℕ Global} x (words_of c.args.words.now) (g.S.Source.given c.args.src.now) (g.S.Source.given c.input_of.new.src)) c.from_residual-in_err-bytes.result r c.from_residual-in_err-bytes.ensures.1
    (end_of_reads (Vec ℕ Global) (words_of c.args.words.now) (g.S.Source.given c.args.src.now) (g.S.Source.given c.input_of.new.src) (λ v. v.items) c.in_ok-request.request (g.S.Source.left c.args.src.now) _ _ r c.in_err-bytes.ensures.says)

pub returns-clause-ended : goal.returns-clause-ended
returns-clause-ended g c =
    end_after (Vec ℕ Global) (words_of c.args.words.now) (g.S.Source.given c.args.src.now) (g.S.Source.given c.input_of.new.src) c.answer_on.result
    (λ reader. c.in_ok-bytes.ensures.ended (reads_input (words_of c.args.words.now) c.in_ok-request.request c.in_ok-request.ensures.reads reader))
