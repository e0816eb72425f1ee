-- The stages of a call that ends with status 0 show main's module, and the laws of sparing evaluation and of evaluation over lemmas hold of it.
use Rattle.std.proofs.Common.{ℕ, ◌≡◌, ◌∙◌, ◌+◌, ◌*◌, List, Option, Some, Ok, refl, sym, subst, arith}
use Rattle.std.specs.Io.KnownBytes.{Appends}
use Rattle.pc_terms.specs.Syntax.{Term}
use Rattle.calculus_rules.specs.FirstOrder.{Data}
use Rattle.calculus_rules.proofs.Spines.{one_item}
use Rattle.dump_reader.specs.declared.environment.RawEnv.{RawEnv}
use Rattle.first_order.specs.Searching.{members}
use Rattle.compile.proofs.Within.{fits_within}
use Rattle.module_run.proofs.OneEnd.{ends_answer}
use Rattle.headline.specs.AcceptedProgram.{FitsPasses}
use Rattle.headline.specs.Headline.{AnswersValue, IsExactly}
use Rattle.headline.specs.SourceWords.{source_words, source_branches}
use Rattle.command_line.specs.declared.job.Job.{Job}
use Rattle.command_line.specs.declared.job.Job.TheVariants.{Compile, Exec}
use Rattle.command_line.specs.declared.line.Request.{Request}
use Rattle.command_line.specs.Line.{IsInRange, request_of}
use Rattle.command_line.proofs.Ranges.{requests_lie_in_range}
use Rattle.driver.specs.ExecEnds.{Compiling, Answering, its_environment, its_module, its_shapes}
use Rattle.driver.specs.Executed.{IsExecuted}
use Rattle.driver.specs.MadeModule.{IsMade}
use Rattle.driver.specs.Serve.{HasAnswer, IsInput, IsInputOf, IsAnswerOf}
use Rattle.driver.specs.Texts.{SpellsWithin}
use Rattle.driver.proofs.AcceptedAs.{accepted_as, erased_to}
use Rattle.driver.proofs.TextCauses.{is_spelled}
use Rattle.sparing_laws.specs.LemmaEvaluation.{EvaluatesOverLemmas}
use Rattle.sparing_laws.specs.SparingEvaluation.{EvaluatesSparingly}
use Rattle.sparing_answers.specs.Laws.{AnswersSparingly, HasErasedValue}
use Rattle.sparing_answers.proofs.Answered.{sparing_values_are_answered}
use Rattle.sparing_answers.proofs.OverLemmas.{values_over_lemmas_are_answered}
use Rattle.sparing_exec.specs.Laws.{HasAnswered, HasMade, ExecAnswersSparingly, CompileAnswersSparingly}

fits_passes : {turns : ℕ} {e : RawEnv} (x : Compiling turns e) → FitsPasses x.before.program
fits_passes x =
    let w = fits_within x.before.program 1024 x.before.form x.fits (λ F has. (x.before.form.counts F has).constructors) in
    record { constants = w.constants; main = w.main; limits = w.limits }

-- the laws at the stages to a module

made_over_lemmas : (q : Request) → IsInRange q → (bytes : List ℕ) (e : RawEnv) → SpellsWithin bytes e → (x : Compiling q.turns e) → (v : Term) (n : ℕ) → EvaluatesOverLemmas (its_environment x.before) e.main v n →
    (tree : Data) × AnswersValue (its_environment x.before) e.main (its_shapes x.before) x.before.program q.pages v n tree
made_over_lemmas q range bytes e s x v n evaluation =
    let z = x.before in
    let a = z.before.before in
    values_over_lemmas_are_answered e a.kept a.type (accepted_as q.turns e (is_spelled bytes e s) a.kept a.type a.left a.accepted) (its_shapes z) z.program q.pages z.before.set
    (erased_to q.turns e z) (fits_passes x) (omega (arith, range.pages.0)) (omega (arith, range.pages.1)) v n evaluation

made_sparingly : (q : Request) → IsInRange q → (bytes : List ℕ) (e : RawEnv) → SpellsWithin bytes e → (x : Compiling q.turns e) → (v : Term) (n : ℕ) → EvaluatesSparingly (its_environment x.before) e.main v n →
    (tree : Data) × AnswersSparingly (its_environment x.before) e.main (its_shapes x.before) x.before.program q.pages v tree
made_sparingly q range bytes e s x v n evaluation =
    let z = x.before in
    let a = z.before.before in
    sparing_values_are_answered e a.kept a.type (accepted_as q.turns e (is_spelled bytes e s) a.kept a.type a.left a.accepted) (its_shapes z) z.program q.pages z.before.set
    (erased_to q.turns e z) (fits_passes x) (omega (arith, range.pages.0)) (omega (arith, range.pages.1)) v n evaluation

-- the answer's data is the sparing value's
answered : (q : Request) → IsInRange q → (bytes : List ℕ) (e : RawEnv) → SpellsWithin bytes e → (x : Answering q.turns e q.pages q.steps) → (v : Term) (n m : ℕ) →
    EvaluatesSparingly (its_environment x.before.before) e.main v n → HasErasedValue x.before.before.program m →
    IsExactly (its_environment x.before.before) (members (its_shapes x.before.before)) v x.answer.tree
answered q range bytes e s x v n m evaluation erased =
    let z = x.before.before in
    let E = z.before.before.kept in
    let (tree, law) = made_sparingly q range bytes e s x.before v n evaluation in
    let same : x.answer.tree ≡ tree =
    ends_answer (its_module q.pages x.before) q.pages (1024 * m * (source_words E e.main + source_branches E)) q.steps tree (Ok x.answer) (law.runs m erased).answers x.ends in
    subst (λ d. IsExactly E (members (its_shapes z)) v d) (sym same) law.exactly

-- and so is that of main's value over lemmas
answered_over_lemmas : (q : Request) → IsInRange q → (bytes : List ℕ) (e : RawEnv) → SpellsWithin bytes e → (x : Answering q.turns e q.pages q.steps) → (v : Term) (n : ℕ) →
    EvaluatesOverLemmas (its_environment x.before.before) e.main v n → IsExactly (its_environment x.before.before) (members (its_shapes x.before.before)) v x.answer.tree
answered_over_lemmas q range bytes e s x v n evaluation =
    let z = x.before.before in
    let E = z.before.before.kept in
    let (tree, law) = made_over_lemmas q range bytes e s x.before v n evaluation in
    let same : x.answer.tree ≡ tree =
    ends_answer (its_module q.pages x.before) q.pages (1024 * n * (source_words E e.main + source_branches E)) q.steps tree (Ok x.answer) law.runs.answers x.ends in
    subst (λ d. IsExactly E (members (its_shapes z)) v d) (sym same) law.exactly

-- the answer of the job that was asked for
record AnswerOf (job : Job) (q : Request) (left : Option (List ℕ)) (text : List ℕ) : Type 0 where
  bytes : List ℕ
  input : IsInputOf job q left bytes
  answer : IsAnswerOf job q bytes text

answer_of : (words : List (List ℕ)) (left : Option (List ℕ)) (text : List ℕ) (q : Request) (job : Job) → request_of words ≡ Some q → q.job ≡ job → HasAnswer words left text → AnswerOf job q left text
answer_of words left text q job e is a =
    subst (λ job. AnswerOf job q left text) is
    (subst (λ q. AnswerOf q.job q left text) (one_item (sym a.asked ∙ e)) (record { bytes = a.bytes; input = a.input; answer = a.answer }))

executed : (q : Request) → IsInRange q → (left taken taken' : Option (List ℕ)) (bytes text : List ℕ) → IsInput left bytes → IsExecuted q.turns q.pages q.steps bytes text → Appends taken taken' text →
    HasAnswered q left taken taken'
executed q range left taken taken' bytes text input m w = record {
  bytes = bytes;
  input = input;
  environment = m.environment;
  spelled = m.spelled;
  stages = m.stages;
  text = text;
  line = m.text_is;
  written = w;
  sparing = λ v n k evaluation erased. answered q range bytes m.environment m.spelled m.stages v n k evaluation erased;
  over_lemmas = λ v n evaluation. answered_over_lemmas q range bytes m.environment m.spelled m.stages v n evaluation;
}

pub exec_answers_sparingly : {S K E : Type 0} → ExecAnswersSparingly S K E
exec_answers_sparingly words reports src src' out out' err err' s q e is =
    let (text, answer, w) = s.done refl in
    let a = answer_of words src.told text q Exec e is answer in
    executed q (requests_lie_in_range words q e) src.told out.told out'.told a.bytes text a.input a.answer w

made : (q : Request) → IsInRange q → (left taken taken' : Option (List ℕ)) (bytes text : List ℕ) → IsInput left bytes → IsMade q.turns q.pages bytes text → Appends taken taken' text → HasMade q left taken taken'
made q range left taken taken' bytes text input m w = record {
  bytes = bytes;
  input = input;
  environment = m.environment;
  spelled = m.spelled;
  stages = m.stages;
  written = subst (Appends taken taken') m.text_is w;
  over_lemmas = λ v n evaluation. made_over_lemmas q range bytes m.environment m.spelled m.stages v n evaluation;
  sparing = λ v n evaluation. made_sparingly q range bytes m.environment m.spelled m.stages v n evaluation;
}

pub compile_answers_sparingly : {S K E : Type 0} → CompileAnswersSparingly S K E
compile_answers_sparingly words reports src src' out out' err err' s q e is =
    let (text, answer, w) = s.done refl in
    let a = answer_of words src.told text q Compile e is answer in
    made q (requests_lie_in_range words q e) src.told out.told out'.told a.bytes text a.input a.answer w
