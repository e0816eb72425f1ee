-- The stages of a call that ends with status 0 show main's module: the headline holds of it.
use Rattle.std.proofs.Common.{ℕ, ◌≡◌, ◌∙◌, ◌+◌, ◌*◌, ◌-◌, ◌≤◌, List, Option, Some, Ok, refl, sym, subst, arith}
use Rattle.std.specs.Io.KnownBytes.{Appends}
use Rattle.pc_terms.specs.Syntax.{Term}
use Rattle.calculus_rules.specs.Evaluation.{Evaluates}
use Rattle.calculus_rules.specs.FirstOrder.{Data}
use Rattle.calculus_rules.proofs.Spines.{one_item}
use Rattle.dump_reader.specs.declared.environment.RawEnv.{RawEnv}
use Rattle.first_order.specs.Searching.{members}
use Rattle.headline.specs.SourceWords.{source_words, source_branches}
use Rattle.module_run.proofs.OneEnd.{ends_answer}
use Rattle.wasm_core.specs.ModuleTyping.{IsValid}
use Rattle.wasm_core.specs.ModuleGrammar.{SpellsModule}
use Rattle.command_line.specs.declared.job.Job.{Job}
use Rattle.command_line.specs.declared.job.Job.TheVariants.{Cert, Check, Compile, Exec}
use Rattle.command_line.specs.declared.line.Request.{Request}
use Rattle.command_line.specs.Line.{IsInRange, request_of}
use Rattle.command_line.proofs.Ranges.{requests_lie_in_range}
use Rattle.driver.specs.ExecEnds.{Accepting, Compiling, its_environment, its_module, its_shapes, its_type}
use Rattle.driver.specs.Executed.{IsExecuted}
use Rattle.driver.specs.Headline.{HasValue}
use Rattle.driver.specs.MadeModule.{IsMade}
use Rattle.driver.specs.Serve.{HasAnswer, IsInput, IsInputOf, IsAnswerOf, IsCertAnswer, IsCheckAnswer}
use Rattle.driver.specs.Texts.{SpellsWithin}
use Rattle.env_check.specs.Rules.{givens}
use Rattle.certified_texts.proofs.Behind.{both_read}
use Rattle.checked_laws.proofs.CheckedFalse.{checked_false_has_no_value}
use Rattle.driver.proofs.Headlines.{given, value_exact, value_runs}
use Rattle.driver.proofs.TextCauses.{is_spelled}
use Rattle.answer_laws.specs.MainsModule.{IsReadAs, RunsAnswer, IsMainsModule}
use Rattle.answer_laws.proofs.Derived.{derived, given_empty}
use Rattle.answer_laws.specs.Laws.{HasInput, HasCertified, HasChecked, HasCompiled, HasExecuted, CertMeans, CheckMeans, CompileMeans, ExecMeans}

-- the input of the stages
abbrev its_input : (left : Option (List ℕ)) (bytes : List ℕ) → IsInput left bytes → (e : RawEnv) → SpellsWithin bytes e → (turns : ℕ) → Accepting turns e → HasInput left
its_input left bytes input e s turns a = record { bytes = bytes; input = input; environment = e; spelled = s; kept = a.kept; type = a.type; derived = derived e a.kept a.type a.checked }

-- main's module, by the stages that lead to it
mains_module : (q : Request) → IsInRange q → (bytes : List ℕ) (e : RawEnv) → SpellsWithin bytes e → (x : Compiling q.turns e) → IsValid (its_module q.pages x) →
    IsMainsModule q.pages (its_environment x.before) e.main (its_type x.before) (members (its_shapes x.before)) (its_module q.pages x)
mains_module q range bytes e s x valid = record { first_order = x.before.before.set; valid = valid; answers = answered }
  where
    answered : (v : Term) (n : ℕ) → Evaluates (its_environment x.before) e.main v n →
        (tree : Data) × IsReadAs (its_environment x.before) (members (its_shapes x.before)) v tree
        × RunsAnswer (its_module q.pages x) q.pages (source_words (its_environment x.before) e.main) (source_branches (its_environment x.before)) n tree
    answered v n evaluation =
        let a = x.before.before.before in
        let h : HasValue q.turns e n = record {
          kept = a.kept;
          type = a.type;
          left = a.left;
          accepted = a.accepted;
          types = members (its_shapes x.before);
          first_order = x.before.before.set;
          value = v;
          evaluation = evaluation;
        } in
        let exact = value_exact q range bytes e s n h in
        let runs = value_runs q range bytes e s n h x in
        ((given q range bytes e s n h).main.answer, record { reads = exact.reads; only = exact.only }, record { answers = runs.answers; enough = runs.enough })

-- the request and the job of an answer are those that were asked for
record AnswerOf (job : Job) (q : Request) (left : Option (List ℕ)) (text : List ℕ) : Type 0 where
  bytes : List ℕ
  input : IsInputOf job q left bytes
  answer : IsAnswerOf job q bytes text

answer_of : (words : List (List ℕ)) (left : Option (List ℕ)) (text : List ℕ) (q : Request) (job : Job) → request_of words ≡ Some q → q.job ≡ job → HasAnswer words left text → AnswerOf job q left text
answer_of words left text q job e is a =
    subst (λ job. AnswerOf job q left text) is
    (subst (λ q. AnswerOf q.job q left text) (one_item (sym a.asked ∙ e)) (record { bytes = a.bytes; input = a.input; answer = a.answer }))

checked : (left taken taken' : Option (List ℕ)) (bytes text : List ℕ) → IsInput left bytes → (turns : ℕ) → IsCheckAnswer turns bytes text → Appends taken taken' text →
    HasChecked left taken taken'
checked left taken taken' bytes text input turns m w =
    let e = m.environment in
    let E = m.well.kept in
    let T = m.well.type in
    record {
      of = record { bytes = bytes; input = input; environment = e; spelled = m.spelled; kept = E; type = T; derived = derived e E T m.well.checked };
      no_value = λ f empty o v n evaluation. checked_false_has_no_value e.levels e.constraints (givens e) e.main E T m.well.checked f (given_empty e f empty) o v n evaluation;
      written = subst (Appends taken taken') m.text_is w;
    }

pub check_means : {S K E : Type 0} → CheckMeans S K E
check_means words reports src src' out out' err err' s q e job =
    let (text, answer, w) = s.done refl in
    let a = answer_of words src.told text q Check e job answer in
    checked src.told out.told out'.told a.bytes text a.input q.turns a.answer w

certified : (q : Request) (left taken taken' : Option (List ℕ)) (bytes text : List ℕ) → IsInput left bytes → IsCertAnswer q.turns bytes text → Appends taken taken' text → HasCertified q left taken taken'
certified q left taken taken' bytes text input m w =
    let e = m.environment in
    let E = m.well.kept in
    let T = m.well.type in
    let units = q.turns - m.certified.left.left in
    record {
      of = record { bytes = bytes; input = input; environment = e; spelled = m.spelled; kept = E; type = T; derived = derived e E T m.well.checked };
      items = m.items;
      written = subst (Appends taken taken') m.text_is w;
      read_back = λ shallow. both_read e m.items (is_spelled bytes e m.spelled) shallow m.certified.small;
      units = units;
      few = omega arith;
      verified = m.certified.made.taken;
    }

pub cert_means : {S K E : Type 0} → CertMeans S K E
cert_means words reports src src' out out' err err' s q e job =
    let (text, answer, w) = s.done refl in
    let a = answer_of words src.told text q Cert e job answer in
    certified q src.told out.told out'.told a.bytes text a.input a.answer w

compiled : (words : List (List ℕ)) (q : Request) → request_of words ≡ Some q → (left taken taken' : Option (List ℕ)) (bytes text : List ℕ) → IsInput left bytes →
    IsMade q.turns q.pages bytes text → Appends taken taken' text → HasCompiled q left taken taken'
compiled words q e left taken taken' bytes text input m w = record {
  of = its_input left bytes input m.environment m.spelled q.turns m.stages.before.before.before;
  types = its_shapes m.stages.before;
  parts = its_module q.pages m.stages;
  means = mains_module q (requests_lie_in_range words q e) bytes m.environment m.spelled m.stages m.valid;
  spells = subst (λ text. SpellsModule text (its_module q.pages m.stages)) m.text_is m.module_is;
  written = subst (Appends taken taken') m.text_is w;
}

pub compile_means : {S K E : Type 0} → CompileMeans S K E
compile_means words reports src src' out out' err err' s q e job =
    let (text, answer, w) = s.done refl in
    let a = answer_of words src.told text q Compile e job answer in
    compiled words q e src.told out.told out'.told a.bytes text a.input a.answer w

executed : (words : List (List ℕ)) (q : Request) → request_of words ≡ Some q → (left taken taken' : Option (List ℕ)) (bytes text : List ℕ) → IsInput left bytes →
    IsExecuted q.turns q.pages q.steps bytes text → Appends taken taken' text → HasExecuted q left taken taken'
executed words q e left taken taken' bytes text input m w =
    let x = m.stages.before in
    let means = mains_module q (requests_lie_in_range words q e) bytes m.environment m.spelled x m.valid in
    record {
      of = its_input left bytes input m.environment m.spelled q.turns x.before.before.before;
      types = its_shapes x.before;
      named = x.before.before.named;
      parts = its_module q.pages x;
      means = means;
      answer = m.stages.answer;
      ends = m.stages.ends;
      text = text;
      line = m.text_is;
      written = w;
      values =
          λ v n evaluation.
          let (tree, exactly, runs) = means.answers v n evaluation in
          ends_answer (its_module q.pages x) q.pages (1024 * n * (source_words (its_environment x.before) m.environment.main + source_branches (its_environment x.before))) q.steps tree
          (Ok m.stages.answer) runs.answers m.stages.ends;
    }

pub exec_means : {S K E : Type 0} → ExecMeans S K E
exec_means words reports src src' out out' err err' s q e job =
    let (text, answer, w) = s.done refl in
    let a = answer_of words src.told text q Exec e job answer in
    executed words q e src.told out.told out'.told a.bytes text a.input a.answer w
