-- What `exec` has printed, and `compile` written, where main evaluates sparingly, or over lemmas, and what the jobs that make main's module owe then, as laws of the record that the top call promises.
use Rattle.std.specs.Prelude.{ℕ, ◌≡◌, List, Option, Some}
use Rattle.std.specs.Io.KnownBytes.{Appends}
use Rattle.pc_terms.specs.Syntax.{Term}
use Rattle.calculus_rules.specs.FirstOrder.{Data}
use Rattle.dump_reader.specs.declared.environment.RawEnv.{RawEnv}
use Rattle.first_order.specs.Searching.{members}
use Rattle.wasm_core.specs.ShortestBytes.{module_bytes}
use Rattle.headline.specs.EveryRun.{EvaluatesTo}
use Rattle.headline.specs.Headline.{AnswersValue, IsExactly}
use Rattle.sparing_laws.specs.LemmaEvaluation.{EvaluatesOverLemmas}
use Rattle.sparing_laws.specs.SparingEvaluation.{EvaluatesSparingly}
use Rattle.sparing_answers.specs.Laws.{AnswersSparingly, HasErasedValue}
use Rattle.reports.specs.Shown.{Shown}
use Rattle.command_line.specs.declared.job.Job.TheVariants.{Compile, Exec}
use Rattle.command_line.specs.declared.line.Request.{Request}
use Rattle.command_line.specs.Line.{request_of}
use Rattle.driver.specs.ExecEnds.{Erasing, Compiling, Answering, its_environment, its_module, its_shapes}
use Rattle.driver.specs.Executed.{AnswersData}
use Rattle.driver.specs.Headline.{EvaluatesErased, IsBoundedBy}
use Rattle.driver.specs.Serve.{AsksModule, IsInput}
use Rattle.driver.specs.Served.{Seen, Served}
use Rattle.driver.specs.SourceSays.{IsLine}
use Rattle.driver.specs.Texts.{SpellsWithin}

-- the input spells an environment, and out took the text of the data that a run of main's module answered, at main's types; where main evaluates sparingly and the erased program has a value, the sparing
-- value is exactly that data; and where main evaluates over lemmas, that value is
pub record HasAnswered (q : Request) (left taken taken' : Option (List ℕ)) : Type 0 where
  pub bytes : List ℕ
  pub input : IsInput left bytes
  pub environment : RawEnv
  pub spelled : SpellsWithin bytes environment
  pub stages : Answering q.turns environment q.pages q.steps
  pub text : List ℕ
  pub line : IsLine (its_shapes stages.before.before) environment.names stages.answer.tree text
  pub written : Appends taken taken' text
  pub sparing : (v : Term) (n m : ℕ) → EvaluatesSparingly (its_environment stages.before.before) environment.main v n → HasErasedValue stages.before.before.program m →
      IsExactly (its_environment stages.before.before) (members (its_shapes stages.before.before)) v stages.answer.tree
  pub over_lemmas : (v : Term) (n : ℕ) → EvaluatesOverLemmas (its_environment stages.before.before) environment.main v n →
      IsExactly (its_environment stages.before.before) (members (its_shapes stages.before.before)) v stages.answer.tree

abbrev pub ExecAnswersSparingly : (S K E : Type 0) → Type 0
ExecAnswersSparingly S K E =
    (words : List (List ℕ)) (reports : List Shown) (src src' : Seen S) (out out' : Seen K) (err err' : Seen E) → Served 0 words reports src src' out out' err err' →
    (q : Request) → request_of words ≡ Some q → q.job ≡ Exec → HasAnswered q src.told out.told out'.told

-- the input spells an environment, and out took the shortest bytes of main's module; of main's value over lemmas it answers as the headline has it of a value; and of a sparing value where the erased program
-- has one
pub record HasMade (q : Request) (left taken taken' : Option (List ℕ)) : Type 0 where
  pub bytes : List ℕ
  pub input : IsInput left bytes
  pub environment : RawEnv
  pub spelled : SpellsWithin bytes environment
  pub stages : Compiling q.turns environment
  pub written : Appends taken taken' (module_bytes (its_module q.pages stages))
  pub over_lemmas : (v : Term) (n : ℕ) → EvaluatesOverLemmas (its_environment stages.before) environment.main v n →
      (tree : Data) × AnswersValue (its_environment stages.before) environment.main (its_shapes stages.before) stages.before.program q.pages v n tree
  pub sparing : (v : Term) (n : ℕ) → EvaluatesSparingly (its_environment stages.before) environment.main v n →
      (tree : Data) × AnswersSparingly (its_environment stages.before) environment.main (its_shapes stages.before) stages.before.program q.pages v tree

abbrev pub CompileAnswersSparingly : (S K E : Type 0) → Type 0
CompileAnswersSparingly S K E =
    (words : List (List ℕ)) (reports : List Shown) (src src' : Seen S) (out out' : Seen K) (err err' : Seen E) → Served 0 words reports src src' out out' err err' →
    (q : Request) → request_of words ≡ Some q → q.job ≡ Compile → HasMade q src.told out.told out'.told

-- the value is this data, to which the erased program evaluates in at most n nodes; the job answers it as where main's erased program evaluates to data; and by the nodes of that evaluation its runs, and so
-- `exec`, are bounded
pub record ServesData (q : Request) (e : RawEnv) (x : Erasing q.turns e) (v : Term) (n status : ℕ) (taken taken' : Option (List ℕ)) : Type 0 where
  pub tree : Data
  pub exactly : IsExactly (its_environment x) (members (its_shapes x)) v tree
  pub kept : EvaluatesTo x.program tree n
  pub answers : AnswersData q e tree status taken taken'
  pub erased : EvaluatesErased q.turns e kept.nodes
  pub bounded : IsBoundedBy q e kept.nodes erased status

-- by `exec`, `compile` and `bench`, with whichever status, where main is erased to a program: of an evaluation over lemmas
abbrev pub JobsAnswerOverLemmas : (S K E : Type 0) → Type 0
JobsAnswerOverLemmas S K E =
    (status : ℕ) (words : List (List ℕ)) (reports : List Shown) (src src' : Seen S) (out out' : Seen K) (err err' : Seen E) → Served status words reports src src' out out' err err' →
    (q : Request) (e : RawEnv) → AsksModule q e words src.told → (x : Erasing q.turns e) (v : Term) (n : ℕ) → EvaluatesOverLemmas (its_environment x) e.main v n →
    ServesData q e x v n status out.told out'.told

-- and of a sparing one, where the erased program has a value, in m nodes
abbrev pub JobsAnswerSparingly : (S K E : Type 0) → Type 0
JobsAnswerSparingly S K E =
    (status : ℕ) (words : List (List ℕ)) (reports : List Shown) (src src' : Seen S) (out out' : Seen K) (err err' : Seen E) → Served status words reports src src' out out' err err' →
    (q : Request) (e : RawEnv) → AsksModule q e words src.told → (x : Erasing q.turns e) (v : Term) (n m : ℕ) → EvaluatesSparingly (its_environment x) e.main v n → HasErasedValue x.program m →
    ServesData q e x v m status out.told out'.told
