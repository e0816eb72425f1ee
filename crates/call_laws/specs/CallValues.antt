-- What `call` owes an evaluation of main, applied to the source terms of the arguments: the call, its arguments, the evaluation of the applied term or of the erased main, and what is answered then.
use Rattle.std.specs.Prelude.{ℕ, ◌≡◌, ◌≢◌, ◌≤◌, List, [], ◌∷◌, drop, length, Contains, Option}
use Rattle.std.specs.Io.KnownBytes.{Appends}
use Rattle.sexp_reader.specs.Lex.{Spanned, tokens_of}
use Rattle.dump_grammar.specs.Judge.{texts}
use Rattle.dump_reader.specs.Front.{front_bytes, front_length}
use Rattle.dump_reader.specs.declared.environment.RawEnv.{RawEnv}
use Rattle.pc_terms.specs.Syntax.{Term}
use Rattle.calculus_rules.specs.Environment.{Env}
use Rattle.calculus_rules.specs.Typing.{bare, Types}
use Rattle.calculus_rules.specs.Evaluation.{Evaluates}
use Rattle.calculus_rules.specs.FirstOrder.{Shape as Member, Data, FitsShapes, IsFirstOrder}
use Rattle.first_order.specs.declared.shapes.Shape.{Shape}
use Rattle.first_order.specs.Applied.{IsApplied}
use Rattle.first_order.specs.ArgumentTexts.{SpellsArguments}
use Rattle.first_order.specs.Awaited.{HasNoFault, argument_sets}
use Rattle.first_order.specs.DirectedSignature.{set_of, sets_of}
use Rattle.first_order.specs.Searching.{members, AreNamed}
use Rattle.wasm_core.specs.ModuleTyping.{IsValid}
use Rattle.headline.specs.Headline.{IsExactly}
use Rattle.headline.specs.SourceWords.{source_branches, source_words}
use Rattle.applied_terms.specs.CallEvaluation.{CallEvaluatesTo}
use Rattle.call_answers.specs.EveryCall.{EveryCallAnswers}
use Rattle.module_run.specs.CallEnds.{start_with}
use Rattle.module_run.specs.Ends.{IsLargeFrom}
use Rattle.command_line.specs.declared.job.Job.TheVariants.{Call}
use Rattle.command_line.specs.declared.line.Request.{Request}
use Rattle.driver.specs.CallStages.{CallCompiling, CallErasing, Signing, its_call_module}
use Rattle.driver.specs.Exported.{HasCallModule}
use Rattle.driver.specs.Serve.{IsAsked, input_limit}
use Rattle.driver.specs.SourceSays.{IsLine}
use Rattle.driver.specs.Texts.{SpellsWithin}

-- ---- a call, its arguments

-- the words ask for `call`, and the source tells bytes within the limit, the front of which spells this environment
pub record AsksCall (q : Request) (e : RawEnv) (bytes : List ℕ) (words : List (List ℕ)) (left : Option (List ℕ)) : Type 0 where
  pub asked : IsAsked q words left bytes
  pub short : length bytes ≤ input_limit
  pub spelled : SpellsWithin (front_bytes bytes) e
  pub job : q.job ≡ Call

-- the tokens behind the environment
abbrev pub tokens_behind : List ℕ → List Spanned
tokens_behind bytes = tokens_of (drop (front_length bytes) bytes)

-- the environment is accepted and main's type has a signature, within the units; and the tokens behind spell these arguments, data of its types, and none of them passes a limit of tokens
pub record HasArguments (turns : ℕ) (e : RawEnv) (bytes : List ℕ) : Type 0 where
  pub signing : Signing turns e
  pub arguments : List Data
  pub spelled : SpellsArguments e.names (argument_sets signing.signature.args) (texts (tokens_behind bytes)) arguments
  pub whole : HasNoFault 0 (tokens_behind bytes)

-- the environment that is kept, the first-order sets of main's arguments, and that of its answer

abbrev pub kept_environment : {turns : ℕ} {e : RawEnv} {bytes : List ℕ} → HasArguments turns e bytes → Env
kept_environment h = h.signing.before.kept

abbrev pub argument_types : {turns : ℕ} {e : RawEnv} {bytes : List ℕ} → HasArguments turns e bytes → List (List Member)
argument_types h = sets_of h.signing.signature.args

abbrev pub answer_types : {turns : ℕ} {e : RawEnv} {bytes : List ℕ} → HasArguments turns e bytes → List Member
answer_types h = set_of h.signing.signature.answer

-- ---- the evaluations

-- main, applied to the source terms of the arguments, evaluates weakly call by value, in n nodes, to a value
pub record HasCallValue (turns : ℕ) (e : RawEnv) (bytes : List ℕ) (h : HasArguments turns e bytes) (n : ℕ) : Type 0 where
  pub applied : Term
  pub is : IsApplied (argument_types h) e.main h.arguments applied
  pub value : Term
  pub evaluation : Evaluates (kept_environment h) applied value n

-- the erased main, applied to terms that are the arguments' data, evaluates in at most n nodes to this data, which is of the answer's types
pub record HasCallData (turns : ℕ) (e : RawEnv) (bytes : List ℕ) (h : HasArguments turns e bytes) (n : ℕ) (tree : Data) : Type 0 where
  pub stages : CallErasing turns e
  pub evaluates : CallEvaluatesTo stages.program h.arguments tree n
  pub fits : FitsShapes (answer_types h) 0 tree

-- ---- what is owed

-- this is the text of the data along the answer's types, whose constructors have their names, and LF
pub record IsTextOfCall (turns : ℕ) (e : RawEnv) (bytes : List ℕ) (h : HasArguments turns e bytes) (tree : Data) (text : List ℕ) : Type 0 where
  pub shapes : List Shape
  pub set : members shapes ≡ answer_types h
  pub named : AreNamed (kept_environment h) shapes
  pub line : IsLine shapes e.names tree text

-- each module for calls that main has is valid, and every long enough run of it from a store that holds the arguments answers the data or is exhausted, within the bounds; on status 0 out takes the data's
-- text and LF; and the status isn't 15
pub record AnswersCallData (q : Request) (e : RawEnv) (bytes : List ℕ) (h : HasArguments q.turns e bytes) (n : ℕ) (tree : Data) (status : ℕ) (taken taken' : Option (List ℕ)) : Type 0 where
  pub valid : (x : CallCompiling q.turns e) → IsValid (its_call_module q.pages x)
  pub runs : (x : CallCompiling q.turns e) → EveryCallAnswers (its_call_module q.pages x) h.arguments q.pages (source_words (kept_environment h) e.main) (source_branches (kept_environment h)) n tree
  pub text : status ≡ 0 → (text : List ℕ) × IsTextOfCall q.turns e bytes h tree text × Appends taken taken' text
  pub answers : status ≢ 15

-- the value is exactly one tree of data, which the call answers
pub record ServesCall (q : Request) (e : RawEnv) (bytes : List ℕ) (h : HasArguments q.turns e bytes) (n : ℕ) (value : Term) (status : ℕ) (taken taken' : Option (List ℕ)) : Type 0 where
  pub tree : Data
  pub exactly : IsExactly (kept_environment h) (answer_types h) value tree
  pub fits : FitsShapes (answer_types h) 0 tree
  pub answers : AnswersCallData q e bytes h n tree status taken taken'

-- ---- the applied term

-- main can be applied to the source terms of the arguments, and that term has a type, whose first-order set is the answer's
pub record IsAppliedWell (turns : ℕ) (e : RawEnv) (bytes : List ℕ) (h : HasArguments turns e bytes) : Type 0 where
  pub applied : Term
  pub is : IsApplied (argument_types h) e.main h.arguments applied
  pub type : Term
  pub typed : Types bare (kept_environment h) [] applied type
  pub set : IsFirstOrder (kept_environment h) type (answer_types h)

-- ---- completeness

-- the check accepts, main's type has a signature, erasure ends with a program, the directed rules pass no limit of depth, the program has a module for calls within 16 MiB, as the passes or its sizes show, and
-- the arguments are whole
pub record IsCallable (q : Request) (e : RawEnv) (bytes : List ℕ) : Type 0 where
  pub compiled : HasCallModule q.turns e q.pages
  pub given : HasArguments q.turns e bytes

-- then there is an answer, or want of memory; or the run's answer has too many nodes, the run is exhausted, or longer, or its answer is no data of the answer's types; the last where the erased main, applied to
-- the arguments, evaluates to none
pub record CallFinishes (q : Request) (e : RawEnv) (bytes : List ℕ) (h : HasArguments q.turns e bytes) (status : ℕ) : Type 0 where
  pub among : Contains (0 ∷ 1 ∷ 7 ∷ 11 ∷ 12 ∷ 15 ∷ []) status
  pub many : status ≡ 7 → (x : CallCompiling q.turns e) × IsLargeFrom (start_with (its_call_module q.pages x) q.pages h.arguments) (its_call_module q.pages x) q.pages q.steps
  pub none : status ≡ 15 → (n : ℕ) (tree : Data) → HasCallData q.turns e bytes h n tree → ⊥
