-- How `exec` ends after the check: the search for a first-order set of main's type, erasure, the passes, the run of the module, and the text of its answer. Each stage
-- says by the definitions of its layer why it stops, or what it hands on.
use Rattle.std.specs.Prelude.{ℕ, ◌≡◌, ◌≢◌, ◌<◌, ◌⊎◌, List, [], ◌∷◌, Contains, IsTrue, false, Result, Ok, Err}
use Rattle.pc_terms.specs.declared.leaf.Name.{Name}
use Rattle.pc_terms.specs.Syntax.{Term}
use Rattle.pc_rules.specs.declared.broken.Broken.{Broken}
use Rattle.pc_rules.specs.declared.broken.Place.{Place}
use Rattle.pc_rules.specs.declared.meter.Account.{Account}
use Rattle.calculus_rules.specs.Environment.{Env}
use Rattle.pc_rules.specs.Entailment.{test_of}
use Rattle.calculus_rules.specs.FirstOrder.{FitsShapes, IsFirstOrder}
use Rattle.pc_rules.specs.DirectedRun.{Done, most_nested}
use Rattle.pc_rules.specs.DirectedPlaces.{Placed, Gives, Breaks, Spends}
use Rattle.pc_rules.specs.DirectedFirstOrder.{Found, first_order_search}
use Rattle.rule_laws.specs.Declarations.{IsCheckedEnvironment}
use Rattle.env_check.specs.Rules.{givens}
use Rattle.first_order.specs.declared.shapes.Shape.{Shape}
use Rattle.first_order.specs.Searching.{members, AreNamed}
use Rattle.lambda_box.specs.BoxProgram.{BoxProgram}
use Rattle.lambda_box.specs.BoxForm.{IsBoxProgram}
use Rattle.lambda_box.specs.DataTerms.{greatest_words}
use Rattle.erase_laws.specs.ErasedProgram.{HasErased, IsErased}
use Rattle.erase_rules.specs.DirectedProgram.{Answer, Program, ReachesAxiom, erased_program}
use Rattle.wasm_core.specs.declared.ended.TrapKind.{TrapKind}
use Rattle.wasm_core.specs.Parts.{Parts}
use Rattle.wasm_core.specs.ModuleTyping.{IsValid}
use Rattle.known_calls.specs.KnownModule.{module_of}
use Rattle.back_end.specs.BackEnd.{passed}
use Rattle.compile.specs.Passes.{Fits, CompileIsRefused}
use Rattle.compile.specs.declared.fault.CompileFault.TheVariants as compiling
use Rattle.module_run.specs.declared.answer.Answer.{Answer as Answered}
use Rattle.module_run.specs.declared.answer.Measured.{Measured}
use Rattle.module_run.specs.declared.refusal.RunRefusal.TheVariants as running
use Rattle.module_run.specs.Ends.{Ends, IsLarge, IsSmall, IsTrapped}
use Rattle.module_run.specs.Figures.{IsMeasured}
use Rattle.headline.specs.SourceWords.{source_words}
use Rattle.source_limits.specs.PassedSizes.{saturated_nodes, most_bytes, bytes_bound, IsSmallProgram, ShowsSize}
use Rattle.dump_reader.specs.declared.environment.RawEnv.{RawEnv}
use Rattle.driver.specs.declared.refusal.Refusal.{Refusal}
use Rattle.driver.specs.declared.refusal.Refusal.TheVariants as refusals
use Rattle.driver.specs.declared.refusal.ProgramLimit.TheVariants as limits
use Rattle.driver.specs.declared.refusal.RunEnd.TheVariants as ends
use Rattle.driver.specs.Judged.{IsTableName, PlaceIsTold, number_of, EndsWith}
use Rattle.driver.specs.Lines.{status_of}
use Rattle.driver.specs.SourceEnds.{IsAcceptedWith}
use Rattle.driver.specs.SourceSays.{ShapesSay, IsLine}

-- ---- what each stage says

-- directed erasure of main and of what it reaches, with the units that the search left
abbrev pub erasure_of : Env → Term → Account → Placed Answer
erasure_of E t u = erased_program E (test_of E) most_nested t u

abbrev pub ErasureSays : RawEnv → Env → Term → Account → Result BoxProgram Refusal → Account → Type 0
ErasureSays e E t u (Ok P) w = (erasure_of E t u).outcome ≡ Gives (Program P) w
ErasureSays e E t u (Err (refusals.Axiom name)) w = (k : Name) × ((erasure_of E t u).outcome ≡ Gives (ReachesAxiom k) w) × IsTableName e k.0 name.items
ErasureSays e E t u (Err refusals.TurnsSpent) w = (erasure_of E t u).outcome ≡ Spends
ErasureSays e E t u (Err refusals.Depth) w = IsTrue (erasure_of E t u).deep
ErasureSays e E t u (Err (refusals.Broken n told)) w = (p : Place) × (b : Broken) × ((erasure_of E t u).outcome ≡ Breaks p b w) × (n ≡ number_of b) × PlaceIsTold e p told
ErasureSays e E t u (Err refusals.Memory) w = Unit {0}
ErasureSays e E t u (Err _) w = ⊥

-- the passes, to a module whose memory has at most so many pages
abbrev pub PassesSay : ℕ → BoxProgram → Result Parts Refusal → Type 0
PassesSay pages P (Ok m) = Fits P × (m ≡ module_of (passed P) pages)
PassesSay pages P (Err refusals.Depth) = CompileIsRefused P compiling.Depth
PassesSay pages P (Err (refusals.Program limits.Captured)) = CompileIsRefused P compiling.Captured
PassesSay pages P (Err (refusals.Program limits.Functions)) = CompileIsRefused P compiling.Functions
PassesSay pages P (Err (refusals.Program limits.Locals)) = CompileIsRefused P compiling.Locals
PassesSay pages P (Err refusals.Memory) = Unit {0}
PassesSay pages P (Err _) = ⊥

-- the run trapped with the status 1, after a grow of memory was refused
abbrev pub IsExhausted : Parts → (pages steps : ℕ) → Type 0
IsExhausted m pages steps = (kind : TrapKind) × (x : IsTrapped m pages steps kind 1) × IsTrue x.store.refused

-- the module's run, in at most so many steps
abbrev pub ExecRunSays : Parts → (pages steps : ℕ) → Result Answered Refusal → Type 0
ExecRunSays m pages steps (Ok a) = Ends m pages steps (Ok a)
ExecRunSays m pages steps (Err (refusals.Program limits.ModuleBytes)) = Ends m pages steps (Err running.ModuleBytes)
ExecRunSays m pages steps (Err (refusals.Run ends.Exhausted)) = IsSmall m × IsExhausted m pages steps
ExecRunSays m pages steps (Err (refusals.Run ends.StepsSpent)) = Ends m pages steps (Err running.StepsSpent)
ExecRunSays m pages steps (Err (refusals.Run (ends.Trapped kind))) = Ends m pages steps (Err (running.Trapped kind))
ExecRunSays m pages steps (Err (refusals.Run (ends.NoValue word))) = Ends m pages steps (Err (running.NoValue word))
ExecRunSays m pages steps (Err refusals.AnswerNodes) = Ends m pages steps (Err running.AnswerNodes)
ExecRunSays m pages steps (Err refusals.Memory) = Unit {0}
ExecRunSays m pages steps (Err _) = ⊥

-- so, with the figures of a run that answers
abbrev pub MeasuredSays : Parts → (pages steps : ℕ) → Result Measured Refusal → Type 0
MeasuredSays m pages steps (Ok x) = IsMeasured m pages steps x
MeasuredSays m pages steps (Err r) = ExecRunSays m pages steps (Err r)

-- the data isn't of main's type, which the word in `result` shows
abbrev pub TextRefuses : List Shape → Answered → Refusal → Type 0
TextRefuses hs a (refusals.Run (ends.NoValue word)) = (word ≡ a.word) × (FitsShapes (members hs) 0 a.tree → ⊥)
TextRefuses hs a refusals.Memory = Unit {0}
TextRefuses hs a _ = ⊥

-- the text of the data at the types, and LF
abbrev pub TextSays : {V : Type 0} → (V → List ℕ) → List Shape → List (List ℕ) → Answered → Result V Refusal → Type 0
TextSays view hs names a (Ok v) = IsLine hs names a.tree (view v)
TextSays view hs names a (Err r) = TextRefuses hs a r

-- ---- what is known after each stage

-- the check accepts the environment, which is well formed by a derivation for every declaration and for main
pub record Accepting (turns : ℕ) (e : RawEnv) : Type 0 where
  pub kept : Env
  pub type : Term
  pub left : Account
  pub accepted : IsAcceptedWith turns e kept type left
  pub checked : IsCheckedEnvironment e.levels e.constraints (givens e) e.main kept type

-- main's type has a first-order set
pub record Searching (turns : ℕ) (e : RawEnv) : Type 0 where
  pub before : Accepting turns e
  pub shapes : List Shape
  pub set : IsFirstOrder before.kept before.type (members shapes)
  pub named : AreNamed before.kept shapes
  pub left : Account
  pub found : (first_order_search before.kept before.type before.left).end ≡ Done (Found (members shapes)) left

-- main is erased to a program, which is of the form of box programs, and whose constants and main are erasures of the source's
pub record Erasing (turns : ℕ) (e : RawEnv) : Type 0 where
  pub before : Searching turns e
  pub program : BoxProgram
  pub form : IsBoxProgram program
  pub sources : HasErased before.before.kept program
  pub is : IsErased before.before.kept e.main program
  pub left : Account
  pub erased : (erasure_of before.before.kept e.main before.left).outcome ≡ Gives (Program program) left

-- the program has a module
pub record Compiling (turns : ℕ) (e : RawEnv) : Type 0 where
  pub before : Erasing turns e
  pub fits : Fits before.program

-- the module of this call
abbrev pub its_module : {turns : ℕ} {e : RawEnv} → ℕ → Compiling turns e → Parts
its_module pages c = module_of (passed c.before.program) pages

-- its run answers data
pub record Answering (turns : ℕ) (e : RawEnv) (pages steps : ℕ) : Type 0 where
  pub before : Compiling turns e
  pub answer : Answered
  pub ends : Ends (its_module pages before) pages steps (Ok answer)

abbrev pub its_shapes : {turns : ℕ} {e : RawEnv} → Erasing turns e → List Shape
its_shapes x = x.before.shapes

abbrev pub its_environment : {turns : ℕ} {e : RawEnv} → Erasing turns e → Env
its_environment x = x.before.before.kept

abbrev pub its_type : {turns : ℕ} {e : RawEnv} → Erasing turns e → Term
its_type x = x.before.before.type

-- ---- how it ends

-- the stage that refuses, with what it says; where it is the run or what comes after, the module has a typing
pub data StageRefuses (turns : ℕ) (e : RawEnv) (pages steps : ℕ) (r : Refusal) : Type 0 where
  in_search : (x : Accepting turns e) (w : Account) → ShapesSay x.kept x.type x.left (Err r) w → StageRefuses turns e pages steps r
  in_erasure : (x : Searching turns e) (w : Account) → ErasureSays e x.before.kept e.main x.left (Err r) w → StageRefuses turns e pages steps r
  in_passes : (x : Erasing turns e) → PassesSay pages x.program (Err r) → StageRefuses turns e pages steps r
  in_run : (x : Compiling turns e) → IsValid (its_module pages x) → ExecRunSays (its_module pages x) pages steps (Err r) → StageRefuses turns e pages steps r
  in_text : (x : Answering turns e pages steps) → IsValid (its_module pages x.before) → TextRefuses (its_shapes x.before.before) x.answer r → StageRefuses turns e pages steps r

-- what shows a refusal of `exec` after the check
abbrev pub IsExecCause : (turns pages steps : ℕ) → Refusal → RawEnv → Type 0
IsExecCause turns pages steps r e = (r ≢ refusals.Memory) × StageRefuses turns e pages steps r

-- by a refusal for the program or for its module, the program is large after saturation: it has lambdas under over 1,000 binders, too many nodes, or too many nodes and words for its module's bytes
abbrev pub ShowsLarge : BoxProgram → Refusal → Type 0
ShowsLarge P (refusals.Program limits.Captured) = ShowsSize P compiling.Captured
ShowsLarge P (refusals.Program limits.Functions) = ShowsSize P compiling.Functions
ShowsLarge P (refusals.Program limits.Locals) = ShowsSize P compiling.Locals
ShowsLarge P (refusals.Program limits.ModuleBytes) = most_bytes < bytes_bound (saturated_nodes P) (greatest_words P)
ShowsLarge P r = Unit {0}

abbrev pub IsLargeFor : (turns : ℕ) → Refusal → RawEnv → Type 0
IsLargeFor turns r e = (x : Erasing turns e) → ShowsLarge x.program r

-- the text of the answer, or a refusal other than want of memory
abbrev pub ExecEnds : (turns : ℕ) → RawEnv → (pages steps : ℕ) → Result (List ℕ) Refusal → Type 0
ExecEnds turns e pages steps (Ok text) = (x : Answering turns e pages steps) × IsLine (its_shapes x.before.before) e.names x.answer.tree text
ExecEnds turns e pages steps (Err r) = IsExecCause turns pages steps r e

abbrev pub status_of_end : Result (List ℕ) Refusal → ℕ
status_of_end (Ok text) = 0
status_of_end (Err r) = status_of r

-- the check accepts, the rest ends so, and the search and erasure pass no limit
pub record RestEndsWith (turns : ℕ) (e : RawEnv) (pages steps status : ℕ) : Type 0 where
  pub check : EndsWith turns e 0
  pub end : Result (List ℕ) Refusal
  pub ends : ExecEnds turns e pages steps end
  pub search_within : (x : Accepting turns e) → (first_order_search x.kept x.type x.left).deep ≡ false
  pub erasure_within : (x : Searching turns e) → (erasure_of x.before.kept e.main x.left).deep ≡ false
  pub status_is : status ≡ status_of_end end

-- the check doesn't accept, or it does and the rest ends with this status; no limit of depth is passed by the directed rules
abbrev pub ExecEndsWith : (turns : ℕ) → RawEnv → (pages steps status : ℕ) → Type 0
ExecEndsWith turns e pages steps status = (EndsWith turns e status × (status ≢ 0)) ⊎ RestEndsWith turns e pages steps status

-- ---- where main has a module

-- the check accepts, main's type has a first-order set, erasure ends with a program, the directed rules pass no limit of depth, and the program has a module within 16 MiB
pub record IsCompilable (turns : ℕ) (e : RawEnv) (pages : ℕ) : Type 0 where
  pub check : EndsWith turns e 0
  pub stages : Compiling turns e
  pub small : IsSmall (its_module pages stages)
  pub search_within : (x : Accepting turns e) → (first_order_search x.kept x.type x.left).deep ≡ false
  pub erasure_within : (x : Searching turns e) → (erasure_of x.before.kept e.main x.left).deep ≡ false

-- the same, and the program is small, by the source's words: no term of it is too deep after saturation, no lambda under over 1,000 binders, and its nodes are few, alone and with the words
pub record IsSmallSource (turns : ℕ) (e : RawEnv) : Type 0 where
  pub check : EndsWith turns e 0
  pub stages : Erasing turns e
  pub sizes : IsSmallProgram stages.program (source_words (its_environment stages) e.main)
  pub search_within : (x : Accepting turns e) → (first_order_search x.kept x.type x.left).deep ≡ false
  pub erasure_within : (x : Searching turns e) → (erasure_of x.before.kept e.main x.left).deep ≡ false

-- main has a module, as the passes or the sizes show
abbrev pub HasModule : (turns : ℕ) → RawEnv → (pages : ℕ) → Type 0
HasModule turns e pages = IsCompilable turns e pages ⊎ IsSmallSource turns e

-- then there is an answer, or want of memory; or the run's answer has too many nodes, the run is exhausted, or longer, or its answer is no data of main's type
pub record Finishes (turns : ℕ) (e : RawEnv) (pages steps status : ℕ) : Type 0 where
  pub among : Contains (0 ∷ 1 ∷ 7 ∷ 11 ∷ 12 ∷ 15 ∷ []) status
  pub many : status ≡ 7 → (x : Compiling turns e) × IsLarge (its_module pages x) pages steps
