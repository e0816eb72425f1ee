-- The headline on the top call: where main, of a first-order type, evaluates to a value, what every run of the module that `exec` and `bench` run and `compile` writes
-- answers, within which bounds, and what is written.
use Rattle.std.specs.Prelude.{◌≡◌, ◌≢◌, ℕ, ◌+◌, ◌*◌, ◌<◌, ◌≤◌, List, Option, Some}
use Rattle.std.specs.Io.KnownBytes.{Appends}
use Rattle.pc_terms.specs.Syntax.{Term}
use Rattle.box_terms.specs.BoxSyntax.{BoxTerm}
use Rattle.pc_rules.specs.declared.meter.Account.{Account}
use Rattle.calculus_rules.specs.Environment.{Env}
use Rattle.calculus_rules.specs.Evaluation.{Evaluates}
use Rattle.calculus_rules.specs.FirstOrder.{Shape as Member, Data, IsFirstOrder}
use Rattle.first_order.specs.declared.shapes.Shape.{Shape}
use Rattle.first_order.specs.Searching.{members, AreNamed}
use Rattle.lambda_box.specs.BoxEvaluation.{BoxEvaluates}
use Rattle.lambda_box.specs.BoxData.{BoxReads}
use Rattle.lambda_box.specs.DataTerms.{greatest_words}
use Rattle.box_passes.specs.PassLaws.{saturated_program}
use Rattle.lambda_box.specs.ClosureEvaluation.{Counts}
use Rattle.wasm_core.specs.ModuleTyping.{IsValid}
use Rattle.wasm_core.specs.declared.ended.Ended.TheVariants.{Returned}
use Rattle.wasm_core.specs.MachineStep.{State, Store, Over, Reach}
use Rattle.wasm_core.specs.Runs.{main_start}
use Rattle.headline.specs.EveryRun.{EveryRunAnswers}
use Rattle.headline.specs.Headline.{IsExactly}
use Rattle.headline.specs.SourceWords.{source_words, source_branches}
use Rattle.counted_runs.specs.CountedRuns.{GivesWith, HasCountsWithin, RunsByCounts}
use Rattle.command_line.specs.declared.job.Job.TheVariants.{Bench, Compile, Exec}
use Rattle.command_line.specs.declared.line.Request.{Request}
use Rattle.dump_reader.specs.declared.environment.RawEnv.{RawEnv}
use Rattle.driver.specs.SourceEnds.{IsAcceptedWith}
use Rattle.driver.specs.SourceSays.{IsLine}
use Rattle.driver.specs.ExecEnds.{Erasing, Compiling, Answering, its_environment, its_module}
use Rattle.driver.specs.MadeModule.{TakesModule}
use Rattle.driver.specs.Bench.{RunsModule, TakesFigures, steps_of}

-- the rules accept the environment, main's type is first-order, and main's weak call-by-value evaluation, which has n nodes, gives a value
pub record HasValue (turns : ℕ) (e : RawEnv) (n : ℕ) : Type 0 where
  pub kept : Env
  pub type : Term
  pub left : Account
  pub accepted : IsAcceptedWith turns e kept type left
  pub types : List Member
  pub first_order : IsFirstOrder kept type types
  pub value : Term
  pub evaluation : Evaluates kept e.main value n

-- along a first-order set of main's type, whose constructors have their names, the value is exactly this data; and this is the data's text, and LF
pub record IsTextOfValue (turns : ℕ) (e : RawEnv) (n : ℕ) (h : HasValue turns e n) (tree : Data) (text : List ℕ) : Type 0 where
  pub shapes : List Shape
  pub set : IsFirstOrder h.kept h.type (members shapes)
  pub named : AreNamed h.kept shapes
  pub exactly : IsExactly h.kept (members shapes) h.value tree
  pub line : IsLine shapes e.names tree text

-- of an evaluation with n nodes, w words and b branches of a match at most: where so many bytes are within the pages memory isn't exhausted, and where so many
-- steps may be made they aren't spent
pub record IsBounded (pages steps n w b status : ℕ) : Type 0 where
  pub not_exhausted : 32 * n * w + 8 ≤ 65536 * pages → status ≢ 11
  pub not_spent : 1024 * n * (w + b) ≤ steps → status ≢ 12

-- the value is this data; the module of this call validates, and every long enough run of it answers the data or is exhausted, within the bounds of the source's words and branches; the evaluation after
-- erasure with environments gives the data too, with counts that the n nodes allow, by which `counted` bounds the same runs; on status 0 out takes by `exec` the value's text and LF, by `bench` that behind
-- the figures, and by `compile` that module; the status is neither that of a trap nor that of another value; and the bounds of `exec`
pub record ServesValue (q : Request) (e : RawEnv) (n status : ℕ) (h : HasValue q.turns e n) (taken taken' : Option (List ℕ)) : Type 0 where
  pub tree : Data
  pub exactly : IsExactly h.kept h.types h.value tree
  pub valid : (x : Compiling q.turns e) → IsValid (its_module q.pages x)
  pub runs : (x : Compiling q.turns e) → EveryRunAnswers x.before.program q.pages (source_words h.kept e.main) (source_branches h.kept) n tree
  pub counted : (x : Compiling q.turns e) → HasCountsWithin x.before.program tree n
  pub text : q.job ≡ Exec → status ≡ 0 → (text : List ℕ) × IsTextOfValue q.turns e n h tree text × Appends taken taken' text
  pub figures : q.job ≡ Bench → status ≡ 0 → (text : List ℕ) × IsTextOfValue q.turns e n h tree text × TakesFigures q e text taken taken'
  pub object : q.job ≡ Compile → status ≡ 0 → TakesModule q e taken taken'
  pub answers : status ≢ 15
  pub bounded : IsBounded q.pages q.steps n (source_words h.kept e.main) (source_branches h.kept) status

-- the erased program evaluates to data with n nodes, however that comes, and of whichever type
pub record EvaluatesErased (turns : ℕ) (e : RawEnv) (n : ℕ) : Type 0 where
  pub stages : Erasing turns e
  pub value : BoxTerm
  pub tree : Data
  pub matches : ℕ
  pub evaluates : BoxEvaluates stages.program stages.program.main value n matches
  pub reads : BoxReads stages.program value tree

-- every run of the module of this call answers the data or is exhausted, within the bounds of the program's words and of the branches of its source; and so is `exec` bounded
pub record IsBoundedBy (q : Request) (e : RawEnv) (n : ℕ) (h : EvaluatesErased q.turns e n) (status : ℕ) : Type 0 where
  pub runs : (x : Compiling q.turns e) → EveryRunAnswers x.before.program q.pages (greatest_words h.stages.program) (source_branches (its_environment h.stages)) n h.tree
  pub bounded : IsBounded q.pages q.steps n (greatest_words h.stages.program) (source_branches (its_environment h.stages)) status

-- the saturated program, which the first two passes make of the erased one, gives data by evaluation with environments, with these counts, and of whichever type
pub record GivesErased (turns : ℕ) (e : RawEnv) (c : Counts) : Type 0 where
  pub stages : Erasing turns e
  pub tree : Data
  pub gives : GivesWith stages.program tree c

-- by the counts of an evaluation with environments, and with m branches of a match at most: where so many bytes are within the pages memory isn't exhausted, and where so many steps may be made they
-- aren't spent
pub record IsWithinCounts (pages steps m : ℕ) (c : Counts) (status : ℕ) : Type 0 where
  pub not_exhausted : 4 * (c.blocks * c.greatest) + 8 ≤ 65536 * pages → status ≢ 11
  pub not_spent : 64 * (c.blocks + c.contractions + 1) * (c.greatest + m) ≤ steps → status ≢ 12

-- every run of the module of this call answers the data or is exhausted, within the bounds of the counts and of the branches of the program's source; and so is `exec` bounded
pub record IsCountedBy (q : Request) (e : RawEnv) (c : Counts) (h : GivesErased q.turns e c) (status : ℕ) : Type 0 where
  pub runs : (x : Compiling q.turns e) → RunsByCounts x.before.program q.pages (source_branches (its_environment h.stages)) h.tree c
  pub bounded : IsWithinCounts q.pages q.steps (source_branches (its_environment h.stages)) c status

-- the saturated program, which the first two passes make of the erased one, evaluates to data with so many matches
pub record HasMatches (turns : ℕ) (e : RawEnv) (matches : ℕ) : Type 0 where
  pub stages : Erasing turns e
  pub value : BoxTerm
  pub tree : Data
  pub nodes : ℕ
  pub evaluates : BoxEvaluates (saturated_program stages.program) (saturated_program stages.program).main value nodes matches
  pub reads : BoxReads (saturated_program stages.program) value tree

-- each run of the module of this call that returns has made at least as many steps, and so has the one whose steps `bench` writes; so `exec` and `bench`, given fewer, have no answer
pub record TakesMatches (q : Request) (e : RawEnv) (matches status : ℕ) : Type 0 where
  pub runs : (x : Compiling q.turns e) (first : State) (k : ℕ) (s : Store) → main_start (its_module q.pages x) ≡ Some first → Reach (its_module q.pages x) k first (Over Returned s) → matches ≤ k
  pub figure : (x : Answering q.turns e q.pages q.steps) → matches ≤ steps_of x
  pub late : RunsModule q.job → q.steps < matches → status ≢ 0
