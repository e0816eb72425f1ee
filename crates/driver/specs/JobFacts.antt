-- The facts of a job on its bytes, as reports are told them: those of its check, and those of the run of a module.
use Rattle.std.specs.Prelude.{ℕ, ◌≡◌, ◌⊎◌, List, [], ◌++◌, Option, Some}
use Rattle.reports.specs.declared.fact.Fact.{Fact}
use Rattle.reports.specs.Shown.{Shown}
use Rattle.wasm_core.specs.Parts.{Parts}
use Rattle.wasm_core.specs.ModuleGrammar.{SpellsModule}
use Rattle.module_run.specs.CallFacts.{AreCallFacts}
use Rattle.module_run.specs.RunFacts.{AreRunFacts, AreTold}
use Rattle.dump_reader.specs.Front.{front_bytes}
use Rattle.dump_reader.specs.declared.environment.RawEnv.{RawEnv}
use Rattle.command_line.specs.declared.job.Job.{Job}
use Rattle.command_line.specs.declared.job.Job.TheVariants.{Exec, Run, Bench, Explain, Call, Verify}
use Rattle.command_line.specs.declared.line.Request.{Request}
use Rattle.command_line.specs.Line.{request_of}
use Rattle.driver.specs.declared.reporting.facts.Facts.{Facts}
use Rattle.driver.specs.Texts.{SpellsWithin}
use Rattle.driver.specs.Explained.{IsExplained}
use Rattle.driver.specs.CheckFacts.{HasCheckFacts, HasFacts}
use Rattle.driver.specs.CallEnds.{ReadingArguments}
use Rattle.driver.specs.CallStages.{CallCompiling, its_call_module}
use Rattle.driver.specs.ExecEnds.{Compiling, its_module}
use Rattle.driver.specs.ReportedFacts.{facts_of}
use Rattle.driver.specs.Serve.{IsInputOf}

-- those of the check of the environment that the bytes spell
abbrev pub AreCheckFacts : (turns : ℕ) → List ℕ → List Fact → Type 0
AreCheckFacts turns bytes facts = (check : Facts) × HasFacts turns bytes check × (facts ≡ facts_of check)

-- those of the run of main's module, up to its return
pub record AreMainFacts (q : Request) (bytes : List ℕ) (facts : List Fact) : Type 0 where
  pub environment : RawEnv
  pub spelled : SpellsWithin bytes environment
  pub stages : Compiling q.turns environment
  pub run : AreRunFacts (its_module q.pages stages) q.pages q.steps facts

-- those of a job that runs main's module: the check's, and then the run's
pub record AreExecFacts (q : Request) (bytes : List ℕ) (facts : List Fact) : Type 0 where
  pub check : List Fact
  pub checked : AreCheckFacts q.turns bytes check
  pub ran : List Fact
  pub run : AreMainFacts q bytes ran
  pub are : facts ≡ check ++ ran

-- those of the run of the module that the bytes spell; it has no check
abbrev pub AreFileFacts : Request → List ℕ → List Fact → Type 0
AreFileFacts q bytes facts = (m : Parts) × SpellsModule bytes m × AreRunFacts m q.pages q.steps facts

-- those of the check, or none where `explain` tells of a refusal
abbrev pub AreExplainFacts : Request → List ℕ → List Fact → Type 0
AreExplainFacts q bytes facts = AreCheckFacts q.turns bytes facts ⊎ ((text : List ℕ) × IsExplained q.turns bytes text × (facts ≡ []))

-- those of a call: those of the check of the environment that the front of the bytes spells, and then those of the run of the module for calls, with the arguments stored
pub record AreCalledFacts (q : Request) (bytes : List ℕ) (facts : List Fact) : Type 0 where
  pub check : List Fact
  pub checked : AreCheckFacts q.turns (front_bytes bytes) check
  pub environment : RawEnv
  pub spelled : SpellsWithin (front_bytes bytes) environment
  pub reading : ReadingArguments q.turns environment bytes
  pub stages : CallCompiling q.turns environment
  pub ran : List Fact
  pub run : AreCallFacts (its_call_module q.pages stages) q.pages q.steps reading.arguments ran
  pub are : facts ≡ check ++ ran

-- those of a job, by `cert` as by `check`; by `verify`, which makes no check of its own, there are none
abbrev pub AreJobFacts : Job → Request → List ℕ → List Fact → Type 0
AreJobFacts Exec q bytes facts = AreExecFacts q bytes facts
AreJobFacts Bench q bytes facts = AreExecFacts q bytes facts
AreJobFacts Call q bytes facts = AreCalledFacts q bytes facts
AreJobFacts Run q bytes facts = AreFileFacts q bytes facts
AreJobFacts Explain q bytes facts = AreExplainFacts q bytes facts
AreJobFacts Verify q bytes facts = facts ≡ []
AreJobFacts _ q bytes facts = AreCheckFacts q.turns bytes facts

-- those of the job that the words ask for
pub record HasJobFacts (words : List (List ℕ)) (left : Option (List ℕ)) (facts : List Fact) : Type 0 where
  pub request : Request
  pub asked : request_of words ≡ Some request
  pub bytes : List ℕ
  pub input : IsInputOf request.job request left bytes
  pub are : AreJobFacts request.job request bytes facts

-- ---- reports that are told them

-- each report is told the facts of the check of an environment
abbrev pub CheckIsTold : {X : Type 0} → (X → Shown) → (turns : ℕ) → RawEnv → (old new : List X) → Type 0
CheckIsTold shown turns e old new = (check : Facts) × HasCheckFacts turns e check × AreTold shown (facts_of check) old new

-- those of the check of the environment that the front of the bytes spells
abbrev pub FrontIsTold : {X : Type 0} → (X → Shown) → (turns : ℕ) → List ℕ → (old new : List X) → Type 0
FrontIsTold shown turns bytes old new = (facts : List Fact) × AreCheckFacts turns (front_bytes bytes) facts × AreTold shown facts old new

-- those of a job
abbrev pub JobIsTold : {X : Type 0} → (X → Shown) → Job → Request → List ℕ → (old new : List X) → Type 0
JobIsTold shown job q bytes old new = (facts : List Fact) × AreJobFacts job q bytes facts × AreTold shown facts old new

-- those of the job that the words ask for
abbrev pub CallIsTold : {X : Type 0} → (X → Shown) → (words : List (List ℕ)) → (left : Option (List ℕ)) → (old new : List X) → Type 0
CallIsTold shown words left old new = (facts : List Fact) × HasJobFacts words left facts × AreTold shown facts old new
