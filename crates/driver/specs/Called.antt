-- The answer of `call`: the text of the data that a call of main's module answers; and to which status it comes.
use Rattle.std.specs.Prelude.{ℕ, ◌≡◌, ◌≢◌, ◌⊎◌, List, Result}
use Rattle.dump_reader.specs.Front.{front_bytes}
use Rattle.wasm_core.specs.ModuleGrammar.{SpellsModule}
use Rattle.wasm_core.specs.ModuleTyping.{IsValid}
use Rattle.wasm_core.specs.ShortestBytes.{module_bytes}
use Rattle.dump_reader.specs.declared.environment.RawEnv.{RawEnv}
use Rattle.command_line.specs.declared.line.Request.{Request}
use Rattle.driver.specs.declared.refusal.Refusal.{Refusal}
use Rattle.driver.specs.Texts.{SpellsWithin}
use Rattle.driver.specs.Judged.{EndsWith}
use Rattle.driver.specs.ExecEnds.{status_of_end}
use Rattle.driver.specs.SourceSays.{IsLine}
use Rattle.driver.specs.CallStages.{its_call_module}
use Rattle.driver.specs.Exported.{CallRulesAreWithin}
use Rattle.driver.specs.CallEnds.{CallAnswering, CallJobEnds, answer_shapes}

-- The text is the answer of `call` on the input: the front of the input spells the environment, and what stands behind it the arguments.
pub record IsCallAnswer (turns pages steps : ℕ) (bytes text : List ℕ) : Type 0 where
  pub environment : RawEnv
  pub spelled : SpellsWithin (front_bytes bytes) environment
  -- what the stages hand on: the environment, well formed, and main's type; its signature; the arguments; the erased program; its module for calls; the call's answer
  pub stages : CallAnswering turns environment bytes pages steps
  pub valid : IsValid (its_call_module pages stages.before)
  pub module_is : SpellsModule (module_bytes (its_call_module pages stages.before)) (its_call_module pages stages.before)
  -- the text of the data that the call answers, along the types of main's answer, and LF
  pub text_is : IsLine (answer_shapes stages.before.before.before) environment.names stages.answer.tree text

-- ---- to which status it comes

-- the check accepts, the rest ends so, and the search and erasure pass no limit
pub record CallRestEndsWith (turns : ℕ) (e : RawEnv) (bytes : List ℕ) (pages steps status : ℕ) : Type 0 where
  pub check : EndsWith turns e 0
  pub end : Result (List ℕ) Refusal
  pub ends : CallJobEnds turns e bytes pages steps end
  pub within : CallRulesAreWithin turns e
  pub status_is : status ≡ status_of_end end

-- the front spells an environment, and the check doesn't accept it; or it does and the rest ends with this status. No limit of depth is passed by the directed rules
abbrev pub CallIsJudged : Request → ℕ → List ℕ → Type 0
CallIsJudged q status bytes =
    (e : RawEnv) × SpellsWithin (front_bytes bytes) e × ((EndsWith q.turns e status × (status ≢ 0)) ⊎ CallRestEndsWith q.turns e bytes q.pages q.steps status)
