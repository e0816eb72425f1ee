-- What the stages of `export` say: the module for calls of main, or the refusal of a stage before the module's bytes.
use Rattle.std.specs.Prelude.{ℕ, ◌≡◌, List, Result, Ok, Err}
use Rattle.command_line.specs.declared.job.Job.TheVariants.{Export}
use Rattle.command_line.specs.declared.line.Request.{Request}
use Rattle.wasm_core.specs.Parts.{Parts}
use Rattle.dump_reader.specs.declared.environment.RawEnv.{RawEnv}
use Rattle.driver.specs.declared.refusal.Refusal.{Refusal}
use Rattle.driver.specs.Texts.{SpellsWithin}
use Rattle.driver.specs.CallStages.{CallCompiling, its_call_module}
use Rattle.driver.specs.Serve.{RefusalSays}

-- the bytes spell an environment, which is well formed, and this is the module for calls of the program that its main is erased to
pub record IsCallModule (q : Request) (bytes : List ℕ) (m : Parts) : Type 0 where
  pub environment : RawEnv
  pub spelled : SpellsWithin bytes environment
  pub stages : CallCompiling q.turns environment
  pub module_is : m ≡ its_call_module q.pages stages

-- that, or a refusal
abbrev pub CallModuleSays : Request → Result Parts Refusal → List ℕ → Type 0
CallModuleSays q (Ok m) bytes = IsCallModule q bytes m
CallModuleSays q (Err r) bytes = RefusalSays Export q r bytes
