-- Main's module of a dump, as the stages that `exec` and `compile` share hand it on.
use Rattle.std.specs.Prelude.{ℕ, ◌≡◌, List, Result, Ok, Err}
use Rattle.command_line.specs.declared.job.Job.TheVariants.{Compile}
use Rattle.command_line.specs.declared.line.Request.{Request}
use Rattle.driver.specs.declared.main_module.MainModule.{MainModule}
use Rattle.driver.specs.declared.refusal.Refusal.{Refusal}
use Rattle.driver.specs.Texts.{SpellsWithin}
use Rattle.driver.specs.ExecEnds.{Compiling, its_module, its_shapes}
use Rattle.driver.specs.Serve.{RefusalSays}

-- the bytes spell the environment, which is well formed; these are the types of main, and this is the module of the program that main is erased to
pub record IsMainModule (q : Request) (bytes : List ℕ) (m : MainModule) : Type 0 where
  pub spelled : SpellsWithin bytes m.environment
  pub stages : Compiling q.turns m.environment
  pub shapes_are : its_shapes stages.before ≡ m.shapes.types
  pub module_is : m.module ≡ its_module q.pages stages

-- that, or the refusal of a stage before the module's bytes
abbrev pub MakesSay : Request → Result MainModule Refusal → List ℕ → Type 0
MakesSay q (Ok m) bytes = IsMainModule q bytes m
MakesSay q (Err r) bytes = RefusalSays Compile q r bytes
