-- Main's module for calls of an input, with the arguments, as the stages of `call` before the module's bytes hand it on.
use Rattle.std.specs.Prelude.{ℕ, ◌≡◌, List, Result, Ok, Err}
use Rattle.dump_reader.specs.Front.{front_bytes}
use Rattle.lambda_box.specs.BoxForm.{IsBoxProgram}
use Rattle.lambda_box.specs.BoxProgram.{BoxProgram}
use Rattle.wasm_core.specs.Parts.{Parts}
use Rattle.known_calls.specs.KnownCalls.{module_of_call}
use Rattle.back_end.specs.BackEnd.{passed}
use Rattle.compile.specs.Passes.{Fits}
use Rattle.command_line.specs.declared.job.Job.TheVariants.{Call}
use Rattle.command_line.specs.declared.line.Request.{Request}
use Rattle.driver.specs.declared.called_main.CalledMain.{CalledMain}
use Rattle.driver.specs.declared.refusal.Refusal.{Refusal}
use Rattle.driver.specs.Texts.{SpellsWithin}
use Rattle.driver.specs.CallStages.{CallCompiling, its_call_module}
use Rattle.driver.specs.CallEnds.{AreItsArguments}
use Rattle.driver.specs.Serve.{RefusalSays}

-- the front of the bytes spells the environment, which is well formed; this is main's signature, these are the arguments, and this is the module for calls of the program that main is erased to
pub record IsCalledMain (q : Request) (bytes : List ℕ) (m : CalledMain) : Type 0 where
  pub spelled : SpellsWithin (front_bytes bytes) m.environment
  pub stages : CallCompiling q.turns m.environment
  pub signature_is : stages.before.before.signature ≡ m.signature
  pub read : AreItsArguments bytes m.signature m.environment.names m.arguments.items
  pub module_is : m.module ≡ its_call_module q.pages stages

-- that, or the refusal of a stage before the module's bytes
abbrev pub CalledMainSays : Request → Result CalledMain Refusal → List ℕ → Type 0
CalledMainSays q (Ok m) bytes = IsCalledMain q bytes m
CalledMainSays q (Err r) bytes = RefusalSays Call q r bytes

-- the module is one for calls with k arguments, of a program that has one
abbrev pub IsCallCompiled : Parts → (k pages : ℕ) → Type 0
IsCallCompiled m k pages = (P : BoxProgram) × IsBoxProgram P × Fits P × (m ≡ module_of_call (passed P) k pages)
