-- How `call` ends after the check: main's signature, the text of the arguments, erasure, the passes, the storing of the arguments, the run of the module, and the text of its answer. The input is the text
-- of an environment and behind it that of the arguments.
use Rattle.std.specs.Prelude.{ℕ, ◌≡◌, ◌≢◌, ◌⊎◌, List, length, IsTrue, Result, Ok, Err}
use Rattle.dump_reader.specs.Front.{front_length}
use Rattle.pc_rules.specs.declared.meter.Account.{Account}
use Rattle.first_order.specs.declared.shapes.Signature.{Signature}
use Rattle.first_order.specs.declared.shapes.Shape.{Shape}
use Rattle.first_order.specs.declared.faults.ArgsFault.TheVariants as texts
use Rattle.first_order.specs.Awaited.{ArgumentReading, ArgumentsAre, ArgumentsFail, argument_sets, arguments_from, joined}
use Rattle.wasm_core.specs.declared.ended.TrapKind.{TrapKind}
use Rattle.wasm_core.specs.Parts.{Parts}
use Rattle.wasm_core.specs.ModuleTyping.{IsValid}
use Rattle.wasm_core.specs.WordData.{DataNodes}
use Rattle.module_run.specs.declared.answer.Answer.{Answer as Answered}
use Rattle.module_run.specs.declared.refusal.RunRefusal.TheVariants as running
use Rattle.module_run.specs.CallEnds.{CallEnds, LacksRoom, start_with}
use Rattle.module_run.specs.Ends.{IsSmall, IsTrappedFrom}
use Rattle.dump_reader.specs.declared.environment.RawEnv.{RawEnv}
use Rattle.driver.specs.declared.refusal.Refusal.{Refusal}
use Rattle.driver.specs.declared.refusal.Refusal.TheVariants as refusals
use Rattle.driver.specs.declared.refusal.ProgramLimit.TheVariants as limits
use Rattle.driver.specs.declared.refusal.RunEnd.TheVariants as ends
use Rattle.driver.specs.declared.refusal.ArgumentFault.TheVariants as arguments
use Rattle.driver.specs.SourceSays.{IsLine}
use Rattle.driver.specs.ExecEnds.{Accepting, ErasureSays, PassesSay, TextRefuses}
use Rattle.driver.specs.CallStages.{SignatureSays, Signing, CallErasing, CallCompiling, its_call_module}

-- ---- what each stage says

-- what the text behind the environment is read as, along the signature
abbrev pub arguments_read : List ℕ → Signature → (names : List (List ℕ)) → ArgumentReading
arguments_read bytes s names = arguments_from names (argument_sets s.args) bytes (front_length bytes)

-- it spells these arguments, one for each of the signature's
abbrev pub AreItsArguments : List ℕ → Signature → (names : List (List ℕ)) → List DataNodes → Type 0
AreItsArguments bytes s names ds = (arguments_read bytes s names ≡ ArgumentsAre (joined ds)) × (length ds ≡ length s.args)

-- the first token that refuses it
abbrev pub ArgumentsRefuse : List ℕ → Signature → (names : List (List ℕ)) → Refusal → Type 0
ArgumentsRefuse bytes s names (refusals.Argument (arguments.Syntax o)) = arguments_read bytes s names ≡ ArgumentsFail (texts.Syntax o)
ArgumentsRefuse bytes s names (refusals.Argument arguments.Nesting) = arguments_read bytes s names ≡ ArgumentsFail texts.Nesting
ArgumentsRefuse bytes s names (refusals.Argument arguments.NameBytes) = arguments_read bytes s names ≡ ArgumentsFail texts.NameBytes
ArgumentsRefuse bytes s names (refusals.Argument (arguments.Wrong o)) = arguments_read bytes s names ≡ ArgumentsFail (texts.Wrong o)
ArgumentsRefuse bytes s names refusals.Memory = Unit {0}
ArgumentsRefuse bytes s names _ = ⊥

-- it is read, or refused
abbrev pub ArgumentsSay : {V : Type 0} → (V → List DataNodes) → List ℕ → Signature → (names : List (List ℕ)) → Result V Refusal → Type 0
ArgumentsSay view bytes s names (Ok v) = AreItsArguments bytes s names (view v)
ArgumentsSay view bytes s names (Err r) = ArgumentsRefuse bytes s names r

-- there is no room for the arguments; or the run trapped with the status 1, after a grow of memory was refused
abbrev pub CallHasNoMemory : Parts → (pages steps : ℕ) → List DataNodes → Type 0
CallHasNoMemory m pages steps args = LacksRoom m pages args ⊎ ((kind : TrapKind) × (x : IsTrappedFrom (start_with m pages args) m pages steps kind 1) × IsTrue x.store.refused)

-- the call of the module's main with these arguments, in at most so many steps
abbrev pub CallSays : Parts → (pages steps : ℕ) → List DataNodes → Result Answered Refusal → Type 0
CallSays m pages steps args (Ok a) = CallEnds m pages steps args (Ok a)
CallSays m pages steps args (Err (refusals.Program limits.ModuleBytes)) = CallEnds m pages steps args (Err running.ModuleBytes)
CallSays m pages steps args (Err (refusals.Run ends.Exhausted)) = IsSmall m × CallHasNoMemory m pages steps args
CallSays m pages steps args (Err (refusals.Run ends.StepsSpent)) = CallEnds m pages steps args (Err running.StepsSpent)
CallSays m pages steps args (Err (refusals.Run (ends.Trapped kind))) = CallEnds m pages steps args (Err (running.Trapped kind))
CallSays m pages steps args (Err (refusals.Run (ends.NoValue word))) = CallEnds m pages steps args (Err (running.NoValue word))
CallSays m pages steps args (Err refusals.AnswerNodes) = CallEnds m pages steps args (Err running.AnswerNodes)
CallSays m pages steps args (Err refusals.Memory) = Unit {0}
CallSays m pages steps args (Err _) = ⊥

-- ---- what is known after each stage

-- the text behind the environment spells arguments of main's signature
pub record ReadingArguments (turns : ℕ) (e : RawEnv) (bytes : List ℕ) : Type 0 where
  pub before : Signing turns e
  pub arguments : List DataNodes
  pub read : AreItsArguments bytes before.signature e.names arguments

-- the call answers data
pub record CallAnswering (turns : ℕ) (e : RawEnv) (bytes : List ℕ) (pages steps : ℕ) : Type 0 where
  pub reading : ReadingArguments turns e bytes
  pub before : CallCompiling turns e
  pub answer : Answered
  pub ends : CallEnds (its_call_module pages before) pages steps reading.arguments (Ok answer)

-- the types of the answer
abbrev pub answer_shapes : {turns : ℕ} {e : RawEnv} → Signing turns e → List Shape
answer_shapes x = x.signature.answer.types

-- ---- how it ends

-- the stage that refuses, with what it says; where it is the storing, the run or what comes after, the module has a typing
pub data CallStops (turns : ℕ) (e : RawEnv) (bytes : List ℕ) (pages steps : ℕ) (r : Refusal) : Type 0 where
  in_signature : (x : Accepting turns e) (w : Account) → SignatureSays x.kept x.type x.left (Err r) w → CallStops turns e bytes pages steps r
  in_arguments : (x : Signing turns e) → ArgumentsRefuse bytes x.signature e.names r → CallStops turns e bytes pages steps r
  in_call_erasure : (y : ReadingArguments turns e bytes) (x : Signing turns e) (w : Account) → ErasureSays e x.before.kept e.main x.left (Err r) w → CallStops turns e bytes pages steps r
  in_call_passes : (y : ReadingArguments turns e bytes) (x : CallErasing turns e) → PassesSay pages x.program (Err r) → CallStops turns e bytes pages steps r
  in_call_run : (y : ReadingArguments turns e bytes) (x : CallCompiling turns e) → IsValid (its_call_module pages x) → CallSays (its_call_module pages x) pages steps y.arguments (Err r) →
      CallStops turns e bytes pages steps r
  in_call_text : (x : CallAnswering turns e bytes pages steps) → IsValid (its_call_module pages x.before) → TextRefuses (answer_shapes x.before.before.before) x.answer r → CallStops turns e bytes pages steps r

-- what shows a refusal of `call` after the check
abbrev pub IsCallStop : (turns pages steps : ℕ) → List ℕ → Refusal → RawEnv → Type 0
IsCallStop turns pages steps bytes r e = (r ≢ refusals.Memory) × CallStops turns e bytes pages steps r

-- the text of the answer, or a refusal other than want of memory
abbrev pub CallJobEnds : (turns : ℕ) → RawEnv → List ℕ → (pages steps : ℕ) → Result (List ℕ) Refusal → Type 0
CallJobEnds turns e bytes pages steps (Ok text) = (x : CallAnswering turns e bytes pages steps) × IsLine (answer_shapes x.before.before.before) e.names x.answer.tree text
CallJobEnds turns e bytes pages steps (Err r) = IsCallStop turns pages steps bytes r e
