-- The stages to the module for calls of a main that is a function, after the check: the search for a signature of main's type, erasure, and the passes. Each says by the definitions of its layer why it
-- stops, or what it hands on.
use Rattle.std.specs.Prelude.{ℕ, ◌≡◌, ◌≢◌, ◌≤◌, [], length, IsTrue, Result, Ok, Err}
use Rattle.pc_terms.specs.Syntax.{Term}
use Rattle.pc_rules.specs.declared.meter.Account.{Account}
use Rattle.calculus_rules.specs.Environment.{Env}
use Rattle.pc_rules.specs.DirectedRun.{Done, NoUnit}
use Rattle.pc_rules.specs.DirectedPlaces.{Gives}
use Rattle.pc_rules.specs.DirectedFirstOrder.{Found, NotFirstOrder, TooManyTypes}
use Rattle.first_order.specs.declared.shapes.Signature.{Signature}
use Rattle.first_order.specs.Searching.{AreNamed}
use Rattle.first_order.specs.Signature.{IsSignature}
use Rattle.first_order.specs.DirectedSignature.{TooManyArguments, signature_search, signed_by, set_of, sets_of, AreAllNamed}
use Rattle.lambda_box.specs.BoxProgram.{BoxProgram}
use Rattle.lambda_box.specs.BoxForm.{IsBoxProgram}
use Rattle.erase_laws.specs.ErasedProgram.{HasErased, IsErased}
use Rattle.erase_rules.specs.DirectedProgram.{Program}
use Rattle.wasm_core.specs.Parts.{Parts}
use Rattle.known_calls.specs.KnownCalls.{module_of_call}
use Rattle.back_end.specs.BackEnd.{passed}
use Rattle.compile.specs.Passes.{Fits}
use Rattle.dump_reader.specs.declared.environment.RawEnv.{RawEnv}
use Rattle.driver.specs.declared.refusal.Refusal.{Refusal}
use Rattle.driver.specs.declared.refusal.Refusal.TheVariants as refusals
use Rattle.driver.specs.ExecEnds.{Accepting, PassesSay, erasure_of}

-- ---- what each stage says

-- the search for a signature of main's type
abbrev pub SignatureSays : Env → Term → Account → Result Signature Refusal → Account → Type 0
SignatureSays E T u (Ok s) w = (signature_search E T u).end ≡ Done (Found (signed_by s)) w
SignatureSays E T u (Err refusals.NotFirstOrder) w = (W : Term) × ((signature_search E T u).end ≡ Done (NotFirstOrder W) w)
SignatureSays E T u (Err refusals.Types) w = (signature_search E T u).end ≡ Done TooManyTypes w
SignatureSays E T u (Err refusals.Arguments) w = (signature_search E T u).end ≡ Done (Found TooManyArguments) w
SignatureSays E T u (Err refusals.TurnsSpent) w = (signature_search E T u).end ≡ NoUnit
SignatureSays E T u (Err refusals.Depth) w = IsTrue (signature_search E T u).deep
SignatureSays E T u (Err refusals.Memory) w = Unit {0}
SignatureSays E T u (Err _) w = ⊥

-- the passes, to the module for calls with k arguments, whose memory has at most so many pages: their refusals are those of a main that takes none
abbrev pub CallPassesSay : (k pages : ℕ) → BoxProgram → Result Parts Refusal → Type 0
CallPassesSay k pages P (Ok m) = Fits P × (m ≡ module_of_call (passed P) k pages)
CallPassesSay k pages P (Err r) = PassesSay pages P (Err r)

-- ---- what is known after each stage

-- main's type has a signature, of 1 to 255 arguments
pub record Signing (turns : ℕ) (e : RawEnv) : Type 0 where
  pub before : Accepting turns e
  pub signature : Signature
  pub is : IsSignature before.kept before.type (sets_of signature.args) (set_of signature.answer)
  pub takes : signature.args ≢ []
  pub few : length signature.args ≤ 255
  pub named : AreAllNamed before.kept signature.args × AreNamed before.kept signature.answer.types
  pub left : Account
  pub found : (signature_search before.kept before.type before.left).end ≡ Done (Found (signed_by signature)) left

-- main is erased to a program, which is of the form of box programs, and whose constants and main are erasures of the source's
pub record CallErasing (turns : ℕ) (e : RawEnv) : Type 0 where
  pub before : Signing turns e
  pub program : BoxProgram
  pub form : IsBoxProgram program
  pub sources : HasErased before.before.kept program
  pub is : IsErased before.before.kept e.main program
  pub left : Account
  pub erased : (erasure_of before.before.kept e.main before.left).outcome ≡ Gives (Program program) left

-- the program has a module
pub record CallCompiling (turns : ℕ) (e : RawEnv) : Type 0 where
  pub before : CallErasing turns e
  pub fits : Fits before.program

-- how many arguments main takes
abbrev pub argument_count : {turns : ℕ} {e : RawEnv} → Signing turns e → ℕ
argument_count x = length x.signature.args

-- the module for calls of main
abbrev pub its_call_module : {turns : ℕ} {e : RawEnv} → ℕ → CallCompiling turns e → Parts
its_call_module pages c = module_of_call (passed c.before.program) (argument_count c.before.before) pages
