-- Which programs after erasure have a module, why the others are refused, and what the module's runs answer.
use Rattle.std.specs.Prelude.{◌≡◌, ℕ, ◌+◌, ◌<◌, ◌≤◌, length, None}
use Rattle.box_terms.specs.BoxSyntax.{BoxTerm}
use Rattle.lambda_box.specs.BoxProgram.{BoxProgram}
use Rattle.lambda_box.specs.BoxForm.{IsBoxProgram}
use Rattle.lambda_box.specs.BoxEvaluation.{BoxEvaluates}
use Rattle.lambda_box.specs.BoxData.{Data as Nodes, BoxReads}
use Rattle.lambda_box.specs.declared.fault.PassFault.{PassFault}
use Rattle.lambda_box.specs.declared.fault.PassFault.TheVariants as pass
use Rattle.box_passes.specs.PassLaws.{saturated_program}
use Rattle.box_passes.specs.PassResults.{IsDeep}
use Rattle.shrink_passes.specs.ShrunkProgram.{shrunk_program}
use Rattle.anf_convert.specs.BoxForms.{ConstructorsWithin}
use Rattle.anf_convert.specs.ToAnf.{to_anf}
use Rattle.closure_lift.specs.CapturedLimit.{ProgramCaptures}
use Rattle.closure_lift.specs.Lifting.{most_words}
use Rattle.closure_lift.specs.LiftedForm.{most_functions}
use Rattle.closure_lift.specs.declared.fault.LiftFault.{LiftFault}
use Rattle.closure_lift.specs.declared.fault.LiftFault.TheVariants as lifting
use Rattle.wasm_core.specs.ModuleTyping.{IsValid}
use Rattle.wasm_core.specs.MachineRun.{refusal, refusal_for_call}
use Rattle.known_calls.specs.KnownModule.{module_of}
use Rattle.known_calls.specs.KnownCalls.{module_of_call}
use Rattle.wasm_emit.specs.EmittedBodies.{FewLocals}
use Rattle.wasm_emit.specs.declared.fault.EmitFault.{EmitFault}
use Rattle.wasm_emit.specs.declared.fault.EmitFault.TheVariants as emission
use Rattle.back_end.specs.BackEnd.{passed, IsWithinPasses, Answered}
use Rattle.back_end.specs.StepsAndMemory.{Bounded}
use Rattle.compile.specs.declared.fault.CompileFault.{CompileFault}
use Rattle.compile.specs.declared.fault.CompileFault.TheVariants as refusals

-- no term of the saturated program is over the depth limit
abbrev pub IsShallow : BoxProgram → Type 0
IsShallow P = IsDeep (saturated_program P) → ⊥

-- no lambda or fixpoint of the program in A-normal form has over 1,000 captured words
abbrev pub CapturesFew : BoxProgram → Type 0
CapturesFew P = ProgramCaptures most_words (to_anf (shrunk_program P))

-- how many its constants, the definitions of its fixpoints and its other lambdas are
abbrev pub function_count : BoxProgram → ℕ
function_count P = length (to_anf (shrunk_program P)).constants + length (passed P).functions

-- no pass before emission refuses the program
abbrev pub IsLowered : BoxProgram → Type 0
IsLowered P = IsShallow P × CapturesFew P × (function_count P ≤ most_functions)

-- the program has a module
pub record Fits (P : BoxProgram) : Type 0 where
  pub shallow : IsShallow P
  pub captures : CapturesFew P
  pub few : function_count P ≤ most_functions
  -- no function has over 50,000 locals besides its parameters
  pub locals : FewLocals (passed P)

-- the first of these that it breaks; want of memory says nothing
abbrev pub CompileIsRefused : BoxProgram → CompileFault → Type 0
CompileIsRefused P refusals.Depth = IsDeep (saturated_program P)
CompileIsRefused P refusals.Captured = IsShallow P × (CapturesFew P → ⊥)
CompileIsRefused P refusals.Functions = IsShallow P × CapturesFew P × (most_functions < function_count P)
CompileIsRefused P refusals.Locals = IsShallow P × CapturesFew P × (function_count P ≤ most_functions) × (FewLocals (passed P) → ⊥)
CompileIsRefused P refusals.Memory = Unit {0}

-- the passes' refusals

abbrev pub of_pass : PassFault → CompileFault
of_pass pass.TooDeep = refusals.Depth
of_pass pass.Memory = refusals.Memory

abbrev pub of_lifting : LiftFault → CompileFault
of_lifting lifting.Captured = refusals.Captured
of_lifting lifting.Functions = refusals.Functions
of_lifting lifting.Memory = refusals.Memory

abbrev pub of_emission : EmitFault → CompileFault
of_emission emission.Locals = refusals.Locals
of_emission emission.Memory = refusals.Memory

-- but for want of memory a program has one cause at most, and none where it has a module
pub record CausesAreOne : Type 0 where
  pub refused : (P : BoxProgram) (a b : CompileFault) → CompileIsRefused P a → CompileIsRefused P b → (a ≡ refusals.Memory → ⊥) → (b ≡ refusals.Memory → ⊥) → a ≡ b
  pub fits : (P : BoxProgram) (a : CompileFault) → CompileIsRefused P a → (a ≡ refusals.Memory → ⊥) → Fits P → ⊥

-- where no family has over m constructors
abbrev pub FittingProgramsAreWithin : Type 0
FittingProgramsAreWithin = (P : BoxProgram) (m : ℕ) → IsBoxProgram P → Fits P → ConstructorsWithin P m → IsWithinPasses P m

-- of an evaluation with n nodes: what every run of the module answers, and within which bounds
abbrev pub FittingProgramsAnswer : Type 0
FittingProgramsAnswer = (P : BoxProgram) (pages m : ℕ) (w : BoxTerm) (ns : Nodes) (n matched : ℕ) → 0 < pages → pages ≤ 16384 → 0 < m → IsBoxProgram P → Fits P → ConstructorsWithin P m →
    BoxEvaluates P P.main w n matched → BoxReads P w ns → Answered P pages m ns n × Bounded P pages m n

-- the module has a typing
abbrev pub FittingProgramsAreValid : Type 0
FittingProgramsAreValid = (P : BoxProgram) (pages : ℕ) → 0 < pages → pages ≤ 16384 → IsBoxProgram P → Fits P → IsValid (module_of (passed P) pages)

-- so has the module for calls of its main, for any number of arguments
abbrev pub FittingCallsAreValid : Type 0
FittingCallsAreValid = (P : BoxProgram) (k pages : ℕ) → 0 < pages → pages ≤ 16384 → IsBoxProgram P → Fits P → IsValid (module_of_call (passed P) k pages)

-- no machine of the module of a program that has one is refused
abbrev pub MachinesAreMade : Type 0
MachinesAreMade = (P : BoxProgram) (pages : ℕ) → 1 ≤ pages → Fits P → refusal (module_of (passed P) pages) pages ≡ None

-- nor is one of the module for calls of its main, for a host that gives arguments
abbrev pub MachinesAreMadeForCalls : Type 0
MachinesAreMadeForCalls = (P : BoxProgram) (k pages : ℕ) → 1 ≤ pages → Fits P → refusal_for_call (module_of_call (passed P) k pages) pages ≡ None
