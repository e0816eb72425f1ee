-- The limits of the passes by the sizes of programs: captured words are at most the binders outside a lambda, functions fewer than nodes, and bytes bounded by nodes and words.
use Rattle.std.specs.Prelude.{ℕ, suc, ◌+◌, ◌<◌, ◌≤◌, length}
use Rattle.pc_terms.specs.Syntax.{Term}
use Rattle.calculus_rules.specs.Environment.{Env}
use Rattle.dump_reader.specs.declared.environment.RawEnv.{RawEnv}
use Rattle.lambda_box.specs.BoxProgram.{BoxProgram}
use Rattle.lambda_box.specs.BoxForm.{IsBoxProgram}
use Rattle.lambda_box.specs.DataTerms.{greatest_words}
use Rattle.lambda_box.specs.SaturatedForm.{program_nodes}
use Rattle.shrink_passes.specs.ShrunkProgram.{shrunk_program}
use Rattle.anf_convert.specs.Anf.{AnfProgram}
use Rattle.anf_convert.specs.ToAnf.{to_anf}
use Rattle.closure_lift.specs.CapturedLimit.{ProgramCaptures}
use Rattle.closure_lift.specs.Lift.{lift}
use Rattle.wasm_core.specs.ShortestBytes.{module_bytes}
use Rattle.known_calls.specs.KnownModule.{module_of}
use Rattle.known_calls.specs.KnownCalls.{module_of_call}
use Rattle.back_end.specs.BackEnd.{passed}
use Rattle.compile.specs.Passes.{IsShallow, Fits, CompileIsRefused}
use Rattle.compile.specs.declared.fault.CompileFault.{CompileFault}
use Rattle.headline.specs.AcceptedProgram.{IsAcceptedAs, IsErasedTo}
use Rattle.headline.specs.SourceWords.{source_words}
use Rattle.source_limits.specs.NormalBinders.{normal_binders}
use Rattle.source_limits.specs.SourceNodes.{most_nodes}
use Rattle.source_limits.specs.PassedSizes.{saturated_nodes, saturated_binders, most_arguments, most_bytes, bytes_bound, IsSmallProgram, HasSmallModule, HasSmallCallModule, ShowsSize, ShowsSourceSize}

-- where no lambda of a program in A-normal form is under more binders than these, no lambda and no fixpoint has more captured words
abbrev pub NormalCapturesAreFew : Type 0
NormalCapturesAreFew = (P : AnfProgram) (most : ℕ) → normal_binders P ≤ most → ProgramCaptures (suc most) P

-- so it is by the binders of the saturated program that it was made from, though bindings stand outside its lambdas besides, and constants were put in place of their uses
abbrev pub SaturatedCapturesAreFew : Type 0
SaturatedCapturesAreFew = (P : BoxProgram) (most : ℕ) → IsBoxProgram P → IsShallow P → saturated_binders P ≤ most → ProgramCaptures (suc most) (to_anf (shrunk_program P))

-- and by the words of the program, as it was before the passes
abbrev pub WordsBoundCaptures : Type 0
WordsBoundCaptures = (P : BoxProgram) (most : ℕ) → IsBoxProgram P → IsShallow P → greatest_words P ≤ 4 + most → ProgramCaptures (suc most) (to_anf (shrunk_program P))

-- constants, definitions of fixpoints and other lambdas are together fewer than the nodes of the program that was brought into A-normal form
abbrev pub FunctionsAreFewer : Type 0
FunctionsAreFewer = (P : BoxProgram) → length (to_anf P).constants + length (lift (to_anf P)).functions < program_nodes P

-- a program that a pass refuses is large
abbrev pub RefusalsShowSizes : Type 0
RefusalsShowSizes = (P : BoxProgram) (a : CompileFault) → IsBoxProgram P → CompileIsRefused P a → ShowsSize P a

-- so is one whose module has too many bytes
abbrev pub LargeModulesShowSizes : Type 0
LargeModulesShowSizes =
    (P : BoxProgram) (pages : ℕ) → IsBoxProgram P → Fits P → most_bytes < length (module_bytes (module_of (passed P) pages)) → most_bytes < bytes_bound (saturated_nodes P) (greatest_words P)

-- and one whose module for calls has, though each argument takes bytes besides
abbrev pub LargeCallModulesShowSizes : Type 0
LargeCallModulesShowSizes =
    (P : BoxProgram) (k pages : ℕ) → k ≤ most_arguments → IsBoxProgram P → Fits P → most_bytes < length (module_bytes (module_of_call (passed P) k pages)) → most_bytes < bytes_bound (saturated_nodes P) (greatest_words P)

-- no pass refuses a small program, and its module and its modules for calls have few bytes
abbrev pub SmallProgramsFit : Type 0
SmallProgramsFit = (P : BoxProgram) (w : ℕ) → IsBoxProgram P → greatest_words P ≤ w → IsSmallProgram P w → Fits P × HasSmallModule P × HasSmallCallModule P

-- the program of an accepted environment has at most the words of its source, and after saturation at most so many nodes
abbrev pub SourcesBoundSizes : Type 0
SourcesBoundSizes = (e : RawEnv) (E : Env) (T : Term) (P : BoxProgram) → IsAcceptedAs e E T → IsErasedTo E e.main P → (greatest_words P ≤ source_words E e.main) × (saturated_nodes P ≤ most_nodes E e.main)

-- where a pass refuses it, the source is large
abbrev pub RefusalsShowSourceSizes : Type 0
RefusalsShowSourceSizes = (e : RawEnv) (E : Env) (T : Term) (P : BoxProgram) (a : CompileFault) → IsAcceptedAs e E T → IsErasedTo E e.main P → CompileIsRefused P a → ShowsSourceSize E e.main a

-- no pass refuses the program of an accepted environment that is small by the words of its source
abbrev pub SmallSourcesFit : Type 0
SmallSourcesFit = (e : RawEnv) (E : Env) (T : Term) (P : BoxProgram) → IsAcceptedAs e E T → IsErasedTo E e.main P → IsSmallProgram P (source_words E e.main) → Fits P × HasSmallModule P × HasSmallCallModule P
