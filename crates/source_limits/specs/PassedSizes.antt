-- Sizes of a program after saturation by which no pass refuses it, and what the refusal of a pass says of them.
use Rattle.std.specs.Prelude.{ℕ, ◌+◌, ◌*◌, ◌<◌, ◌≤◌, length}
use Rattle.pc_terms.specs.Syntax.{Term}
use Rattle.calculus_rules.specs.Environment.{Env}
use Rattle.lambda_box.specs.BoxProgram.{BoxProgram}
use Rattle.lambda_box.specs.DataTerms.{greatest_words}
use Rattle.lambda_box.specs.SaturatedForm.{program_nodes}
use Rattle.box_passes.specs.PassLaws.{saturated_program}
use Rattle.box_passes.specs.PassResults.{IsDeep}
use Rattle.closure_lift.specs.LiftedForm.{most_functions}
use Rattle.wasm_core.specs.ShortestBytes.{module_bytes}
use Rattle.known_calls.specs.KnownModule.{module_of}
use Rattle.known_calls.specs.KnownCalls.{module_of_call}
use Rattle.back_end.specs.BackEnd.{passed}
use Rattle.compile.specs.Passes.{IsShallow}
use Rattle.compile.specs.declared.fault.CompileFault.{CompileFault}
use Rattle.compile.specs.declared.fault.CompileFault.TheVariants as refusals
use Rattle.headline.specs.SourceWords.{source_words}
use Rattle.source_limits.specs.LambdaBinders.{program_binders}
use Rattle.source_limits.specs.SourceNodes.{most_nodes}

-- s: the nodes of the saturated program
abbrev pub saturated_nodes : BoxProgram → ℕ
saturated_nodes P = program_nodes (saturated_program P)

-- the greatest number of binders that a lambda of the saturated program is under
abbrev pub saturated_binders : BoxProgram → ℕ
saturated_binders P = program_binders (saturated_program P)

-- no lambda captures more words than it has binders outside it
abbrev pub most_binders : ℕ
most_binders = 1000

abbrev pub most_locals : ℕ
most_locals = 50000

abbrev pub most_bytes : ℕ
most_bytes = 16777216

abbrev pub most_arguments : ℕ
most_arguments = 255

-- the bytes of a module are at most these, for s nodes and w words
abbrev pub bytes_bound : ℕ → ℕ → ℕ
bytes_bound s w = 64 * s * w + 4096

-- the sizes of a program: its words are at most w
pub record IsSmallProgram (P : BoxProgram) (w : ℕ) : Type 0 where
  pub shallow : IsShallow P
  pub binders : saturated_binders P ≤ most_binders
  pub nodes : saturated_nodes P ≤ most_functions
  pub bytes : bytes_bound (saturated_nodes P) w ≤ most_bytes

-- the shortest bytes of its module are within the limit, whatever the maximum of its pages
abbrev pub HasSmallModule : BoxProgram → Type 0
HasSmallModule P = (pages : ℕ) → length (module_bytes (module_of (passed P) pages)) ≤ most_bytes

-- so are those of its module for calls, whatever the number of arguments
abbrev pub HasSmallCallModule : BoxProgram → Type 0
HasSmallCallModule P = (k pages : ℕ) → k ≤ most_arguments → length (module_bytes (module_of_call (passed P) k pages)) ≤ most_bytes

-- what a refusal of the passes says of the program's sizes
abbrev pub ShowsSize : BoxProgram → CompileFault → Type 0
ShowsSize P refusals.Depth = IsDeep (saturated_program P)
ShowsSize P refusals.Captured = (most_binders < saturated_binders P) × (4 + most_binders < greatest_words P)
ShowsSize P refusals.Functions = most_functions < saturated_nodes P
ShowsSize P refusals.Locals = most_locals < saturated_nodes P
ShowsSize P refusals.Memory = Unit {0}

-- and of the source's: of a depth after saturation it says nothing there
abbrev pub ShowsSourceSize : Env → Term → CompileFault → Type 0
ShowsSourceSize E main refusals.Captured = 4 + most_binders < source_words E main
ShowsSourceSize E main refusals.Functions = most_functions < most_nodes E main
ShowsSourceSize E main refusals.Locals = most_locals < most_nodes E main
ShowsSourceSize E main r = Unit {0}
