-- The bounds on steps and on memory.
use Rattle.std.specs.Prelude.{◌≡◌, ℕ, ◌+◌, ◌*◌, ◌<◌, ◌≤◌, true, Some}
use Rattle.box_terms.specs.BoxSyntax.{BoxTerm}
use Rattle.lambda_box.specs.BoxProgram.{BoxProgram}
use Rattle.lambda_box.specs.BoxEvaluation.{BoxEvaluates}
use Rattle.lambda_box.specs.BoxData.{Data as Nodes, BoxReads}
use Rattle.lambda_box.specs.DataTerms.{greatest_words}
use Rattle.wasm_core.specs.declared.ended.Ended.TheVariants.{Trapped}
use Rattle.wasm_core.specs.declared.ended.TrapKind.{TrapKind}
use Rattle.wasm_core.specs.MachineStep.{State, Store, Over, Reach}
use Rattle.wasm_core.specs.Runs.{main_start}
use Rattle.known_calls.specs.KnownModule.{module_of}
use Rattle.back_end.specs.BackEnd.{passed, IsWithinPasses}

-- of an evaluation with n nodes: no run makes more steps than this, and where this many bytes are within the maximum, a run traps only where a grow within the maximum was
-- refused
pub record Bounded (P : BoxProgram) (pages m n : ℕ) : Type 0 where
  pub steps : (first : State) (k : ℕ) (t : State) → main_start (module_of (passed P) pages) ≡ Some first → Reach (module_of (passed P) pages) k first t → k ≤ 1024 * n * (greatest_words P + m)
  pub memory : 32 * n * greatest_words P + 8 ≤ 65536 * pages → (first : State) (k : ℕ) (trap : TrapKind) (s : Store) → main_start (module_of (passed P) pages) ≡ Some first → Reach (module_of (passed P) pages) k first (Over (Trapped trap) s) → s.by_choice ≡ true

abbrev pub StepsAndMemoryAreBounded : Type 0
StepsAndMemoryAreBounded = (P : BoxProgram) (pages m : ℕ) (w : BoxTerm) (ns : Nodes) (n matched : ℕ) → 0 < pages → pages ≤ 16384 → 0 < m → IsWithinPasses P m → BoxEvaluates P P.main w n matched → BoxReads P w ns → Bounded P pages m n
