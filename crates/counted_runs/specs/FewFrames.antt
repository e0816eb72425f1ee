-- The most frames that stand at once in a machine's run of a program's module, by the call depth of the program's evaluation.
use Rattle.std.specs.Prelude.{◌≡◌, ℕ, ◌+◌, ◌≤◌}
use Rattle.lambda_box.specs.BoxProgram.{BoxProgram}
use Rattle.closure_lift.specs.Lifted.{VNil}
use Rattle.wasm_core.specs.MachineRun.{MachineShown}
use Rattle.wasm_run.specs.Standing.{HasPeak}
use Rattle.wasm_emit.specs.CallDepth.{call_depth, MainEvaluates}
use Rattle.back_end.specs.BackEnd.{passed}
use Rattle.headline.specs.EveryRun.{module_for}

-- main of the lifted program, which all passes make of P, evaluates; it has one call depth, at most n; and a machine that runs the module, with whatever bound on its pages and for however many steps,
-- has a peak of at most two frames more: those of main and of one function of the run time
pub record HasFewFrames (P : BoxProgram) (pages n : ℕ) : Type 0 where
  pub lifted : MainEvaluates (passed P) VNil
  pub one : (other : MainEvaluates (passed P) VNil) → call_depth other.evaluates ≡ call_depth lifted.evaluates
  pub shallow : call_depth lifted.evaluates ≤ n
  pub peak : (a : MachineShown) (p : ℕ) → a.program ≡ module_for P pages → HasPeak a p → p ≤ call_depth lifted.evaluates + 2
