-- What a call of `run_told` says: the answer of `run`, and the facts of the steps that it made.
use Rattle.std.specs.Prelude.{ℕ, ◌≡◌, ◌≤◌, ◌<◌, ◌+◌, ◌-◌, ◌^◌, List, [], true, false, min, Result, Ok, Err}
use Rattle.reports.specs.declared.fact.Fact.{Fact}
use Rattle.wasm_core.specs.declared.ended.Ended.{Ended}
use Rattle.wasm_core.specs.declared.ended.RunFault.{RunFault}
use Rattle.wasm_core.specs.declared.ended.RunFault.TheVariants.{StepsSpent, Failed, Memory}
use Rattle.wasm_core.specs.MachineStep.{State}
use Rattle.wasm_core.specs.MachineRun.{MachineShown, Ran, HasEndedAs, GoesOn}
use Rattle.wasm_run.specs.ToldSteps.{Tells}

-- k steps were made from one to the other, and these are their facts
pub record Told (old new : MachineShown) (k : ℕ) (facts : List Fact) : Type 0 where
  pub ran : Ran old new k
  pub tells : Tells old.program old.cap k old.state new.state facts

-- so many were made before memory was wanted, and these are their facts
pub record ToldUntil (old new : MachineShown) (n : ℕ) (facts : List Fact) : Type 0 where
  pub steps : ℕ
  pub few : steps < n
  pub last : State
  pub tells : Tells old.program old.cap steps old.state last facts
  pub counted : new.made ≡ min (old.made + steps) (2 ^ 64 - 1)

-- What a call with at most n steps says by its answer, where these are the facts of the steps that it made.
abbrev pub SaysTold : MachineShown → MachineShown → ℕ → Result Ended RunFault → List Fact → Type 0
SaysTold old new n (Ok e) facts = (old.failed ≡ false) × (new.failed ≡ false) × ((k : ℕ) × (k ≤ n) × Told old new k facts × HasEndedAs e new.state)
SaysTold old new n (Err StepsSpent) facts = (old.failed ≡ false) × (new.failed ≡ false) × Told old new n facts × GoesOn new.state
SaysTold old new n (Err Failed) facts = (old.failed ≡ true) × (new ≡ old) × (facts ≡ [])
SaysTold old new n (Err Memory) facts = (old.failed ≡ false) × (new.failed ≡ true) × ToldUntil old new n facts
