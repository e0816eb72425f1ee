-- A machine that has returned, by what its run says, and the facts that it tells.
use Rattle.std.proofs.Common.{◌≡◌, ℕ, ◌≤◌, ◌+◌, ◌-◌, ◌^◌, List, Option, Ok, subst, arith}
use Rattle.std.specs.Prelude.{min}
use Rattle.wasm_core.specs.declared.ended.Ended.{Ended}
use Rattle.wasm_core.specs.declared.ended.Ended.TheVariants.{Returned}
use Rattle.wasm_core.specs.Parts.{Parts}
use Rattle.wasm_core.specs.MachineStep.{State, Store, At, Over}
use Rattle.wasm_core.specs.MachineRun.{MachineShown, HasEndedAs, MachineSays}
use Rattle.wasm_core.specs.Runs.{Moves}
use Rattle.reports.specs.declared.fact.Fact.{Fact}
use Rattle.wasm_run.specs.ToldRuns.{SaysTold}
use Rattle.wasm_run.specs.ToldSteps.{Tells}
use Rattle.module_run.specs.Ends.{HasReturnedFrom, StartsAt}
use Rattle.module_run.specs.RunFacts.{AreRunFactsFrom}

over_is : (e : Ended) (t : State) → HasEndedAs e t → (store : Store) × (t ≡ Over e store)
over_is e (At c) h = absurd h
over_is e (Over f store) h = (store, λ i. Over (h i) store)

counted : (made k n : ℕ) → made ≡ min (0 + k) (2 ^ 64 - 1) → k ≤ n → n ≤ 18446744073709551615 → made ≡ k
counted made k n e le few = omega (arith, e, le, few)

pub has_returned : (o : Option State) (m : Parts) (cap n : ℕ) (old new : MachineShown) → StartsAt o m cap old → n ≤ 18446744073709551615 → MachineSays old new n (Ok Returned) → HasReturnedFrom o m cap n new
has_returned o m cap n old new (s, starts, is) few says =
    let (sound, still, (k, le, ran, over)) = subst (λ o. MachineSays o new n (Ok Returned)) is says in
    let (store, at) = over_is Returned new.state over in
    record {
      sound = still;
      program = ran.same_program;
      store = store;
      at = at;
      run = record { first = s; starts = starts; steps = k; few = le; moves = subst (λ t. Moves m cap k s t) at ran.moves };
      made = counted new.made k n ran.counted le few;
    }

pub run_facts : (o : Option State) (m : Parts) (cap n : ℕ) (old new : MachineShown) (facts : List Fact) → StartsAt o m cap old → SaysTold old new n (Ok Returned) facts → AreRunFactsFrom o m cap n facts
run_facts o m cap n old new facts (s, starts, is) says =
    let (sound, still, (k, le, told, over)) = subst (λ o. SaysTold o new n (Ok Returned) facts) is says in
    let (store, at) = over_is Returned new.state over in
    record { first = s; starts = starts; steps = k; few = le; store = store; tells = subst (λ t. Tells m cap k s t facts) at told.tells }
