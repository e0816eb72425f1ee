-- What storing arguments makes of a new machine of a module for calls, as statements.
use Rattle.std.specs.Prelude.{ℕ, ◌≡◌, List, None}
use Rattle.closure_lift.specs.Lifted.{Program}
use Rattle.wasm_core.specs.Entries.{missing_for_call}
use Rattle.wasm_core.specs.HostStore.{IsForCall}
use Rattle.wasm_core.specs.MachineStep.{Store}
use Rattle.wasm_core.specs.Runs.{first_store}
use Rattle.wasm_core.specs.WordData.{DataNodes}
use Rattle.known_calls.specs.KnownCalls.{module_of_call}
use Rattle.mem_value.specs.Storing.{HasHeap, HasStored}
use Rattle.call_answers.specs.HostedCall.{HoldsArguments}

-- the module for calls has all entries that a host asks for, `heap` and `args` among them
abbrev pub CallModulesHaveEntries : Type 0
CallModulesHaveEntries = (P : Program) (k pages : ℕ) → (missing_for_call (module_of_call P k pages) ≡ None) × IsForCall (module_of_call P k pages)

-- `heap` of a new machine is an address that a host's blocks may begin at
abbrev pub NewMachinesHaveAHeap : Type 0
NewMachinesHaveAHeap = (P : Program) (k pages : ℕ) → HasHeap (module_of_call P k pages) (first_store (module_of_call P k pages))

-- and the store with arguments stored is one that holds them
abbrev pub StoredArgumentsAreHeld : Type 0
StoredArgumentsAreHeld =
    (P : Program) (k cap pages : ℕ) (new : Store) (arguments : List DataNodes) → HasStored (module_of_call P k pages) cap (first_store (module_of_call P k pages)) new arguments → HoldsArguments pages arguments new
