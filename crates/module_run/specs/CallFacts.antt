-- The facts of a call of a module's `main`: those of its run, up to its return. What a host does before the run is none of them.
use Rattle.std.specs.Prelude.{ℕ, List}
use Rattle.reports.specs.declared.fact.Fact.{Fact}
use Rattle.reports.specs.Shown.{Shown}
use Rattle.wasm_core.specs.Parts.{Parts}
use Rattle.wasm_core.specs.WordData.{DataNodes}
use Rattle.module_run.specs.CallEnds.{start_with}
use Rattle.module_run.specs.RunFacts.{AreRunFactsFrom, RunIsToldFrom}

abbrev pub AreCallFacts : Parts → (cap n : ℕ) → List DataNodes → List Fact → Type 0
AreCallFacts m cap n args facts = AreRunFactsFrom (start_with m cap args) m cap n facts

abbrev pub CallRunIsTold : {X : Type 0} → (X → Shown) → Parts → (cap n : ℕ) → List DataNodes → (old new : List X) → Type 0
CallRunIsTold shown m cap n args old new = RunIsToldFrom shown (start_with m cap args) m cap n old new
