-- The facts of a module's run of `main` up to its return, and reports that are told them.
use Rattle.std.specs.Prelude.{ℕ, ◌≡◌, ◌≤◌, List, Option, Some}
use Rattle.std.specs.List.{AllZip}
use Rattle.reports.specs.declared.fact.Fact.{Fact}
use Rattle.reports.specs.Shown.{Shown, IsTold}
use Rattle.wasm_core.specs.declared.ended.Ended.TheVariants.{Returned}
use Rattle.wasm_core.specs.Parts.{Parts}
use Rattle.wasm_core.specs.ModuleGrammar.{SpellsModule}
use Rattle.wasm_core.specs.MachineStep.{State, Store, Over}
use Rattle.wasm_core.specs.Runs.{main_start}
use Rattle.wasm_run.specs.ToldSteps.{Tells}

-- the run from a state by a machine with this bound on its pages returns within n steps, and these are its facts: each step with its class, and each grow that isn't refused
pub record AreRunFactsFrom (o : Option State) (m : Parts) (cap n : ℕ) (facts : List Fact) : Type 0 where
  pub first : State
  pub starts : o ≡ Some first
  pub steps : ℕ
  pub few : steps ≤ n
  pub store : Store
  pub tells : Tells m cap steps first (Over Returned store) facts

-- so of the run of `main` in the store of its module
abbrev pub AreRunFacts : Parts → (cap n : ℕ) → List Fact → Type 0
AreRunFacts m cap n facts = AreRunFactsFrom (main_start m) m cap n facts

-- each of some reports, in order, is told these facts
abbrev pub AreTold : {X : Type 0} → (X → Shown) → List Fact → (old new : List X) → Type 0
AreTold shown facts old new = AllZip (λ b c. IsTold facts (shown b) (shown c)) old new

-- each is told the facts of the run
abbrev pub RunIsToldFrom : {X : Type 0} → (X → Shown) → Option State → Parts → (cap n : ℕ) → (old new : List X) → Type 0
RunIsToldFrom shown o m cap n old new = (facts : List Fact) × AreRunFactsFrom o m cap n facts × AreTold shown facts old new

abbrev pub RunIsTold : {X : Type 0} → (X → Shown) → Parts → (cap n : ℕ) → (old new : List X) → Type 0
RunIsTold shown m cap n old new = (facts : List Fact) × AreRunFacts m cap n facts × AreTold shown facts old new

-- so of the module that the bytes spell
abbrev pub FileIsTold : {X : Type 0} → (X → Shown) → List ℕ → (cap n : ℕ) → (old new : List X) → Type 0
FileIsTold shown bytes cap n old new = (m : Parts) × SpellsModule bytes m × RunIsTold shown m cap n old new
