-- The frames of a run: how many stand at a state, and the most that stand at one of its states.
use Rattle.std.specs.Prelude.{ℕ, zero, suc, ◌≡◌, ◌-◌, ◌^◌, ◌<◌, length, max, min, Some}
use Rattle.wasm_core.specs.HostStore.{IsForCall, IsReady, main_start_in}
use Rattle.wasm_core.specs.MachineRun.{MachineShown}
use Rattle.wasm_core.specs.MachineStep.{Store, State, At, Over}
use Rattle.wasm_core.specs.Parts.{Parts}
use Rattle.wasm_core.specs.Runs.{Moves, first_store}

-- the function that runs and those that wait for it; none where the run has ended
abbrev pub frames : State → ℕ
frames (At c) = suc (length c.callers)
frames (Over e store) = 0

-- the most at a state of a run of k steps of a machine with this bound on its pages, from its first state to its last
abbrev pub most_frames : (m : Parts) (cap k : ℕ) (s t : State) → Moves m cap k s t → ℕ
most_frames m cap zero s t run = frames t
most_frames m cap (suc k) s t (mid, run, e) = max (most_frames m cap k s mid run) (frames t)

-- The machine's steps, as many as it has counted: a run of `main` to the machine's state, with a grow refused where the machine refuses it, from a store in which one may
-- start, the module's own where no host gives arguments. At its states so many frames stand at most. The count stops at the last value of its 64 bits
pub record HasPeak (a : MachineShown) (n : ℕ) : Type 0 where
  pub store : Store
  pub own : (IsForCall a.program → ⊥) → store ≡ first_store a.program
  pub ready : IsReady a.program store
  pub first : State
  pub starts : main_start_in a.program store ≡ Some first
  pub steps : ℕ
  pub counted : a.made ≡ min steps (2 ^ 64 - 1)
  pub run : Moves a.program a.cap steps first a.state
  pub most : n ≡ most_frames a.program a.cap steps first a.state run

-- up to the last count that is exact, a machine to which no host gives arguments has one such number
abbrev pub PeaksAreOne : Type 0
PeaksAreOne = (a : MachineShown) (n p : ℕ) → (IsForCall a.program → ⊥) → a.made < 2 ^ 64 - 1 → HasPeak a n → HasPeak a p → n ≡ p
