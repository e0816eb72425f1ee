-- All runs from a state at once, as a tree that branches where a grow of memory is granted or refused.
use Rattle.std.specs.Prelude.{ℕ, suc, ◌≡◌, ◌≤◌, length, Some, true, false}
use Rattle.wasm_core.specs.Parts.{Parts}
use Rattle.wasm_core.specs.MachineStep.{Conf, State, At, step}

-- `Within m frames Q E least most s`: in each run from s at most `most` steps are made before it is at a state of Q, where at least `least`
-- were made, or at one of E; and till then at most so many frames wait
pub data Within (m : Parts) (frames : ℕ) (Q E : State → Type 0) : ℕ → ℕ → State → Type 0 where
  now : {most : ℕ} {s : State} → Q s → Within m frames Q E 0 most s
  gone : {least most : ℕ} {s : State} → E s → Within m frames Q E least most s
  moves : {least most l : ℕ} {c : Conf} (s t : State) → length c.callers ≤ frames → least ≤ suc l → step m true c ≡ Some s → step m false c ≡ Some t → Within m frames Q E l most s → Within m frames Q E l most t → Within m frames Q E least (suc most) (At c)

-- what has become of a run after n steps: it goes on whatever is granted, it is at a state of Q, or at one of E
pub data Fate (m : Parts) (frames : ℕ) (Q E : State → Type 0) (least n : ℕ) : State → Type 0 where
  goes_on : {c : Conf} (s t : State) → length c.callers ≤ frames → step m true c ≡ Some s → step m false c ≡ Some t → Fate m frames Q E least n (At c)
  ended : {t : State} → Q t → least ≤ n → Fate m frames Q E least n t
  ran_out : {t : State} → E t → Fate m frames Q E least n t
