-- A machine's peak, from the frames that wait at each state that its module's runs reach.
use Rattle.std.proofs.Common.{◌≡◌, ℕ, zero, suc, ◌≤◌, length, None, Some, sym, ◌∙◌, ap, subst, arith}
use Rattle.std.proofs.lemmas.Option.{same_Some}
use Rattle.lambda_box.specs.BoxProgram.{BoxProgram}
use Rattle.wasm_core.specs.HostStore.{IsForCall, main_start_in}
use Rattle.wasm_core.specs.MachineRun.{MachineShown}
use Rattle.wasm_core.specs.MachineStep.{State, Conf, At, Over, Reach}
use Rattle.wasm_core.specs.Parts.{Parts}
use Rattle.wasm_core.specs.Runs.{Moves, main_start}
use Rattle.wasm_core.proofs.Trees.{moves_are_steps}
use Rattle.wasm_run.specs.Standing.{HasPeak, frames, most_frames}
use Rattle.headline.specs.EveryRun.{module_for}

-- at each state that a run from here reaches at most so many frames wait
abbrev pub Wait : Parts → State → ℕ → Type 0
Wait m s few = (k : ℕ) (c : Conf) → Reach m k s (At c) → length c.callers ≤ few

few_stand : (m : Parts) (s : State) (few k : ℕ) (t : State) → Wait m s few → Reach m k s t → frames t ≤ suc few
few_stand m s few k (At c) h r = omega (arith, h k c r)
few_stand m s few k (Over e store) h r = omega arith

few_frames : (m : Parts) (cap : ℕ) (s : State) (few : ℕ) → Wait m s few → (k : ℕ) (t : State) (run : Moves m cap k s t) → most_frames m cap k s t run ≤ suc few
few_frames m cap s few h zero t run = few_stand m s few zero t h run
few_frames m cap s few h (suc k) t (mid, run, e) =
    let before = few_frames m cap s few h k mid run in
    let here = few_stand m s few (suc k) t h (moves_are_steps m cap (suc k) s t (mid, run, e)) in
    omega (arith, before, here)

-- the module of a program exports nothing for a host that gives arguments
alone : (P : BoxProgram) (pages : ℕ) → IsForCall (module_for P pages) → ⊥
alone P pages h = let e : None ≡ Some h.heap_at = h.heap in absurd cc

peak_here : (P : BoxProgram) (pages : ℕ) (first : State) (few : ℕ) → main_start (module_for P pages) ≡ Some first → Wait (module_for P pages) first few → (a : MachineShown) (p : ℕ) → module_for P pages ≡ a.program →
    HasPeak (record a { program = module_for P pages }) p → p ≤ suc few
peak_here P pages first few starts h a p same x =
    let M = module_for P pages in
    let begun : main_start M ≡ Some x.first = ap (main_start_in M) (sym (x.own (alone P pages))) ∙ x.starts in
    let there : Wait M x.first few = subst (λ s. Wait M s few) (same_Some _ _ (sym starts ∙ begun)) h in
    let most = few_frames M a.cap x.first few there x.steps a.state x.run in
    omega (arith, x.most, most)

pub few_at_once : (P : BoxProgram) (pages : ℕ) (first : State) (few : ℕ) → main_start (module_for P pages) ≡ Some first → Wait (module_for P pages) first few →
    (a : MachineShown) (p : ℕ) → a.program ≡ module_for P pages → HasPeak a p → p ≤ suc few
few_at_once P pages first few starts h a p same x =
    peak_here P pages first few starts h a p (sym same) (subst (λ m. HasPeak (record a { program = m }) p) same x)
