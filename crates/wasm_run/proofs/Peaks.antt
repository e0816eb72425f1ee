-- The steps of a machine from a state are determined, and so are the most frames at their states.
use Rattle.std.proofs.Common.{◌≡◌, ℕ, zero, suc, ◌-◌, ◌^◌, ◌<◌, max, refl, ap, sym, ◌∙◌, subst, arith}
use Rattle.std.specs.Prelude.{min}
use Rattle.std.proofs.lemmas.Option.{same_Some}
use Rattle.wasm_core.specs.HostStore.{main_start_in}
use Rattle.wasm_core.specs.MachineStep.{State, At, Over}
use Rattle.wasm_core.specs.Parts.{Parts}
use Rattle.wasm_core.specs.Runs.{Move, Moves}
use Rattle.wasm_run.specs.Standing.{PeaksAreOne, frames, most_frames}

module _ (m : Parts) (cap : ℕ) where
  pub one_move : (s t u : State) → Move m cap s t → Move m cap s u → t ≡ u
  one_move (At c) t u x y = same_Some _ _ (sym x ∙ y)
  one_move (Over e store) t u x y = absurd x

  pub one_state : (k : ℕ) (s t u : State) → Moves m cap k s t → Moves m cap k s u → t ≡ u
  one_state zero s t u x y = sym x ∙ y
  one_state (suc k) s t u (mid, x, e) (mid', y, f) = one_move mid' t u (subst (λ z. Move m cap z t) (one_state k s mid mid' x y) e) f

  one_most : (k : ℕ) (s t u : State) (x : Moves m cap k s t) (y : Moves m cap k s u) → t ≡ u → most_frames m cap k s t x ≡ most_frames m cap k s u y
  one_most zero s t u x y same = ap frames same
  one_most (suc k) s t u (mid, x, e) (mid', y, f) same =
      ap (λ n. max n (frames t)) (one_most k s mid mid' x y (one_state k s mid mid' x y)) ∙ ap (λ z. max (most_frames m cap k s mid' y) (frames z)) same

  -- from one state by one number of steps
  alike : (k l : ℕ) (s s' t : State) → k ≡ l → s ≡ s' → (x : Moves m cap k s t) (y : Moves m cap l s' t) → most_frames m cap k s t x ≡ most_frames m cap l s' t y
  alike k l s s' t e same x =
      subst (λ l. (y : Moves m cap l s' t) → most_frames m cap k s t x ≡ most_frames m cap l s' t y) e
      (subst (λ s'. (y : Moves m cap k s' t) → most_frames m cap k s t x ≡ most_frames m cap k s' t y) same (λ y. one_most k s t t x y refl))

steps_are : (made k l : ℕ) → made ≡ min k (2 ^ 64 - 1) → made ≡ min l (2 ^ 64 - 1) → made < 2 ^ 64 - 1 → k ≡ l
steps_are made k l e f few = omega (arith, e, f, few)

pub peaks_are_one : PeaksAreOne
peaks_are_one a n p alone few x y =
    let store = x.own alone ∙ sym (y.own alone) in
    let first : x.first ≡ y.first = same_Some _ _ (sym x.starts ∙ ap (main_start_in a.program) store ∙ y.starts) in
    x.most ∙ alike a.program a.cap x.steps y.steps x.first y.first a.state (steps_are a.made x.steps y.steps x.counted y.counted few) first x.run y.run ∙ sym y.most
