-- A machine makes one run.
use Rattle.std.proofs.Common.{◌≡◌, ℕ, zero, suc, ◌<◌, Option, sym, subst, ◌∙◌, arith, inl, inr}
use Rattle.std.proofs.lemmas.Bool.{cases_lt}
use Rattle.std.proofs.lemmas.Option.{same_Some}
use Rattle.wasm_core.specs.declared.ended.Ended.{Ended}
use Rattle.wasm_core.specs.Parts.{Parts}
use Rattle.wasm_core.specs.MachineStep.{State, Store, At, Over}
use Rattle.wasm_core.specs.MachineRun.{GoesOn}
use Rattle.wasm_core.specs.Runs.{Moves, Move, main_start}
use Rattle.wasm_run.proofs.Peaks.{one_state}
use Rattle.module_run.specs.Ends.{IsRun, IsRunFrom, IsLongerFrom}

module _ (m : Parts) (cap : ℕ) where
  moved : (s t : State) → Move m cap s t → GoesOn s
  moved (At c) t e = tt
  moved (Over x store) t e = absurd e

  -- where a run makes more steps, it goes on
  pub went_on : (k l : ℕ) (s t u : State) → k < l → Moves m cap k s t → Moves m cap l s u → GoesOn t
  went_on k zero s t u lt e f = absurd (omega (arith, lt))
  went_on k (suc l) s t u lt e (b, f, y) =
      elim (cases_lt k l) [
        | inl less ↦ went_on k l s t b less e f
        | inr le ↦ let same : l ≡ k = omega (arith, lt, le) in subst GoesOn (one_state m cap k s b t (subst (λ n. Moves m cap n s b) same f) e) (moved b u y)
      ]

  -- two ends of one run
  pub one_over : (k l : ℕ) (s : State) (x y : Ended) (a b : Store) → Moves m cap k s (Over x a) → Moves m cap l s (Over y b) → Over x a ≡ Over y b
  one_over k l s x y a b e f =
      elim (cases_lt k l) [
        | inl less ↦ absurd (went_on k l s (Over x a) (Over y b) less e f)
        | inr le ↦ elim (cases_lt l k) [
          | inl more ↦ absurd (went_on l k s (Over y b) (Over x a) more f e)
          | inr ge ↦ let same : l ≡ k = omega (arith, le, ge) in one_state m cap k s (Over x a) (Over y b) e (subst (λ n. Moves m cap n s (Over y b)) same f)
        ]
      ]

  pub one_run_from : (o : Option State) (n : ℕ) (x y : Ended) (a b : Store) → IsRunFrom o m cap n (Over x a) → IsRunFrom o m cap n (Over y b) → Over x a ≡ Over y b
  one_run_from o n x y a b r q =
      let first : q.first ≡ r.first = same_Some _ _ (sym q.starts ∙ r.starts) in
      one_over r.steps q.steps r.first x y a b r.moves (subst (λ s. Moves m cap q.steps s (Over y b)) first q.moves)

  pub one_run : (n : ℕ) (x y : Ended) (a b : Store) → IsRun m cap n (Over x a) → IsRun m cap n (Over y b) → Over x a ≡ Over y b
  one_run n x y a b r q = one_run_from (main_start m) n x y a b r q

  -- a run that ends within so many steps is no longer one
  pub not_longer : (o : Option State) (n : ℕ) (x : Ended) (a : Store) → IsRunFrom o m cap n (Over x a) → IsLongerFrom o m cap n → ⊥
  not_longer o n x a r l =
      let first : l.first ≡ r.first = same_Some _ _ (sym l.starts ∙ r.starts) in
      let moves = subst (λ s. Moves m cap n s l.state) first l.moves in
      elim (cases_lt r.steps n) [
        | inl less ↦ went_on r.steps n r.first (Over x a) l.state less r.moves moves
        | inr le ↦ let same : n ≡ r.steps = omega (arith, le, r.few) in
            subst GoesOn (one_state m cap r.steps r.first l.state (Over x a) (subst (λ k. Moves m cap k r.first l.state) same moves) r.moves) l.goes_on
      ]
