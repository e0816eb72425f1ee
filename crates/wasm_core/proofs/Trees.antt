-- What a tree of runs says of each run.
use Rattle.std.proofs.Common.{◌≡◌, ℕ, zero, suc, ◌≤◌, Bool, true, false, refl, sym, ◌∙◌, subst, arith, inl, inr}
use Rattle.std.specs.Prelude.{◌⊎◌}
use Rattle.std.proofs.lemmas.Option.{same_Some}
use Rattle.wasm_core.specs.declared.ended.Ended.{Ended}
use Rattle.wasm_core.specs.Parts.{Parts}
use Rattle.wasm_core.specs.ModuleTyping.{IsValid}
use Rattle.wasm_core.specs.Safe.{GoodState}
use Rattle.wasm_core.specs.MachineStep.{Store, State, At, Over, StepsTo, Reach}
use Rattle.wasm_core.specs.Runs.{Move, grants}
use Rattle.wasm_core.specs.WordData.{DataNodes}
use Rattle.wasm_core.specs.Answer.{Answers, answers, Exhausted, exhausted, IsAtEnd}
use Rattle.wasm_core.specs.RunTree.{Within, now, gone, moves, Fate, goes_on, ended, ran_out}
use Rattle.wasm_core.specs.Laws.{EndsAreOver, HostedEndsAreOver, MovesAreSteps, TreeAnswers}
use Rattle.wasm_core.proofs.Starting.{start_good, good_in, good_reach, good_steps}

-- the same steps, the first one first
abbrev Walk : Parts → ℕ → State → State → Type 0
Walk m zero s t = s ≡ t
Walk m (suc k) s t = (mid : State) × ((granted : Bool) × StepsTo m granted s mid) × Walk m k mid t

walk_more : (m : Parts) (k : ℕ) (s mid t : State) → Walk m k s mid → (granted : Bool) × StepsTo m granted mid t → Walk m (suc k) s t
walk_more m zero s mid t w h = (t, subst (λ (s : State). (granted : Bool) × StepsTo m granted s t) (sym w) h, refl)
walk_more m (suc k) s mid t (next, first, w) h = (next, first, walk_more m k next mid t w h)

walk_of : (m : Parts) (k : ℕ) (s t : State) → Reach m k s t → Walk m k s t
walk_of m zero s t r = r
walk_of m (suc k) s t (mid, r, h) = walk_more m k s mid t (walk_of m k s mid r) h

module _ (m : Parts) (frames : ℕ) (Q E : State → Type 0) (last : (t : State) → Q t ⊎ E t → IsAtEnd m t) where
  lowered : {l least n : ℕ} {t : State} → Fate m frames Q E l n t → least ≤ suc l → Fate m frames Q E least (suc n) t
  lowered (goes_on s t deep x y) le = goes_on s t deep x y
  lowered (ended q h) le = ended q (omega arith)
  lowered (ran_out e) le = ran_out e

  fate : {least most : ℕ} {s : State} → Within m frames Q E least most s → (n : ℕ) (t : State) → Walk m n s t → (n ≤ most) × Fate m frames Q E least n t
  fate {least} {most} (now q) zero t w = (omega arith, subst (Fate m frames Q E 0 0) w (ended q (omega arith)))
  fate {s = s} (now q) (suc n) t (mid, (granted, h), w) = absurd (last s (inl q) granted mid h)
  fate {least} (gone e) zero t w = (omega arith, subst (Fate m frames Q E least 0) w (ran_out e))
  fate {s = s} (gone e) (suc n) t (mid, (granted, h), w) = absurd (last s (inr e) granted mid h)
  fate {least} (moves s t deep le x y j k) zero u w = (omega arith, subst (Fate m frames Q E least 0) w (goes_on s t deep x y))
  fate (moves s t deep le x y j k) (suc n) u (mid, (true, h), w) =
      let (a, b) = fate j n u (subst (λ (z : State). Walk m n z u) (same_Some _ _ (sym h ∙ x)) w) in (omega (arith, a), lowered b le)
  fate (moves s t deep le x y j k) (suc n) u (mid, (false, h), w) =
      let (a, b) = fate k n u (subst (λ (z : State). Walk m n z u) (same_Some _ _ (sym h ∙ y)) w) in (omega (arith, a), lowered b le)

-- after any number of steps within the bound a run is at a state from which it goes on, or at such an end
pub tree_tells : (m : Parts) (frames least most : ℕ) (Q E : State → Type 0) (s : State) → ((t : State) → Q t ⊎ E t → IsAtEnd m t) → Within m frames Q E least most s → (n : ℕ) (t : State) → Reach m n s t → (n ≤ most) × Fate m frames Q E least n t
tree_tells m frames least most Q E s last w n t r = fate m frames Q E last w n t (walk_of m n s t r)

answers_end : (m : Parts) (d : DataNodes) (t : State) → Answers m d t ⊎ Exhausted m t → IsAtEnd m t
answers_end m d t (inl (answers h)) granted u s = s
answers_end m d t (inr (exhausted h)) granted u s = s

ends : (m : Parts) (d : DataNodes) (frames least n : ℕ) (t : State) → Fate m frames (Answers m d) (Exhausted m) least n t → IsAtEnd m t → Answers m d t ⊎ Exhausted m t
ends m d frames least n t (goes_on s u deep x y) last = absurd (last true s x)
ends m d frames least n t (ended q h) last = inl q
ends m d frames least n t (ran_out e) last = inr e

pub tree_answers : TreeAnswers
tree_answers m frames least most d first e w = record {
  first = first;
  starts = e;
  bounded = λ k t r. (tree_tells m frames least most (Answers m d) (Exhausted m) first (answers_end m d) w k t r).0;
  answers = λ k t r last. ends m d frames least k t (tree_tells m frames least most (Answers m d) (Exhausted m) first (answers_end m d) w k t r).1 last;
}

move_step : (m : Parts) (cap : ℕ) (s t : State) → Move m cap s t → (granted : Bool) × StepsTo m granted s t
move_step m cap (At c) t h = (grants cap c, h)
move_step m cap (Over e store) t h = absurd h

pub moves_are_steps : MovesAreSteps
moves_are_steps m cap zero s t h = h
moves_are_steps m cap (suc k) s t (mid, r, h) = (mid, moves_are_steps m cap k s mid r, move_step m cap mid t h)

good_is_over : (m : Parts) → IsValid m → (t : State) → GoodState m t → IsAtEnd m t → (e : Ended) × (store : Store) × (t ≡ Over e store)
good_is_over m valid (At c) good last = let (s, h) = good_steps m valid (At c) good true in absurd (last true s h)
good_is_over m valid (Over end store) good last = (end, store, refl)

pub ends_are_over : EndsAreOver
ends_are_over m first k t valid e r last = good_is_over m valid t (good_reach m valid k first t (start_good m valid first e) r) last

pub hosted_ends_are_over : HostedEndsAreOver
hosted_ends_are_over m s first k t valid ready e r last = good_is_over m valid t (good_reach m valid k first t (good_in m valid s first ready.typed e) r) last
