-- From what the last steps of a call say to how it ends; and its end is one.
use Rattle.std.proofs.Common.{◌≡◌, ◌≢◌, ℕ, List, Some, None, Result, Ok, Err, ◌⊎◌, inl, inr, refl, sym, ap, subst, ◌∙◌, arith}
use Rattle.std.specs.Prelude.{OnOk}
use Rattle.std.specs.Option.{option_and_then, option_map}
use Rattle.wasm_core.specs.Parts.{Parts}
use Rattle.wasm_core.specs.HostStore.{with_store}
use Rattle.wasm_core.specs.MachineStep.{State, Store}
use Rattle.wasm_core.specs.Runs.{store_of}
use Rattle.wasm_core.specs.MachineRun.{MachineShown, IsFreshMachine}
use Rattle.wasm_core.specs.WordData.{DataNodes}
use Rattle.module_run.specs.declared.answer.Answer.{Answer}
use Rattle.module_run.specs.declared.refusal.RunRefusal.{RunRefusal}
use Rattle.module_run.specs.declared.refusal.RunRefusal.TheVariants as refusals
use Rattle.mem_value.specs.Storing.{HasHeap, put_arguments}
use Rattle.module_run.specs.Ends.{AnswerSays, EndsFrom, HasReturnedFrom, IsSmall, RunSaysFrom, StartsAt}
use Rattle.module_run.specs.CallEnds.{CallEnds, HasHeapAtStart, HostSays, LacksRoom, start_with, with_arguments}
use Rattle.module_run.proofs.Ending.{answer_ends, run_ends}
use Rattle.module_run.proofs.OneEnd.{end_from_is_one}

-- an end of a run from the host's state is one of the call
pub of_run : (m : Parts) (cap n : ℕ) (args : List DataNodes) (r : Result Answer RunRefusal) → EndsFrom (start_with m cap args) m cap n r → CallEnds m cap n args r
of_run m cap n args (Ok a) h = h
of_run m cap n args (Err refusals.ModuleBytes) h = h
of_run m cap n args (Err refusals.StepsSpent) h = h
of_run m cap n args (Err refusals.Exhausted) (small, h) = (small, inr h)
of_run m cap n args (Err (refusals.Trapped kind)) h = h
of_run m cap n args (Err (refusals.NoValue word)) h = h
of_run m cap n args (Err refusals.AnswerNodes) h = h
of_run m cap n args (Err refusals.Memory) h = tt

-- a refusal of the storing
pub of_storing : (m : Parts) (cap n : ℕ) (args : List DataNodes) (r : RunRefusal) → IsSmall m → HostSays m cap args (Err r) → CallEnds m cap n args (Err r)
of_storing m cap n args refusals.ModuleBytes small h = absurd h
of_storing m cap n args refusals.StepsSpent small h = absurd h
of_storing m cap n args refusals.Exhausted small h = (small, inl h)
of_storing m cap n args (refusals.Trapped kind) small h = absurd h
of_storing m cap n args (refusals.NoValue word) small h = absurd h
of_storing m cap n args refusals.AnswerNodes small h = absurd h
of_storing m cap n args refusals.Memory small h = tt

-- without room no run starts
no_start : (m : Parts) (cap : ℕ) (args : List DataNodes) (s : State) → LacksRoom m cap args → start_with m cap args ≡ Some s → ⊥
no_start m cap args s (first, starts, none) at =
    let is : start_with m cap args ≡ None = ap (λ o. option_and_then (with_arguments m cap args) o) starts ∙ ap (option_map (with_store first)) none in
    let q : None ≡ Some s = sym is ∙ at in
    cc

-- so no other end stands beside that
alone : (m : Parts) (cap n : ℕ) (args : List DataNodes) (r : Result Answer RunRefusal) → IsSmall m → LacksRoom m cap args → EndsFrom (start_with m cap args) m cap n r → r ≢ Err refusals.Memory → ⊥
alone m cap n args (Ok a) small none (s, h) other = no_start m cap args h.returned.run.first none h.returned.run.starts
alone m cap n args (Err refusals.ModuleBytes) small none h other = omega (arith, h, small)
alone m cap n args (Err refusals.StepsSpent) small none (s, h) other = no_start m cap args h.first none h.starts
alone m cap n args (Err refusals.Exhausted) small none (s, (kind, h)) other = no_start m cap args h.run.first none h.run.starts
alone m cap n args (Err (refusals.Trapped kind)) small none (s, (status, differs, h)) other = no_start m cap args h.run.first none h.run.starts
alone m cap n args (Err (refusals.NoValue word)) small none (s, h) other = no_start m cap args h.returned.run.first none h.returned.run.starts
alone m cap n args (Err refusals.AnswerNodes) small none (s, h) other = no_start m cap args h.returned.run.first none h.returned.run.starts
alone m cap n args (Err refusals.Memory) small none h other = other refl

-- an end is that there is no room, or one of the run
way : (m : Parts) (cap n : ℕ) (args : List DataNodes) (r : Result Answer RunRefusal) → CallEnds m cap n args r → ((r ≡ Err refusals.Exhausted) × IsSmall m × LacksRoom m cap args) ⊎ EndsFrom (start_with m cap args) m cap n r
way m cap n args (Ok a) h = inr h
way m cap n args (Err refusals.ModuleBytes) h = inr h
way m cap n args (Err refusals.StepsSpent) h = inr h
way m cap n args (Err refusals.Exhausted) (small, inl none) = inl (refl, small, none)
way m cap n args (Err refusals.Exhausted) (small, inr h) = inr (small, h)
way m cap n args (Err (refusals.Trapped kind)) h = inr h
way m cap n args (Err (refusals.NoValue word)) h = inr h
way m cap n args (Err refusals.AnswerNodes) h = inr h
way m cap n args (Err refusals.Memory) h = inr tt

pub call_end_is_one : (m : Parts) (cap n : ℕ) (args : List DataNodes) (a b : Result Answer RunRefusal) → CallEnds m cap n args a → CallEnds m cap n args b → a ≢ Err refusals.Memory → b ≢ Err refusals.Memory → a ≡ b
call_end_is_one m cap n args a b h k x y =
    elim (way m cap n args a h) [
      | inl (e, small, none) ↦ elim (way m cap n args b k) [
        | inl (f, s, lacks) ↦ e ∙ sym f
        | inr g ↦ absurd (alone m cap n args b small none g y)
      ]
      | inr f ↦ elim (way m cap n args b k) [
        | inl (g, small, none) ↦ absurd (alone m cap n args a small none f x)
        | inr g ↦ end_from_is_one (start_with m cap args) m cap n a b f g x y
      ]
    ]

-- ---- the storing

-- a machine that hasn't made a step, with the arguments stored
pub hosted_at : (m : Parts) (cap : ℕ) (args : List DataNodes) (old new : MachineShown) (s : Store) → IsFreshMachine m cap old → put_arguments old.program old.cap args (store_of old.state) ≡ Some s →
    new ≡ record old { state = with_store old.state s } → StartsAt (start_with m cap args) m cap new
hosted_at m cap args old new s (first, starts, is) put stored =
    let there : put_arguments m cap args (store_of first) ≡ Some s = subst (λ (a : MachineShown). put_arguments a.program a.cap args (store_of a.state) ≡ Some s) is put in (
      with_store first s,
      ap (λ o. option_and_then (with_arguments m cap args) o) starts ∙ ap (option_map (with_store first)) there,
      stored ∙ ap (λ (a : MachineShown). record a { state = with_store a.state s }) is,
    )

-- or without room
pub lacks_room : (m : Parts) (cap : ℕ) (args : List DataNodes) (old : MachineShown) → IsFreshMachine m cap old → put_arguments old.program old.cap args (store_of old.state) ≡ None → LacksRoom m cap args
lacks_room m cap args old (first, starts, is) none = (first, starts, subst (λ (a : MachineShown). put_arguments a.program a.cap args (store_of a.state) ≡ None) is none)

pub heap_there : (m : Parts) (cap : ℕ) (a : MachineShown) → IsFreshMachine m cap a → HasHeapAtStart m → HasHeap a.program (store_of a.state)
heap_there m cap a (first, starts, is) h = subst (λ (b : MachineShown). HasHeap b.program (store_of b.state)) (sym is) (h first starts)

-- ---- the answer

module _ (m : Parts) (cap n : ℕ) (args : List DataNodes) (small : IsSmall m) (a : MachineShown) where
  pub call_run_ends : (r : RunRefusal) → RunSaysFrom (start_with m cap args) m cap n a (Err r) → CallEnds m cap n args (Err r)
  call_run_ends r h = of_run m cap n args (Err r) (run_ends (start_with m cap args) m cap n small a r h)

  pub call_answer_ends : HasReturnedFrom (start_with m cap args) m cap n a → (r : Result Answer RunRefusal) → AnswerSays a r → CallEnds m cap n args r
  call_answer_ends back r h = of_run m cap n args r (answer_ends (start_with m cap args) m cap n small a back r h)

-- the exit of a `?`
pub exit_call : (m : Parts) (cap n : ℕ) (args : List DataNodes) (r : Result Answer RunRefusal) (x : RunRefusal) → (y : RunRefusal) × (r ≡ Err y) × (y ≡ x) → CallEnds m cap n args (Err x) → CallEnds m cap n args r
exit_call m cap n args r x (y, is, same) h = subst (CallEnds m cap n args) (sym (is ∙ ap Err same)) h

-- what holds anyway holds of an answer
pub told_anyway : {T E P : Type 0} (r : Result T E) → P → OnOk r P
told_anyway (Ok v) p = p
told_anyway (Err e) p = tt
