-- What a call of a module for calls says: a machine of it is made, a host finds its heap, and its status tells of a refused grow.
use Rattle.std.proofs.Common.{ℕ, ◌≡◌, ◌*◌, ◌<◌, ◌≤◌, List, length, None, Some, Err, IsTrue, inl, inr, refl, sym, ap, subst, ◌∙◌, arith}
use Rattle.lambda_box.specs.BoxProgram.{BoxProgram}
use Rattle.data_trees.specs.Preorder.{IsTree}
use Rattle.wasm_core.specs.declared.ended.Ended.TheVariants.{Trapped}
use Rattle.wasm_core.specs.declared.ended.TrapKind.{TrapKind}
use Rattle.wasm_core.specs.Parts.{Parts}
use Rattle.wasm_core.specs.ModuleCondition.{All as Each}
use Rattle.wasm_core.specs.MachineStep.{Over, Reach, State, Store}
use Rattle.wasm_core.specs.MachineRun.{refusal_for_call}
use Rattle.wasm_core.specs.HostStore.{main_start_in, with_store}
use Rattle.wasm_core.specs.Runs.{first_store, main_start, store_of}
use Rattle.wasm_core.specs.WordData.{DataNodes}
use Rattle.wasm_core.proofs.Small.{some_of, map_of}
use Rattle.wasm_core.proofs.Starting.{hosted_starts, started}
use Rattle.wasm_core.proofs.Trees.{moves_are_steps}
use Rattle.mem_value.specs.Storing.{HasHeap, HasStored, IsSmallData, put_arguments}
use Rattle.mem_value.proofs.Placing.{has_stored}
use Rattle.wasm_emit.proofs.Bytes.{zeroed_length}
use Rattle.known_calls.specs.KnownCalls.{module_of_call}
use Rattle.back_end.specs.BackEnd.{passed}
use Rattle.call_answers.specs.HostedCall.{HoldsArguments}
use Rattle.call_answers.specs.EveryCall.{CallStatusTells}
use Rattle.stored_calls.proofs.HostedStores.{new_machines_have_a_heap, stored_arguments_are_held}
use Rattle.compile.specs.Passes.{Fits}
use Rattle.compile.proofs.CallStarting.{never_refused_for_call}
use Rattle.module_run.specs.declared.refusal.RunRefusal.TheVariants as running
use Rattle.module_run.specs.CallEnds.{CallEnds, HasHeapAtStart, start_with, with_arguments}
use Rattle.module_run.specs.Ends.{IsSmall, IsTrappedFrom}
use Rattle.driver.specs.CallEnds.{CallHasNoMemory}

-- what is known of the module
abbrev pub IsForCalls : (pages : ℕ) → Parts → BoxProgram → ℕ → Type 0
IsForCalls pages m P k = Fits P × (m ≡ module_of_call (passed P) k pages)

pub call_machine_made : (pages : ℕ) → 0 < pages → (m : Parts) (P : BoxProgram) (k : ℕ) → IsForCalls pages m P k → refusal_for_call m pages ≡ None
call_machine_made pages pos m P k (fits, is) = subst (λ x. refusal_for_call x pages ≡ None) (sym is) (never_refused_for_call (passed P) k pages (omega (arith, pos)) (let h = fits.few in omega (arith, h)))

-- a run of `main` starts in the module's own store
own_store : (m : Parts) (s : State) → main_start m ≡ Some s → first_store m ≡ store_of s
own_store m s e = sym (ap store_of (started m s e).starts)

pub heap_at_start : (pages : ℕ) (m : Parts) (P : BoxProgram) (k : ℕ) → IsForCalls pages m P k → HasHeapAtStart m
heap_at_start pages m P k (fits, is) =
    let there : HasHeap m (first_store m) = subst (λ x. HasHeap x (first_store x)) (sym is) (new_machines_have_a_heap (passed P) k pages) in
    λ s e. subst (HasHeap m) (own_store m s e) there

-- ---- where the run traps with the status 1

module _ (P : BoxProgram) (k pages : ℕ) (args : List DataNodes) (small : Each IsSmallData args) (trees : Each IsTree args) where
  abbrev M : Parts
  M = module_of_call (passed P) k pages

  stored : (new : Store) → put_arguments M pages args (first_store M) ≡ Some new → HasStored M pages (first_store M) new args
  stored new e =
      let size : length (first_store M).memory ≡ 65536 * (first_store M).pages = zeroed_length 1 in
      has_stored M pages 2 refl (first_store M) 8 refl size (omega arith) (omega (arith, size)) 2 (omega arith) args small trees new e

  -- where a call starts its store holds the arguments
  record IsHeldAt (first : State) : Type 0 where
    store : Store
    holds : HoldsArguments pages args store
    starts : main_start_in M store ≡ Some first

  held_at : (first : State) → start_with M pages args ≡ Some first → IsHeldAt first
  held_at first e =
      let (s, own, e1) = some_of (with_arguments M pages args) (main_start M) first e in
      let (new, put, is) = map_of (with_store s) (put_arguments M pages args (store_of s)) first e1 in
      let there : put_arguments M pages args (first_store M) ≡ Some new = ap (put_arguments M pages args) (own_store M s own) ∙ put in
      record { store = new; holds = stored_arguments_are_held (passed P) k pages pages new args (stored new there); starts = hosted_starts M new s own ∙ ap (λ x. Some x) is }

refused_call : (P : BoxProgram) (pages steps : ℕ) (args : List DataNodes) → Each IsSmallData args → Each IsTree args → pages ≤ 16384 → CallStatusTells → (kind : TrapKind)
    (x : IsTrappedFrom (start_with (module_of_call (passed P) (length args) pages) pages args) (module_of_call (passed P) (length args) pages) pages steps kind 1) → IsTrue x.store.refused
refused_call P pages steps args small trees few tells kind x =
    let m = module_of_call (passed P) (length args) pages in
    let at = held_at P (length args) pages args small trees x.run.first x.run.starts in
    let reach : Reach m x.run.steps x.run.first (Over (Trapped kind) x.store) = moves_are_steps m pages x.run.steps x.run.first (Over (Trapped kind) x.store) x.run.moves in
    tells P args pages at.store few at.holds x.run.first at.starts x.run.steps (Over (Trapped kind) x.store) reach x.status_is

pub call_exhausted_says : (pages steps : ℕ) → pages ≤ 16384 → CallStatusTells → (m : Parts) (P : BoxProgram) (args : List DataNodes) → Each IsSmallData args → Each IsTree args → IsForCalls pages m P (length args) →
    CallEnds m pages steps args (Err running.Exhausted) → IsSmall m × CallHasNoMemory m pages steps args
call_exhausted_says pages steps few tells m P args small trees (fits, is) h =
    let g = subst (λ x. CallEnds x pages steps args (Err running.Exhausted)) is h in
    subst (λ x. IsSmall x × CallHasNoMemory x pages steps args) (sym is)
    (g.0, elim g.1 [ inl lacks ↦ inl lacks | inr y ↦ inr (y.0, y.1, refused_call P pages steps args small trees few tells y.0 y.1) ])
