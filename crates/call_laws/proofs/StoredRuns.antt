-- How a call of a module for calls ends, where every run from a store that holds its arguments answers the same data: a host stores them, and so its run is one of these.
use Rattle.std.proofs.Common.{◌≡◌, ℕ, ◌+◌, ◌*◌, List, length, Bool, true, false, Option, Some, None, Result, Ok, Err, refl, sym, ap, subst, ◌∙◌, arith}
use Rattle.std.specs.Prelude.{if◌then◌else◌}
use Rattle.std.specs.Option.{option_and_then}
use Rattle.std.proofs.lemmas.Option.{same_Some}
use Rattle.data_trees.specs.Preorder.{IsTree}
use Rattle.closure_lift.specs.Lifted.{Program}
use Rattle.wasm_core.specs.declared.entries.Entry.TheVariants.{Main}
use Rattle.wasm_core.specs.Answer.{AnswersFrom}
use Rattle.wasm_core.specs.Entries.{index_of}
use Rattle.wasm_core.specs.HostStore.{main_start_in, start_at_in, start_in, with_store}
use Rattle.wasm_core.specs.Instance.{Func, func_of, segments_fit}
use Rattle.wasm_core.specs.MachineStep.{State, Store}
use Rattle.wasm_core.specs.ModuleCondition.{All as Each}
use Rattle.wasm_core.specs.Parts.{Parts}
use Rattle.wasm_core.specs.Runs.{first_store, main_start, start, start_at, store_of}
use Rattle.wasm_core.specs.WordData.{DataNodes}
use Rattle.wasm_core.proofs.Small.{some_of, map_of}
use Rattle.wasm_core.proofs.WordsStay.{zeroed_length}
use Rattle.known_calls.specs.KnownCalls.{module_of_call}
use Rattle.mem_value.specs.Storing.{IsSmallData, put_arguments}
use Rattle.mem_value.proofs.Placing.{has_stored}
use Rattle.module_run.specs.declared.answer.Answer.{Answer}
use Rattle.module_run.specs.declared.refusal.RunRefusal.{RunRefusal}
use Rattle.module_run.specs.declared.refusal.RunRefusal.TheVariants as refusals
use Rattle.module_run.specs.CallEnds.{CallEnds, start_with, with_arguments}
use Rattle.module_run.specs.EndLaws.{AnswersOrSpends}
use Rattle.module_run.proofs.OneEnd.{ends_answer_from}
use Rattle.call_answers.specs.EveryCall.{EveryCallAnswers}
use Rattle.call_answers.specs.HostedCall.{HoldsArguments}
use Rattle.stored_calls.proofs.HostedStores.{stored_arguments_are_held}

-- ---- a run of `main` starts in a host's store where one starts in the module's own

abbrev StartsIn : Parts → Store → State → Option State → Type 0
StartsIn m s first o = (store_of first ≡ first_store m) × (o ≡ Some (with_store first s))

module _ (m : Parts) (s : Store) where
  in_function : (o : Option Func) (first : State) → option_and_then (λ g. Some (start m g)) o ≡ Some first → StartsIn m s first (option_and_then (λ g. Some (start_in s g)) o)
  in_function None first e = absurd cc
  in_function (Some g) first e = let is : start m g ≡ first = same_Some _ _ e in (sym (ap store_of is), ap (λ z. Some (with_store z s)) is)

  in_export : (o : Option ℕ) (first : State) → option_and_then (λ f. start_at m f) o ≡ Some first → StartsIn m s first (option_and_then (λ f. start_at_in m s f) o)
  in_export None first e = absurd cc
  in_export (Some f) first e = in_function (func_of m f) first e

  in_module : (b : Bool) (first : State) → (if b then option_and_then (λ f. start_at m f) (index_of Main m) else None) ≡ Some first →
      StartsIn m s first (if b then option_and_then (λ f. start_at_in m s f) (index_of Main m) else None)
  in_module true first e = in_export (index_of Main m) first e
  in_module false first e = absurd cc

  starts_in : (first : State) → main_start m ≡ Some first → StartsIn m s first (main_start_in m s)
  starts_in first e = in_module (segments_fit m) first e

-- ---- the store in which the call starts

module _ (P : Program) (k pages : ℕ) (args : List DataNodes) (small : Each IsSmallData args) (trees : Each IsTree args) where
  abbrev M : Parts
  M = module_of_call P k pages

  -- a store that holds the arguments, in which the run starts
  record Hosted (at : State) : Type 0 where
    store : Store
    holds : HoldsArguments pages args store
    starts : main_start_in M store ≡ Some at

  hosted : (at : State) → start_with M pages args ≡ Some at → Hosted at
  hosted at e =
      let (first, there, e1) = some_of (with_arguments M pages args) (main_start M) at e in
      let (s, put, e2) = map_of (with_store first) (put_arguments M pages args (store_of first)) at e1 in
      let (own, starts) = starts_in M s first there in
      let put_there : put_arguments M pages args (first_store M) ≡ Some s = subst (λ t. put_arguments M pages args t ≡ Some s) own put in
      let sized : length (first_store M).memory ≡ 65536 * (first_store M).pages = zeroed_length 1 in
      let stored = has_stored M pages 2 refl (first_store M) 8 refl sized (omega arith) (omega (arith, zeroed_length 1)) 2 refl args small trees s put_there in
      record { store = s; holds = stored_arguments_are_held P k pages pages s args stored; starts = starts ∙ ap Some e2 }

  module _ (w b n : ℕ) (tree : DataNodes) (runs : EveryCallAnswers M args pages w b n tree) (steps : ℕ) where
    abbrev pub most : ℕ
    most = 64 * (runs.blocks + runs.contractions + 1) * (runs.widest + b)

    from_start : (at : State) → start_with M pages args ≡ Some at → AnswersFrom M most tree at
    from_start at e =
        let h = hosted at e in
        let r = runs.runs h.store h.holds in
        subst (AnswersFrom M most tree) (same_Some _ _ (sym r.starts ∙ h.starts)) (record { bounded = r.bounded; answers = r.answers })

    ends : (r : Result Answer RunRefusal) (at : State) → start_with M pages args ≡ Some at → CallEnds M pages steps args r → AnswersOrSpends most steps tree r
    ends (Err refusals.Exhausted) at e h = tt
    ends (Err refusals.Memory) at e h = tt
    ends (Err refusals.ModuleBytes) at e h = tt
    ends (Ok a) at e h = ends_answer_from (start_with M pages args) M pages most steps tree at (Ok a) e (from_start at e) h
    ends (Err refusals.StepsSpent) at e h = ends_answer_from (start_with M pages args) M pages most steps tree at (Err refusals.StepsSpent) e (from_start at e) h
    ends (Err (refusals.Trapped kind)) at e h = ends_answer_from (start_with M pages args) M pages most steps tree at (Err (refusals.Trapped kind)) e (from_start at e) h
    ends (Err (refusals.NoValue word)) at e h = ends_answer_from (start_with M pages args) M pages most steps tree at (Err (refusals.NoValue word)) e (from_start at e) h
    ends (Err refusals.AnswerNodes) at e h = ends_answer_from (start_with M pages args) M pages most steps tree at (Err refusals.AnswerNodes) e (from_start at e) h

    pub call_ends_answer : (r : Result Answer RunRefusal) → CallEnds M pages steps args r → AnswersOrSpends most steps tree r
    call_ends_answer (Err refusals.Exhausted) h = tt
    call_ends_answer (Err refusals.Memory) h = tt
    call_ends_answer (Err refusals.ModuleBytes) h = tt
    call_ends_answer (Ok a) h = let x = h.1.returned.run in ends (Ok a) x.first x.starts h
    call_ends_answer (Err refusals.StepsSpent) h = let x = h.1 in ends (Err refusals.StepsSpent) x.first x.starts h
    call_ends_answer (Err (refusals.Trapped kind)) h = let x = h.1.2.run in ends (Err (refusals.Trapped kind)) x.first x.starts h
    call_ends_answer (Err (refusals.NoValue word)) h = let x = h.1.returned.run in ends (Err (refusals.NoValue word)) x.first x.starts h
    call_ends_answer (Err refusals.AnswerNodes) h = let x = h.1.returned.run in ends (Err refusals.AnswerNodes) x.first x.starts h
