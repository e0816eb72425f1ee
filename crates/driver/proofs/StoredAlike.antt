-- Arguments that are one list of nodes, one behind the other, are stored alike, and so a call with them ends alike.
use Rattle.std.proofs.Common.{◌≡◌, ℕ, List, [], ◌∷◌, ◌++◌, Option, Some, None, Result, Ok, Err, inl, inr, refl, sym, ap, subst, ◌∙◌}
use Rattle.std.specs.Option.{option_and_then, option_map}
use Rattle.first_order.specs.Awaited.{joined}
use Rattle.wasm_core.specs.HostStore.{with_store}
use Rattle.wasm_core.specs.MachineStep.{Store}
use Rattle.wasm_core.specs.Parts.{Parts}
use Rattle.wasm_core.specs.Runs.{main_start, store_of}
use Rattle.wasm_core.specs.WordData.{DataNodes}
use Rattle.mem_value.specs.Storing.{Stacked, put_arguments, put_last, put_node, put_nodes, put_trees}
use Rattle.module_run.specs.declared.answer.Answer.{Answer}
use Rattle.module_run.specs.declared.refusal.RunRefusal.{RunRefusal}
use Rattle.module_run.specs.declared.refusal.RunRefusal.TheVariants as refusals
use Rattle.module_run.specs.CallEnds.{CallEnds, LacksRoom, start_with}
use Rattle.module_run.specs.Ends.{EndsFrom, IsTrappedFrom}

-- one step behind another

same_option : {X : Type 0} (o : Option X) → option_and_then (λ x. Some x) o ≡ o
same_option None = refl
same_option (Some x) = refl

then_then : {X Y Z : Type 0} (f : Y → Option Z) (g : X → Option Y) (o : Option X) → option_and_then f (option_and_then g o) ≡ option_and_then (λ x. option_and_then f (g x)) o
then_then f g None = refl
then_then f g (Some x) = refl

module _ (m : Parts) (cap : ℕ) where
  nodes_behind : (ds es : DataNodes) (a : Stacked) → put_nodes m cap (ds ++ es) a ≡ option_and_then (put_nodes m cap ds) (put_nodes m cap es a)
  nodes_behind [] es a = sym (same_option (put_nodes m cap es a))
  nodes_behind (d ∷ ds) es a = ap (option_and_then (put_node m cap d.0 d.1)) (nodes_behind ds es a) ∙ then_then (put_node m cap d.0 d.1) (put_nodes m cap ds) (put_nodes m cap es a)

  trees_joined : (ds : List DataNodes) (a : Stacked) → put_trees m cap ds a ≡ put_nodes m cap (joined ds) a
  trees_joined [] a = refl
  trees_joined (d ∷ ds) a = ap (option_and_then (put_nodes m cap d)) (trees_joined ds a) ∙ sym (nodes_behind d (joined ds) a)

  pub stored_alike : (as' bs : List DataNodes) → joined as' ≡ joined bs → (s : Store) → put_arguments m cap as' s ≡ put_arguments m cap bs s
  stored_alike as' bs same s =
      let a : Stacked = record { store = s; words = [] } in
      ap (option_and_then (put_last m cap)) (trees_joined as' a ∙ ap (λ ds. put_nodes m cap ds a) same ∙ sym (trees_joined bs a))

  pub started_alike : (as' bs : List DataNodes) → joined as' ≡ joined bs → start_with m cap as' ≡ start_with m cap bs
  started_alike as' bs same = λ i. option_and_then (λ s. option_map (with_store s) (stored_alike as' bs same (store_of s) i)) (main_start m)

  pub room_alike : (as' bs : List DataNodes) → joined as' ≡ joined bs → LacksRoom m cap as' → LacksRoom m cap bs
  room_alike as' bs same (s, starts, none) = (s, starts, sym (stored_alike as' bs same (store_of s)) ∙ none)

  pub ends_alike : (n : ℕ) (as' bs : List DataNodes) → joined as' ≡ joined bs → (r : Result Answer RunRefusal) → CallEnds m cap n as' r → CallEnds m cap n bs r
  ends_alike n as' bs same (Err refusals.Exhausted) (small, inl lacks) = (small, inl (room_alike as' bs same lacks))
  ends_alike n as' bs same (Err refusals.Exhausted) (small, inr (kind, h)) = (small, inr (kind, subst (λ o. IsTrappedFrom o m cap n kind 1) (started_alike as' bs same) h))
  ends_alike n as' bs same (Err refusals.Memory) h = tt
  ends_alike n as' bs same (Ok a) h = subst (λ o. EndsFrom o m cap n (Ok a)) (started_alike as' bs same) h
  ends_alike n as' bs same (Err refusals.ModuleBytes) h = h
  ends_alike n as' bs same (Err refusals.StepsSpent) h = subst (λ o. EndsFrom o m cap n (Err refusals.StepsSpent)) (started_alike as' bs same) h
  ends_alike n as' bs same (Err (refusals.Trapped kind)) h = subst (λ o. EndsFrom o m cap n (Err (refusals.Trapped kind))) (started_alike as' bs same) h
  ends_alike n as' bs same (Err (refusals.NoValue word)) h = subst (λ o. EndsFrom o m cap n (Err (refusals.NoValue word))) (started_alike as' bs same) h
  ends_alike n as' bs same (Err refusals.AnswerNodes) h = subst (λ o. EndsFrom o m cap n (Err refusals.AnswerNodes)) (started_alike as' bs same) h
