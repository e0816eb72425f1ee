-- From what the last steps of an answer say to how it ends.
use Rattle.std.proofs.Common.{◌≡◌, ℕ, length, Option, Some, Result, Ok, Err, refl, sym, ap, subst, ◌∙◌}
use Rattle.wasm_core.specs.declared.entries.Entry.TheVariants as entry
use Rattle.wasm_core.specs.Parts.{Parts}
use Rattle.wasm_core.specs.ShortestBytes.{module_bytes}
use Rattle.wasm_core.specs.MachineStep.{State, Store}
use Rattle.wasm_core.specs.MachineRun.{MachineShown}
use Rattle.wasm_core.specs.Runs.{store_of}
use Rattle.wasm_core.specs.Answer.{global_of}
use Rattle.wasm_core.specs.WordData.{StandsFor}
use Rattle.mem_value.specs.Tells.{HasData, HasMany}
use Rattle.module_run.specs.declared.answer.Answer.{Answer}
use Rattle.module_run.specs.declared.refusal.RunRefusal.{RunRefusal}
use Rattle.module_run.specs.declared.refusal.RunRefusal.TheVariants as refusals
use Rattle.module_run.specs.declared.answer.Measured.{Measured}
use Rattle.module_run.specs.Ends.{EndsFrom, IsSmall, IsReturnedFrom, WordIsTold, HasReturnedFrom, RunSaysFrom, AnswerSays}
use Rattle.module_run.specs.Figures.{IsMeasuredFrom, FigureSaysFrom}

module _ (o : Option State) (m : Parts) (cap n : ℕ) (small : IsSmall m) (a : MachineShown) where
  pub run_ends : (r : RunRefusal) → RunSaysFrom o m cap n a (Err r) → EndsFrom o m cap n (Err r)
  run_ends refusals.ModuleBytes h = absurd h
  run_ends refusals.StepsSpent h = (small, h)
  run_ends refusals.Exhausted h = (small, h)
  run_ends (refusals.Trapped kind) h = (small, h)
  run_ends (refusals.NoValue word) h = absurd h
  run_ends refusals.AnswerNodes h = absurd h
  run_ends refusals.Memory h = tt

  -- the exit of a `?`
  pub exit_ends : (r : Result Measured RunRefusal) (x : RunRefusal) → (y : RunRefusal) × (r ≡ Err y) × (y ≡ x) → RunSaysFrom o m cap n a (Err x) → FigureSaysFrom o m cap n r
  exit_ends r x (y, is, same) h = subst (FigureSaysFrom o m cap n) (sym (is ∙ ap Err same)) (run_ends x h)

  module _ (back : HasReturnedFrom o m cap n a) where
    store_is : store_of a.state ≡ back.store
    store_is = ap store_of back.at

    -- the word in `result` of the run that returned
    abbrev returned : {Stands : ℕ → Type 0} → (t : WordIsTold a Stands) (w : ℕ) → t.word ≡ w → IsReturnedFrom o m cap n w
    returned t w same = record {
      store = back.store;
      run = back.run;
      word_is = subst (λ (s : Store). global_of entry.Result m s ≡ Some w) store_is (subst (λ (p : Parts). global_of entry.Result p (store_of a.state) ≡ Some w) back.program (t.is_result back.sound ∙ ap (λ (v : ℕ). Some v) same));
    }

    -- the machine's word, and the data that it stands for
    pub answer_measured : (x : Answer) → AnswerSays a (Ok x) → (bytes steps pages : ℕ) → bytes ≡ length (module_bytes m) → steps ≡ a.made → pages ≡ (store_of a.state).pages →
        IsMeasuredFrom o m cap n (record { answer = x; bytes = bytes; steps = steps; pages = pages })
    answer_measured x t bytes steps pages b s p =
        let (word, stands, few) = t.stands in
        let same = word back.sound in
        record {
          small = small;
          answered = record {
            returned = returned t x.word same;
            stands = subst (λ (s : Store). StandsFor s.memory x.word x.tree) store_is (subst (λ w. StandsFor (store_of a.state).memory w x.tree) same stands);
            few = few;
          };
          bytes_are = b;
          steps_are = s ∙ back.made;
          pages_are = p ∙ ap (λ (s : Store). s.pages) store_is;
        }

    no_answer : (x : RunRefusal) → AnswerSays a (Err x) → EndsFrom o m cap n (Err x)
    no_answer (refusals.NoValue x) t =
        let (same, none) = t.stands in (
          small,
          record {
            returned = returned t x (sym same);
            none = λ d. none (subst (HasData (store_of a.state).memory) same (subst (λ (s : Store). HasData s.memory x) (sym store_is) d));
          },
        )
    no_answer refusals.AnswerNodes t = (small, record { word = t.word; returned = returned t t.word refl; many = subst (λ (s : Store). HasMany s.memory t.word) store_is t.stands })
    no_answer refusals.Memory t = tt
    no_answer refusals.ModuleBytes t = absurd t
    no_answer refusals.StepsSpent t = absurd t
    no_answer refusals.Exhausted t = absurd t
    no_answer (refusals.Trapped kind) t = absurd t

    -- an answer, without the figures
    pub answer_ends : (r : Result Answer RunRefusal) → AnswerSays a r → EndsFrom o m cap n r
    answer_ends (Ok x) t = (small, (answer_measured x t _ _ _ refl refl refl).answered)
    answer_ends (Err x) t = no_answer x t

    -- the exit of a `?` after the machine's word
    pub exit_answer : (r : Result Measured RunRefusal) (x : RunRefusal) → (y : RunRefusal) × (r ≡ Err y) × (y ≡ x) → AnswerSays a (Err x) → FigureSaysFrom o m cap n r
    exit_answer r x (y, is, same) h = subst (FigureSaysFrom o m cap n) (sym (is ∙ ap Err same)) (no_answer x h)
