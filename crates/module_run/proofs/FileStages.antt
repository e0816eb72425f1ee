-- From what the last steps of an answer say to how it ends.
use Rattle.std.proofs.Common.{◌≡◌, ◌≢◌, ℕ, List, Some, None, Result, Ok, Err, refl, sym, ap, subst, ◌∙◌}
use Rattle.wasm_core.specs.declared.entries.Entry.TheVariants as entry
use Rattle.wasm_core.specs.Parts.{Parts}
use Rattle.wasm_core.specs.MachineStep.{Store}
use Rattle.wasm_core.specs.MachineRun.{MachineShown, refusal}
use Rattle.wasm_core.specs.ModuleGrammar.{SpellsModule}
use Rattle.wasm_core.specs.ModuleTyping.{IsValid}
use Rattle.wasm_core.specs.Runs.{store_of}
use Rattle.wasm_core.specs.Answer.{global_of}
use Rattle.wasm_core.specs.WordData.{DataNodes, StandsFor}
use Rattle.mem_value.specs.Tells.{HasData, HasMany}
use Rattle.module_run.specs.declared.answer.Answer.{Answer}
use Rattle.module_run.specs.declared.refusal.RunRefusal.{RunRefusal}
use Rattle.module_run.specs.declared.refusal.RunRefusal.TheVariants as runs
use Rattle.module_run.specs.Ends.{IsReturned, WordIsTold, HasReturned, RunSays, AnswerSays}
use Rattle.module_run.specs.declared.file_refusal.FileRefusal.{FileRefusal}
use Rattle.module_run.specs.declared.file_refusal.FileRefusal.TheVariants as refusals
use Rattle.module_run.specs.FileEnds.{FileEnds, ProgramEnds, RunEnds, of_run}

-- the run writes no bytes
pub run_writes_none : (m : Parts) (cap n : ℕ) (a : MachineShown) (r : RunRefusal) → RunSays m cap n a (Err r) → r ≢ runs.ModuleBytes
run_writes_none m cap n a r h e = subst (λ x. RunSays m cap n a (Err x)) e h

module _ (m : Parts) (cap n : ℕ) (a : MachineShown) where
  pub stop_ends : (r : RunRefusal) → RunSays m cap n a (Err r) → RunEnds m cap n (Err (of_run r))
  stop_ends runs.ModuleBytes h = absurd h
  stop_ends runs.StepsSpent h = h
  stop_ends runs.Exhausted h = h
  stop_ends (runs.Trapped kind) h = h
  stop_ends (runs.NoValue word) h = absurd h
  stop_ends runs.AnswerNodes h = absurd h
  stop_ends runs.Memory h = tt

  module _ (back : HasReturned m cap n a) where
    store_is : store_of a.state ≡ back.store
    store_is = ap store_of back.at

    -- the word in `result` of the run that returned
    abbrev returned : {Stands : ℕ → Type 0} → (t : WordIsTold a Stands) (w : ℕ) → t.word ≡ w → IsReturned m cap n w
    returned t w same = record {
      store = back.store;
      run = back.run;
      word_is = subst (λ (s : Store). global_of entry.Result m s ≡ Some w) store_is (subst (λ (p : Parts). global_of entry.Result p (store_of a.state) ≡ Some w) back.program (t.is_result back.sound ∙ ap (λ (v : ℕ). Some v) same));
    }

    pub data_ends : (x : Answer) → AnswerSays a (Ok x) → RunEnds m cap n (Ok x.tree)
    data_ends x t =
        let (word, stands, few) = t.stands in
        let same = word back.sound in (
          x.word,
          record {
            returned = returned t x.word same;
            stands = subst (λ (s : Store). StandsFor s.memory x.word x.tree) store_is (subst (λ w. StandsFor (store_of a.state).memory w x.tree) same stands);
            few = few;
          },
        )

    pub no_data_ends : (r : RunRefusal) → AnswerSays a (Err r) → RunEnds m cap n (Err (of_run r))
    no_data_ends (runs.NoValue x) t =
        let (same, none) = t.stands in
        record {
          returned = returned t x (sym same);
          none = λ d. none (subst (HasData (store_of a.state).memory) same (subst (λ (s : Store). HasData s.memory x) (sym store_is) d));
        }
    no_data_ends runs.AnswerNodes t = record { word = t.word; returned = returned t t.word refl; many = subst (λ (s : Store). HasMany s.memory t.word) store_is t.stands }
    no_data_ends runs.Memory t = tt
    no_data_ends runs.ModuleBytes t = absurd t
    no_data_ends runs.StepsSpent t = absurd t
    no_data_ends runs.Exhausted t = absurd t
    no_data_ends (runs.Trapped kind) t = absurd t

-- ---- one stage after another

-- the end of a run of a module of which a machine is made
pub program_runs : (m : Parts) (cap n : ℕ) → refusal m cap ≡ None → (r : Result DataNodes FileRefusal) → RunEnds m cap n r → ProgramEnds m cap n r
program_runs m cap n none (Ok d) h = (none, h)
program_runs m cap n none (Err refusals.Exhausted) h = (none, h)
program_runs m cap n none (Err refusals.StepsSpent) h = (none, h)
program_runs m cap n none (Err (refusals.Trapped kind)) h = (none, h)
program_runs m cap n none (Err (refusals.NoValue word)) h = (none, h)
program_runs m cap n none (Err refusals.AnswerNodes) h = (none, h)
program_runs m cap n none (Err refusals.Memory) h = tt
program_runs m cap n none (Err (refusals.Bad o)) h = absurd h
program_runs m cap n none (Err (refusals.Invalid f p)) h = absurd h
program_runs m cap n none (Err (refusals.NoEntry x)) h = absurd h
program_runs m cap n none (Err refusals.Pages) h = absurd h
program_runs m cap n none (Err refusals.Table) h = absurd h
program_runs m cap n none (Err refusals.ElementPastTable) h = absurd h

-- the end of a valid module that the bytes spell
pub file_runs : (bytes : List ℕ) (m : Parts) (cap n : ℕ) → SpellsModule bytes m → IsValid m → (r : Result DataNodes FileRefusal) → ProgramEnds m cap n r → FileEnds bytes cap n r
file_runs bytes m cap n s v (Ok d) h = (m, s, v, h)
file_runs bytes m cap n s v (Err (refusals.NoEntry x)) h = (m, s, v, h)
file_runs bytes m cap n s v (Err refusals.Pages) h = (m, s, v, h)
file_runs bytes m cap n s v (Err refusals.Table) h = (m, s, v, h)
file_runs bytes m cap n s v (Err refusals.ElementPastTable) h = (m, s, v, h)
file_runs bytes m cap n s v (Err refusals.Exhausted) h = (m, s, v, h)
file_runs bytes m cap n s v (Err refusals.StepsSpent) h = (m, s, v, h)
file_runs bytes m cap n s v (Err (refusals.Trapped kind)) h = (m, s, v, h)
file_runs bytes m cap n s v (Err (refusals.NoValue word)) h = (m, s, v, h)
file_runs bytes m cap n s v (Err refusals.AnswerNodes) h = (m, s, v, h)
file_runs bytes m cap n s v (Err refusals.Memory) h = tt
file_runs bytes m cap n s v (Err (refusals.Bad o)) h = absurd h.1
file_runs bytes m cap n s v (Err (refusals.Invalid f p)) h = absurd h.1
