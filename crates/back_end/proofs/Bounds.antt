-- The bounds on steps and on memory.
use Rattle.std.proofs.Common.{◌≡◌, ◌∙◌, sym, subst, Bool, ℕ, zero, suc, ◌+◌, ◌*◌, ◌<◌, ◌≤◌, true, false, refl, arith}
use Rattle.std.proofs.lemmas.Option.{same_Some}
use Rattle.box_terms.specs.BoxSyntax.{BoxTerm}
use Rattle.lambda_box.specs.BoxProgram.{BoxProgram}
use Rattle.lambda_box.specs.BoxEvaluation.{BoxEvaluates, value, constant, let_in, beta, box_app, extend, unfold_fix, enter, enter_only}
use Rattle.lambda_box.specs.DataTerms.{greatest_words}
use Rattle.wasm_core.specs.declared.ended.Ended.TheVariants.{Trapped}
use Rattle.wasm_core.specs.declared.ended.TrapKind.{TrapKind}
use Rattle.wasm_core.specs.Parts.{Parts}
use Rattle.wasm_core.specs.Instance.{greatest_pages}
use Rattle.wasm_core.specs.MachineStep.{State, Store, Over, Reach}
use Rattle.wasm_core.specs.WordData.{DataNodes}
use Rattle.wasm_core.specs.RunTree.{Fate, ended, ran_out}
use Rattle.known_calls.specs.KnownModule.{module_of}
use Rattle.wasm_emit.specs.EmitLaws.{Spent, spent}
use Rattle.known_calls.specs.KnownLaws.{FinishedWithin}
use Rattle.back_end.specs.StepsAndMemory.{StepsAndMemoryAreBounded}
use Rattle.back_end.specs.BackEnd.{passed}
use Rattle.back_end.proofs.Total.{total_back_end}

some_nodes : {P : BoxProgram} {t w : BoxTerm} {n m : ℕ} → BoxEvaluates P t w n m → 0 < n
some_nodes (value h) = omega arith
some_nodes (constant k e) = omega arith
some_nodes (let_in e f) = omega arith
some_nodes (beta e f g) = omega arith
some_nodes (box_app e f) = omega arith
some_nodes (extend e f h) = omega arith
some_nodes (unfold_fix e f u g) = omega arith
some_nodes (enter e c at f) = omega arith
some_nodes (enter_only k p e f) = omega arith

more_steps : (n x : ℕ) → 0 < n → 64 * (3 * n + 1) * x ≤ 1024 * n * x
more_steps zero x pos = absurd (omega arith)
more_steps (suc n) x pos = omega arith

more_bytes : (n x : ℕ) → 8 + 4 * (2 * n * x) ≤ 32 * n * x + 8
more_bytes n x = omega arith

by_choice_of : (M : Parts) (bytes : ℕ) (s : Store) (b : Bool) → s.by_choice ≡ b → bytes ≤ 65536 * greatest_pages M.memory → (s.by_choice ≡ false → 65536 * greatest_pages M.memory < bytes) → s.by_choice ≡ true
by_choice_of M bytes s true e le h = e
by_choice_of M bytes s false e le h = let lt = h e in absurd (omega arith)

chosen : {M : Parts} {frames bytes : ℕ} {d : DataNodes} {least k : ℕ} {trap : TrapKind} {s : Store} → bytes ≤ 65536 * greatest_pages M.memory → Fate M frames (FinishedWithin M d bytes) (Spent M bytes) least k (Over (Trapped trap) s) → s.by_choice ≡ true
chosen le (ended q l) = elim q [ ]
chosen {M} {bytes = bytes} {s = s} le (ran_out (spent x h)) = by_choice_of M bytes s s.by_choice refl le h

pub bounds : StepsAndMemoryAreBounded
bounds P pages m w ns n matched pos small some ok evaluates reads =
    let x = total_back_end P pages m w ns n matched pos small some ok evaluates reads in
    let few = x.few in
    record {
      steps = λ first k t starts reach. omega (arith, (x.run k t (subst (λ (f : State). Reach (module_of (passed P) pages) k f t) (same_Some _ _ (sym starts ∙ x.starts)) reach)).0, more_steps n (greatest_words P + m) (some_nodes evaluates));
      memory = λ enough first k trap s starts reach. chosen (omega (arith, more_bytes n (greatest_words P))) (x.run k (Over (Trapped trap) s) (subst (λ (f : State). Reach (module_of (passed P) pages) k f (Over (Trapped trap) s)) (same_Some _ _ (sym starts ∙ x.starts)) reach)).1;
    }
