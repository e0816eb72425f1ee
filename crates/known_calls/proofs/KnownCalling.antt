-- Every run of a module with workers whose main takes arguments answers main's data, or is exhausted.
use Rattle.std.proofs.Common.{ℕ, ◌+◌, ◌*◌, ◌<◌, ◌≤◌, List, [], ◌∷◌, max, Option, true, false, refl, ap, sym, subst, inl, inr, arith}
use Rattle.std.specs.Prelude.{slice_get, ◌⊎◌}
use Rattle.std.specs.Option.{option_and_then}
use Rattle.wasm_core.specs.declared.types.ConstValue.TheVariants.{I32}
use Rattle.wasm_core.specs.declared.instrs.Instr.TheVariants.{GlobalSet, End}
use Rattle.wasm_core.specs.Parts.{Parts}
use Rattle.wasm_core.specs.MachineStep.{State, Reach}
use Rattle.wasm_core.specs.Entries.{from_nothing}
use Rattle.wasm_core.specs.Answer.{Answers, answers, Exhausted, IsAtEnd}
use Rattle.wasm_core.specs.RunTree.{Fate, goes_on, ended, ran_out, now}
use Rattle.wasm_core.proofs.Rules as rule
use Rattle.wasm_core.proofs.Trees.{tree_tells}
use Rattle.closure_lift.specs.Lifted.{Program, Val, Vals}
use Rattle.anf_convert.specs.AnfData.{DataTree, DataTrees}
use Rattle.closure_lift.specs.LiftKeeps.{IsData, AreData}
use Rattle.wasm_emit.specs.EmittedLocals.{top}
use Rattle.wasm_emit.specs.EmittedModule.{type_main, main_index}
use Rattle.wasm_emit.specs.CallModule.{call_globals, call_exports}
use Rattle.wasm_emit.specs.CallDepth.{call_depth}
use Rattle.wasm_emit.specs.EmitLaws.{Spent}
use Rattle.anf_convert.specs.Preorder.{fields_of as count, preorder}
use Rattle.wasm_emit.specs.CallLaws.{IsHosted, hosted, call_start}
use Rattle.wasm_emit.proofs.Bytes.{Mem}
use Rattle.wasm_emit.proofs.Rules.{Limits, Within, zeros, looser, zeros_length}
use Rattle.wasm_emit.proofs.Read.{reads, all_count, args_of}
use Rattle.wasm_emit.proofs.Source.{Applies}
use Rattle.wasm_emit.proofs.Staged.{staged_all}
use Rattle.wasm_emit.proofs.Answering.{is_exhausted}
use Rattle.known_calls.specs.KnownModule.{worker_type}
use Rattle.known_calls.specs.KnownCalls.{applied, call_function, module_of_call}
use Rattle.known_calls.specs.KnownLaws.{CallFinished, call_finished, CallsAnswer}
use Rattle.known_calls.proofs.KnownHolds.{stood_inside}
use Rattle.known_calls.proofs.KnownIndices.{main_in, main_at}
use Rattle.known_calls.proofs.KnownFollows.{applies}
use Rattle.known_calls.proofs.KnownAnswering.{at_end}

call_answered : (m : Parts) (first heap bytes : ℕ) (d : List (ℕ × ℕ)) (t : State) → CallFinished m d first heap bytes t → Answers m d t
call_answered m first heap bytes d t (call_finished h x y z e) = answers h

ends : (m : Parts) (first heap bytes frames least n : ℕ) (d : List (ℕ × ℕ)) (t : State) → Fate m frames (CallFinished m d first heap bytes) (Spent m bytes) least n t → IsAtEnd m t → Answers m d t ⊎ Exhausted m t
ends m first heap bytes frames least n d t (goes_on s u deep x y) last = absurd (last true s x)
ends m first heap bytes frames least n d t (ended q h) last = inl (call_answered m first heap bytes d t q)
ends m first heap bytes frames least n d t (ran_out e) last = inr (is_exhausted m bytes t e)

-- the tree of all runs
whole : (P : Program) (pages w m D : ℕ) (args : Vals) (ds : DataTrees) (v : Val) (d : DataTree) (c k b s : ℕ) (memory : Mem) (pages_now heap address : ℕ) → 0 < pages → pages ≤ 16384 → 0 < m → Applies P w m D args v c k b s → AreData args ds → IsData v d →
    IsHosted pages memory pages_now heap address ds →
    Within (module_of_call P (count ds) pages) (record { frames = D + 1; bytes = heap + 4 * s; first = pages_now; more = I32 address ∷ [] }) (CallFinished (module_of_call P (count ds) pages) (preorder d) pages_now heap (heap + 4 * s)) k (64 * (b + c + 1) * (w + m))
    (call_start (record { type = type_main; body = call_function P (count ds) }) (hosted memory pages_now heap address))
whole P pages w m D args ds v d c k b s memory pages_now heap address pos small some g are is host =
    let M = module_of_call P (count ds) pages in
    let cap : Limits = record { frames = D + 1; bytes = heap + 4 * s; first = pages_now; more = I32 address ∷ [] } in
    let Q = CallFinished M (preorder d) pages_now heap (heap + 4 * s) in
    let n = max 2 (top 0 P.main) in
    let y = applies P (call_function P (count ds)) call_globals call_exports pages small w m some cap Q {a = address} refl g memory pages_now heap (zeros n)
    (record { long = host.whole; q = host.quarter; aligned = host.aligned; above = host.above; fits = omega (arith, host.inside, host.whole); inside = host.inside; tight = λ grown. absurd (omega arith); pages = host.most_pages }) host.zero (args_of are host.arguments)
    (omega (arith, zeros_length n)) (omega (arith, zeros_length n)) (omega arith) in
    subst (λ (j : ℕ). Within M cap Q k (64 * (b + c + 1) * (w + m)) (rule.here (record { keeps = false; labels = []; callers = [] }) (hosted memory pages_now heap address) (zeros n) [] (applied P j (GlobalSet 0 ∷ End ∷ [])))) (sym (all_count are))
    (looser M cap Q (y.run (record { keeps = false; labels = []; callers = [] }) [] (GlobalSet 0 ∷ End ∷ []) 0 2 (64 * (w + m) * (c + b) + 4) stood_inside (omega arith) (omega arith)
    (λ m' p' h' ls' w' x z room same keeps st.
    looser M cap Q {l = 2} {u = 2} (rule.r_set_global M cap.frames Q (Spent M cap.bytes) {x = 0} {old = I32 0} {v = I32 w'} (omega arith) refl
    (rule.r_over M cap.frames Q (Spent M cap.bytes) (now (call_finished (record { status = refl; word = w'; result = refl; stands = reads room.inside st is }) refl x (omega (arith, z)) room.tight)))) (omega arith) (omega arith))
    (λ z. cc)) (omega arith) (omega arith))

pub calls_answer : CallsAnswer
calls_answer P pages w m args ds v d c k b s memory pages_now heap address pos small some form limits are run is host =
    let M = module_of_call P (count ds) pages in
    let D = call_depth run in
    let tree = whole P pages w m D args ds v d c k b s memory pages_now heap address pos small some (staged_all P w m form limits run) are is host in
    let first = call_start (record { type = type_main; body = call_function P (count ds) }) (hosted memory pages_now heap address) in
    let Q = CallFinished M (preorder d) pages_now heap (heap + 4 * s) in
    let most : ℕ = 64 * (b + c + 1) * (w + m) in
    let run : (n : ℕ) (t : State) → Reach M n first t → (n ≤ most) × Fate M (D + 1) Q (Spent M (heap + 4 * s)) k n t =
    tree_tells M (D + 1) k most Q (Spent M (heap + 4 * s)) first (at_end M (heap + 4 * s) (preorder d) (call_answered M pages_now heap (heap + 4 * s) (preorder d))) tree in
    record {
      index = main_index P;
      main = record { type = type_main; body = call_function P (count ds) };
      exported = ap (λ (o : Option ℕ). option_and_then (λ index. option_and_then (λ t. from_nothing t.params t.result (main_index P)) (slice_get M.types index)) o) (main_in P (λ g f. 2) (λ t. 1) 0 (λ g f. worker_type f));
      is = main_at P (call_function P (count ds)) call_globals call_exports pages;
      run = run;
      answers = λ n t r last. ends M pages_now heap (heap + 4 * s) (D + 1) k n (preorder d) t (run n t r).1 last;
    }
