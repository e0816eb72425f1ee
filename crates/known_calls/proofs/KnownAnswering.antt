-- Every run of a module with workers answers main's data, or is exhausted.
use Rattle.std.proofs.Common.{◌≡◌, ℕ, suc, ◌+◌, ◌*◌, ◌<◌, ◌≤◌, List, [], ◌∷◌, length, Option, Some, None, Bool, true, false, refl, ap, ◌∙◌, inl, inr, arith, le-leb}
use Rattle.std.specs.Prelude.{slice_get, ◌⊎◌, ◌&&◌, if◌then◌else◌}
use Rattle.std.specs.Option.{option_and_then}
use Rattle.wasm_core.specs.declared.types.ConstValue.TheVariants.{I32}
use Rattle.wasm_core.specs.declared.instrs.Instr.TheVariants.{GlobalSet, End}
use Rattle.wasm_core.specs.declared.entries.Entry.TheVariants.{Main}
use Rattle.wasm_core.specs.Parts.{Parts}
use Rattle.wasm_core.specs.Memory.{zeroed}
use Rattle.wasm_core.specs.Instance.{Func, segments_fit}
use Rattle.wasm_core.specs.MachineStep.{State}
use Rattle.wasm_core.specs.Entries.{index_of, from_nothing}
use Rattle.wasm_core.specs.Runs.{start, start_at, main_start}
use Rattle.wasm_core.specs.Answer.{Answers, answers, IsAtEnd}
use Rattle.wasm_core.specs.RunTree.{now}
use Rattle.wasm_core.proofs.Rules as rule
use Rattle.wasm_core.proofs.Trees.{tree_tells, tree_answers}
use Rattle.closure_lift.specs.Lifted.{Program, Val, VNil, answers_alone}
use Rattle.anf_convert.specs.AnfData.{DataTree}
use Rattle.closure_lift.specs.LiftKeeps.{IsData}
use Rattle.wasm_emit.specs.EmittedLocals.{top}
use Rattle.wasm_emit.specs.EmittedModule.{type_main, main_index}
use Rattle.anf_convert.specs.Preorder.{preorder}
use Rattle.wasm_emit.specs.CallDepth.{block_depth}
use Rattle.wasm_emit.specs.EmitLaws.{Spent, spent}
use Rattle.wasm_emit.proofs.Bytes.{zeroed_word, zeroed_length}
use Rattle.wasm_emit.proofs.Rules.{Limits, Within, zeros, looser, zeros_length}
use Rattle.wasm_emit.proofs.Alloc.{one_page}
use Rattle.wasm_emit.proofs.Indices.{entries_length}
use Rattle.wasm_emit.proofs.Read.{reads}
use Rattle.wasm_emit.proofs.Staged.{staged}
use Rattle.wasm_emit.proofs.Source.{Gets}
use Rattle.wasm_emit.proofs.Answering.{forget, is_exhausted}
use Rattle.known_calls.specs.KnownCode.{Inside}
use Rattle.known_calls.specs.KnownModule.{worker_type, main_function, module_of}
use Rattle.known_calls.specs.KnownLaws.{FinishedWithin, finished, KnownAnswers}
use Rattle.known_calls.proofs.KnownHolds.{env_nil, stood_inside}
use Rattle.known_calls.proofs.KnownIndices.{main_in, main_at}
use Rattle.known_calls.proofs.KnownFollows.{follows}

-- the state in which runs start
abbrev pub first_of : Program → ℕ → State
first_of P pages = start (module_of P pages) (record { type = type_main; body = main_function P })

pub starts : (P : Program) (pages : ℕ) → main_start (module_of P pages) ≡ Some (first_of P pages)
starts P pages =
    let n = suc (length P.functions) in
    let fits : segments_fit (module_of P pages) ≡ true = ap (λ (b : Bool). b && true) (le-leb _ _ (omega (arith, entries_length 1 n))) in
    let exported : index_of Main (module_of P pages) ≡ Some (main_index P) = ap (λ (o : Option ℕ). option_and_then (λ index. option_and_then (λ t. from_nothing t.params t.result (main_index P)) (slice_get (module_of P pages).types index)) o) (main_in P (λ g f. 2) (λ t. 1) 0
    (λ g f. worker_type f)) in
    ap (λ (b : Bool). if b then option_and_then (λ f. start_at (module_of P pages) f) (index_of Main (module_of P pages)) else None) fits
    ∙ ap (option_and_then (λ f. start_at (module_of P pages) f)) exported
    ∙ ap (option_and_then (λ (g : Func). Some (start (module_of P pages) g))) (main_at P (main_function P) [] [] pages)

-- the tree of all runs
whole : (P : Program) (pages w m D : ℕ) (v : Val) (d : DataTree) (c k b s : ℕ) → 0 < pages → pages ≤ 16384 → 0 < m → Gets P w m false D VNil P.main v c k b s → IsData v d →
    Within (module_of P pages) (record { frames = D + 1; bytes = 8 + 4 * s; first = 1; more = [] }) (FinishedWithin (module_of P pages) (preorder d) (8 + 4 * s)) k (64 * (b + c + 1) * (w + m)) (first_of P pages)
whole P pages w m D v d c k b s pos small some g is =
    let M = module_of P pages in
    let cap : Limits = record { frames = D + 1; bytes = 8 + 4 * s; first = 1; more = [] } in
    let Q = FinishedWithin M (preorder d) (8 + 4 * s) in
    let y = (follows P (main_function P) [] [] pages small w m some cap Q g).sim Inside (zeroed 1) 1 8 (zeros (top 0 P.main)) 0 [] (record {
      long = zeroed_length 1;
      q = 2;
      aligned = refl;
      above = omega arith;
      fits = omega arith;
      inside = omega (arith, zeroed_length 1);
      tight = λ grown. omega arith;
      pages = omega arith;
    }) zeroed_word env_nil (λ i g ws z. cc) (omega (arith, zeros_length (top 0 P.main))) (omega arith) in
    looser M cap Q (y.run (record { keeps = false; labels = []; callers = [] }) [] (GlobalSet 0 ∷ End ∷ []) 0 2 (64 * (w + m) * (c + b) + 4) stood_inside (omega arith) (omega arith)
    (λ m' p' h' ls' w' x z room same keeps st.
    looser M cap Q {l = 2} {u = 2} (rule.r_set_global M cap.frames Q (Spent M cap.bytes) {x = 0} {old = I32 0} {v = I32 w'} (omega arith) refl
    (rule.r_over M cap.frames Q (Spent M cap.bytes) (now (finished (record { status = refl; word = w'; result = refl; stands = reads room.inside st is }) refl (omega (arith, z)) (one_page room (omega arith)))))) (omega arith) (omega arith))
    (λ z. cc)) (omega arith) (omega arith)

answered_last : (m : Parts) (d : List (ℕ × ℕ)) (t : State) → Answers m d t → IsAtEnd m t
answered_last m d t (answers h) granted u s = s

-- where those that end well have answered, no run goes on from its end
pub at_end : {Q : State → Type 0} (m : Parts) (bytes : ℕ) (d : List (ℕ × ℕ)) → ((t : State) → Q t → Answers m d t) → (t : State) → Q t ⊎ Spent m bytes t → IsAtEnd m t
at_end m bytes d well t (inl q) granted u s = answered_last m d t (well t q) granted u s
at_end m bytes d well t (inr (spent h x)) granted u s = s

pub has_answered : (m : Parts) (bytes : ℕ) (d : List (ℕ × ℕ)) (t : State) → FinishedWithin m d bytes t → Answers m d t
has_answered m bytes d t (finished h x y z) = answers h

pub known_answers : KnownAnswers
known_answers P pages w m v d c k b s pos small some form limits (answers_alone g) is =
    let M = module_of P pages in
    let D = block_depth false g in
    let tree = whole P pages w m D v d c k b s pos small some (staged P w m form limits 0 false form.main g) is in
    record {
      first = first_of P pages;
      starts = starts P pages;
      run = λ n t r. tree_tells M (D + 1) k (64 * (b + c + 1) * (w + m)) (FinishedWithin M (preorder d) (8 + 4 * s)) (Spent M (8 + 4 * s)) (first_of P pages) (at_end M (8 + 4 * s) (preorder d) (has_answered M (8 + 4 * s) (preorder d))) tree n t r;
      always = tree_answers M (D + 1) k (64 * (b + c + 1) * (w + m)) (preorder d) (first_of P pages) (starts P pages) (forget (has_answered M (8 + 4 * s) (preorder d)) (is_exhausted M (8 + 4 * s)) tree);
    }
