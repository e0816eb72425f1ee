-- The emitted instructions follow the evaluation of the lifted program.
use Rattle.std.proofs.Common.{◌≡◌, ℕ, zero, suc, ◌+◌, ◌-◌, ◌*◌, ◌<◌, ◌≤◌, List, [], ◌∷◌, ◌++◌, length, length-append, Option, Some, None, Bool, true, false, refl, ap, sym, ◌∙◌, subst, arith}
use Rattle.std.proofs.lemmas.Bool.{and_parts, eqb-true}
use Rattle.std.proofs.lemmas.List.{length-reverse}
use Rattle.std.proofs.lemmas.Option.{same_Some, slice_get_within, slice_get-get_or}
use Rattle.std.specs.Prelude.{slice_get, slice_set, reverse, nat_eq, nat_le, if◌then◌else◌}
use Rattle.anf_convert.specs.AnfForm.{fields}
use Rattle.wasm_core.specs.declared.types.ValType.TheVariants as type
use Rattle.wasm_core.specs.declared.types.ConstValue.{ConstValue}
use Rattle.wasm_core.specs.declared.types.ConstValue.TheVariants.{I32}
use Rattle.wasm_core.specs.declared.types.GlobalDef.{GlobalDef}
use Rattle.wasm_core.specs.declared.exports.Export.{Export}
use Rattle.wasm_core.specs.declared.instrs.BlockType.TheVariants.{Value}
use Rattle.wasm_core.specs.declared.instrs.Body.{Body}
use Rattle.wasm_core.specs.declared.instrs.Instr.{Instr}
use Rattle.wasm_core.specs.declared.instrs.Instr.TheVariants.{Loop, ReturnCall, Br, End, LocalGet, LocalSet}
use Rattle.wasm_core.specs.Parts.{Parts}
use Rattle.wasm_core.specs.Memory.{word}
use Rattle.wasm_core.specs.MachineStep.{Frame, State}
use Rattle.wasm_core.proofs.Rules.{Around}
use Rattle.wasm_core.proofs.Rules as rule
use Rattle.anf_convert.specs.declared.program.Atom.{Atom}
use Rattle.closure_lift.specs.Lifted.{Op, ConstOp, AppOp, ConOp, ClosOp, CaseOp, Block, TailAtom, BindAtom, Tail, Bind, BranchBlocks, Program, Fn, Val, VBox, VCon, VClos, Vals, VNil, VCons, size, ◌+v◌, branch_count, BranchAt}
use Rattle.wasm_emit.specs.CallDepth.{with_call}
use Rattle.wasm_emit.specs.EmitLaws.{Spent}
use Rattle.wasm_emit.specs.EmittedCode.{constant_index}
use Rattle.wasm_emit.specs.EmittedLocals.{top, top_op}
use Rattle.wasm_emit.proofs.Source.{Applies, applies_alone, applies_more, Is, AllAre, Does, do_const, do_app, do_box_app, do_con, do_clos, do_case, Gets, gets_atom, gets_let_atom, gets_ret, gets_let, all_size}
use Rattle.wasm_emit.proofs.Bytes.{Mem, at_zero}
use Rattle.wasm_emit.proofs.Values.{ArgsAt, args_more, Stands, s_box, s_empty, s_con, s_clos, Fields, no_field, field, append_nil, closure, box_word, top_arg}
use Rattle.wasm_emit.proofs.Holds.{args_on, Same, Keeps, keeps_trans, keeps_same, keeps_set, set_this, stands_on}
use Rattle.wasm_emit.proofs.Rules.{Limits, Within, here, in_block, zeros, looser, r_const, r_get, r_set, r_load, r_end, r_return, zeros_length}
use Rattle.wasm_emit.proofs.Alloc.{Room, HasRunTime, low_word}
use Rattle.wasm_emit.proofs.Pushing.{branch_top}
use Rattle.known_calls.specs.KnownPlaces.{Word, InLocal, InField, Place, At, Known, Never, fields_of, known_function, is_read, names, branches_read, block_reads}
use Rattle.known_calls.specs.KnownCode.{Position, Inside, InTail, is_wide, into_params, worker_index, most_blocks, jumps, application, call_worker, into_local, choose, unmade, known, moves, move_field, branch_places, op, code, alternatives, Final, call_of, closure_call}
use Rattle.known_calls.specs.KnownModule.{params, captured_words, module_with, stub_code, worker_code}
use Rattle.known_calls.specs.KnownCalls.{applied}
use Rattle.known_calls.proofs.KnownHolds.{in_local, in_field, Words, words_length, Env, env_nil, env_at, env_known, env_on, Unread, OpUnread, Stood, stood_inside, stood_in_tail, stood_up, loop_of, stood_final}
use Rattle.known_calls.proofs.Unreading.{neither, unmade_some, not_read, unread_known, unread_at, unread_moved, unread_let_atom, unread_op, unread_branch}
use Rattle.known_calls.proofs.Finding.{There, there, there_unknown}
use Rattle.known_calls.proofs.Knowing.{known_is, calls, same_function, same_captured, no_box}
use Rattle.known_calls.proofs.KnownMaking.{WordsStand, stand_more, words, stand_size, put_atom, pushed, made, new_made}
use Rattle.known_calls.proofs.KnownCases.{Yields, Out, Go, fewer_kept, ordered_all, all_sizes, branch_is, among_all, more_steps, bare_found, fielded_found}
use Rattle.known_calls.proofs.KnownIndices.{not_wide, narrow_few, constant_at, wide_at, stub_at, worker_at, table_entry}
use Rattle.known_calls.proofs.SameLocals.{worker_top, top_less}
use Rattle.known_calls.proofs.Jumping.{r_br_out}
use Rattle.known_calls.proofs.Working.{params_env, params_made, set_all, set_all_length, set_params_env, in_loop, same_around, r_params, loaded}
use Rattle.known_calls.proofs.TailCalling.{entering, waiting, call_0, call_words, call_closure, one_waits, has_room, goes_back}
use Rattle.known_calls.proofs.Shapes.{shaped_alternatives}
use Rattle.known_calls.specs.KnownTests.{tests}

-- the fields of a block are places
fields_env : {m : Mem} {h : ℕ} {ls : List ConstValue} {d : ℕ} {ps : List Place} {e : Vals} {vs : Vals} (x w : ℕ) → x < d → slice_get ls x ≡ Some (I32 w) → w + 4 * suc (size vs) ≤ h → Fields m h w vs → Env m h ls d ps e → Env m h ls d (fields_of x (size vs) ps) (vs +v e)
fields_env x w lt at within no_field env = env
fields_env {m} {h} x w lt at within (field {vs = vs} s low fs) env =
    env_at (word m (w + 4 * suc (size vs))) (in_field w lt at (omega arith) refl) s (fields_env x w lt at (omega arith) fs env)

-- none of them is a known closure
fields_made : (x n i g : ℕ) (ws : List Word) → slice_get (fields_of x n []) i ≡ Some (Known g ws) → ⊥
fields_made x zero i g ws e = cc
fields_made x (suc n) zero g ws e = cc
fields_made x (suc n) (suc i) g ws e = fields_made x n i g ws e

module _ (P : Program) (main : Body) (gs : List GlobalDef) (es : List Export) (pages : ℕ) (small : pages ≤ 16384) (W N : ℕ) (some : 0 < N) (cap : Limits) (Q : State → Type 0) where
  abbrev M : Parts
  M = module_with P main gs es pages

  fixed : HasRunTime (module_with P main gs es pages)
  fixed = record { small = small; room = refl; function = refl; status = refl }

  abbrev cost : ℕ → ℕ → ℕ
  cost c b = 64 * (W + N) * (c + b)

  pub record SimCode (tail : Bool) (D : ℕ) (e : Vals) (t : Block) (v : Val) (c k b s : ℕ) : Type 0 where
    pub sim : (at : Position) (m : Mem) (p h : ℕ) (ls : List ConstValue) (d : ℕ) (ps : List Place) → Room M cap m p h → word m 0 ≡ 0 → Env m h ls d ps e → Unread ps t → top d t ≤ length ls → h + 4 * s ≤ cap.bytes → Yields P M cap Q at m p h ls d v tail D k s (cost c b + 2) (code P ps d at t)

  record SimOp (tail : Bool) (D : ℕ) (e : Vals) (x : Op) (v : Val) (c k b s : ℕ) : Type 0 where
    pub sim : (at : Position) (m : Mem) (p h : ℕ) (ls : List ConstValue) (d : ℕ) (ps : List Place) (n : ℕ) → cost c b ≤ n + 20 → Room M cap m p h → word m 0 ≡ 0 → Env m h ls d ps e → OpUnread ps x → top_op d x ≤ length ls → h + 4 * s ≤ cap.bytes →
        Yields P M cap Q at m p h ls d v tail D k s n (op P ps d at x)

  sim_con : {D : ℕ} {tail : Bool} {e : Vals} {c : ℕ} {as' : List Atom} {vs : Vals} → c < 65536 → 0 < length as' → length as' < fields → length as' < W → AllAre e as' vs → SimOp tail D e (ConOp c as') (VCon c vs) 0 0 1 (suc (length as'))
  sim_con {c = c} {as' = as'} lt pos few narrow all = record {
    sim = λ at m p h ls d ps n is room nil env un has needed. record {
      run = λ f vals rest l u bound stood deep fits go out.
          looser M cap Q (made M fixed cap Q (omega arith) needed all un few (omega arith) (omega arith) room env (λ m' p' ls' room' same keeps head fs.
          go m' p' (h + 4 * suc (length as')) ls' h (omega arith) (omega arith) room' same keeps (s_con room.q lt room.aligned (omega (arith, room.above)) (omega (arith, all_size all)) (omega (arith, all_size all)) (omega (arith, head, all_size all)) fs)))
          (omega arith) (omega arith);
    };
  }

  sim_clos : {D : ℕ} {tail : Bool} {e : Vals} {g : ℕ} {as' : List Atom} {vs : Vals} → g < 32768 → length as' < fields → length as' < W → AllAre e as' vs → SimOp tail D e (ClosOp g as') (VClos g vs) 0 0 1 (suc (length as'))
  sim_clos {as' = as'} lt few narrow all = record {
    sim = λ at m p h ls d ps n is room nil env un has needed. record {
      run = λ f vals rest l u bound stood deep fits go out.
          looser M cap Q (made M fixed cap Q (omega arith) needed all un few (omega arith) (omega arith) room env (λ m' p' ls' room' same keeps head fs.
          go m' p' (h + 4 * suc (length as')) ls' h (omega arith) (omega arith) room' same keeps (s_clos room.q lt room.aligned (omega (arith, room.above)) (omega (arith, all_size all)) head fs)))
          (omega arith) (omega arith);
    };
  }

  sim_const : {tail : Bool} {D : ℕ} {x : ℕ} {t : Block} {e : Vals} {v : Val} {c k b s : ℕ} → slice_get P.constants x ≡ Some t → SimCode true D VNil t v c k b s → SimOp tail (with_call tail D) e (ConstOp x) v (suc c) k b s
  sim_const {D = D} {x = x} {t = t} {v = v} {c = c} {b = b} {s = s} is_at body = record {
    sim = λ at m p h ls d ps n is room nil env un has needed. record {
      run = λ f vals rest l u bound stood deep fits go out.
          let callers = waiting at f ls vals rest in
          let back : Out P M cap Q m h v s (entering callers) l u = goes_back P M cap Q m s f stood go out in
          let low : length callers + D + 1 ≤ cap.frames = has_room D f ls vals rest stood deep in
          looser M cap Q (call_0 M cap Q at (top 0 t) (constant_index P x) (omega arith) (constant_at P main gs es pages x t is_at)
          ((body.sim Final m p h (zeros (top 0 t)) 0 [] room nil env_nil (λ i g ws z. cc) (omega (arith, zeros_length (top 0 t))) needed).run (entering callers) [] (End ∷ []) l (suc u) (cost c b + 2 + suc u) stood_final low (omega arith)
          (λ m' p' h' ls' w x y room' same keeps st. looser M cap Q (r_return M cap Q callers (omega arith) (back m' p' h' w x y room' same st)) (omega arith) (omega arith))
          (λ z m' p' h' w x y room' same st. looser M cap Q (back m' p' h' w x y room' same st) (omega arith) (omega arith))))
          (omega arith) (omega arith);
    };
  }

  -- A function of the program, from the place where it begins to those that wait for it: they go on with a word of the result.
  module _ {D : ℕ} (g : ℕ) {fn : Fn} {e' : Vals} {v r : Val} {c k b s : ℕ} (is_at : slice_get P.functions g ≡ Some fn) (sz : size e' ≡ fn.captured) (body : SimCode true D (VCons v e') fn.body r c k b s)
      {m : Mem} {p h : ℕ} (room : Room M cap m p h) (nil : word m 0 ≡ 0) (needed : h + 4 * s ≤ cap.bytes) where
    -- the worker's loop, where its parameters are the places of its variables
    loop_follows : {L : List ConstValue} {callers : List Frame} {l u : ℕ} → Env m h L (suc fn.captured) (params (suc fn.captured)) (VCons v e') → top (suc fn.captured) fn.body ≤ length L → length callers + D + 1 ≤ cap.frames →
        Out P M cap Q m h r s (entering callers) l u → Within M cap Q (k + l) (cost c b + 5 + u) (here cap (entering callers) m p h L [] (Loop (Value type.I32) ∷ worker_code P g fn))
    loop_follows {L} {callers} {l} {u} start enough deep out =
        looser M cap Q (rule.r_loop M cap.frames Q (Spent M cap.bytes) {b = Value type.I32} (omega arith)
        ((body.sim (InTail g 0) m p h L (suc fn.captured) (params (suc fn.captured)) room nil start (λ i j us z. absurd (params_made (suc fn.captured) i j us z)) enough needed).run
        (in_block (loop_of P g fn) (entering callers)) [] (End ∷ End ∷ []) l (suc (suc u)) (cost c b + 2 + suc (suc u)) (stood_in_tail [] refl is_at (omega arith) enough) deep (omega arith)
        (λ m' p' h' ls' w x y room' same keeps st. looser M cap Q (r_end M cap Q {k = loop_of P g fn} (omega arith) (r_return M cap Q callers (omega arith) (out m' p' h' w x y room' same st))) (omega arith) (omega arith))
        (λ z m' p' h' w x y room' same st. looser M cap Q (out m' p' h' w x y room' same st) (omega arith) (omega arith))))
        (omega arith) (omega arith)

    -- the worker is called with words of its captured values and of its argument
    call_follows : {ws : List ℕ} {F : Around} {ls : List ConstValue} {rest : List Instr} {l u : ℕ} (at : Position) (vals : List ConstValue) → fn.captured ≤ 7 → WordsStand m h ws (VCons v e') → length F.callers ≤ cap.frames → length (waiting at F ls vals rest) + D + 1 ≤ cap.frames →
        Out P M cap Q m h r s (entering (waiting at F ls vals rest)) l u → Within M cap Q (k + l) (cost c b + 6 + u) (here cap F m p h ls (words ws ++ vals) (call_of at (worker_index P g) ∷ rest))
    call_follows {ws} {F} {ls} {rest} {l} {u} at vals few all low deep out =
        let n = top 2 fn.body - 2 in
        let L = reverse (words ws) ++ zeros n in
        let count : length (words ws) ≡ suc fn.captured = stand_size all ∙ ap suc sz in
        let long : length L ≡ suc fn.captured + n = omega (arith, length-append (reverse (words ws)) (zeros n), length-reverse (words ws), count, zeros_length n) in
        let start : Env m h L (suc fn.captured) (params (suc fn.captured)) (VCons v e') = subst (λ (i : ℕ). Env m h L (suc fn.captured) (params i) (VCons v e')) (ap suc sz) (params_env (zeros n) (omega (arith, sz)) all) in
        looser M cap Q (call_words M cap Q at n (worker_index P g) (words ws) vals low (worker_at P main gs es pages g fn is_at (not_wide fn few) few) count (loop_follows start (omega (arith, long, worker_top fn.captured fn.body)) deep out)) (omega arith) (omega arith)

    -- the worker's tail begins it again
    jump_follows : {w0 : ℕ} {ws : List ℕ} {F : Around} {ls : List ConstValue} (vals : List ConstValue) (rest : List Instr) {l u depth d : ℕ} {tail : Bool} → fn.captured ≤ 7 → WordsStand m h (w0 ∷ ws) (VCons v e') → length F.callers + D + 1 ≤ cap.frames →
        Stood P (InTail g depth) tail d (length ls) F.keeps F.labels → d ≤ length ls → (tail ≡ true → Out P M cap Q m h r s F l u) → Within M cap Q (k + l) (cost c b + 14 + u) (here cap F m p h ls (words (w0 ∷ ws) ++ vals) (into_params fn.captured (Br depth ∷ rest)))
    jump_follows {w0} {ws} {F} {ls} vals rest {l} {u} {depth} {d} few all deep stood has out =
        let i = in_loop P g depth stood in
        let same_fn : i.fn ≡ fn = same_Some _ _ (sym i.at ∙ is_at) in
        let G : Around = record { keeps = true; labels = i.inner ++ loop_of P g fn ∷ []; callers = F.callers } in
        let around : F ≡ G = same_around F true (i.inner ++ loop_of P g fn ∷ []) i.keep (i.is ∙ ap (λ (x : Fn). i.inner ++ loop_of P g x ∷ []) same_fn) in
        let locals : top (suc fn.captured) fn.body ≤ length ls = subst (λ (x : Fn). top (suc x.captured) x.body ≤ length ls) same_fn i.enough in
        let within : suc fn.captured ≤ d = subst (λ (x : Fn). suc x.captured ≤ d) same_fn i.below in
        let L = set_all (words (w0 ∷ ws)) ls in
        let count : suc (length (words ws)) ≡ suc fn.captured = stand_size all ∙ ap suc sz in
        let many : length (words ws) ≡ fn.captured = omega (arith, count) in
        let start : Env m h L (suc fn.captured) (params (suc fn.captured)) (VCons v e') = subst (λ (j : ℕ). Env m h L (suc fn.captured) (params j) (VCons v e')) (ap suc sz) (set_params_env ls (omega (arith, count)) (omega (arith, sz)) all) in
        subst (λ (X : Around). Within M cap Q (k + l) (cost c b + 14 + u) (here cap X m p h ls (words (w0 ∷ ws) ++ vals) (into_params fn.captured (Br depth ∷ rest)))) (sym around)
        (subst (λ (x : ℕ). Within M cap Q (k + l) (cost c b + 14 + u) (here cap G m p h ls (words (w0 ∷ ws) ++ vals) (into_params x (Br depth ∷ rest)))) many
        (looser M cap Q (r_params M cap Q (words ws) (I32 w0) {f = G} ls (Br depth ∷ rest) (omega arith) (omega (arith, count))
        (subst (λ (x : ℕ). Within M cap Q (suc (k + l)) (suc (cost c b + 5 + u)) (here cap G m p h L vals (Br x ∷ rest))) i.count
        (r_br_out M cap.frames Q (Spent M cap.bytes) (entering F.callers) i.inner [] (omega arith) (loop_follows start (omega (arith, set_all_length (words (w0 ∷ ws)) ls)) deep (out i.in_tail)))))
        (omega arith) (omega (arith, count))))

    -- the body of a function without a worker
    wide_follows : {w1 wa : ℕ} {callers : List Frame} {l u : ℕ} → Stands m h w1 (VClos g e') → Stands m h wa v → length callers + D + 1 ≤ cap.frames → Out P M cap Q m h r s (entering callers) l u →
        Within M cap Q (k + l) (cost c b + 3 + u) (here cap (entering callers) m p h (I32 w1 ∷ I32 wa ∷ zeros (top 2 fn.body - 2)) [] (code P (At (InLocal 1) ∷ fields_of 0 fn.captured []) 2 Final fn.body (End ∷ [])))
    wide_follows {w1} {wa} {callers} {l} {u} s1 sa deep out =
        let c1 = closure s1 in
        let n = top 2 fn.body - 2 in
        let locals : List ConstValue = I32 w1 ∷ I32 wa ∷ zeros n in
        let fields : Env m h locals 2 (fields_of 0 fn.captured []) e' = subst (λ (i : ℕ). Env m h locals 2 (fields_of 0 i []) e') sz (subst (Env m h locals 2 (fields_of 0 (size e') [])) (append_nil e') (fields_env 0 w1 (omega arith) refl c1.within c1.fields env_nil)) in
        (body.sim Final m p h locals 2 (At (InLocal 1) ∷ fields_of 0 fn.captured []) room nil (env_at wa (in_local (omega arith) refl) sa fields) (λ i j us z. absurd (not_known i j us z)) (omega (arith, zeros_length n)) needed).run
        (entering callers) [] (End ∷ []) l (suc u) (cost c b + 3 + u) stood_final deep (omega arith)
        (λ m' p' h' ls' w x y room' same keeps st. looser M cap Q (r_return M cap Q callers (omega arith) (out m' p' h' w x y room' same st)) (omega arith) (omega arith))
        (λ z m' p' h' w x y room' same st. looser M cap Q (out m' p' h' w x y room' same st) (omega arith) (omega arith))
      where
        not_known : (i j : ℕ) (us : List Word) → slice_get (At (InLocal 1) ∷ fields_of 0 fn.captured []) i ≡ Some (Known j us) → ⊥
        not_known zero j us z = cc
        not_known (suc i) j us z = fields_made 0 fn.captured i j us z

    -- the stub of one that has a worker
    stub_follows : {w1 wa : ℕ} {callers : List Frame} {l u : ℕ} → fn.captured ≤ 7 → Stands m h w1 (VClos g e') → Stands m h wa v → length callers + D + 1 ≤ cap.frames → Out P M cap Q m h r s (entering callers) l u →
        Within M cap Q (k + l) (cost c b + 21 + u) (here cap (entering callers) m p h (I32 w1 ∷ I32 wa ∷ []) [] (stub_code P g fn.captured))
    stub_follows {w1} {wa} {callers} {l} {u} few s1 sa deep out =
        let c1 = closure s1 in
        let locals : List ConstValue = I32 w1 ∷ I32 wa ∷ [] in
        let F = entering callers in
        subst (λ (i : ℕ). Within M cap Q (k + l) (cost c b + 21 + u) (here cap F m p h locals [] (captured_words i (LocalGet 1 ∷ ReturnCall (worker_index P g) ∷ End ∷ [])))) sz
        (looser M cap Q (loaded M cap Q {f = F} {l = k + l} {u = cost c b + 7 + u} (omega arith) room.inside refl c1.within c1.fields (λ ws all.
        looser M cap Q (r_get M cap Q {f = F} {x = 1} {v = I32 wa} (omega arith) refl (call_follows {ws = wa ∷ ws} {F = F} {ls = locals} {rest = End ∷ []} Final [] few (stand_more sa all) (omega arith) deep out)) (omega arith) (omega arith)))
        (omega arith) (omega (arith, sz)))

    -- a closure's call comes to an entry: to the function's body, or to a stub that calls the worker
    entered : {F : Around} {w1 wa : ℕ} {ls vals : List ConstValue} {rest : List Instr} {l u : ℕ} (at : Position) (wide : Bool) → is_wide fn ≡ wide → Stands m h w1 (VClos g e') → Stands m h wa v → length F.callers ≤ cap.frames →
        length (waiting at F ls vals rest) + D + 1 ≤ cap.frames → Out P M cap Q m h r s (entering (waiting at F ls vals rest)) l u → Within M cap Q (k + l) (cost c b + 23 + u) (here cap F m p h ls (I32 (suc g) ∷ I32 wa ∷ I32 w1 ∷ vals) (closure_call at ∷ rest))
    entered at true wide s1 sa low deep out =
        looser M cap Q (call_closure M cap Q at (top 2 fn.body - 2) {y = suc (suc g)} low refl (table_entry P main gs es pages (suc g) (omega (arith, slice_get_within P.functions g fn is_at))) (wide_at P main gs es pages g fn is_at wide) (wide_follows s1 sa deep out))
        (omega arith) (omega arith)
    entered at false narrow s1 sa low deep out =
        looser M cap Q (call_closure M cap Q at 0 {y = suc (suc g)} low refl (table_entry P main gs es pages (suc g) (omega (arith, slice_get_within P.functions g fn is_at))) (stub_at P main gs es pages g fn is_at narrow) (stub_follows (narrow_few fn narrow) s1 sa deep out))
        (omega arith) (omega arith)

    -- a saturated call of a known function
    known_follows : {F : Around} {ls vals : List ConstValue} {rest : List Instr} {l u d : ℕ} {tail : Bool} (at : Position) (ps : List Place) (a : Atom) (us : List Word) → fn.captured ≤ 7 → Words m h ls d us e' → There m h ls d ps a v → length F.callers + with_call tail D + 1 ≤ cap.frames →
        Stood P at tail d (length ls) F.keeps F.labels → d ≤ length ls → Go P M cap Q m h ls d r s F vals rest l u → (tail ≡ true → Out P M cap Q m h r s F l u) → Within M cap Q (k + l) (cost c b + 30 + u) (here cap F m p h ls vals (application P ps at a a (Some (g, us)) rest))
    known_follows {F = F} {ls} {vals} {rest} {l} {u} {d} {tail} at ps a us few held arg deep stood has go out =
        let many : length us ≡ fn.captured = words_length held ∙ sz in
        looser M cap Q (pushed M fixed cap Q {l = k + l} {u = 2 + (cost c b + 14 + u)} (omega arith) room.inside held (λ ws all. put_atom M fixed cap Q {u = cost c b + 14 + u} (omega arith) room.inside arg (λ wa sa.
        turned at stood wa ws (stand_more sa all) many))) (omega arith) (omega (arith, many))
      where
        called : (at' : Position) → Stood P at' tail d (length ls) F.keeps F.labels → (wa : ℕ) (ws : List ℕ) → WordsStand m h (wa ∷ ws) (VCons v e') → Within M cap Q (k + l) (cost c b + 14 + u) (here cap F m p h ls (words (wa ∷ ws) ++ vals) (call_of at' (worker_index P g) ∷ rest))
        called at' stood' wa ws all = looser M cap Q (call_follows {ws = wa ∷ ws} at' vals few all (omega arith) (has_room D F ls vals rest stood' deep) (goes_back P M cap Q m s F stood' go out)) (omega arith) (omega arith)

        either : (same : Bool) (h0 depth : ℕ) → jumps g h0 depth ≡ same → Stood P (InTail h0 depth) tail d (length ls) F.keeps F.labels → (wa : ℕ) (ws : List ℕ) → WordsStand m h (wa ∷ ws) (VCons v e') → length us ≡ fn.captured →
            Within M cap Q (k + l) (cost c b + 14 + u) (here cap F m p h ls (words (wa ∷ ws) ++ vals) (if same then into_params (length us) (Br depth ∷ rest) else (ReturnCall (worker_index P g) ∷ rest)))
        either false h0 depth e stood' wa ws all many = called (InTail h0 depth) stood' wa ws all
        either true h0 depth e stood' wa ws all many =
            subst (λ (x : ℕ). Within M cap Q (k + l) (cost c b + 14 + u) (here cap F m p h ls (words (wa ∷ ws) ++ vals) (into_params x (Br depth ∷ rest)))) (sym many)
            (jump_follows vals rest few all (has_room D F ls vals rest stood' deep) (subst (λ (x : ℕ). Stood P (InTail x depth) tail d (length ls) F.keeps F.labels) (sym (eqb-true g h0 (and_parts (nat_eq g h0) (nat_le depth most_blocks) e).0)) stood') has out)

        turned : (at' : Position) → Stood P at' tail d (length ls) F.keeps F.labels → (wa : ℕ) (ws : List ℕ) → WordsStand m h (wa ∷ ws) (VCons v e') → length us ≡ fn.captured →
            Within M cap Q (k + l) (cost c b + 14 + u) (here cap F m p h ls (words (wa ∷ ws) ++ vals) (call_worker P at' g (length us) rest))
        turned Inside stood' wa ws all many = called Inside stood' wa ws all
        turned Final stood' wa ws all many = called Final stood' wa ws all
        turned (InTail h0 depth) stood' wa ws all many = either (jumps g h0 depth) h0 depth refl stood' wa ws all many

  sim_app : {tail : Bool} {D : ℕ} {e e' : Vals} {f a : Atom} {g : ℕ} {fn : Fn} {v r : Val} {c k b s : ℕ} → Is e f (VClos g e') → Is e a v → slice_get P.functions g ≡ Some fn → size e' ≡ fn.captured → SimCode true D (VCons v e') fn.body r c k b s →
      SimOp tail (with_call tail D) e (AppOp f a) r (suc c) k b s
  sim_app {tail} {D} {e} {e'} {f} {a} {g} {fn} {v} {r} {c} {k} {b} {s} isf isa is_at sz body = record {
    sim = λ at m p h ls d ps n is room nil env un has needed. record {
      run = λ F vals rest l u bound stood deep fits go out. looser M cap Q (by_kind at m p h ls d ps room nil env un has needed F vals rest l u stood deep go out (known_function ps f) refl) (omega arith) (omega arith);
    };
  }
    where
      by_kind : (at : Position) (m : Mem) (p h : ℕ) (ls : List ConstValue) (d : ℕ) (ps : List Place) → Room M cap m p h → word m 0 ≡ 0 → Env m h ls d ps e → OpUnread ps (AppOp f a) → d ≤ length ls → h + 4 * s ≤ cap.bytes → (F : Around) (vals : List ConstValue) (rest : List Instr) (l u : ℕ) →
          Stood P at tail d (length ls) F.keeps F.labels → length F.callers + with_call tail D + 1 ≤ cap.frames → Go P M cap Q m h ls d r s F vals rest l u → (tail ≡ true → Out P M cap Q m h r s F l u) → (o : Option (ℕ × List Word)) → known_function ps f ≡ o →
          Within M cap Q (k + l) (cost c b + 30 + u) (here cap F m p h ls vals (application P ps at f a o rest))
      by_kind at m p h ls d ps room nil env un has needed F vals rest l u stood deep go out None none =
          looser M cap Q (put_atom M fixed cap Q (omega arith) room.inside (there_unknown m h ls d env isf none) (λ w1 s1. put_atom M fixed cap Q (omega arith) room.inside (there m h ls d env isa un) (λ wa sa.
          put_atom M fixed cap Q (omega arith) room.inside (there_unknown m h ls d env isf none) (λ w2 s2.
          let c2 = closure s2 in
          r_load M cap Q (omega arith) (omega (arith, room.inside, c2.within))
          (subst (λ (x : ℕ). Within M cap Q (k + l) (cost c b + 23 + u) (here cap F m p h ls (I32 x ∷ I32 wa ∷ I32 w1 ∷ vals) (closure_call at ∷ rest))) (sym (at_zero m w2 ∙ c2.head))
          (entered g is_at sz body room nil needed at (is_wide fn) refl s1 sa (omega arith) (has_room D F ls vals rest stood deep) (goes_back P M cap Q m s F stood go out)))))))
          (omega arith) (omega arith)
      by_kind at m p h ls d ps room nil env un has needed F vals rest l u stood deep go out (Some j) known_f =
          let call = calls P m h ls d env isf known_f in
          let function : g ≡ j.0 = same_function P m h ls d call.value in
          let captured : e' ≡ call.cs = same_captured P m h ls d call.value in
          let held : Words m h ls d j.1 e' = subst (Words m h ls d j.1) (sym captured) call.words in
          let few : fn.captured ≤ 7 = omega (arith, words_length held, sz, call.few) in
          let at' : slice_get P.functions j.0 ≡ Some fn = ap (slice_get P.functions) (sym function) ∙ is_at in
          (known_follows j.0 at' sz body room nil needed at ps a j.1 few held (there m h ls d env isa un) deep stood has go out)

  sim_box_app : {tail : Bool} {D : ℕ} {e : Vals} {f a : Atom} {v : Val} → Is e f VBox → Is e a v → SimOp tail D e (AppOp f a) VBox 1 0 0 0
  sim_box_app {tail} {D} {e} {f} {a} isf isa = record {
    sim = λ at m p h ls d ps n is room nil env un has needed. record {
      run = λ F vals rest l u bound stood deep fits go out. looser M cap Q (by_kind at m p h ls d ps room nil env un F vals rest l u stood (omega arith) go out (known_function ps f) refl) (omega arith) (omega arith);
    };
  }
    where
      by_kind : (at : Position) (m : Mem) (p h : ℕ) (ls : List ConstValue) (d : ℕ) (ps : List Place) → Room M cap m p h → word m 0 ≡ 0 → Env m h ls d ps e → OpUnread ps (AppOp f a) → (F : Around) (vals : List ConstValue) (rest : List Instr) (l u : ℕ) → Stood P at tail d (length ls) F.keeps F.labels →
          length F.callers + 1 ≤ cap.frames → Go P M cap Q m h ls d VBox 0 F vals rest l u → (tail ≡ true → Out P M cap Q m h VBox 0 F l u) → (o : Option (ℕ × List Word)) → known_function ps f ≡ o → Within M cap Q l (10 + u) (here cap F m p h ls vals (application P ps at f a o rest))
      by_kind at m p h ls d ps room nil env un F vals rest l u stood deep go out None none =
          let back : Out P M cap Q m h VBox 0 (entering (waiting at F ls vals rest)) l u = goes_back P M cap Q m 0 F stood go out in
          looser M cap Q (put_atom M fixed cap Q (omega arith) room.inside (there_unknown m h ls d env isf none) (λ w1 s1. put_atom M fixed cap Q (omega arith) room.inside (there m h ls d env isa un) (λ wa sa.
          put_atom M fixed cap Q (omega arith) room.inside (there_unknown m h ls d env isf none) (λ w2 s2.
          r_load M cap Q (omega arith) (omega (arith, room.inside, room.above, box_word s2))
          (subst (λ (x : ℕ). Within M cap Q (suc (suc (suc l))) (suc (suc (suc u))) (here cap F m p h ls (I32 x ∷ I32 wa ∷ I32 w1 ∷ vals) (closure_call at ∷ rest))) (sym (at_zero m w2 ∙ ap (word m) (box_word s2) ∙ nil))
          (call_closure M cap Q at 0 {x = 0} {y = 1} (omega arith) refl (table_entry P main gs es pages 0 (omega arith)) refl (r_const M cap Q (omega (arith, one_waits at F ls vals rest)) 0
          (r_return M cap Q (waiting at F ls vals rest) (omega (arith, one_waits at F ls vals rest)) (back m p h 0 (omega arith) (omega arith) room (λ x y. refl) (s_box refl))))))))))
          (omega arith) (omega arith)
      by_kind at m p h ls d ps room nil env un F vals rest l u stood deep go out (Some j) known_f = absurd (no_box P m h ls d (calls P m h ls d env isf known_f).value)

  -- a branch's field that comes into the local in which the block's address is, or that stays where it is
  branch_follows : {D : ℕ} {tail : Bool} {e : Vals} {vs : Vals} {t : Block} {r : Val} {c k b s : ℕ} (moved : Bool) → moves (size vs) t ≡ moved → SimCode tail D (vs +v e) t r c k b s → (at : Position) (m : Mem) (p h : ℕ) (ls : List ConstValue) (d w : ℕ) (ps : List Place) → Room M cap m p h → word m 0 ≡ 0 →
      Env m h ls d ps e → Unread (fields_of d (size vs) ps) t → top (suc d) t ≤ length ls → h + 4 * s ≤ cap.bytes → slice_get ls d ≡ Some (I32 w) → d < length ls → w + 4 * suc (size vs) ≤ h → Fields m h w vs →
      Yields P M cap Q at m p h ls d r tail D k s (3 + (cost c b + 2)) (λ rest. move_field moved d (code P (branch_places moved d (size vs) ps) (suc d) at t rest))
  branch_follows {vs = vs} false e body at m p h ls d w ps room nil env un has needed is lt within fs =
      let y = fewer_kept P M cap Q (body.sim at m p h ls (suc d) (fields_of d (size vs) ps) room nil (fields_env d w (omega arith) is within fs (env_on (omega arith) (λ x y. refl) (omega arith) (keeps_same d ls) env)) un has needed) in
      record { run = λ f vals rest l u bound stood deep fits go out. y.run f vals rest l u bound stood deep (omega arith) go out }
  branch_follows {vs = VNil} true e body at m p h ls d w ps room nil env un has needed is lt within fs = cc
  branch_follows {vs = VCons v (VCons v2 vs)} true e body at m p h ls d w ps room nil env un has needed is lt within fs = cc
  branch_follows {vs = VCons v VNil} {t = t} {c = c} {b = b} true e body at m p h ls d w ps room nil env un has needed is lt within (field st low fs) =
      let w1 = word m (w + 4) in
      let ls1 = slice_set ls d (I32 w1) in
      let kept : Keeps d ls ls1 = keeps_set ls d (I32 w1) in
      let y = fewer_kept P M cap Q (body.sim at m p h ls1 (suc d) (At (InLocal d) ∷ ps) room nil (env_at w1 (in_local (omega arith) (set_this ls d (I32 w1) lt)) st (env_on (omega arith) (λ x y. refl) (omega arith) kept env)) (unread_moved (InField d 4) (InLocal d) ps t un) (omega (arith, kept.size)) needed) in
      record {
        run = λ f vals rest l u bound stood deep fits go out.
            looser M cap Q (r_get M cap Q (omega arith) is (r_load M cap Q (omega arith) (omega (arith, room.inside)) (r_set M cap Q (omega arith) (slice_get-get_or ls d (I32 0) lt)
            (y.run f vals rest l u (cost c b + 2 + u) (stood_up P d (length ls1) (omega arith) (omega (arith, kept.size)) stood) deep (omega arith)
            (λ m' p' h' ls' w' x y room' same keeps st'. go m' p' h' ls' w' x y room' same (keeps_trans (omega arith) kept keeps) st')
            out))))
            (omega arith) (omega arith);
      }

  -- a value is matched
  chosen : {D : ℕ} {tail : Bool} {e : Vals} {bs : BranchBlocks} {i : ℕ} {vs : Vals} {t : Block} {r : Val} {c k b s : ℕ} → branch_count bs ≤ N → BranchAt bs i (size vs) t → SimCode tail D (vs +v e) t r c k b s →
      (at : Position) (m : Mem) (p h : ℕ) (ls : List ConstValue) (d w : ℕ) (ps : List Place) → Room M cap m p h → word m 0 ≡ 0 → Env m h ls d ps e → Unread (fields_of d (size vs) ps) t → top (suc d) t ≤ length ls → d < length ls → h + 4 * s ≤ cap.bytes → slice_get ls d ≡ Some (I32 w) → Stands m h w (VCon i vs) →
      Yields P M cap Q at m p h ls d r tail D k s (11 * N + (cost c b + 5)) (tests d (alternatives P ps d 0 bs) at)
  chosen {bs = bs} {i = i} {t = t} few branch_at body at m p h ls d w ps room nil env un has lt needed is (s_empty small e) =
      let a = branch_is P ps d i 0 t in
      let y = λ (at' : Position). fewer_kept P M cap Q (body.sim at' m p h ls (suc d) ps room nil (env_on (omega arith) (λ x y. refl) (omega arith) (keeps_same d ls) env) un has needed) in
      more_steps P M cap Q m p h ls d _ _ _ _ _ _ (omega (arith, some, few, all_sizes P ps d 0 bs)) (bare_found P M cap Q m p h ls d _ _ _ _ _ _ w a is (alternatives P ps d 0 bs) (ordered_all P ps d 0 bs) (shaped_alternatives P ps d 0 bs) (among_all P ps d 0 i (omega arith) branch_at) y refl (omega (arith, e)) at)
  chosen {bs = bs} {i = i} {vs = vs} {t = t} few branch_at body at m p h ls d w ps room nil env un has lt needed is (s_con q small e pos some' within head fs) =
      let a = branch_is P ps d i (size vs) t in
      let y = λ (at' : Position). branch_follows (moves (size vs) t) refl body at' m p h ls d w ps room nil env un has needed is lt within fs in
      more_steps P M cap Q m p h ls d _ _ _ _ _ _ (omega (arith, some, few, all_sizes P ps d 0 bs))
      (fielded_found P M cap Q m p h ls d _ _ _ _ _ _ w a is (alternatives P ps d 0 bs) (ordered_all P ps d 0 bs) (shaped_alternatives P ps d 0 bs) (among_all P ps d 0 i (omega arith) branch_at) y (2 * q) (omega (arith, e)) some' (omega (arith, room.inside)) (omega (arith, head)) (omega (arith, small)) at)

  sim_case : {D : ℕ} {tail : Bool} {e : Vals} {a : Atom} {bs : BranchBlocks} {i : ℕ} {vs : Vals} {t : Block} {r : Val} {c k b s : ℕ} → Is e a (VCon i vs) → branch_count bs ≤ N → BranchAt bs i (size vs) t → SimCode tail D (vs +v e) t r c k b s → SimOp tail D e (CaseOp a bs) r (suc c) (suc k) b s
  sim_case {a = a} {bs = bs} {c = c} {k} {b} isa few branch_at body = record {
    sim = λ at m p h ls d ps n is room nil env un has needed. record {
      run = λ f vals rest l u bound stood deep fits go out.
          looser M cap Q (put_atom M fixed cap Q (omega arith) room.inside (there m h ls d env isa (λ i g ws z. (neither (names i a) (branches_read i bs) (un i g ws z)).0)) (λ w s. r_set M cap Q (omega arith) (slice_get-get_or ls d (I32 0) (omega arith))
          (let ls1 = slice_set ls d (I32 w) in
          let kept : Keeps d ls ls1 = keeps_set ls d (I32 w) in
          (chosen few branch_at body at m p h ls1 d w ps room nil (env_on (omega arith) (λ x y. refl) (omega arith) kept env) (unread_branch ps a d un branch_at) (omega (arith, branch_top (suc d) branch_at, kept.size)) (omega (arith, kept.size)) needed (set_this ls d (I32 w) (omega arith)) (stands_on m m h
          (omega arith) (λ x y. refl) s)).run
          f vals rest l u (11 * N + (cost c b + 5) + u) (stood_up P d (length ls1) (omega arith) (omega (arith, kept.size)) stood) deep (omega arith)
          (λ m' p' h' ls' w' x y room' same keeps st. go m' p' h' ls' w' x y room' same (keeps_trans (omega arith) kept keeps) st)
          out)))
          (omega arith) (omega arith);
    };
  }

  sim_ret_atom : {D : ℕ} {tail : Bool} {e : Vals} {a : Atom} {v : Val} → Is e a v → SimCode tail D e (TailAtom a) v 0 0 0 0
  sim_ret_atom isa = record {
    sim = λ at m p h ls d ps room nil env un has needed. record {
      run = λ f vals rest l u bound stood deep fits go out.
          looser M cap Q (put_atom M fixed cap Q (omega arith) room.inside (there m h ls d env isa un) (λ w s. go m p h ls w (omega arith) (omega arith) room (λ x y. refl) (keeps_same d ls) s)) (omega arith) (omega arith);
    };
  }

  sim_let_atom : {D : ℕ} {tail : Bool} {e : Vals} {a : Atom} {t : Block} {v r : Val} {c k b s : ℕ} → Is e a v → SimCode tail D (VCons v e) t r c k b s → SimCode tail D e (BindAtom a t) r (suc c) k b s
  sim_let_atom {a = a} {t = t} {c = c} {b = b} isa body = record {
    sim = λ at m p h ls d ps room nil env un has needed. record {
      run = λ f vals rest l u bound stood deep fits go out.
          looser M cap Q (put_atom M fixed cap Q (omega arith) room.inside (there m h ls d env isa (λ i g ws z. (neither (names i a) (block_reads (suc i) t) (un i g ws z)).0)) (λ w st. r_set M cap Q (omega arith) (slice_get-get_or ls d (I32 0) (omega arith))
          (let ls1 = slice_set ls d (I32 w) in
          let kept : Keeps d ls ls1 = keeps_set ls d (I32 w) in
          (body.sim at m p h ls1 (suc d) (At (InLocal d) ∷ ps) room nil (env_at w (in_local (omega arith) (set_this ls d (I32 w) (omega arith))) st (env_on (omega arith) (λ x y. refl) (omega arith) kept env)) (unread_let_atom ps a t (InLocal d) un) (omega (arith, kept.size)) needed).run
          f vals rest l u (cost c b + 2 + u) (stood_up P (suc d) (length ls1) (omega arith) (omega (arith, kept.size)) stood) deep (omega arith)
          (λ m' p' h' ls' w' x y room' same keeps st'. go m' p' h' ls' w' x y room' same (keeps_trans (omega arith) kept keeps) st')
          out)))
          (omega arith) (omega arith);
    };
  }

  sim_ret : {D : ℕ} {tail : Bool} {e : Vals} {x : Op} {v : Val} {c k b s : ℕ} → SimOp tail D e x v c k b s → SimCode tail D e (Tail x) v c k b s
  sim_ret {c = c} {b = b} y = record { sim = λ at m p h ls d ps room nil env un has needed. y.sim at m p h ls d ps (cost c b + 2) (omega arith) room nil env un has needed }

  -- an operation costs something
  cost_some : (c b : ℕ) → 0 < c + b → 64 ≤ cost c b
  cost_some c b h = at (c + b) refl h
    where
      at : (x : ℕ) → c + b ≡ x → 0 < x → 64 ≤ cost c b
      at zero e h = absurd (omega arith)
      at (suc x) e h = let y : cost c b ≡ 64 * (W + N) * suc x = ap (λ (z : ℕ). 64 * (W + N) * z) e in omega (arith, y)

  does_some : {D : ℕ} {tail : Bool} {e : Vals} {x : Op} {v : Val} {c k b s : ℕ} → Does P W N tail D e x v c k b s → 0 < c + b
  does_some (do_const at g) = omega arith
  does_some (do_app isf isa at sz g) = omega arith
  does_some (do_box_app isf isa) = omega arith
  does_some (do_con lt pos few narrow all) = omega arith
  does_some (do_clos lt few narrow all) = omega arith
  does_some (do_case isa few at g) = omega arith

  -- the word of the value comes into local d
  abbrev Comes : ℕ → Vals → Op → Val → ℕ → ℕ → ℕ → ℕ → Type 0
  Comes D e x v c k b s =
      (m : Mem) (p h : ℕ) (ls : List ConstValue) (d : ℕ) (ps : List Place) → Room M cap m p h → word m 0 ≡ 0 → Env m h ls d ps e → OpUnread ps x → top_op d x ≤ length ls → d < length ls → h + 4 * s ≤ cap.bytes → (f : Around) (vals : List ConstValue) (rest : List Instr) (l u : ℕ) →
      length f.callers + D + 1 ≤ cap.frames → ((m' : Mem) (p' h' : ℕ) (ls' : List ConstValue) (w : ℕ) → h ≤ h' → h' ≤ h + 4 * s → Room M cap m' p' h' → Same h m m' → Keeps d ls ls' → slice_get ls' d ≡ Some (I32 w) → Stands m' h' w v → Within M cap Q l u (here cap f m' p' h' ls' vals rest)) →
      Within M cap Q (k + l) (cost c b - 19 + u) (here cap f m p h ls vals (into_local ps d x (op P ps d Inside x) rest))

  -- from the operands
  from_operands : {D : ℕ} {e : Vals} {x : Op} {v : Val} {c k b s : ℕ} → 64 ≤ cost c b → SimOp false D e x v c k b s → (m : Mem) (p h : ℕ) (ls : List ConstValue) (d : ℕ) (ps : List Place) → Room M cap m p h → word m 0 ≡ 0 → Env m h ls d ps e → OpUnread ps x → top_op d x ≤ length ls → d < length ls →
      h + 4 * s ≤ cap.bytes → (f : Around) (vals : List ConstValue) (rest : List Instr) (l u : ℕ) → length f.callers + D + 1 ≤ cap.frames →
      ((m' : Mem) (p' h' : ℕ) (ls' : List ConstValue) (w : ℕ) → h ≤ h' → h' ≤ h + 4 * s → Room M cap m' p' h' → Same h m m' → Keeps d ls ls' → slice_get ls' d ≡ Some (I32 w) → Stands m' h' w v → Within M cap Q l u (here cap f m' p' h' ls' vals rest)) →
      Within M cap Q (k + l) (cost c b - 19 + u) (here cap f m p h ls vals (op P ps d Inside x (LocalSet d ∷ rest)))
  from_operands {c = c} {b = b} dear y m p h ls d ps room nil env un has free needed f vals rest l u deep go =
      looser M cap Q ((y.sim Inside m p h ls d ps (cost c b - 20) (omega arith) room nil env un has needed).run f vals (LocalSet d ∷ rest) (suc l) (suc u) (cost c b - 20 + suc u) stood_inside deep (omega arith)
      (λ m' p' h' ls' w y z room' same keeps st. r_set M cap Q (omega arith) (slice_get-get_or ls' d (I32 0) (omega (arith, keeps.size)))
      (go m' p' h' (slice_set ls' d (I32 w)) w y z room' same (keeps_trans (omega arith) keeps (keeps_set ls' d (I32 w))) (set_this ls' d (I32 w) (omega (arith, keeps.size))) st))
      (λ z. cc)) (omega arith) (omega (arith, dear))

  comes : {D : ℕ} {e : Vals} {x : Op} {v : Val} {c k b s : ℕ} → Does P W N false D e x v c k b s → SimOp false D e x v c k b s → Comes D e x v c k b s
  comes (do_con {as' = as'} lt pos few narrow all) y = λ m p h ls d ps room nil env un has free needed f vals rest l u deep go.
      looser M cap Q (new_made M fixed cap Q (omega arith) needed all un few (omega arith) free room env (λ m' p' ls' room' same keeps at head fs.
      go m' p' (h + 4 * suc (length as')) ls' h (omega arith) (omega arith) room' same keeps at (s_con room.q lt room.aligned (omega (arith, room.above)) (omega (arith, all_size all)) (omega (arith, all_size all)) (omega (arith, head, all_size all)) fs)))
      (omega arith) (omega arith)
  comes (do_clos {as' = as'} lt few narrow all) y = λ m p h ls d ps room nil env un has free needed f vals rest l u deep go.
      looser M cap Q (new_made M fixed cap Q (omega arith) needed all un few (omega arith) free room env (λ m' p' ls' room' same keeps at head fs.
      go m' p' (h + 4 * suc (length as')) ls' h (omega arith) (omega arith) room' same keeps at (s_clos room.q lt room.aligned (omega (arith, room.above)) (omega (arith, all_size all)) head fs)))
      (omega arith) (omega arith)
  comes {c = c} {b = b} (do_const at g) y = from_operands (cost_some c b (omega arith)) y
  comes {c = c} {b = b} (do_app isf isa at sz g) y = from_operands (cost_some c b (omega arith)) y
  comes {c = c} {b = b} (do_box_app isf isa) y = from_operands (cost_some c b (omega arith)) y
  comes {c = c} {b = b} (do_case isa few at g) y = from_operands (cost_some c b (omega arith)) y

  module _ {tail : Bool} {D : ℕ} {e : Vals} {x : Op} {t : Block} {v r : Val} {c c' k k' b b' s s' : ℕ} (does : Does P W N false D e x v c k b s) (first : SimOp false D e x v c k b s) (body : SimCode tail D (VCons v e) t r c' k' b' s') where
    -- a binding that has code
    let_made : (at : Position) (m : Mem) (p h : ℕ) (ls : List ConstValue) (d : ℕ) (ps : List Place) → Room M cap m p h → word m 0 ≡ 0 → Env m h ls d ps e → Unread ps (Bind x t) → top d (Bind x t) ≤ length ls → h + 4 * (s + s') ≤ cap.bytes →
        Yields P M cap Q at m p h ls d r tail D (k + k') (s + s') (cost (c + c') (b + b') + 2) (λ rest. into_local ps d x (op P ps d Inside x) (code P (At (InLocal d) ∷ ps) (suc d) at t rest))
    let_made at m p h ls d ps room nil env un has needed = record {
      run = λ f vals rest l u bound stood deep fits go out.
          looser M cap Q (comes does first m p h ls d ps room nil env (unread_op ps x t un) (omega arith) (omega arith) (omega arith) f vals _ (k' + l) (cost c' b' + 2 + u) (omega arith)
          (λ m' p' h' ls1 w y z room' same kept at_d st.
          (body.sim at m' p' h' ls1 (suc d) (At (InLocal d) ∷ ps) room' (low_word m m' room same nil) (env_at w (in_local (omega arith) at_d) st (env_on (omega arith) same (omega arith) kept env)) (unread_at ps x t (InLocal d) un)
          (omega (arith, kept.size)) (omega arith)).run
          f vals rest l u (cost c' b' + 2 + u) (stood_up P (suc d) (length ls1) (omega arith) (omega (arith, kept.size)) stood) deep (omega arith)
          (λ m2 p2 h2 ls2 w2 y2 z2 room2 same2 keeps2 st2. go m2 p2 h2 ls2 w2 (omega arith) (omega arith) room2 (λ i j. same2 i (omega arith) ∙ same i j) (keeps_trans (omega arith) kept keeps2) st2)
          (λ q m2 p2 h2 w2 y2 z2 room2 same2 st2. out q m2 p2 h2 w2 (omega arith) (omega arith) room2 (λ i j. same2 i (omega arith) ∙ same i j) st2)))
          (omega arith) (omega (arith, cost_some c b (does_some does)));
    }

    -- one that is known, and needs none: no step, no block and no match
    let_known : (at : Position) (m : Mem) (p h : ℕ) (ls : List ConstValue) (d : ℕ) (ps : List Place) (q : Place) → block_reads 0 t ≡ Never → known P ps x ≡ Some q → Room M cap m p h → word m 0 ≡ 0 → Env m h ls d ps e → Unread ps (Bind x t) → top d (Bind x t) ≤ length ls → h + 4 * (s + s') ≤ cap.bytes →
        Yields P M cap Q at m p h ls d r tail D (k + k') (s + s') (cost (c + c') (b + b') + 2) (λ rest. code P (q ∷ ps) d at t rest)
    let_known at m p h ls d ps q unread is room nil env un has needed =
        let x' = known_is P m h ls d env does is in
        let behind : Env m h ls d (q ∷ ps) (VCons v e) = subst (λ y. Env m h ls d (y ∷ ps) (VCons v e)) x'.place (subst (λ (y : Val). Env m h ls d (Known x'.g x'.ws ∷ ps) (VCons y e)) (sym x'.value) (env_known x'.few x'.words env)) in
        let un' : Unread (q ∷ ps) t = subst (λ (y : Place). Unread (y ∷ ps) t) x'.place (unread_known ps x t x'.g x'.ws un unread) in
        let y = body.sim at m p h ls d (q ∷ ps) room nil behind un' (omega (arith, top_less d t)) (omega arith) in
        record {
          run = λ f vals rest l u bound stood deep fits go out.
              looser M cap Q (y.run f vals rest l u (cost c' b' + 2 + u) stood deep (omega arith)
              (λ m' p' h' ls' w i j room' same keeps st. go m' p' h' ls' w i (omega arith) room' same keeps st)
              (λ z m' p' h' w i j room' same st. out z m' p' h' w i (omega arith) room' same st))
              (omega (arith, x'.no_match)) (omega arith);
        }

    let_either : (at : Position) (m : Mem) (p h : ℕ) (ls : List ConstValue) (d : ℕ) (ps : List Place) → Room M cap m p h → word m 0 ≡ 0 → Env m h ls d ps e → Unread ps (Bind x t) → top d (Bind x t) ≤ length ls → h + 4 * (s + s') ≤ cap.bytes → (o : Option Place) → unmade P ps x t ≡ o →
        Yields P M cap Q at m p h ls d r tail D (k + k') (s + s') (cost (c + c') (b + b') + 2) (λ rest. choose o (λ q. code P (q ∷ ps) d at t rest) (into_local ps d x (op P ps d Inside x) (code P (At (InLocal d) ∷ ps) (suc d) at t rest)))
    let_either at m p h ls d ps room nil env un has needed None e = let_made at m p h ls d ps room nil env un has needed
    let_either at m p h ls d ps room nil env un has needed (Some q) e = let z = unmade_some (is_read (block_reads 0 t)) (known P ps x) e in let_known at m p h ls d ps q (not_read (block_reads 0 t) z.0) z.1 room nil env un has needed

    sim_let : SimCode tail D e (Bind x t) r (c + c') (k + k') (b + b') (s + s')
    sim_let = record { sim = λ at m p h ls d ps room nil env un has needed. let_either at m p h ls d ps room nil env un has needed (unmade P ps x t) refl }

  mutual
    follows_op : {D : ℕ} {tail : Bool} {e : Vals} {x : Op} {v : Val} {c k b s : ℕ} → Does P W N tail D e x v c k b s → SimOp tail D e x v c k b s
    follows_op (do_const at g) = sim_const at (follows g)
    follows_op (do_app isf isa at sz g) = sim_app isf isa at sz (follows g)
    follows_op (do_box_app isf isa) = sim_box_app isf isa
    follows_op (do_con lt pos few narrow all) = sim_con lt pos few narrow all
    follows_op (do_clos lt few narrow all) = sim_clos lt few narrow all
    follows_op (do_case isa few at g) = sim_case isa few at (follows g)

    pub follows : {D : ℕ} {tail : Bool} {e : Vals} {t : Block} {v : Val} {c k b s : ℕ} → Gets P W N tail D e t v c k b s → SimCode tail D e t v c k b s
    follows (gets_atom isa) = sim_ret_atom isa
    follows (gets_let_atom isa g) = sim_let_atom isa (follows g)
    follows (gets_ret d) = sim_ret (follows_op d)
    follows (gets_let d g) = sim_let d (follows_op d) (follows g)

  two_made : (x y : Word) (i g : ℕ) (ws : List Word) → slice_get (At x ∷ At y ∷ []) i ≡ Some (Known g ws) → ⊥
  two_made x y zero g ws e = cc
  two_made x y (suc zero) g ws e = cc
  two_made x y (suc (suc i)) g ws e = cc

  -- main is applied to the words at a
  pub applies : {D a : ℕ} {args : Vals} {v : Val} {c k b s : ℕ} → slice_get cap.more 0 ≡ Some (I32 a) → Applies P W N D args v c k b s → (m : Mem) (p h : ℕ) (ls : List ConstValue) → Room M cap m p h → word m 0 ≡ 0 → ArgsAt m h a args → 2 ≤ length ls →
      top 0 P.main ≤ length ls → h + 4 * s ≤ cap.bytes → Yields P M cap Q Inside m p h ls 0 v false D k s (cost c b + 2) (applied P (size args))
  applies at (applies_alone g) m p h ls room nil args two has needed = (follows g).sim Inside m p h ls 0 [] room nil env_nil (λ i g ws z. cc) has needed
  applies {D} {a = address} at (applies_more {args = vs} {c = c} {c1 = c1} {k = k} {k1 = k1} {b = b} {b1 = b1} {s = s} {s1 = s1} first does) m p h ls room nil (args_more {v = v} stands within args) two has needed = record {
    run = λ f vals rest l u bound stood deep fits go out.
        let n = cost c b - 20 in
        looser M cap Q ((applies at first m p h ls room nil args two has (omega arith)).run f vals _ (suc (suc (suc (suc (k + l))))) (suc (suc (suc (suc (n + u))))) (cost c1 b1 + 2 + suc (suc (suc (suc (n + u))))) stood_inside deep (omega arith)
        (λ m' p' h' ls' w x y room' same keeps st. r_set M cap Q (omega arith) (slice_get-get_or ls' 0 (I32 0) (omega (arith, keeps.size)))
        (let ls1 = slice_set ls' 0 (I32 w) in
        let k1 : Keeps 0 ls ls1 = keeps_trans (omega arith) keeps (keeps_set ls' 0 (I32 w)) in
        let k0 : Keeps 0 ls' ls1 = keeps_set ls' 0 (I32 w) in
        let word_a = word m' (address + 4 * size vs) in
        let stands' = args_on m m' h' (omega arith) same (args_more {v = v} stands within args) in
        rule.r_global M cap.frames Q (Spent M cap.bytes) {x = 3} {v = I32 address} (omega arith) at
        (r_load M cap Q (omega arith) (omega (arith, within, room'.inside))
        (r_set M cap Q (omega arith) (slice_get-get_or ls1 1 (I32 0) (omega (arith, k1.size)))
        (let ls2 = slice_set ls1 1 (I32 word_a) in
        let k2 : Keeps 1 ls1 ls2 = keeps_set ls1 1 (I32 word_a) in
        let kept : Keeps 0 ls ls2 = keeps_trans (omega arith) k1 k2 in
        ((follows_op does).sim Inside m' p' h' ls2 2 (At (InLocal 1) ∷ At (InLocal 0) ∷ []) n (omega arith) room' (low_word m m' room same nil)
        (env_at word_a (in_local (omega arith) (set_this ls1 1 (I32 word_a) (omega (arith, k1.size)))) (top_arg stands') (env_at w (in_local (omega arith) (k2.at 0 (omega arith) ∙ set_this ls' 0 (I32 w) (omega (arith, keeps.size)))) st env_nil))
        (λ i g ws z. absurd (two_made (InLocal 1) (InLocal 0) i g ws z)) (omega (arith, kept.size)) (omega arith)).run f vals rest l u (n + u) stood_inside deep (omega arith)
        (λ m2 p2 h2 ls2' w2 x2 y2 room2 same2 keeps2 st2. go m2 p2 h2 ls2' w2 (omega arith) (omega arith) room2 (λ i j. same2 i (omega arith) ∙ same i j) (keeps_trans (omega arith) kept keeps2) st2)
        (λ z. cc))))))
        (λ z. cc))
        (omega arith) (omega (arith, cost_some c b (does_some does)));
  }
