-- A module with workers is valid.
use Rattle.std.proofs.Common.{◌≡◌, ℕ, zero, suc, ◌+◌, ◌-◌, ◌*◌, ◌^◌, ◌<◌, ◌≤◌, max, List, [], ◌∷◌, ◌++◌, length, map, replicate, Option, Some, Bool, true, false, refl, ap, sym, ◌∙◌, subst, append_assoc, arith}
use Rattle.std.specs.Prelude.{slice_get, if◌then◌else◌}
use Rattle.std.proofs.lemmas.Option.{same_Some}
use Rattle.wasm_core.specs.declared.types.ValType.TheVariants.{I32}
use Rattle.wasm_core.specs.declared.types.GlobalDef.{GlobalDef}
use Rattle.wasm_core.specs.declared.exports.Export.{Export}
use Rattle.wasm_core.specs.declared.instrs.BlockType.TheVariants.{Value}
use Rattle.wasm_core.specs.declared.instrs.Body.{Body}
use Rattle.wasm_core.specs.declared.instrs.Instr.{Instr}
use Rattle.wasm_core.specs.declared.instrs.Instr.TheVariants.{Unreachable, Loop, End, ReturnCall, LocalGet, LocalSet, GlobalGet, GlobalSet, MemoryGrow, I32 as Operation}
use Rattle.wasm_core.specs.declared.instrs.I32Op.TheVariants as op32
use Rattle.wasm_core.specs.Parts.{Parts}
use Rattle.wasm_core.specs.ModuleTyping.{Typed, OperandTypes, Operands, Of, match_none, match_same, done, unreachable, loop, TypedFunc, Functions, Tables, Memories, Globals, Exported, Elements, Codes, IsSound, AllSound, DistinctNames, EachIsThere}
use Rattle.wasm_core.proofs.Small.{no}
use Rattle.wasm_core.proofs.TypedRules.{t_plain, t_one_arm, t_body}
use Rattle.anf_convert.specs.declared.program.Atom.TheVariants.{Var as AVar}
use Rattle.closure_lift.specs.Lifted.{AppOp, Block, Program, Fn}
use Rattle.closure_lift.specs.LiftedForm.{LiftedBlockFits, Formed}
use Rattle.wasm_emit.specs.EmittedCode.{Load, ConstWord, IfOnly}
use Rattle.wasm_emit.specs.EmittedLocals.{top}
use Rattle.wasm_emit.specs.EmittedModule.{type_main, type_constant, type_function, body, room_function, box_function}
use Rattle.wasm_emit.specs.CallModule.{call_globals, call_exports}
use Rattle.known_calls.specs.KnownPlaces.{At, InLocal, fields_of}
use Rattle.known_calls.specs.KnownCode.{Inside, Final, InTail, is_wide, worker_index, code}
use Rattle.known_calls.specs.KnownModule.{words_type, widest_worker, params, captured_words, wide_body, stub_code, entry, worker_code, worker, worker_type, numbered, constant, main_function, module_with}
use Rattle.known_calls.specs.KnownCalls.{applied, call_function, module_of_call}
use Rattle.known_calls.specs.KnownLaws.{KnownValid, CallsValid}
use Rattle.known_calls.proofs.Shapes.{Shaped, shaped_code, shaped_op, shaped_captured, one, ◌then◌}
use Rattle.known_calls.proofs.SameLocals.{worker_top}
use Rattle.known_calls.proofs.Fitting.{fields_fit, params_fit}
use Rattle.known_calls.proofs.KnownIndices.{narrow_few, same_number, type_of_words, worker_low, widest_grows, words_types_length}
use Rattle.known_calls.proofs.Outside.{same_length, globals_sound, segment_sound, exports_there, names_distinct, call_globals_sound, call_exports_there, call_names_distinct}
use Rattle.known_calls.proofs.KnownTyped.{AllWords, all_i32, words_on, t_set, t_tail_worker, t_op, t_code}

two_more : (n : ℕ) → AllWords (2 + n) (I32 ∷ I32 ∷ replicate n I32)
two_more n zero h = refl
two_more n (suc zero) h = refl
two_more n (suc (suc x)) h = all_i32 n x (omega arith)

more_words : (i n : ℕ) → AllWords (i + n) (replicate i I32 ++ replicate n I32)
more_words zero n x h = all_i32 n x (omega arith)
more_words (suc i) n zero h = refl
more_words (suc i) n (suc x) h = more_words i n x (omega arith)

-- the loads of an entry
t_captured : (m : Parts) (rs : OperandTypes) {labels : List OperandTypes} {ts us : Operands} {rest : List Instr} (n : ℕ) → ((ws us : Operands) (rest : List Instr) (o : ℕ) → Typed m (I32 ∷ I32 ∷ []) rs labels (Of I32 ∷ ws) rest us → Typed m (I32 ∷ I32 ∷ []) rs labels ws (LocalGet 0 ∷ Load o ∷ rest) us) →
    Typed m (I32 ∷ I32 ∷ []) rs labels (words_on n ts) rest us → Typed m (I32 ∷ I32 ∷ []) rs labels ts (captured_words n rest) us
t_captured m rs zero load k = k
t_captured m rs {ts = ts} {us = us} {rest = rest} (suc n) load k = t_captured m rs {ts = ts} {us = us} {rest = LocalGet 0 ∷ Load (4 * suc n) ∷ rest} n load (load (words_on n ts) us rest (4 * suc n) k)

module _ (P : Program) (most : ℕ) (form : Formed P most) (main : Body) (gs : List GlobalDef) (es : List Export) (pages : ℕ) where
  abbrev M : Parts
  M = module_with P main gs es pages

  pub entry_typed : (g : ℕ) (fn : Fn) → slice_get P.functions g ≡ Some fn → TypedFunc M 2 (entry P g fn)
  entry_typed g fn at = either (is_wide fn) refl
    where
      either : (b : Bool) → is_wide fn ≡ b → TypedFunc M 2 (if b then wide_body P fn else body 0 (stub_code P g fn.captured))
      either true wide =
          let n = top 2 fn.body - 2 in
          let ps = At (InLocal 1) ∷ fields_of 0 fn.captured [] in
          record {
            type = type_function;
            found = refl;
            typed = record {
              body = code P ps 2 Final fn.body [];
              ends = (shaped_code P ps 2 Final fn.body).front (End ∷ []);
              left = Of I32 ∷ [];
              typed = t_code P most form main gs es pages (16384 + 4 * fn.captured) (omega arith) (2 + n) (I32 ∷ I32 ∷ replicate n I32) (I32 ∷ []) (two_more n) (suc fn.captured) 2 ps Final fn.body (omega arith) (form.functions g fn at) (
                omega arith,
                fields_fit P
                    (16384 + 4 * fn.captured) 2 0 fn.captured [] (omega arith) (omega arith) tt,
              ) refl done;
              matched = match_same match_none;
            };
          }
      either false narrow =
          let few = narrow_few fn narrow in
          record {
            type = type_function;
            found = refl;
            typed = record {
              body = captured_words fn.captured (LocalGet 1 ∷ ReturnCall (worker_index P g) ∷ []);
              ends = (shaped_captured fn.captured then (one (LocalGet 1) refl tt then one (ReturnCall (worker_index P g)) refl tt)).front (End ∷ []);
              left = Of I32 ∷ [];
              typed = t_captured M (I32 ∷ []) fn.captured (λ ws us rest o k. t_plain ws refl (t_plain ws refl k)) (t_plain (words_on fn.captured []) refl (t_tail_worker P most form main gs es pages 16384 (omega arith) 2 (I32 ∷ I32 ∷ []) (I32 ∷ []) (two_more 0) [] g fn at few refl done));
              matched = match_same match_none;
            };
          }

  pub worker_typed : (g : ℕ) (fn : Fn) → slice_get P.functions g ≡ Some fn → TypedFunc M (worker_type fn) (worker P g fn)
  worker_typed g fn at = either (is_wide fn) refl
    where
      either : (b : Bool) → is_wide fn ≡ b → TypedFunc M (if b then 0 else suc (suc (suc fn.captured))) (if b then body 0 (Unreachable ∷ End ∷ []) else body (top 2 fn.body - 2) (Loop (Value I32) ∷ worker_code P g fn))
      either true wide = record { type = type_main; found = refl; typed = t_body M [] [] (Unreachable ∷ []) (unreachable done) }
      either false narrow =
          let n = top 2 fn.body - 2 in
          let i = suc fn.captured in
          let ls = replicate i I32 ++ replicate n I32 in
          let inner = code P (params i) i (InTail g 0) fn.body [] in
          let front = (shaped_code P (params i) i (InTail g 0) fn.body).front in
          record {
            type = words_type fn.captured;
            found = type_of_words P main gs es pages g fn at narrow;
            typed = record {
              body = Loop (Value I32) ∷ (inner ++ End ∷ []);
              ends = ap (λ (z : List Instr). Loop (Value I32) ∷ z) (front (End ∷ End ∷ []) ∙ sym (append_assoc inner (End ∷ []) (End ∷ [])));
              left = Of I32 ∷ [];
              typed = loop {b = Value I32} {body = inner} {rest = []}
                  (t_code P most form main gs es pages 16384 (omega arith) (i + n) ls (I32 ∷ []) (more_words i n) i i (params i) (InTail g 0) fn.body (worker_top fn.captured fn.body) (form.functions g fn at) (params_fit P 16384 i i (omega arith))
                  (record { fn = fn; at = at; few = omega arith; found = refl; gives = refl }) done)
                  (match_same match_none) done;
              matched = match_same match_none;
            };
          }

  pub constant_typed : (t : Block) → LiftedBlockFits P.functions (length P.constants) most 0 t → TypedFunc M 1 (constant P t)
  constant_typed t fit = record {
    type = type_constant;
    found = refl;
    typed = record {
      body = code P [] 0 Final t [];
      ends = (shaped_code P [] 0 Final t).front (End ∷ []);
      left = Of I32 ∷ [];
      typed = t_code P most form main gs es pages 16384 (omega arith) (top 0 t) (replicate (top 0 t) I32) (I32 ∷ []) (all_i32 (top 0 t)) 0 0 [] Final t (omega arith) fit tt refl done;
      matched = match_same match_none;
    };
  }

  pub main_typed : TypedFunc M 0 (main_function P)
  main_typed = record {
    type = type_main;
    found = refl;
    typed = record {
      body = code P [] 0 Inside P.main (GlobalSet 0 ∷ []);
      ends = (shaped_code P [] 0 Inside P.main then one (GlobalSet 0) refl (λ z. omega arith)).front (End ∷ []);
      left = [];
      typed = t_code P most form main gs es pages 16384 (omega arith) (top 0 P.main) (replicate (top 0 P.main) I32) [] (all_i32 (top 0 P.main)) 0 0 [] Inside P.main (omega arith) form.main tt tt (t_plain [] refl done);
      matched = match_none;
    };
  }

  pub box_typed : TypedFunc M 2 box_function
  box_typed = record { type = type_function; found = refl; typed = t_body M (I32 ∷ I32 ∷ []) (I32 ∷ []) (ConstWord 0 ∷ []) (t_plain [] refl done) }

  pub room_typed : TypedFunc M 0 room_function
  room_typed = record {
    type = type_main;
    found = refl;
    typed = t_body M [] [] (ConstWord 1 ∷ MemoryGrow ∷ ConstWord (2 ^ 32 - 1) ∷ Operation op32.Eq ∷ GlobalSet 1 ∷ GlobalGet 1 ∷ IfOnly ∷ Unreachable ∷ End ∷ [])
        (t_plain [] refl (t_plain [] refl (t_plain (Of I32 ∷ []) refl (t_plain [] refl (t_plain [] refl (t_plain [] refl (t_one_arm {body = Unreachable ∷ []} (unreachable done) done)))))));
  }

  -- two lists of functions, one of type indices and one of bodies, side by side
  abbrev AllTyped : List ℕ → List Body → Type 0
  AllTyped is bs = (f index : ℕ) (b : Body) → slice_get is f ≡ Some index → slice_get bs f ≡ Some b → TypedFunc M index b

  same_typed : {i j : ℕ} {a b : Body} → TypedFunc M i a → Some i ≡ Some j → ◌≡◌ {A = Option Body} (Some a) (Some b) → TypedFunc M j b
  same_typed {i} {j} {a} {b} t e d = let p : i ≡ j = same_Some _ _ e in let q : a ≡ b = same_Some _ _ d in subst (λ (x : ℕ). TypedFunc M x b) p (subst (TypedFunc M i) q t)

  mapped_then : {A : Type 0} (index : ℕ) (h : A → Body) (xs : List A) (is : List ℕ) (bs : List Body) → ((i : ℕ) (x : A) → slice_get xs i ≡ Some x → TypedFunc M index (h x)) → AllTyped is bs → AllTyped (map (λ x. index) xs ++ is) (map h xs ++ bs)
  mapped_then index h [] is bs a r f i b e d = r f i b e d
  mapped_then index h (x ∷ xs) is bs a r zero i b e d = same_typed (a zero x refl) e d
  mapped_then index h (x ∷ xs) is bs a r (suc f) i b e d = mapped_then index h xs is bs (λ i y. a (suc i) y) r f i b e d

  numbered_then : (of_type : ℕ → Fn → ℕ) (h : ℕ → Fn → Body) (from : ℕ) (fs : List Fn) (is : List ℕ) (bs : List Body) → ((g j : ℕ) (x : Fn) → slice_get fs g ≡ Some x → j ≡ from + g → TypedFunc M (of_type j x) (h j x)) → AllTyped is bs →
      AllTyped (numbered of_type from fs ++ is) (numbered h from fs ++ bs)
  numbered_then of_type h from [] is bs a r f i b e d = r f i b e d
  numbered_then of_type h from (x ∷ xs) is bs a r zero i b e d = same_typed (a zero from x refl (omega arith)) e d
  numbered_then of_type h from (x ∷ xs) is bs a r (suc f) i b e d = numbered_then of_type h (suc from) xs is bs (λ g j y at is. a (suc g) j y at (omega arith)) r f i b e d

  numbered_all : (of_type : ℕ → Fn → ℕ) (h : ℕ → Fn → Body) (from : ℕ) (fs : List Fn) → ((g j : ℕ) (x : Fn) → slice_get fs g ≡ Some x → j ≡ from + g → TypedFunc M (of_type j x) (h j x)) → AllTyped (numbered of_type from fs) (numbered h from fs)
  numbered_all of_type h from [] a f i b e d = no e
  numbered_all of_type h from (x ∷ xs) a zero i b e d = same_typed (a zero from x refl (omega arith)) e d
  numbered_all of_type h from (x ∷ xs) a (suc f) i b e d = numbered_all of_type h (suc from) xs (λ g j y at is. a (suc g) j y at (omega arith)) f i b e d

  bodies_typed : TypedFunc M 0 main → AllTyped M.funcs M.bodies
  bodies_typed last zero i b e d = same_typed room_typed e d
  bodies_typed last (suc zero) i b e d = same_typed box_typed e d
  bodies_typed last (suc (suc f)) i b e d =
      numbered_then (λ g f. 2) (entry P) 0 P.functions (map (λ t. 1) P.constants ++ (0 ∷ numbered (λ g f. worker_type f) 0 P.functions)) (map (constant P) P.constants ++ (main ∷ numbered (worker P) 0 P.functions)) (λ g j x at is. entry_typed j x (same_number P.functions g j x at is))
      (mapped_then 1 (constant P) P.constants (0 ∷ numbered (λ g f. worker_type f) 0 P.functions) (main ∷ numbered (worker P) 0 P.functions) (λ j x at. constant_typed x (form.constants j x at)) from_main) f i b e d
    where
      from_main : AllTyped (0 ∷ numbered (λ g f. worker_type f) 0 P.functions) (main ∷ numbered (worker P) 0 P.functions)
      from_main zero i b e d = same_typed last e d
      from_main (suc f) i b e d = numbered_all (λ g f. worker_type f) (worker P) 0 P.functions (λ g j x at is. worker_typed j x (same_number P.functions g j x at is)) f i b e d

  -- each function has one of the types
  workers_low : (from : ℕ) (fs : List Fn) (f index : ℕ) → slice_get (numbered (λ g f. worker_type f) from fs) f ≡ Some index → index < suc (suc (suc (widest_worker fs)))
  workers_low from [] f index e = no e
  workers_low from (x ∷ xs) zero index e = let p : worker_type x ≡ index = same_Some _ _ e in omega (arith, p, worker_low x xs)
  workers_low from (x ∷ xs) (suc f) index e = omega (arith, workers_low (suc from) xs f index e, widest_grows x xs)

  constants_low : (ys : List Block) (f index : ℕ) → slice_get (map (λ y. 1) ys ++ (0 ∷ numbered (λ g f. worker_type f) 0 P.functions)) f ≡ Some index → index < suc (suc (suc (widest_worker P.functions)))
  constants_low [] zero index e = let p : 0 ≡ index = same_Some _ _ e in omega (arith, p)
  constants_low [] (suc f) index e = workers_low 0 P.functions f index e
  constants_low (y ∷ ys) zero index e = let p : 1 ≡ index = same_Some _ _ e in omega (arith, p)
  constants_low (y ∷ ys) (suc f) index e = constants_low ys f index e

  entries_low : (from : ℕ) (xs : List Fn) (f index : ℕ) → slice_get (numbered (λ g f. 2) from xs ++ (map (λ y. 1) P.constants ++ (0 ∷ numbered (λ g f. worker_type f) 0 P.functions))) f ≡ Some index → index < suc (suc (suc (widest_worker P.functions)))
  entries_low from [] f index e = constants_low P.constants f index e
  entries_low from (x ∷ xs) zero index e = let p : 2 ≡ index = same_Some _ _ e in omega (arith, p)
  entries_low from (x ∷ xs) (suc f) index e = entries_low (suc from) xs f index e

  funcs_sound : IsSound Functions M
  funcs_sound zero index e = let p : 0 ≡ index = same_Some _ _ e in omega (arith, p)
  funcs_sound (suc zero) index e = let p : 2 ≡ index = same_Some _ _ e in omega (arith, p)
  funcs_sound (suc (suc f)) index e = omega (arith, entries_low 0 P.functions f index e, words_types_length 0 (widest_worker P.functions))

  pub all_sound : 0 < pages → pages ≤ 16384 → IsSound Globals M → DistinctNames M.exports → EachIsThere M → AllSound M
  all_sound pos small globals names there Functions = funcs_sound
  all_sound pos small globals names there Tables = omega arith
  all_sound pos small globals names there Memories = record { least = omega arith; greatest = (omega arith, omega arith) }
  all_sound pos small globals names there Globals = globals
  all_sound pos small globals names there Exported = (names, there)
  all_sound pos small globals names there Elements = segment_sound P main gs es pages
  all_sound pos small globals names there Codes = same_length P main gs es pages

pub known_valid : KnownValid
known_valid P pages m pos small form =
    let main = main_function P in
    record {
      outside = all_sound P m form main [] [] pages pos small (globals_sound P main [] [] pages (λ x g e. no e)) (names_distinct P pages) (exports_there P main [] [] pages (λ i e h. no h));
      bodies = bodies_typed P m form main [] [] pages (main_typed P m form main [] [] pages);
    }

-- a module for calls
shaped_applied : (P : Program) (n : ℕ) → Shaped (applied P n)
shaped_applied P zero = shaped_code P [] 0 Inside P.main
shaped_applied P (suc n) =
    shaped_applied P n then (one (LocalSet 0) refl tt then (one (GlobalGet 3) refl tt then (one (Load (4 * n)) refl tt then (one (LocalSet 1) refl tt then shaped_op P (At (InLocal 1) ∷ At (InLocal 0) ∷ []) 2 Inside (AppOp (AVar 1) (AVar 0))))))

module _ (P : Program) (most : ℕ) (form : Formed P most) (k pages : ℕ) where
  abbrev C : Parts
  C = module_of_call P k pages

  t_applied : (size : ℕ) (ls rs : OperandTypes) → AllWords size ls → 2 ≤ size → top 0 P.main ≤ size → (n : ℕ) {labels : List OperandTypes} {ts us : Operands} {rest : List Instr} → Typed C ls rs labels (Of I32 ∷ ts) rest us → Typed C ls rs labels ts (applied P n rest) us
  t_applied size ls rs all two enough zero k' = t_code P most form (call_function P k) call_globals call_exports pages 16384 (omega arith) size ls rs all 0 0 [] Inside P.main enough form.main tt tt k'
  t_applied size ls rs all two enough (suc n) {ts = ts} k' =
      t_applied size ls rs all two enough n (t_set P most form (call_function P k) call_globals call_exports pages 16384 (omega arith) size ls rs all (omega arith) (t_plain ts refl (t_plain ts refl
      (t_set P most form (call_function P k) call_globals call_exports pages 16384 (omega arith) size ls rs all (omega arith)
      (t_op P most form (call_function P k) call_globals call_exports pages 16384 (omega arith) size ls rs all 2 2 (At (InLocal 1) ∷ At (InLocal 0) ∷ []) Inside (AppOp (AVar 1) (AVar 0)) (omega arith) (omega arith, omega arith) (omega arith, (omega arith, tt)) tt k')))))

  pub call_typed : TypedFunc C 0 (call_function P k)
  call_typed =
      let size = max 2 (top 0 P.main) in
      record {
        type = type_main;
        found = refl;
        typed = record {
          body = applied P k (GlobalSet 0 ∷ []);
          ends = (shaped_applied P k then one (GlobalSet 0) refl (λ z. omega arith)).front (End ∷ []);
          left = [];
          typed = t_applied size (replicate size I32) [] (all_i32 size) (omega arith) (omega arith) k (t_plain [] refl done);
          matched = match_none;
        };
      }

pub calls_valid : CallsValid
calls_valid P k pages m pos small form =
    let main = call_function P k in
    record {
      outside = all_sound P m form main call_globals call_exports pages pos small (globals_sound P main call_globals call_exports pages call_globals_sound) (call_names_distinct P k pages) (exports_there P main call_globals call_exports pages (call_exports_there P k pages));
      bodies = bodies_typed P m form main call_globals call_exports pages (call_typed P m form k pages);
    }
