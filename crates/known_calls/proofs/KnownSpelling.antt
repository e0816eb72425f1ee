-- The numbers of a module with workers fit its format, so that bytes can spell it.
use Rattle.std.proofs.Common.{◌≡◌, ℕ, zero, suc, ◌+◌, ◌-◌, ◌*◌, ◌<◌, ◌≤◌, List, [], ◌∷◌, ◌++◌, length, max, Some, Bool, true, false, refl, arith, rules}
use Rattle.std.specs.Prelude.{slice_get, if◌then◌else◌}
use Rattle.std.proofs.lemmas.List.{length-replicate}
use Rattle.std.proofs.lemmas.Option.{slice_get_within}
use Rattle.wasm_core.specs.declared.types.ValType.TheVariants.{I32}
use Rattle.wasm_core.specs.declared.instrs.BlockType.TheVariants.{Value}
use Rattle.wasm_core.specs.declared.instrs.Instr.TheVariants.{Unreachable, Loop, End, ReturnCall, LocalGet, GlobalSet}
use Rattle.wasm_core.specs.Parts.{Parts}
use Rattle.wasm_core.specs.ModuleTyping.{TypedFunc}
use Rattle.wasm_core.specs.declared.instrs.Body.{Body}
use Rattle.wasm_core.specs.declared.types.GlobalDef.{GlobalDef}
use Rattle.wasm_core.specs.declared.exports.Export.{Export}
use Rattle.wasm_core.specs.ModuleCondition.{All, IsU32, IsFuncType, IsBody, IsExport, IsGlobal, IsModule}
use Rattle.anf_convert.specs.declared.program.Atom.TheVariants.{Var as AVar}
use Rattle.closure_lift.specs.Lifted.{AppOp, Block, Fn, Program}
use Rattle.closure_lift.specs.LiftedForm.{Formed, Limits}
use Rattle.wasm_emit.specs.EmittedCode.{ConstWord}
use Rattle.wasm_emit.specs.EmittedLocals.{top}
use Rattle.wasm_emit.specs.EmittedModule.{body, room_code, entries}
use Rattle.wasm_emit.specs.CallModule.{call_globals, call_exports}
use Rattle.wasm_emit.specs.EmitLaws.{CountsFit}
use Rattle.wasm_emit.proofs.Indices.{entries_length}
use Rattle.wasm_emit.proofs.Spelled.{good, fits, all_then, body_fits, room_good}
use Rattle.known_calls.specs.KnownPlaces.{At, InLocal, fields_of}
use Rattle.known_calls.specs.KnownCode.{Inside, Final, InTail, is_wide, worker_index, code}
use Rattle.known_calls.specs.KnownModule.{words_types, widest_worker, params, captured_words, wide_body, stub_code, entry, worker_code, worker, worker_type, numbered, constant, main_function, module_with, module_of}
use Rattle.known_calls.specs.KnownCalls.{applied, call_function, module_of_call}
use Rattle.known_calls.specs.KnownLaws.{KnownSpelled}
use Rattle.known_calls.specs.KnownWeight.{weight}
use Rattle.known_calls.proofs.SameLocals.{worker_top}
use Rattle.known_calls.proofs.Fitting.{fields_fit, params_fit}
use Rattle.known_calls.proofs.KnownIndices.{narrow_few, same_number, widest_few, words_types_length, order_length}
use Rattle.known_calls.proofs.KnownValidity.{entry_typed, worker_typed, constant_typed, main_typed, call_typed, box_typed, room_typed}
use Rattle.known_calls.proofs.Bounded.{Bounded, ◌then◌, b_most, b_get, b_get_global, b_set, b_load, b_return_call, b_end, b_loop, b_captured, b_op, b_code}

numbered_then : {B : Type 0} (Q : B → Type 0) (h : ℕ → Fn → B) (from : ℕ) (fs : List Fn) (bs : List B) → ((g j : ℕ) (x : Fn) → slice_get fs g ≡ Some x → j ≡ from + g → Q (h j x)) → All Q bs → All Q (numbered h from fs ++ bs)
numbered_then Q h from [] bs a r = r
numbered_then Q h from (x ∷ xs) bs a r = (a zero from x refl (omega arith), numbered_then Q h (suc from) xs bs (λ g j y at is. a (suc g) j y at (omega arith)) r)

numbered_all : {B : Type 0} (Q : B → Type 0) (h : ℕ → Fn → B) (from : ℕ) (fs : List Fn) → ((g j : ℕ) (x : Fn) → slice_get fs g ≡ Some x → j ≡ from + g → Q (h j x)) → All Q (numbered h from fs)
numbered_all Q h from [] a = tt
numbered_all Q h from (x ∷ xs) a = (a zero from x refl (omega arith), numbered_all Q h (suc from) xs (λ g j y at is. a (suc g) j y at (omega arith)))

-- the types of workers
words_types_fit : (k n : ℕ) → k + n ≤ 8 → All IsFuncType (words_types k n)
words_types_fit k zero le = tt
words_types_fit k (suc n) le = (omega (arith, length-replicate (suc k) I32), words_types_fit (suc k) n (omega arith))

entries_fit : (i n : ℕ) → i + n < 4294967296 → All IsU32 (entries i n)
entries_fit i zero h = tt
entries_fit i (suc n) h = (omega arith, entries_fit (suc i) n (omega arith))

-- the code of an entry's stub, of the body of a function without a worker, and of a worker
module _ (P : Program) (m : ℕ) (form : Formed P m) (counts : CountsFit P m) (limits : Limits P) (g : ℕ) (fn : Fn) (at : slice_get P.functions g ≡ Some fn) where
  pub b_stub : fn.captured ≤ 7 → Bounded 65 (λ r. captured_words fn.captured (LocalGet 1 ∷ ReturnCall (worker_index P g) ∷ End ∷ r))
  b_stub few = b_most 65 (omega (arith, few)) (b_captured fn.captured (omega arith) then (b_get 1 (omega arith) then (b_return_call (worker_index P g) (omega (arith, slice_get_within P.functions g fn at, limits.few, counts.constants)) then b_end)))

  pub b_wide : Bounded (weight fn.body + 1) (λ r. code P (At (InLocal 1) ∷ fields_of 0 fn.captured []) 2 Final fn.body (End ∷ r))
  b_wide =
      let low = limits.captured g fn at in
      b_code P m form counts limits (suc fn.captured) 2 (At (InLocal 1) ∷ fields_of 0 fn.captured []) Final fn.body (omega (arith, counts.functions g fn at)) (omega arith, fields_fit P 16384 100000 0 fn.captured [] (omega arith) (omega (arith, low)) tt) (form.functions g fn at) then b_end

  pub b_loop_of : Bounded (weight fn.body + 4) (λ r. Loop (Value I32) ∷ code P (params (suc fn.captured)) (suc fn.captured) (InTail g 0) fn.body (End ∷ End ∷ r))
  b_loop_of =
      let low = limits.captured g fn at in
      b_most _ (omega arith) (b_loop (Value I32) then (b_code P m form counts limits (suc fn.captured) (suc fn.captured) (params (suc fn.captured)) (InTail g 0) fn.body (omega (arith, low, worker_top fn.captured fn.body, counts.functions g fn at)) (params_fit P 16384 100000
      (suc fn.captured) (omega (arith, low)))
      (form.functions g fn at) then (b_end then b_end)))

-- a module whose main fits
module _ (P : Program) (main : Body) (gs : List GlobalDef) (es : List Export) (pages m : ℕ) (form : Formed P m) (counts : CountsFit P m) (limits : Limits P) where
  abbrev M : Parts
  M = module_with P main gs es pages

  entry_fits : (g : ℕ) (fn : Fn) → slice_get P.functions g ≡ Some fn → IsBody (entry P g fn)
  entry_fits g fn at = either (is_wide fn) refl (entry_typed P m form main gs es pages g fn at)
    where
      either : (b : Bool) → is_wide fn ≡ b → TypedFunc M 2 (if b then wide_body P fn else body 0 (stub_code P g fn.captured)) → IsBody (if b then wide_body P fn else body 0 (stub_code P g fn.captured))
      either true wide t = body_fits M 2 (top 2 fn.body - 2) (code P (At (InLocal 1) ∷ fields_of 0 fn.captured []) 2 Final fn.body (End ∷ [])) (counts.functions g fn at) t ((b_wide P m form counts limits g fn at).spelled good)
      either false narrow t = body_fits M 2 0 (stub_code P g fn.captured) (omega arith) t ((b_stub P m form counts limits g fn at (narrow_few fn narrow)).spelled good)

  worker_fits : (g : ℕ) (fn : Fn) → slice_get P.functions g ≡ Some fn → IsBody (worker P g fn)
  worker_fits g fn at = either (is_wide fn) refl (worker_typed P m form main gs es pages g fn at)
    where
      either : (b : Bool) → is_wide fn ≡ b → TypedFunc M (worker_type fn) (if b then body 0 (Unreachable ∷ End ∷ []) else body (top 2 fn.body - 2) (Loop (Value I32) ∷ worker_code P g fn)) →
          IsBody (if b then body 0 (Unreachable ∷ End ∷ []) else body (top 2 fn.body - 2) (Loop (Value I32) ∷ worker_code P g fn))
      either true wide t = body_fits M (worker_type fn) 0 (Unreachable ∷ End ∷ []) (omega arith) t (fits tt (fits tt good))
      either false narrow t = body_fits M (worker_type fn) (top 2 fn.body - 2) (Loop (Value I32) ∷ worker_code P g fn) (counts.functions g fn at) t ((b_loop_of P m form counts limits g fn at).spelled good)

  constant_fits : (x : ℕ) (t : Block) → slice_get P.constants x ≡ Some t → IsBody (constant P t)
  constant_fits x t at =
      body_fits M 1 (top 0 t) (code P [] 0 Final t (End ∷ [])) (counts.bodies x t at) (constant_typed P m form main gs es pages t (form.constants x t at))
      ((b_code P m form counts limits 0 0 [] Final t (omega (arith, counts.bodies x t at)) tt (form.constants x t at)).spelled (fits tt good))

  type_fits : (fn : Fn) → IsU32 (worker_type fn)
  type_fits fn = either (is_wide fn) refl
    where
      either : (b : Bool) → is_wide fn ≡ b → IsU32 (if b then 0 else suc (suc (suc fn.captured)))
      either true wide = omega arith
      either false narrow = omega (arith, narrow_few fn narrow)

  all_bodies : IsBody main → All IsBody M.bodies
  all_bodies main_fits = (
    body_fits M 0 0 room_code (omega arith) (room_typed P m form main gs es pages) room_good,
    (
      body_fits M 2 0 (ConstWord 0 ∷ End ∷ []) (omega arith) (box_typed P m form main gs es pages) (fits (omega arith) (fits tt good)),
      numbered_then IsBody (entry P) 0 P.functions _ (λ g j x at is. entry_fits j x (same_number P.functions g j x at is))
          (all_then IsBody (constant P) P.constants _ (λ i t at. constant_fits i t at) (main_fits, numbered_all IsBody (worker P) 0 P.functions (λ g j x at is. worker_fits j x (same_number P.functions g j x at is)))),
    ),
  )

  all_types : All IsU32 M.funcs
  all_types = (
    omega arith,
    (
      omega arith,
      numbered_then IsU32 (λ g f. 2) 0 P.functions _ (λ g j x at is. omega arith) (all_then IsU32 (λ t. 1) P.constants _ (λ i t at. omega arith) (omega arith, numbered_all IsU32 (λ g f. worker_type f) 0 P.functions (λ g j x at is. type_fits x))),
    ),
  )

  with_spelled : pages ≤ 16384 → length gs ≤ 8 → All IsGlobal gs → length es ≤ 8 → All IsExport es → IsBody main → IsModule M
  with_spelled small few_globals globals few_exports exports last =
      let size = order_length {A = ℕ} P (λ g f. 2) (λ t. 1) 0 (λ g f. worker_type f) in
      let bodies = order_length P (entry P) (constant P) main (worker P) in
      record {
        types = (omega (arith, words_types_length 0 (widest_worker P.functions), widest_few P.functions), (omega arith, (omega arith, (omega arith, words_types_fit 0 (widest_worker P.functions) (omega (arith, widest_few P.functions))))));
        funcs = (omega (arith, size, limits.few, counts.constants), all_types);
        table = (omega (arith, limits.few), omega (arith, limits.few));
        memory = (omega arith, omega arith);
        globals = (omega arith, (omega arith, (omega arith, (omega arith, globals))));
        exports = (omega arith, ((search rules, omega arith, omega (arith, limits.few, counts.constants)), ((search rules, omega arith, omega arith), ((search rules, omega arith, omega arith), ((search rules, omega arith, omega arith), exports)))));
        elements = (omega arith, ((omega arith, (omega (arith, entries_length 1 (suc (length P.functions)), limits.few), entries_fit 1 (suc (length P.functions)) (omega (arith, limits.few)))), tt));
        bodies = (omega (arith, bodies, limits.few, counts.constants), all_bodies last);
        whole = omega (arith, size, bodies);
      }

pub known_spelled : KnownSpelled
known_spelled P pages m pos small form limits counts =
    let last : IsBody (main_function P) =
    body_fits (module_of P pages) 0 (top 0 P.main) (code P [] 0 Inside P.main (GlobalSet 0 ∷ End ∷ [])) counts.main (main_typed P m form (main_function P) [] [] pages)
    ((b_code P m form counts limits 0 0 [] Inside P.main (omega (arith, counts.main)) tt form.main).spelled (fits (omega arith) (fits tt good))) in
    with_spelled P (main_function P) [] [] pages m form counts limits small (omega arith) tt (omega arith) tt last

-- main applied to so many arguments, each of which takes at most 128 bytes
pub b_applied : (P : Program) (m : ℕ) (form : Formed P m) (counts : CountsFit P m) (limits : Limits P) (k : ℕ) → k ≤ 255 → Bounded (weight P.main + 128 * k) (applied P k)
b_applied P m form counts limits zero few = b_most _ (omega arith) (b_code P m form counts limits 0 0 [] Inside P.main (omega (arith, counts.main)) tt form.main)
b_applied P m form counts limits (suc n) few =
    b_most _ (omega arith) (b_applied P m form counts limits n (omega arith) then (b_set 0 (omega arith) then (b_get_global 3 (omega arith) then (b_load (4 * n) (omega arith) then (b_set 1 (omega arith)
    then b_op P m form counts limits 2 2 (At (InLocal 1) ∷ At (InLocal 0) ∷ []) Inside (AppOp (AVar 1) (AVar 0)) (omega arith) (omega arith, (omega arith, tt)) (omega arith, omega arith))))))

pub known_call_spelled : (P : Program) (k pages m : ℕ) → k ≤ 255 → 0 < pages → pages ≤ 16384 → Formed P m → Limits P → CountsFit P m → IsModule (module_of_call P k pages)
known_call_spelled P k pages m few pos small form limits counts =
    let last : IsBody (call_function P k) =
    body_fits (module_of_call P k pages) 0 (max 2 (top 0 P.main)) (applied P k (GlobalSet 0 ∷ End ∷ [])) (omega (arith, counts.main)) (call_typed P m form k pages)
    ((b_applied P m form counts limits k few).spelled (fits (omega arith) (fits tt good))) in
    with_spelled P (call_function P k) call_globals call_exports pages m form counts limits small (omega arith) (omega arith, tt) (omega arith) ((search rules, omega arith, omega arith), ((search rules, omega arith, omega arith), tt)) last
