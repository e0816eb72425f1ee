-- The functions of a module with workers set the status only from a test of a grow, so every run is honest.
use Rattle.std.proofs.Common.{◌≡◌, ℕ, zero, suc, ◌-◌, List, [], ◌∷◌, ◌++◌, map, Some, Bool, true, false, refl, ap, sym, ◌∙◌, subst, arith}
use Rattle.std.specs.Prelude.{slice_get, if◌then◌else◌}
use Rattle.std.proofs.lemmas.Option.{same_Some}
use Rattle.wasm_core.specs.declared.types.ValType.TheVariants as type
use Rattle.wasm_core.specs.declared.types.ConstValue.{ConstValue}
use Rattle.wasm_core.specs.declared.types.ConstValue.TheVariants.{I32}
use Rattle.wasm_core.specs.declared.types.GlobalDef.{GlobalDef}
use Rattle.wasm_core.specs.declared.exports.Export.{Export}
use Rattle.wasm_core.specs.declared.instrs.BlockType.TheVariants.{Value}
use Rattle.wasm_core.specs.declared.instrs.Instr.{Instr}
use Rattle.wasm_core.specs.declared.instrs.Instr.TheVariants.{Unreachable, Loop, End}
use Rattle.wasm_core.specs.declared.instrs.Body.{Body}
use Rattle.wasm_core.specs.MachineStep.{At}
use Rattle.wasm_core.specs.Runs.{store_of}
use Rattle.wasm_core.specs.Answer.{i32_of}
use Rattle.wasm_core.proofs.Small.{no, some_of}
use Rattle.anf_convert.specs.declared.program.Atom.TheVariants.{Var as AVar}
use Rattle.closure_lift.specs.Lifted.{AppOp, Fn, Program}
use Rattle.wasm_emit.specs.CallLaws.{call_start}
use Rattle.wasm_emit.specs.CallModule.{call_globals, call_exports}
use Rattle.wasm_emit.specs.EmittedLocals.{top}
use Rattle.wasm_emit.specs.EmittedModule.{type_main, body}
use Rattle.known_calls.specs.KnownPlaces.{At, InLocal}
use Rattle.known_calls.specs.KnownCode.{Inside, Final, is_wide}
use Rattle.known_calls.specs.KnownModule.{wide_body, stub_code, entry, worker_code, worker, numbered, constant, main_function, module_with, module_of}
use Rattle.known_calls.specs.KnownCalls.{applied, call_function, module_of_call}
use Rattle.known_calls.specs.KnownLaws.{KnownStatusTells, CallsTell}
use Rattle.known_calls.proofs.KnownAnswering.{first_of, starts}
use Rattle.wasm_emit.proofs.Honest.{Wary, w_nil, w_cons, w_grow, at_wary, HonestState, stays}
use Rattle.wasm_emit.proofs.Status.{AllWary, wary_body, mapped_then, of_bodies, tells_of, word_is}
use Rattle.known_calls.proofs.Shapes.{shaped_captured, shaped_code, shaped_op}

main_wary : (P : Program) → Wary (main_function P).code
main_wary P = (shaped_code P [] 0 Inside P.main).wary (w_cons (λ z. omega arith) (w_cons tt w_nil))

w_applied : (P : Program) (n : ℕ) {rest : List Instr} → Wary rest → Wary (applied P n rest)
w_applied P zero w = (shaped_code P [] 0 Inside P.main).wary w
w_applied P (suc n) w = w_applied P n (w_cons tt (w_cons tt (w_cons tt (w_cons tt ((shaped_op P (At (InLocal 1) ∷ At (InLocal 0) ∷ []) 2 Inside (AppOp (AVar 1) (AVar 0))).wary w)))))

entry_wary : (P : Program) (g : ℕ) (f : Fn) → Wary (entry P g f).code
entry_wary P g f = either (is_wide f)
  where
    either : (b : Bool) → Wary (if b then wide_body P f else body 0 (stub_code P g f.captured)).code
    either true = (shaped_code P _ 2 Final f.body).wary (w_cons tt w_nil)
    either false = (shaped_captured f.captured).wary (w_cons tt (w_cons tt (w_cons tt w_nil)))

worker_wary : (P : Program) (g : ℕ) (f : Fn) → Wary (worker P g f).code
worker_wary P g f = either (is_wide f)
  where
    either : (b : Bool) → Wary (if b then body 0 (Unreachable ∷ End ∷ []) else body (top 2 f.body - 2) (Loop (Value type.I32) ∷ worker_code P g f)).code
    either true = w_cons tt (w_cons tt w_nil)
    either false = w_cons tt ((shaped_code P _ _ _ f.body).wary (w_cons tt (w_cons tt w_nil)))

numbered_then : (h : ℕ → Fn → Body) (i : ℕ) (fs : List Fn) (bs : List Body) → ((g : ℕ) (f : Fn) → Wary (h g f).code) → AllWary bs → AllWary (numbered h i fs ++ bs)
numbered_then h i [] bs a r f g e = r f g e
numbered_then h i (x ∷ xs) bs a r zero g e = wary_body e (a i x)
numbered_then h i (x ∷ xs) bs a r (suc f) g e = numbered_then h (suc i) xs bs a r f g e

numbered_all : (h : ℕ → Fn → Body) (i : ℕ) (fs : List Fn) → ((g : ℕ) (f : Fn) → Wary (h g f).code) → AllWary (numbered h i fs)
numbered_all h i [] a f g e = no e
numbered_all h i (x ∷ xs) a zero g e = wary_body e (a i x)
numbered_all h i (x ∷ xs) a (suc f) g e = numbered_all h (suc i) xs a f g e

all_wary : (P : Program) (main : Body) (gs : List GlobalDef) (es : List Export) (pages : ℕ) → Wary main.code → AllWary (module_with P main gs es pages).bodies
all_wary P main gs es pages wm zero g e = wary_body e (w_cons tt (w_grow refl (w_cons tt (w_cons tt (w_cons tt (w_cons tt (w_cons tt w_nil)))))))
all_wary P main gs es pages wm (suc zero) g e = wary_body e (w_cons tt (w_cons tt w_nil))
all_wary P main gs es pages wm (suc (suc f)) g e =
    numbered_then (entry P) 0 P.functions (map (constant P) P.constants ++ (main ∷ numbered (worker P) 0 P.functions)) (λ i x. entry_wary P i x)
    (mapped_then (constant P) P.constants (main ∷ numbered (worker P) 0 P.functions) (λ x. (shaped_code P _ 0 Final x).wary (w_cons tt w_nil)) last) f g e
  where
    last : AllWary (main ∷ numbered (worker P) 0 P.functions)
    last zero g e = wary_body e wm
    last (suc f) g e = numbered_all (worker P) 0 P.functions (λ i x. worker_wary P i x) f g e

pub status_tells : KnownStatusTells
status_tells P pages first n t small start r one =
    let first_is : first_of P pages ≡ first = same_Some _ _ (sym (starts P pages) ∙ start) in
    let begins : HonestState (first_of P pages) = record { now = at_wary (main_wary P); labels = tt; callers = tt; status = λ e. absurd (no_one e); pages = omega arith } in
    let h = stays (module_of P pages) (of_bodies (module_of P pages) (all_wary P (main_function P) [] [] pages (main_wary P))) (omega arith) n first t (subst HonestState first_is begins) r in
    let (v, e1, e2) = some_of i32_of (slice_get (store_of t).globals 1) 1 one in
    tells_of t h (e1 ∙ ap (λ (v : ConstValue). Some v) (word_is v e2))
  where
    no_one : Some (I32 0) ≡ Some (I32 1) → ⊥
    no_one e = cc

pub calls_tell : CallsTell
calls_tell P k pages store n t small few nought r one =
    let C = module_of_call P k pages in
    let wm : Wary (call_function P k).code = w_applied P k (w_cons (λ z. omega arith) (w_cons tt w_nil)) in
    let begins : HonestState (call_start (record { type = type_main; body = call_function P k }) store) = record { now = at_wary wm; labels = tt; callers = tt; status = λ e. absurd (no_one (sym nought ∙ e)); pages = few } in
    let h = stays C (of_bodies C (all_wary P (call_function P k) call_globals call_exports pages wm)) (omega arith) n (call_start (record { type = type_main; body = call_function P k }) store) t begins r in
    let (v, e1, e2) = some_of i32_of (slice_get (store_of t).globals 1) 1 one in
    tells_of t h (e1 ∙ ap (λ (v : ConstValue). Some v) (word_is v e2))
  where
    no_one : Some (I32 0) ≡ Some (I32 1) → ⊥
    no_one e = cc
