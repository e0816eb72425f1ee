-- How long the bytes of a module for calls are.
use Rattle.std.proofs.Common.{ℕ, ◌+◌, ◌*◌, ◌≤◌, List, [], ◌∷◌, max, length, arith}
use Rattle.std.specs.Prelude.{codes}
use Rattle.wasm_core.specs.declared.exports.Export.{Export}
use Rattle.wasm_core.specs.declared.exports.ExportKind.TheVariants as kind
use Rattle.wasm_core.specs.declared.instrs.Instr.TheVariants.{End, GlobalSet}
use Rattle.wasm_core.specs.ShortestBytes.{put_all, put_body, put_global, put_export, signed}
use Rattle.closure_lift.specs.Lifted.{Program}
use Rattle.closure_lift.specs.LiftedForm.{Formed, Limits}
use Rattle.wasm_emit.specs.CallModule.{call_globals, call_exports}
use Rattle.wasm_emit.specs.EmitLaws.{CountsFit}
use Rattle.wasm_emit.specs.EmittedLocals.{top}
use Rattle.wasm_emit.specs.EmittedModule.{main_index, word_global}
use Rattle.wasm_emit.proofs.Lengths.{z_end, z_global, body_size}
use Rattle.wasm_emit.proofs.Sized.{no_bytes, export_size}
use Rattle.known_calls.specs.CallBytes.{CallsSized}
use Rattle.known_calls.specs.KnownCalls.{applied, call_function, module_of_call}
use Rattle.known_calls.specs.KnownWeight.{weight}
use Rattle.known_calls.proofs.KnownSizes.{module_sized}
use Rattle.known_calls.proofs.KnownSpelling.{b_applied}

call_globals_size : length (put_all put_global (word_global 0 ∷ word_global 0 ∷ word_global 8 ∷ call_globals) []) ≤ 40
unfolding put_all put_global signed
call_globals_size = omega arith

call_exports_size : (P : Program) (k pages : ℕ) → length (put_all put_export (module_of_call P k pages).exports []) ≤ 96
unfolding put_all
call_exports_size P k pages =
    let e5 : Export = record { name = codes "args"; kind = kind.Global; index = 3 } in
    let e4 : Export = record { name = codes "heap"; kind = kind.Global; index = 2 } in
    let e3 : Export = record { name = codes "status"; kind = kind.Global; index = 1 } in
    let e2 : Export = record { name = codes "result"; kind = kind.Global; index = 0 } in
    let e1 : Export = record { name = codes "memory"; kind = kind.Memory; index = 0 } in
    let e0 : Export = record { name = codes "main"; kind = kind.Func; index = main_index P } in
    let w5 = put_export e5 [] in
    let w4 = put_export e4 w5 in
    let w3 = put_export e3 w4 in
    let w2 = put_export e2 w3 in
    let w1 = put_export e1 w2 in
    omega (arith, export_size e5 [], export_size e4 w5, export_size e3 w4, export_size e2 w3, export_size e1 w2, export_size e0 w1)

main_size : (P : Program) (k m : ℕ) → k ≤ 255 → Formed P m → Limits P → CountsFit P m → (w : List ℕ) → length (put_body (call_function P k) w) ≤ 20 + weight P.main + 128 * k + length w
main_size P k m few form limits counts w =
    omega (
      arith,
      body_size (max 2 (top 0 P.main)) (applied P k (GlobalSet 0 ∷ End ∷ [])) w,
      z_global (End ∷ []) 0 (omega arith),
      z_end [],
      no_bytes,
      (b_applied P m form counts limits k few).bytes (GlobalSet 0 ∷ End ∷ []),
    )

pub calls_sized : CallsSized
calls_sized P k pages m few form limits counts =
    let main = main_size P k m few form limits counts in
    omega (arith, module_sized P (call_function P k) call_globals call_exports pages m form limits counts (20 + weight P.main + 128 * k) 40 96 main call_globals_size (call_exports_size P k pages))
