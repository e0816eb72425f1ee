-- A machine at the start of a run of `main`.
use Rattle.std.proofs.Common.{◌≡◌, ℕ, List, [], ◌++◌, map, reverse, take, length, Option, Some, None, Bool, true, false, ap, sym, ◌∙◌}
use Rattle.std.specs.Prelude.{slice_get, is_some, if◌then◌else◌}
use Rattle.std.specs.Option.{option_and_then}
use Rattle.std.proofs.lemmas.Option.{same_Some}
use Rattle.wasm_core.specs.declared.types.FuncType.{FuncType}
use Rattle.wasm_core.specs.declared.types.GlobalDef.{GlobalDef}
use Rattle.wasm_core.specs.declared.types.ValType.{ValType}
use Rattle.wasm_core.specs.declared.types.ConstValue.{ConstValue}
use Rattle.wasm_core.specs.declared.entries.Entry.TheVariants.{Main}
use Rattle.wasm_core.specs.declared.instrs.Instr.{Instr}
use Rattle.wasm_core.specs.declared.instrs.Body.{Body}
use Rattle.wasm_core.specs.Parts.{Parts}
use Rattle.wasm_core.specs.Memory.{zeroed}
use Rattle.wasm_core.specs.Instance.{Func, func_of, least, segments_fit, zero_of}
use Rattle.wasm_core.specs.Entries.{index_of}
use Rattle.wasm_core.specs.MachineStep.{State, Store, At}
use Rattle.wasm_core.specs.ModuleTyping.{IsValid}
use Rattle.wasm_core.specs.Runs.{main_start, start, start_at, first_store}
use Rattle.wasm_core.proofs.Functions.{found_at}
use Rattle.wasm_core.proofs.Small.{no}
use Rattle.wasm_core.proofs.Starting.{main_there}
use Rattle.wasm_run.specs.Shape.{Shape}
use Rattle.wasm_run.specs.View.{frame_at}
use Rattle.wasm_run.specs.Programs.{code_of, code_in}
use Rattle.wasm_run.specs.Threads.{state_of, store_in, frame_in}
use Rattle.wasm_run.specs.declared.thread.Thread.{Thread}

pub main_found : (m : Parts) → IsValid m → (f : ℕ) → index_of Main m ≡ Some f → (g : Func) × (func_of m f ≡ Some g) × (g.type.params ≡ []) × (g.type.result ≡ None)
main_found m valid f e =
    let h = main_there m f e in
    let (x, t) = found_at m valid f h.index h.is_func in
    let same : h.type ≡ x.func.type = same_Some _ _ (sym h.is_type ∙ t) in
    (x.func, x.is, ap (λ (y : FuncType). y.params) (sym same) ∙ h.no_params, ap (λ (y : FuncType). y.result) (sym same) ∙ h.no_result)

pub main_starts : (m : Parts) (f : ℕ) (g : Func) → segments_fit m ≡ true → index_of Main m ≡ Some f → func_of m f ≡ Some g → main_start m ≡ Some (start m g)
main_starts m f g fit hf is =
    ap (λ (b : Bool). if b then option_and_then (λ f. start_at m f) (index_of Main m) else None) fit
    ∙ ap (option_and_then (λ f. start_at m f)) hf
    ∙ ap (option_and_then (λ (g : Func). Some (start m g))) is

module _ (m : Parts) (g : Func) where
  code_2 : (t : Option FuncType) (b : Option Body) → option_and_then (λ (t : FuncType). option_and_then (λ (b : Body). Some (record { type = t; body = b })) b) t ≡ Some g → code_in b ≡ g.body.code
  code_2 None b e = no e
  code_2 (Some t) None e = no e
  code_2 (Some t) (Some b) e = ap (λ (x : Func). x.body.code) (same_Some _ _ e)

  code_1 : (a : Option ℕ) (b : Option Body) → option_and_then (λ index. option_and_then (λ (t : FuncType). option_and_then (λ (b : Body). Some (record { type = t; body = b })) b) (slice_get m.types index)) a ≡ Some g → code_in b ≡ g.body.code
  code_1 None b e = no e
  code_1 (Some index) b e = code_2 (slice_get m.types index) b e

  pub code_is : (f : ℕ) → func_of m f ≡ Some g → code_of m f ≡ g.body.code
  code_is f e = code_1 (slice_get m.funcs f) (slice_get m.bodies f) e

  at_start : Store → List Shape → Shape → List Instr → State
  at_start s callers cur code = At (record { store = s; current = frame_at code cur; callers = map (frame_in m) (reverse callers) })

  begun : ℕ → Bool → List ConstValue → Shape
  begun f keeps locals = record { func = f; keeps = keeps; at = 0; locals = locals; vals = []; labels = [] }

  pub first_is : (t : Thread) → t.pages ≡ least m.memory → t.memory.items ≡ zeroed (least m.memory) → t.globals.items ≡ map (λ (d : GlobalDef). d.init) m.globals → t.refused ≡ false → t.by_choice ≡ false → store_in t ≡ first_store m
  first_is t ep em eg er eb = cc

  pub fresh : (f : ℕ) → func_of m f ≡ Some g → g.type.params ≡ [] → g.type.result ≡ None → (t : Thread) → t.current ≡ record {
    func = f;
    keeps = false;
    at = 0;
    locals = map zero_of g.body.locals;
    vals = [];
    labels = [];
  } → t.callers.items ≡ [] → store_in t ≡ first_store m → state_of m None t ≡ start m g
  unfolding at_start begun
  fresh f is params result t cur none store =
      ap (λ s. at_start s t.callers.items t.current (code_of m t.current.func)) store
      ∙ ap (λ cs. at_start (first_store m) cs t.current (code_of m t.current.func)) none
      ∙ ap (λ (s : Shape). at_start (first_store m) [] s (code_of m s.func)) cur
      ∙ ap (at_start (first_store m) [] (begun f false (map zero_of g.body.locals))) (code_is f is)
      ∙ ap (λ (r : Option ValType). at_start (first_store m) [] (begun f (is_some r) (map zero_of g.body.locals)) g.body.code) (sym result)
      ∙ ap (λ (ps : List ValType). at_start (first_store m) [] (begun f (is_some g.type.result) (reverse (take (length ps) []) ++ map zero_of g.body.locals)) g.body.code) (sym params)
