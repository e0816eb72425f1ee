-- The globals of the entries are i32s in each state of a run.
use Rattle.std.proofs.Common.{◌≡◌, ℕ, Some, Bool, true, false, refl, ap, sym, ◌∙◌, subst}
use Rattle.std.specs.Prelude.{slice_get}
use Rattle.std.specs.Option.{option_and_then, option_map}
use Rattle.std.proofs.lemmas.Option.{slice_get-map, same_Some}
use Rattle.wasm_core.specs.declared.types.ValType.{ValType}
use Rattle.wasm_core.specs.declared.types.ValType.TheVariants as type
use Rattle.wasm_core.specs.declared.types.GlobalDef.{GlobalDef}
use Rattle.wasm_core.specs.declared.types.ConstValue.{ConstValue}
use Rattle.wasm_core.specs.declared.types.ConstValue.TheVariants.{I32, I64}
use Rattle.wasm_core.specs.declared.exports.Export.{Export}
use Rattle.wasm_core.specs.declared.entries.Entry.{Entry}
use Rattle.wasm_core.specs.declared.entries.Entry.TheVariants.{Main, Memory, Result, Status, Heap, Args}
use Rattle.wasm_core.specs.Parts.{Parts}
use Rattle.wasm_core.specs.ModuleTyping.{Of}
use Rattle.wasm_core.specs.MachineStep.{State, At, Over}
use Rattle.wasm_core.specs.Entries.{index_of, fitting, named, name_of, as_global, typed_global, mutable_i32, IsGlobalEntry}
use Rattle.wasm_core.specs.Runs.{store_of}
use Rattle.wasm_core.specs.Safe.{HasType, HaveTypes, GoodState, global_types}
use Rattle.wasm_core.specs.Answer.{i32_of, global_of}
use Rattle.wasm_core.specs.Laws.{EntriesAreThere, HostedEntriesAreThere}
use Rattle.wasm_core.proofs.Small.{no, some_of}
use Rattle.wasm_core.proofs.Values.{have_get}
use Rattle.wasm_core.proofs.Starting.{start_good, good_in, good_reach}

mutable_is : (b : Bool) (t : ValType) (i x : ℕ) → mutable_i32 b t i ≡ Some x → (t ≡ type.I32) × (i ≡ x)
mutable_is true type.I32 i x e = (refl, same_Some _ _ e)
mutable_is true type.I64 i x e = no e
mutable_is false t i x e = no e

typed_i32 : (m : Parts) (i x : ℕ) → typed_global m i ≡ Some x → (d : GlobalDef) × (slice_get m.globals x ≡ Some d) × (d.ty ≡ type.I32)
typed_i32 m i x e =
    let (d, hd, e1) = some_of (λ (g : GlobalDef). mutable_i32 g.mutable g.ty i) (slice_get m.globals i) x e in
    let (t, is) = mutable_is d.mutable d.ty i x e1 in
    (d, ap (slice_get m.globals) (sym is) ∙ hd, t)

pub entry_global : (n : Entry) → IsGlobalEntry n → (m : Parts) (x : ℕ) → index_of n m ≡ Some x → (d : GlobalDef) × (slice_get m.globals x ≡ Some d) × (d.ty ≡ type.I32)
entry_global Main g m x e = absurd g
entry_global Memory g m x e = absurd g
entry_global Result g m x e =
    let (y, hy, e1) = some_of (λ (y : Export). fitting Result m y) (named (name_of Result) m.exports) x e in
    let (i, hi, e2) = some_of (λ i. typed_global m i) (as_global y.kind y.index) x e1 in typed_i32 m i x e2
entry_global Status g m x e =
    let (y, hy, e1) = some_of (λ (y : Export). fitting Status m y) (named (name_of Status) m.exports) x e in
    let (i, hi, e2) = some_of (λ i. typed_global m i) (as_global y.kind y.index) x e1 in typed_i32 m i x e2
entry_global Heap g m x e =
    let (y, hy, e1) = some_of (λ (y : Export). fitting Heap m y) (named (name_of Heap) m.exports) x e in
    let (i, hi, e2) = some_of (λ i. typed_global m i) (as_global y.kind y.index) x e1 in typed_i32 m i x e2
entry_global Args g m x e =
    let (y, hy, e1) = some_of (λ (y : Export). fitting Args m y) (named (name_of Args) m.exports) x e in
    let (i, hi, e2) = some_of (λ i. typed_global m i) (as_global y.kind y.index) x e1 in typed_i32 m i x e2

good_globals : (m : Parts) (s : State) → GoodState m s → HaveTypes (store_of s).globals (global_types m)
good_globals m (At c) good = good.globals
good_globals m (Over e store) good = good

i32_value : (v : ConstValue) → HasType v (Of type.I32) → (w : ℕ) × (v ≡ I32 w)
i32_value (I32 w) h = (w, refl)
i32_value (I64 w) h = elim h [ ]

there_in : (m : Parts) (t : State) (n : Entry) (x : ℕ) → IsGlobalEntry n → GoodState m t → index_of n m ≡ Some x → (w : ℕ) × (global_of n m (store_of t) ≡ Some w)
there_in m t n x g good ix =
    let (d, hd, ty) = entry_global n g m x ix in
    let at : slice_get (global_types m) x ≡ Some (Of d.ty) = slice_get-map (λ (d : GlobalDef). Of d.ty) m.globals x ∙ ap (option_map (λ (d : GlobalDef). Of d.ty)) hd in
    let (v, hv, tv) = have_get x (Of d.ty) (good_globals m t good) at in
    let (w, is) = i32_value v (subst (λ ty. HasType v (Of ty)) ty tv) in (
      w,
      ap (option_and_then (λ x. option_and_then i32_of (slice_get (store_of t).globals x))) ix ∙ ap (option_and_then i32_of) (hv ∙ ap Some is),
    )

pub entries_are_there : EntriesAreThere
entries_are_there m first k t n x g valid e r ix = there_in m t n x g (good_reach m valid k first t (start_good m valid first e) r) ix

pub hosted_entries_are_there : HostedEntriesAreThere
hosted_entries_are_there m s first k t n x g valid ready e r ix = there_in m t n x g (good_reach m valid k first t (good_in m valid s first ready.typed e) r) ix
