-- What a host finds of a module by the names of its exports.
use Rattle.std.specs.Prelude.{ℕ, List, [], ◌∷◌, Bool, true, false, Option, Some, None, find, slice_get, codes}
use Rattle.std.specs.Option.{option_and_then}
use Rattle.std.specs.Str.{bytes_eq}
use Rattle.wasm_core.specs.declared.types.ValType.{ValType}
use Rattle.wasm_core.specs.declared.types.ValType.TheVariants.{I32, I64}
use Rattle.wasm_core.specs.declared.exports.Export.{Export}
use Rattle.wasm_core.specs.declared.exports.ExportKind.{ExportKind}
use Rattle.wasm_core.specs.declared.exports.ExportKind.TheVariants.{Func, Table, Memory, Global}
use Rattle.wasm_core.specs.declared.entries.Entry.{Entry}
use Rattle.wasm_core.specs.declared.entries.Entry.TheVariants as entry
use Rattle.wasm_core.specs.Parts.{Parts}

-- the names, as UTF-8
abbrev pub name_of : Entry → List ℕ
name_of entry.Main = codes "main"
name_of entry.Memory = codes "memory"
name_of entry.Result = codes "result"
name_of entry.Status = codes "status"
name_of entry.Heap = codes "heap"
name_of entry.Args = codes "args"

-- the export with this name
abbrev pub named : List ℕ → List Export → Option Export
named name exports = find (λ e. bytes_eq e.name name) exports

-- the index of a function, of a memory, of a global
abbrev pub as_func : ExportKind → ℕ → Option ℕ
as_func Func i = Some i
as_func Table i = None
as_func Memory i = None
as_func Global i = None

abbrev pub as_memory : ExportKind → ℕ → Option ℕ
as_memory Func i = None
as_memory Table i = None
as_memory Memory i = Some i
as_memory Global i = None

abbrev pub as_global : ExportKind → ℕ → Option ℕ
as_global Func i = None
as_global Table i = None
as_global Memory i = None
as_global Global i = Some i

-- a function from nothing to nothing
abbrev pub from_nothing : List ValType → Option ValType → ℕ → Option ℕ
from_nothing [] None f = Some f
from_nothing [] (Some t) f = None
from_nothing (p ∷ ps) result f = None

-- a mutable i32
abbrev pub mutable_i32 : Bool → ValType → ℕ → Option ℕ
mutable_i32 true I32 x = Some x
mutable_i32 true I64 x = None
mutable_i32 false t x = None

abbrev pub typed_func : Parts → ℕ → Option ℕ
typed_func m f =
    option_and_then (λ index. option_and_then (λ t. from_nothing t.params t.result f) (slice_get m.types index)) (slice_get m.funcs f)

abbrev pub typed_global : Parts → ℕ → Option ℕ
typed_global m x = option_and_then (λ g. mutable_i32 g.mutable g.ty x) (slice_get m.globals x)

-- the index that an export gives out, where it is of the entry's kind and type
abbrev pub fitting : Entry → Parts → Export → Option ℕ
fitting entry.Main m e = option_and_then (λ f. typed_func m f) (as_func e.kind e.index)
fitting entry.Memory m e = as_memory e.kind e.index
fitting entry.Result m e = option_and_then (λ x. typed_global m x) (as_global e.kind e.index)
fitting entry.Status m e = option_and_then (λ x. typed_global m x) (as_global e.kind e.index)
fitting entry.Heap m e = option_and_then (λ x. typed_global m x) (as_global e.kind e.index)
fitting entry.Args m e = option_and_then (λ x. typed_global m x) (as_global e.kind e.index)

-- the index of an entry, where the export of its name is of its kind and type:
-- `main` a function from nothing to nothing, `memory` a memory, `result`, `status`, `heap` and `args` mutable i32 globals
abbrev pub index_of : Entry → Parts → Option ℕ
index_of n m = option_and_then (λ e. fitting n m e) (named (name_of n) m.exports)

abbrev pub or_missing : Entry → Option ℕ → Option Entry → Option Entry
or_missing n None others = Some n
or_missing n (Some i) others = others

-- the first entry that is missing of the four that a run asks for, or one that is missing behind them
abbrev pub missing_before : Parts → Option Entry → Option Entry
missing_before m others =
    or_missing entry.Main (index_of entry.Main m)
    (or_missing entry.Memory (index_of entry.Memory m)
    (or_missing entry.Result (index_of entry.Result m) (or_missing entry.Status (index_of entry.Status m) others)))

-- the first entry that is missing, where a host gives no arguments
abbrev pub missing : Parts → Option Entry
missing m = missing_before m None

-- the first entry that is missing, where a host gives arguments: it asks for `heap` and `args` too
abbrev pub missing_for_call : Parts → Option Entry
missing_for_call m = missing_before m (or_missing entry.Heap (index_of entry.Heap m) (or_missing entry.Args (index_of entry.Args m) None))

-- the entry is a global
abbrev pub IsGlobalEntry : Entry → Type 0
IsGlobalEntry entry.Main = ⊥
IsGlobalEntry entry.Memory = ⊥
IsGlobalEntry entry.Result = Unit {0}
IsGlobalEntry entry.Status = Unit {0}
IsGlobalEntry entry.Heap = Unit {0}
IsGlobalEntry entry.Args = Unit {0}
