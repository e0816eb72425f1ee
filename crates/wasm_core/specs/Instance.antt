-- What a module is when its run starts: its functions, its table and the store (WebAssembly Core Specification, section 4.5.4).
use Rattle.std.specs.Prelude.{ℕ, ◌+◌, List, [], ◌∷◌, length, Bool, true, ◌&&◌, Option, Some, None, nat_le, replicate, slice_get, slice_set, suc}
use Rattle.std.specs.Option.{option_and_then, unwrap_or}
use Rattle.wasm_core.specs.declared.types.ValType.{ValType}
use Rattle.wasm_core.specs.declared.types.ValType.TheVariants as type
use Rattle.wasm_core.specs.declared.types.FuncType.{FuncType}
use Rattle.wasm_core.specs.declared.types.Limits.{Limits}
use Rattle.wasm_core.specs.declared.types.ConstValue.{ConstValue}
use Rattle.wasm_core.specs.declared.types.ConstValue.TheVariants.{I32, I64}
use Rattle.wasm_core.specs.declared.elements.Segment.{Segment}
use Rattle.wasm_core.specs.declared.instrs.Body.{Body}
use Rattle.wasm_core.specs.Parts.{Parts}

-- a function: its type and its body
pub record Func : Type 0 where
  pub type : FuncType
  pub body : Body

abbrev pub func_with : Parts → ℕ → ℕ → Option Func
func_with m f index =
    option_and_then (λ t. option_and_then (λ b. Some (record { type = t; body = b })) (slice_get m.bodies f)) (slice_get m.types index)

-- the function with this index
abbrev pub func_of : Parts → ℕ → Option Func
func_of m f = option_and_then (λ index. func_with m f index) (slice_get m.funcs f)

-- a limit, or a bound where there is none
abbrev pub least : Option Limits → ℕ
least None = 0
least (Some l) = l.min

-- the pages that a module's memory may have at most: its maximum, or 65,536 for a memory without one
abbrev pub greatest_pages : Option Limits → ℕ
greatest_pages None = 0
greatest_pages (Some l) = unwrap_or l.max 65536

-- an entry of a table: a function's index, or nothing
abbrev pub TableEntries : Type 0
TableEntries = List (Option ℕ)

-- these functions stand in the table from a place on
abbrev pub put_funcs : TableEntries → ℕ → List ℕ → TableEntries
put_funcs entries i [] = entries
put_funcs entries i (f ∷ fs) = put_funcs (slice_set entries i (Some f)) (suc i) fs

abbrev pub put_segments : TableEntries → List Segment → TableEntries
put_segments entries [] = entries
put_segments entries (s ∷ segments) = put_segments (put_funcs entries s.offset s.funcs) segments

-- the table: empty entries, into which the segments are put in order
unfoldable pub table_of : Parts → TableEntries
table_of m = put_segments (replicate (least m.table) None) m.elements

abbrev pub segment_fits : ℕ → Segment → Bool
segment_fits size s = nat_le (s.offset + length s.funcs) size

abbrev pub all_fit : ℕ → List Segment → Bool
all_fit size [] = true
all_fit size (s ∷ segments) = segment_fits size s && all_fit size segments

-- the element segments fit the table
abbrev pub segments_fit : Parts → Bool
segments_fit m = all_fit (least m.table) m.elements

-- the first value of a local
abbrev pub zero_of : ValType → ConstValue
zero_of type.I32 = I32 0
zero_of type.I64 = I64 0
