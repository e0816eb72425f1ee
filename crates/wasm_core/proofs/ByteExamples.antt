-- Bytes of modules and words of memories, by computing.
use Rattle.std.proofs.Common.{◌≡◌, ℕ, ◌^◌, ◌+◌, ◌*◌, ◌<◌, List, [], ◌∷◌, length, Some, None, true, false, refl, arith, rules}
use Rattle.std.specs.Str.{is_utf8}
use Rattle.std.proofs.lemmas.Str.{is_utf8-from_IsUtf8}
use Rattle.wasm_core.specs.declared.types.ValType.TheVariants as type
use Rattle.wasm_core.specs.declared.types.ConstValue.TheVariants.{I32, I64}
use Rattle.wasm_core.specs.declared.exports.ExportKind.TheVariants as kinds
use Rattle.wasm_core.specs.declared.instrs.Instr.{Instr}
use Rattle.wasm_core.specs.declared.instrs.Instr.TheVariants.{Nop, End, I32Const, I32Store}
use Rattle.wasm_core.specs.Parts.{Parts}
use Rattle.wasm_core.specs.Leb.{number_at}
use Rattle.wasm_core.specs.Format.{DecodeOutcome, Accepted, Refused, judge, name_at}
use Rattle.wasm_core.specs.ModuleGrammar.{file, header, sections, next_section, section, contents, func_types, func_type, val_types, val_type, func_result, indices, table, table_type, limits, limits_flag, memory, globals, global, mutability, constant, exports, exported, export_kind, segments, segment, bodies, body, locals, groups, instrs, instr, row, access, block_type, byte, u32, s32, s64, finish, times, empty}
use Rattle.wasm_core.specs.ShortestBytes.{module_bytes, put_section, put_all, put_func_type, put_limits, put_table_type, put_global, put_export, put_segment, put_instr, put_locals, runs, body_bytes, unsigned, signed}
use Rattle.wasm_core.specs.Memory.{word}
use Rattle.wasm_core.specs.WordData.{DataNodes, StandsFor, odd, block, FieldsStand, no_field, field}
use Rattle.wasm_core.proofs.Examples.{module_of, rounds}

abbrev outcome : List ℕ → DecodeOutcome Parts
outcome bytes = judge (file (length bytes)) 0 bytes []

utf8_main : is_utf8 (109 ∷ 97 ∷ 105 ∷ 110 ∷ []) ≡ true
utf8_main = is_utf8-from_IsUtf8 (109 ∷ 97 ∷ 105 ∷ 110 ∷ []) (search rules)

utf8_memory : is_utf8 (109 ∷ 101 ∷ 109 ∷ 111 ∷ 114 ∷ 121 ∷ []) ≡ true
utf8_memory = is_utf8-from_IsUtf8 (109 ∷ 101 ∷ 109 ∷ 111 ∷ 114 ∷ 121 ∷ []) (search rules)

utf8_result : is_utf8 (114 ∷ 101 ∷ 115 ∷ 117 ∷ 108 ∷ 116 ∷ []) ≡ true
utf8_result = is_utf8-from_IsUtf8 (114 ∷ 101 ∷ 115 ∷ 117 ∷ 108 ∷ 116 ∷ []) (search rules)

utf8_status : is_utf8 (115 ∷ 116 ∷ 97 ∷ 116 ∷ 117 ∷ 115 ∷ []) ≡ true
utf8_status = is_utf8-from_IsUtf8 (115 ∷ 116 ∷ 97 ∷ 116 ∷ 117 ∷ 115 ∷ []) (search rules)

utf8_a : is_utf8 (97 ∷ []) ≡ true
utf8_a = is_utf8-from_IsUtf8 (97 ∷ []) (search rules)

utf8_b : is_utf8 (98 ∷ []) ≡ true
utf8_b = is_utf8-from_IsUtf8 (98 ∷ []) (search rules)

abbrev with_body : ℕ → List Instr → Parts
with_body r code = record {
  types = record { params = []; result = None } ∷ [];
  funcs = 0 ∷ [];
  table = None;
  memory = Some (record { min = 1; max = None });
  globals = record { mutable = true; ty = type.I32; init = I32 r } ∷ record { mutable = true; ty = type.I32; init = I32 0 } ∷ [];
  exports =
      record { name = 109 ∷ 97 ∷ 105 ∷ 110 ∷ []; kind = kinds.Func; index = 0 } ∷
      record { name = 109 ∷ 101 ∷ 109 ∷ 111 ∷ 114 ∷ 121 ∷ []; kind = kinds.Memory; index = 0 } ∷
      record { name = 114 ∷ 101 ∷ 115 ∷ 117 ∷ 108 ∷ 116 ∷ []; kind = kinds.Global; index = 0 } ∷
      record { name = 115 ∷ 116 ∷ 97 ∷ 116 ∷ 117 ∷ 115 ∷ []; kind = kinds.Global; index = 1 } ∷ [];
  elements = [];
  bodies = record { locals = []; code = code } ∷ [];
}

-- a `main` that does nothing
does_nothing : outcome (0 ∷ 97 ∷ 115 ∷ 109 ∷ 1 ∷ 0 ∷ 0 ∷ 0 ∷ 1 ∷ 4 ∷ 1 ∷ 96 ∷ 0 ∷ 0 ∷ 3 ∷ 2 ∷ 1 ∷ 0 ∷ 5 ∷ 3 ∷ 1 ∷ 0 ∷ 1 ∷ 6 ∷ 11 ∷ 2 ∷ 127 ∷ 1 ∷ 65 ∷ 3 ∷ 11 ∷ 127 ∷ 1 ∷ 65 ∷ 0 ∷ 11 ∷ 7 ∷ 35 ∷ 4 ∷ 4 ∷ 109 ∷ 97 ∷ 105 ∷ 110 ∷ 0 ∷ 0 ∷ 6 ∷ 109 ∷ 101 ∷ 109 ∷ 111 ∷ 114 ∷ 121 ∷ 2 ∷ 0 ∷
    6 ∷ 114 ∷ 101 ∷ 115 ∷ 117 ∷ 108 ∷ 116 ∷ 3 ∷ 0 ∷ 6 ∷ 115 ∷ 116 ∷ 97 ∷ 116 ∷ 117 ∷ 115 ∷ 3 ∷ 1 ∷ 10 ∷ 5 ∷ 1 ∷ 3 ∷ 0 ∷ 1 ∷ 11 ∷ []) ≡ Accepted (with_body 3 (Nop ∷ End ∷ []))
unfolding file header sections next_section section contents func_types func_type val_types val_type func_result indices table table_type limits limits_flag memory globals global mutability constant exports exported export_kind
    segments segment bodies body locals groups instrs instr row access block_type byte u32 s32 s64 finish times judge number_at name_at
does_nothing = rw (utf8_main, utf8_memory, utf8_result, utf8_status) refl

-- a `main` that stores a header and a field
stores_words : outcome (0 ∷ 97 ∷ 115 ∷ 109 ∷ 1 ∷ 0 ∷ 0 ∷ 0 ∷ 1 ∷ 4 ∷ 1 ∷ 96 ∷ 0 ∷ 0 ∷ 3 ∷ 2 ∷ 1 ∷ 0 ∷ 5 ∷ 3 ∷ 1 ∷ 0 ∷ 1 ∷ 6 ∷ 11 ∷ 2 ∷ 127 ∷ 1 ∷ 65 ∷ 8 ∷ 11 ∷ 127 ∷ 1 ∷ 65 ∷ 0 ∷ 11 ∷ 7 ∷ 35 ∷ 4 ∷ 4 ∷ 109 ∷ 97 ∷ 105 ∷ 110 ∷ 0 ∷ 0 ∷ 6 ∷ 109 ∷ 101 ∷ 109 ∷ 111 ∷ 114 ∷ 121 ∷ 2 ∷ 0 ∷
    6 ∷ 114 ∷ 101 ∷ 115 ∷ 117 ∷ 108 ∷ 116 ∷ 3 ∷ 0 ∷ 6 ∷ 115 ∷ 116 ∷ 97 ∷ 116 ∷ 117 ∷ 115 ∷ 3 ∷ 1 ∷ 10 ∷ 20 ∷ 1 ∷ 18 ∷ 0 ∷ 65 ∷ 8 ∷ 65 ∷ 128 ∷ 128 ∷ 4 ∷ 54 ∷ 2 ∷ 0 ∷ 65 ∷ 12 ∷ 65 ∷ 8 ∷ 54 ∷ 2 ∷ 0 ∷ 11 ∷ []) ≡ Accepted (with_body 8
    (I32Const 8 ∷ I32Const 65536 ∷ I32Store (record { align = 2; offset = 0 }) ∷ I32Const 12 ∷ I32Const 8 ∷ I32Store (record { align = 2; offset = 0 }) ∷ End ∷ []))
unfolding file header sections next_section section contents func_types func_type val_types val_type func_result indices table table_type limits limits_flag memory globals global mutability constant exports exported export_kind
    segments segment bodies body locals groups instrs instr row access block_type byte u32 s32 s64 finish times judge number_at name_at
stores_words = rw (utf8_main, utf8_memory, utf8_result, utf8_status) refl

-- a section that comes twice is refused at its id
section_twice : outcome (0 ∷ 97 ∷ 115 ∷ 109 ∷ 1 ∷ 0 ∷ 0 ∷ 0 ∷ 1 ∷ 1 ∷ 0 ∷ 1 ∷ 1 ∷ 0 ∷ []) ≡ Refused 11
unfolding file header sections next_section section contents func_types func_type val_types val_type func_result indices table table_type limits limits_flag memory globals global mutability constant exports exported export_kind
    segments segment bodies body locals groups instrs instr row access block_type byte u32 s32 s64 finish times judge number_at name_at
section_twice = refl

-- a module with a table, a segment, blocks and branches
whole : outcome (0 ∷ 97 ∷ 115 ∷ 109 ∷ 1 ∷ 0 ∷ 0 ∷ 0 ∷ 1 ∷ 8 ∷ 2 ∷ 96 ∷ 0 ∷ 0 ∷ 96 ∷ 0 ∷ 1 ∷ 127 ∷ 3 ∷ 3 ∷ 2 ∷ 0 ∷ 1 ∷ 4 ∷ 4 ∷ 1 ∷ 112 ∷ 0 ∷ 2 ∷ 5 ∷ 4 ∷ 1 ∷ 1 ∷ 0 ∷ 1 ∷ 6 ∷ 6 ∷ 1 ∷ 127 ∷ 1 ∷ 65 ∷ 0 ∷ 11 ∷ 9 ∷ 7 ∷ 1 ∷ 0 ∷ 65 ∷ 1 ∷ 11 ∷ 1 ∷ 1 ∷ 10 ∷ 34 ∷ 2 ∷ 27 ∷ 1 ∷ 1 ∷ 127 ∷ 65 ∷
    2 ∷ 33 ∷ 0 ∷ 3 ∷ 64 ∷ 32 ∷ 0 ∷ 65 ∷ 1 ∷ 107 ∷ 34 ∷ 0 ∷ 13 ∷ 0 ∷ 11 ∷ 65 ∷ 1 ∷ 17 ∷ 1 ∷ 0 ∷ 36 ∷ 0 ∷ 11 ∷ 4 ∷ 0 ∷ 65 ∷ 7 ∷ 11 ∷ []) ≡ Accepted (module_of rounds)
unfolding file header sections next_section section contents func_types func_type val_types val_type func_result indices table table_type limits limits_flag memory globals global mutability constant exports exported export_kind
    segments segment bodies body locals groups instrs instr row access block_type byte u32 s32 s64 finish times judge number_at name_at
whole = refl

-- custom sections are dropped
custom_sections : outcome (0 ∷ 97 ∷ 115 ∷ 109 ∷ 1 ∷ 0 ∷ 0 ∷ 0 ∷ 0 ∷ 3 ∷ 1 ∷ 97 ∷ 255 ∷ 1 ∷ 8 ∷ 2 ∷ 96 ∷ 0 ∷ 0 ∷ 96 ∷ 0 ∷ 1 ∷ 127 ∷ 0 ∷ 2 ∷ 1 ∷ 98 ∷ 3 ∷ 3 ∷ 2 ∷ 0 ∷ 1 ∷ 4 ∷ 4 ∷ 1 ∷ 112 ∷ 0 ∷ 2 ∷ 5 ∷ 4 ∷ 1 ∷ 1 ∷ 0 ∷ 1 ∷ 6 ∷ 6 ∷ 1 ∷ 127 ∷ 1 ∷ 65 ∷ 0 ∷ 11 ∷ 9 ∷ 7 ∷ 1 ∷ 0 ∷ 65 ∷ 1 ∷
    11 ∷ 1 ∷ 1 ∷ 10 ∷ 34 ∷ 2 ∷ 27 ∷ 1 ∷ 1 ∷ 127 ∷ 65 ∷ 2 ∷ 33 ∷ 0 ∷ 3 ∷ 64 ∷ 32 ∷ 0 ∷ 65 ∷ 1 ∷ 107 ∷ 34 ∷ 0 ∷ 13 ∷ 0 ∷ 11 ∷ 65 ∷ 1 ∷ 17 ∷ 1 ∷ 0 ∷ 36 ∷ 0 ∷ 11 ∷ 4 ∷ 0 ∷ 65 ∷ 7 ∷ 11 ∷ []) ≡ Accepted (module_of rounds)
unfolding file header sections next_section section contents func_types func_type val_types val_type func_result indices table table_type limits limits_flag memory globals global mutability constant exports exported export_kind
    segments segment bodies body locals groups instrs instr row access block_type byte u32 s32 s64 finish times judge number_at name_at
custom_sections = rw (utf8_a, utf8_b) refl

-- the least signed number of 64 bits
long_number : outcome (0 ∷ 97 ∷ 115 ∷ 109 ∷ 1 ∷ 0 ∷ 0 ∷ 0 ∷ 6 ∷ 15 ∷ 1 ∷ 126 ∷ 0 ∷ 66 ∷ 128 ∷ 128 ∷ 128 ∷ 128 ∷ 128 ∷ 128 ∷ 128 ∷ 128 ∷ 128 ∷ 127 ∷ 11 ∷ []) ≡ Accepted (record empty { globals = record { mutable = false; ty = type.I64; init = I64 (2 ^ 63) } ∷ [] })
unfolding file header sections next_section section contents func_types func_type val_types val_type func_result indices table table_type limits limits_flag memory globals global mutability constant exports exported export_kind
    segments segment bodies body locals groups instrs instr row access block_type byte u32 s32 s64 finish times judge number_at name_at
long_number = refl

-- an `else` outside an `if` is refused at its opcode
stray_else : outcome (0 ∷ 97 ∷ 115 ∷ 109 ∷ 1 ∷ 0 ∷ 0 ∷ 0 ∷ 1 ∷ 4 ∷ 1 ∷ 96 ∷ 0 ∷ 0 ∷ 3 ∷ 2 ∷ 1 ∷ 0 ∷ 10 ∷ 5 ∷ 1 ∷ 3 ∷ 0 ∷ 5 ∷ 11 ∷ []) ≡ Refused 23
unfolding file header sections next_section section contents func_types func_type val_types val_type func_result indices table table_type limits limits_flag memory globals global mutability constant exports exported export_kind
    segments segment bodies body locals groups instrs instr row access block_type byte u32 s32 s64 finish times judge number_at name_at
stray_else = refl

-- functions without code are refused at the end of the file
no_codes : outcome (0 ∷ 97 ∷ 115 ∷ 109 ∷ 1 ∷ 0 ∷ 0 ∷ 0 ∷ 1 ∷ 4 ∷ 1 ∷ 96 ∷ 0 ∷ 0 ∷ 3 ∷ 2 ∷ 1 ∷ 0 ∷ []) ≡ Refused 18
unfolding file header sections next_section section contents func_types func_type val_types val_type func_result indices table table_type limits limits_flag memory globals global mutability constant exports exported export_kind
    segments segment bodies body locals groups instrs instr row access block_type byte u32 s32 s64 finish times judge number_at name_at
no_codes = refl

-- the shortest bytes of that module
shortest : module_bytes (module_of rounds) ≡ 0 ∷ 97 ∷ 115 ∷ 109 ∷ 1 ∷ 0 ∷ 0 ∷ 0 ∷ 1 ∷ 8 ∷ 2 ∷ 96 ∷ 0 ∷ 0 ∷ 96 ∷ 0 ∷ 1 ∷ 127 ∷ 3 ∷ 3 ∷ 2 ∷ 0 ∷ 1 ∷ 4 ∷ 4 ∷ 1 ∷ 112 ∷ 0 ∷ 2 ∷ 5 ∷ 4 ∷ 1 ∷ 1 ∷ 0 ∷ 1 ∷ 6 ∷ 6 ∷ 1 ∷ 127 ∷ 1 ∷ 65 ∷ 0 ∷ 11 ∷ 9 ∷ 7 ∷ 1 ∷ 0 ∷ 65 ∷ 1 ∷
    11 ∷ 1 ∷ 1 ∷ 10 ∷ 34 ∷ 2 ∷ 27 ∷ 1 ∷ 1 ∷ 127 ∷ 65 ∷ 2 ∷ 33 ∷ 0 ∷ 3 ∷ 64 ∷ 32 ∷ 0 ∷ 65 ∷ 1 ∷ 107 ∷ 34 ∷ 0 ∷ 13 ∷ 0 ∷ 11 ∷ 65 ∷ 1 ∷ 17 ∷ 1 ∷ 0 ∷ 36 ∷ 0 ∷ 11 ∷ 4 ∷ 0 ∷ 65 ∷ 7 ∷ 11 ∷ []
unfolding module_bytes put_section put_all put_func_type put_limits put_table_type put_global put_export put_segment put_instr put_locals runs body_bytes unsigned signed
shortest = refl

-- at 8 the block of constructor 1 with the constructor 0 in its one field
abbrev one : List ℕ
one = 0 ∷ 0 ∷ 0 ∷ 0 ∷ 0 ∷ 0 ∷ 0 ∷ 0 ∷ 1 ∷ 0 ∷ 1 ∷ 0 ∷ 1 ∷ 0 ∷ 0 ∷ 0 ∷ []

head_of_one : word one 8 ≡ 1 * 65536 + 1
unfolding word
head_of_one = refl

value : word one 12 ≡ 2 * 0 + 1
unfolding word
value = refl

stands : StandsFor one 8 ((1, 1) ∷ (0, 0) ∷ [])
stands = block (record { quarter = 2; aligned = refl; there = omega arith; some = omega arith; small = omega arith; header = head_of_one; inside = omega arith })
    (field {first = (0, 0) ∷ []} {others = []} (odd {c = 0} value) (λ q e. absurd (omega (arith, e, value))) no_field)

-- a block whose field is its own address stands for nothing
abbrev itself : List ℕ
itself = 0 ∷ 0 ∷ 0 ∷ 0 ∷ 0 ∷ 0 ∷ 0 ∷ 0 ∷ 0 ∷ 0 ∷ 1 ∷ 0 ∷ 8 ∷ 0 ∷ 0 ∷ 0 ∷ []

head : word itself 8 ≡ 65536
unfolding word
head = refl

own : word itself 12 ≡ 8
unfolding word
own = refl

own_field : (arity left : ℕ) (d : DataNodes) → left ≡ 1 → FieldsStand itself 8 12 left d → ⊥
own_field arity left d e no_field = absurd (omega arith)
own_field arity left d e (field s l f) = let b : word itself 12 < 8 = l 2 own in omega (arith, b, own)

stands_for_nothing : (d : DataNodes) → StandsFor itself 8 d → ⊥
stands_for_nothing d (odd {c = c} e) = omega arith
stands_for_nothing d (block {c = c} {arity = a} {fields = fields} b f) =
    let h = b.header in let s = b.small in let n = b.some in own_field a a fields (omega (arith, h, s, n, head)) f
