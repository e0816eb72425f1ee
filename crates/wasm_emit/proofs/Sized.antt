-- How long the bytes are of what every emitted module has.
use Rattle.std.proofs.Common.{◌≡◌, ℕ, ◌+◌, ◌*◌, ◌≤◌, List, [], ◌∷◌, ◌++◌, length, length-append, Some, refl, arith}
use Rattle.std.specs.Prelude.{codes}
use Rattle.wasm_core.specs.declared.instrs.Instr.TheVariants.{End}
use Rattle.wasm_core.specs.declared.instrs.Body.{Body}
use Rattle.wasm_core.specs.declared.exports.Export.{Export}
use Rattle.wasm_core.specs.declared.exports.ExportKind.TheVariants as kind
use Rattle.wasm_core.specs.Parts.{Parts}
use Rattle.wasm_core.specs.ShortestBytes.{put_u32, put_all, put_list, put_body, put_section, put_segment, put_sections, put_table_type, put_limits, put_global, put_export, kind_code, put_instr, unsigned, signed, module_bytes}
use Rattle.wasm_emit.specs.EmittedModule.{word_global, body, room_code}
use Rattle.wasm_emit.specs.EmittedCode.{ConstWord}
use Rattle.wasm_emit.specs.Emission.{exports_with}
use Rattle.wasm_emit.proofs.Lengths.{u_any, s_any, size, body_size}

pub no_bytes : size [] ≡ 0
unfolding put_all
no_bytes = refl

-- a section: its id, its size, its count, and its items
pub section_size : {A : Type 0} (id : ℕ) (one : A → List ℕ → List ℕ) (xs : List A) (w : List ℕ) → length (put_section id one xs w) ≤ 11 + length (put_all one xs []) + length w
unfolding put_section
section_size id one [] w = omega arith
section_size id one (x ∷ xs) w =
    let part = put_list one (x ∷ xs) [] in
    omega (arith, u_any 5 (length part) (part ++ w), length-append part w, u_any 5 (length (x ∷ xs)) (put_all one (x ∷ xs) []))

-- items of at most k bytes each
pub items_size : {A : Type 0} (k : ℕ) (one : A → List ℕ → List ℕ) (xs : List A) (w : List ℕ) → ((x : A) (w : List ℕ) → length (one x w) ≤ k + length w) → length (put_all one xs w) ≤ k * length xs + length w
unfolding put_all
items_size k one [] w h = omega arith
items_size k one (x ∷ xs) w h = omega (arith, h x (put_all one xs w), items_size k one xs w h)

-- the parts that are the same in all modules
pub room_size : size room_code ≤ 100
unfolding put_all put_instr unsigned signed
room_size = omega arith

pub box_size : size (ConstWord 0 ∷ End ∷ []) ≤ 10
unfolding put_all put_instr unsigned signed
box_size = omega arith

pub globals_size : length (put_all put_global (word_global 0 ∷ word_global 0 ∷ word_global 8 ∷ []) []) ≤ 30
unfolding put_all put_global signed
globals_size = omega arith

-- with one number each
pub limits_size : (lo hi : ℕ) (w : List ℕ) → length (put_limits (record { min = lo; max = Some hi }) w) ≤ 11 + length w
unfolding put_limits
limits_size lo hi w = omega (arith, u_any 5 lo (put_u32 hi w), u_any 5 hi w)

pub table_size : (n : ℕ) → length (put_all put_table_type (record { min = n; max = Some n } ∷ []) []) ≤ 12
unfolding put_all put_table_type
table_size n = omega (arith, limits_size n n [])

pub memory_size : (n : ℕ) → length (put_all put_limits (record { min = 1; max = Some n } ∷ []) []) ≤ 11
unfolding put_all
memory_size n = limits_size 1 n []

pub export_size : (e : Export) (w : List ℕ) → length (put_export e w) ≤ 11 + length e.name + length w
unfolding put_export
export_size e w = omega (arith, u_any 5 (length e.name) (e.name ++ (kind_code e.kind ∷ put_u32 e.index w)), length-append e.name (kind_code e.kind ∷ put_u32 e.index w), u_any 5 e.index w)

pub exports_size : (main : ℕ) → length (put_all put_export (exports_with main) []) ≤ 68
unfolding put_all
exports_size main =
    let e3 : Export = record { name = codes "status"; kind = kind.Global; index = 1 } in
    let e2 : Export = record { name = codes "result"; kind = kind.Global; index = 0 } in
    let e1 : Export = record { name = codes "memory"; kind = kind.Memory; index = 0 } in
    let e0 : Export = record { name = codes "main"; kind = kind.Func; index = main } in
    omega (arith, export_size e3 [], export_size e2 (put_export e3 []), export_size e1 (put_export e2 (put_export e3 [])), export_size e0 (put_export e1 (put_export e2 (put_export e3 []))))

pub segment_size : (n : ℕ) (fs : List ℕ) → length (put_all put_segment (record { offset = n; funcs = fs } ∷ []) []) ≤ 13 + 5 * length fs
unfolding put_all put_segment
segment_size n fs = omega (arith, s_any 5 32 n (11 ∷ put_list put_u32 fs []), u_any 5 (length fs) (put_all put_u32 fs []), items_size 5 put_u32 fs [] (λ x w. u_any 5 x w))

pub first_bodies : (bs : List Body) → length (put_all put_body (body 0 room_code ∷ body 0 (ConstWord 0 ∷ End ∷ []) ∷ bs) []) ≤ 144 + length (put_all put_body bs [])
unfolding put_all
first_bodies bs = omega (arith, body_size 0 room_code (put_body (body 0 (ConstWord 0 ∷ End ∷ [])) (put_all put_body bs [])), room_size, body_size 0 (ConstWord 0 ∷ End ∷ []) (put_all put_body bs []), box_size)

pub header_size : (m : Parts) → length (module_bytes m) ≡ 8 + length (put_sections m [])
unfolding module_bytes
header_size m = omega arith
