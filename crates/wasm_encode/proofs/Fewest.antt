-- No bytes that spell a module are fewer than its shortest bytes: sections and the file.
use Rattle.std.proofs.Common.{◌≡◌, ℕ, zero, suc, ◌+◌, ◌≤◌, List, [], ◌∷◌, ◌++◌, length, take, drop, Option, Some, refl, sym, ap, subst, arith, length-append}
use Rattle.std.specs.Prelude.{is_some}
use Rattle.std.proofs.lemmas.List.{length-drop}
use Rattle.wasm_core.specs.Parts.{Parts}
use Rattle.wasm_core.specs.Format.{Name, Skip}
use Rattle.wasm_core.specs.Spelling.{IsSize, SpellsPart}
use Rattle.wasm_core.specs.ModuleGrammar.{SpellsModule, Spelling, byte, finish, times, func_type, func_types, u32, indices, table, memory, global, globals, exported, exports, segment, segments, body, bodies, contents, section, section_id, next_section, last_after, is_whole}
use Rattle.wasm_core.specs.ModuleGrammar.{sections, header, file, empty}
use Rattle.wasm_core.specs.ShortestBytes.{put_u32, put_all, put_list, put_sized, put_func_type, put_table_type, put_limits, put_global, put_export, put_segment, put_body, put_section, sizes, put_sections, module_bytes}
use Rattle.wasm_core.specs.declared.sections.Section.{Section}
use Rattle.wasm_core.specs.declared.sections.Section.TheVariants as sec
use Rattle.wasm_core.proofs.Inversion.{on_makes, take_few, is_module}
use Rattle.wasm_core.proofs.Whole.{printed}
use Rattle.wasm_encode.specs.Shortest.{NoneIsShorter}
use Rattle.wasm_encode.proofs.Fewer.{Less, Spends, size, unsigned_adds, less_unsigned, less_sized, byte_spends, byte_left, finish_spends, times_spend, list_spends, name_spends, u32_spends, func_type_spends, indices_spend, table_spends, memory_spends, global_spends}
use Rattle.wasm_encode.proofs.Fewer.{exported_spends, segment_spends, body_spends}

-- ---- how many bytes sections take

-- the bytes of a section, where it isn't empty
abbrev cost : {A : Type 0} → ℕ → (A → List ℕ → List ℕ) → List A → ℕ
cost id put xs = length (put_section id put xs [])

-- the bytes of all sections
abbrev total : Parts → ℕ
total m = length (put_sections m [])

section_adds : {A : Type 0} (id : ℕ) (put : A → List ℕ → List ℕ) (xs : List A) (u : List ℕ) → length (put_section id put xs u) ≡ cost id put xs + length u
unfolding put_section
section_adds id put [] u = omega arith
section_adds id put (x ∷ xs) u =
    let part = put_list put (x ∷ xs) [] in
    let a = unsigned_adds 5 (length part) (part ++ u) in
    let b = unsigned_adds 5 (length part) (part ++ []) in
    let c = length-append part u in
    let d = length-append part [] in
    omega (arith, a, b, c, d)

-- a section takes no more than its id, and its contents with their size
cost_few : {A : Type 0} (id : ℕ) (put : A → List ℕ → List ℕ) (xs : List A) → cost id put xs ≤ 1 + length (put_sized (put_list put xs []) [])
unfolding put_section
cost_few id put [] = omega arith
cost_few id put (x ∷ xs) = omega arith

abbrev Costs : Parts → ℕ → Type 0
Costs m n = n ≡ cost 1 put_func_type m.types + (cost 3 put_u32 m.funcs + (cost 4 put_table_type (sizes m.table) + (cost 5 put_limits (sizes m.memory) + (cost 6 put_global m.globals + (cost 7 put_export m.exports + (cost 9 put_segment m.elements + cost 10 put_body m.bodies))))))

total_is : (m : Parts) → Costs m (total m)
total_is m =
    let w10 = put_section 10 put_body m.bodies [] in
    let w9 = put_section 9 put_segment m.elements w10 in
    let w7 = put_section 7 put_export m.exports w9 in
    let w6 = put_section 6 put_global m.globals w7 in
    let w5 = put_section 5 put_limits (sizes m.memory) w6 in
    let w4 = put_section 4 put_table_type (sizes m.table) w5 in
    let w3 = put_section 3 put_u32 m.funcs w4 in
    let a1 = section_adds 1 put_func_type m.types w3 in
    let a3 = section_adds 3 put_u32 m.funcs w4 in
    let a4 = section_adds 4 put_table_type (sizes m.table) w5 in
    let a5 = section_adds 5 put_limits (sizes m.memory) w6 in
    let a6 = section_adds 6 put_global m.globals w7 in
    let a7 = section_adds 7 put_export m.exports w9 in
    let a9 = section_adds 9 put_segment m.elements w10 in
    omega (arith, a1, a3, a4, a5, a6, a7, a9)

-- ---- contents

-- After these contents the module takes at most a section of this part more.
abbrev Grows : Parts → Parts → List ℕ → Type 0
Grows m n part = total n ≤ total m + 1 + length (put_sized part [])

-- the contents of a section: the module then, what is left of the part, and the part that is written instead
abbrev Contents : Parts → (Parts → Spelling) → List ℕ → List (List ℕ) → Parts → Type 0
Contents m k w ws x = (n : Parts) × (v : List ℕ) × (part : List ℕ) × (length part + length v ≤ length w) × Grows m n part × SpellsPart (k n) v ws x

bodies_spend : (funcs : ℕ) → Spends (bodies funcs) (put_list put_body)
unfolding bodies
bodies_spend funcs k w ws m (n, j, (i, f), h) =
    let (xs, e, z, q, r) = times_spend body put_body body_spends n [] k (drop j w) ws m h in
    let l : Less (put_u32 (length xs)) w (drop j w) = subst (λ n. Less (put_u32 n) w (drop j w)) (sym e) (less_unsigned w n j i) in
    (xs, z, (λ u. let a = l (put_all put_body xs u) in let b = q u in omega (arith, a, b)), r)

func_types_spend : Spends func_types (put_list put_func_type)
unfolding func_types
func_types_spend k w ws m h = list_spends func_type put_func_type func_type_spends k w ws m h

globals_spend : Spends globals (put_list put_global)
unfolding globals
globals_spend k w ws m h = list_spends global put_global global_spends k w ws m h

exports_spend : Spends exports (put_list put_export)
unfolding exports
exports_spend k w ws m h = list_spends exported put_export exported_spends k w ws m h

segments_spend : Spends segments (put_list put_segment)
unfolding segments
segments_spend k w ws m h = list_spends segment put_segment segment_spends k w ws m h

contents_spend : (s : Section) (m : Parts) (k : Parts → Spelling) (w : List ℕ) (ws : List (List ℕ)) (x : Parts) → SpellsPart (contents s m k) w ws x → Contents m k w ws x
unfolding contents
contents_spend sec.Custom m k w ws x (s, j, i, h) = (m, [], [], omega arith, omega arith, h)
contents_spend sec.Types m k w ws x h =
    let (ts, v, l, g) = func_types_spend (λ ts. k (record m { types = ts })) w ws x h in
    let a = l [] in
    let b = total_is m in
    let c = total_is (record m { types = ts }) in
    let d = cost_few 1 put_func_type ts in
    (record m { types = ts }, v, put_list put_func_type ts [], omega (arith, a), omega (arith, b, c, d), g)
contents_spend sec.Functions m k w ws x h =
    let (fs, v, l, g) = indices_spend (λ fs. k (record m { funcs = fs })) w ws x h in
    let a = l [] in
    let b = total_is m in
    let c = total_is (record m { funcs = fs }) in
    let d = cost_few 3 put_u32 fs in
    (record m { funcs = fs }, v, put_list put_u32 fs [], omega (arith, a), omega (arith, b, c, d), g)
contents_spend sec.Tables m k w ws x h =
    let (t, v, l, g) = table_spends (λ t. k (record m { table = t })) w ws x h in
    let a = l [] in
    let b = total_is m in
    let c = total_is (record m { table = t }) in
    let d = cost_few 4 put_table_type (sizes t) in
    (record m { table = t }, v, put_list put_table_type (sizes t) [], omega (arith, a), omega (arith, b, c, d), g)
contents_spend sec.Memories m k w ws x h =
    let (t, v, l, g) = memory_spends (λ t. k (record m { memory = t })) w ws x h in
    let a = l [] in
    let b = total_is m in
    let c = total_is (record m { memory = t }) in
    let d = cost_few 5 put_limits (sizes t) in
    (record m { memory = t }, v, put_list put_limits (sizes t) [], omega (arith, a), omega (arith, b, c, d), g)
contents_spend sec.Globals m k w ws x h =
    let (gs, v, l, g) = globals_spend (λ gs. k (record m { globals = gs })) w ws x h in
    let a = l [] in
    let b = total_is m in
    let c = total_is (record m { globals = gs }) in
    let d = cost_few 6 put_global gs in
    (record m { globals = gs }, v, put_list put_global gs [], omega (arith, a), omega (arith, b, c, d), g)
contents_spend sec.Exports m k w ws x h =
    let (es, v, l, g) = exports_spend (λ es. k (record m { exports = es })) w ws x h in
    let a = l [] in
    let b = total_is m in
    let c = total_is (record m { exports = es }) in
    let d = cost_few 7 put_export es in
    (record m { exports = es }, v, put_list put_export es [], omega (arith, a), omega (arith, b, c, d), g)
contents_spend sec.Elements m k w ws x h =
    let (es, v, l, g) = segments_spend (λ es. k (record m { elements = es })) w ws x h in
    let a = l [] in
    let b = total_is m in
    let c = total_is (record m { elements = es }) in
    let d = cost_few 9 put_segment es in
    (record m { elements = es }, v, put_list put_segment es [], omega (arith, a), omega (arith, b, c, d), g)
contents_spend sec.Codes m k w ws x h =
    let (bs, v, l, g) = bodies_spend (length m.funcs) (λ bs. k (record m { bodies = bs })) w ws x h in
    let a = l [] in
    let b = total_is m in
    let c = total_is (record m { bodies = bs }) in
    let d = cost_few 10 put_body bs in
    (record m { bodies = bs }, v, put_list put_body bs [], omega (arith, a), omega (arith, b, c, d), g)

-- ---- sections

-- after a section, the module then and the bytes left
section_spends : (s : Section) (m : Parts) (k : Parts → Spelling) (w : List ℕ) (x : Parts) → SpellsPart (section s m k) w [] x → (n : Parts) × (v : List ℕ) × (total n + length v ≤ total m + 1 + length w) × SpellsPart (k n) v [] x
unfolding section
section_spends s m k w x (n, j, i, h) =
    let rest = drop n (drop j w) in
    let (p, v, part, a, b, g) = contents_spend s m (λ m'. finish (k m')) (take n (drop j w)) (rest ∷ []) x h in
    let (e, r) = finish_spends (k p) v rest [] x g in
    let c = take_few n (drop j w) in
    let d = less_sized part w n j i (omega (arith, a, c)) [] in
    (p, rest, omega (arith, b, d), r)

sections_spend : (fuel last : ℕ) (m : Parts) (w : List ℕ) (x : Parts) → SpellsPart (sections fuel last m) w [] x → total x ≤ total m + length w
unfolding sections next_section
sections_spend zero last m [] x (e, q) = let l = ap total q in omega (arith, l)
sections_spend zero last m (b ∷ w) x h = absurd h
sections_spend (suc fuel) last m [] x (e, q) = let l = ap total q in omega (arith, l)
sections_spend (suc fuel) last m (b ∷ w) x (id, j, i, h) =
    let (s, e, h2) = on_makes (section_id last id) (λ s. section s m (λ m'. sections fuel (last_after last id) m')) (drop j (b ∷ w)) [] x h in
    let (n, v, l, g) = section_spends s m (λ m'. sections fuel (last_after last id) m') (drop j (b ∷ w)) x h2 in
    let ih = sections_spend fuel (last_after last id) n v x g in
    let c = byte_left (λ b. is_some (section_id last b)) (b ∷ w) id j i in
    omega (arith, l, ih, c)

-- ---- the file

nothing_empty : total empty ≡ 0
unfolding put_section
nothing_empty = refl

header_spends : (k : Spelling) (w : List ℕ) (x : Parts) → SpellsPart (header k) w [] x → (v : List ℕ) × (length v + 8 ≤ length w) × SpellsPart k v [] x
unfolding header
header_spends k w x h0 =
    let (w1, l1, h1) = byte_spends 0 (byte 97 (byte 115 (byte 109 (byte 1 (byte 0 (byte 0 (byte 0 k))))))) w [] x h0 in
    let (w2, l2, h2) = byte_spends 97 (byte 115 (byte 109 (byte 1 (byte 0 (byte 0 (byte 0 k)))))) w1 [] x h1 in
    let (w3, l3, h3) = byte_spends 115 (byte 109 (byte 1 (byte 0 (byte 0 (byte 0 k))))) w2 [] x h2 in
    let (w4, l4, h4) = byte_spends 109 (byte 1 (byte 0 (byte 0 (byte 0 k)))) w3 [] x h3 in
    let (w5, l5, h5) = byte_spends 1 (byte 0 (byte 0 (byte 0 k))) w4 [] x h4 in
    let (w6, l6, h6) = byte_spends 0 (byte 0 (byte 0 k)) w5 [] x h5 in
    let (w7, l7, h7) = byte_spends 0 (byte 0 k) w6 [] x h6 in
    let (w8, l8, h8) = byte_spends 0 k w7 [] x h7 in
    (w8, omega (arith, l1, l2, l3, l4, l5, l6, l7, l8), h8)

fewest : (bytes : List ℕ) (m : Parts) → SpellsModule bytes m → length (module_bytes m) ≤ length bytes
unfolding file module_bytes
fewest bytes m h =
    let (v, l, g) = header_spends (sections (length bytes) 0 empty) bytes m h in
    let s = sections_spend (length bytes) 0 empty v m g in
    let z = nothing_empty in
    omega (arith, l, s, z)

pub none_is_shorter : NoneIsShorter
none_is_shorter bytes m h = let l = fewest bytes m h in (l, λ few. printed m (is_module bytes m h) (omega (arith, l, few)))
