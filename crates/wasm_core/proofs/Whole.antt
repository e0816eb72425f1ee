-- The shortest bytes of a whole module spell it.
use Rattle.std.proofs.Common.{◌≡◌, ℕ, zero, suc, ◌+◌, ◌-◌, ◌/◌, ◌%◌, ◌^◌, ◌<◌, ◌≤◌, List, [], ◌∷◌, ◌++◌, length, Option, Some, None, Bool, true, false, refl, sym, ap, subst, arith, append_assoc, append-nil, length-append}
use Rattle.std.specs.Prelude.{nat_le, nat_eq, if◌then◌else◌, replicate, is_some}
use Rattle.std.proofs.lemmas.Bool.{le-leb, lt-ltb, eq-eqb, ne_eqb, or_right}
use Rattle.std.proofs.lemmas.List.{length-replicate}
use Rattle.wasm_core.specs.Spelling.{SpellsPart}
use Rattle.wasm_core.specs.Parts.{Parts}
use Rattle.wasm_core.specs.ModuleCondition.{All, IsU32, IsVector, IsFuncType, AreSizes, IsGlobal, IsExport, IsSegment, IsBody, IsModule}
use Rattle.wasm_core.specs.ModuleGrammar.{SpellsModule, Spelling, u32, times, val_type, func_type, func_types, indices, table, segment, segments, last_after, memory, global, globals, exports, exported, bodies, body, groups, locals, instrs, contents, section, section_id, next_section, sections, sections_by_id, find, on, header, file, empty, finish}
use Rattle.wasm_core.specs.ShortestBytes.{signed, is_low, is_high, unsigned, put_u32, put_all, put_list, put_sized, put_val_type, put_func_type, put_limits, put_global, put_export, put_segment, put_table_type, put_instr, runs, put_run, put_locals, body_bytes, put_body, put_section, sizes, put_sections, put_header, module_bytes}
use Rattle.wasm_core.specs.declared.types.ValType.{ValType}
use Rattle.wasm_core.specs.declared.types.Limits.{Limits}
use Rattle.wasm_core.specs.declared.instrs.Instr.{Instr}
use Rattle.wasm_core.specs.declared.instrs.Instr.TheVariants as instructions
use Rattle.wasm_core.specs.declared.instrs.Body.{Body}
use Rattle.wasm_core.specs.declared.sections.Section.{Section}
use Rattle.wasm_core.specs.declared.sections.Section.TheVariants as sec
use Rattle.wasm_core.proofs.Longer.{u32_longer, sized_longer}
use Rattle.wasm_core.proofs.Locals.{expand, runs_expand, runs_few}
use Rattle.wasm_core.proofs.Printed.{Prints, byte_printed, u32_printed, number_printed, unsigned_before, size_printed, finish_printed, times_printed, val_type_printed, func_type_printed, limits_printed, global_printed, exported_printed, table_type_printed, segment_printed, instrs_printed}

-- ---- locals

groups_printed : (ws : List (List ℕ)) (m : Parts) (rs : List (ℕ × ValType)) (done : List ValType) → length (done ++ expand rs) ≤ 50000 → (k : List ValType → Spelling) (w : List ℕ) → SpellsPart (k (done ++ expand rs)) w ws m → SpellsPart (groups (length rs) done k) (put_all put_run rs w) ws m
unfolding groups put_all expand
groups_printed ws m [] done l k w h = subst (λ xs. SpellsPart (k xs) w ws m) (append-nil done) h
groups_printed ws m (r ∷ rs) done l k w h =
    let same : (done ++ replicate r.0 r.1) ++ expand rs ≡ done ++ (replicate r.0 r.1 ++ expand rs) = append_assoc done (replicate r.0 r.1) (expand rs) in
    let a = length-append done (replicate r.0 r.1 ++ expand rs) in
    let b = length-append (replicate r.0 r.1) (expand rs) in
    let c = length-replicate r.0 r.1 in
    let few : length done + r.0 ≤ 50000 = omega (arith, l, a, b, c) in
    let small : r.0 < 2 ^ 32 = omega (arith, few) in
    number_printed ws m false 32 (λ c. nat_le (length done + c) 50000) (λ c. val_type (λ t. groups (length rs) (done ++ replicate c t) k)) (put_run r (put_all put_run rs w)) r.0 (put_val_type r.1 (put_all put_run rs w)) (unsigned_before 5 32 r.0 _ (omega arith) (omega arith) small) (le-leb _ _ few)
    (val_type_printed ws m r.1 (λ t. groups (length rs) (done ++ replicate r.0 t) k) (put_all put_run rs w) (groups_printed ws m rs (done ++ replicate r.0 r.1) (subst (λ xs. length xs ≤ 50000) (sym same) l) k w (subst (λ xs. SpellsPart (k xs) w ws m) (sym same) h)))

locals_printed : (ws : List (List ℕ)) (m : Parts) (ts : List ValType) → length ts ≤ 50000 → (k : List ValType → Spelling) (w : List ℕ) → SpellsPart (k ts) w ws m → SpellsPart (locals k) (put_locals ts w) ws m
unfolding locals put_locals
locals_printed ws m ts l k w h =
    let e = runs_expand ts in
    let f = runs_few ts in
    u32_printed ws m _ (length (runs ts)) _ (omega (arith, f, l)) (groups_printed ws m (runs ts) [] (subst (λ xs. length xs ≤ 50000) (sym e) l) k w (subst (λ xs. SpellsPart (k xs) w ws m) (sym e) h))

-- ---- bodies: each instruction takes a byte at least

abbrev Longer : (List ℕ → List ℕ) → Type 0
Longer put = (w : List ℕ) → length w ≤ length (put w)

all_longer : {A : Type 0} (one : A → List ℕ → List ℕ) → ((x : A) → Longer (one x)) → (xs : List A) → Longer (put_all one xs)
unfolding put_all
all_longer one f [] w = omega arith
all_longer one f (x ∷ xs) w = let a = f x (put_all one xs w) in let b = all_longer one f xs w in omega (arith, a, b)

signed_longer : (g bits n : ℕ) (w : List ℕ) → length w ≤ length (signed g bits n w)
unfolding signed
signed_longer zero bits n w = omega arith
signed_longer (suc g) bits n w =
    let more = (n % 128 + 128) ∷ signed g (bits - 7) (n / 128) w in
    let goal : (c d : Bool) → length w ≤ length (if c then n ∷ w else if d then (128 - (2 ^ bits - n)) ∷ w else more) =
    λ c d. elim c as (λ c. length w ≤ length (if c then n ∷ w else if d then (128 - (2 ^ bits - n)) ∷ w else more)) [
      | true ↦ omega arith
      | false ↦ elim d as (λ d. length w ≤ length (if d then (128 - (2 ^ bits - n)) ∷ w else more)) [ true ↦ omega arith | false ↦ (let h = signed_longer g (bits - 7) (n / 128) w in omega (arith, h)) ]
    ] in
    goal (is_low bits n) (is_high bits n)

list_longer : (ns : List ℕ) → (w : List ℕ) → length w ≤ length (put_list put_u32 ns w)
list_longer ns w = let a = all_longer put_u32 (λ n w. let h = u32_longer n w in omega (arith, h)) ns w in let b = u32_longer (length ns) (put_all put_u32 ns w) in omega (arith, a, b)

instr_longer : (i : Instr) (w : List ℕ) → length w + 1 ≤ length (put_instr i w)
unfolding put_instr
instr_longer instructions.Unreachable w = omega arith
instr_longer instructions.Nop w = omega arith
instr_longer (instructions.Block t) w = omega arith
instr_longer (instructions.Loop t) w = omega arith
instr_longer (instructions.If t) w = omega arith
instr_longer instructions.Else w = omega arith
instr_longer instructions.End w = omega arith
instr_longer (instructions.Br n) w = let h = u32_longer n w in omega (arith, h)
instr_longer (instructions.BrIf n) w = let h = u32_longer n w in omega (arith, h)
instr_longer (instructions.BrTable l ls) w = let h = u32_longer l w in let g = list_longer ls (put_u32 l w) in omega (arith, h, g)
instr_longer instructions.Return w = omega arith
instr_longer (instructions.Call n) w = let h = u32_longer n w in omega (arith, h)
instr_longer (instructions.CallIndirect index table) w = let h = u32_longer table w in let g = u32_longer index (put_u32 table w) in omega (arith, h, g)
instr_longer (instructions.ReturnCall n) w = let h = u32_longer n w in omega (arith, h)
instr_longer (instructions.ReturnCallIndirect index table) w = let h = u32_longer table w in let g = u32_longer index (put_u32 table w) in omega (arith, h, g)
instr_longer instructions.Drop w = omega arith
instr_longer (instructions.LocalGet n) w = let h = u32_longer n w in omega (arith, h)
instr_longer (instructions.LocalSet n) w = let h = u32_longer n w in omega (arith, h)
instr_longer (instructions.LocalTee n) w = let h = u32_longer n w in omega (arith, h)
instr_longer (instructions.GlobalGet n) w = let h = u32_longer n w in omega (arith, h)
instr_longer (instructions.GlobalSet n) w = let h = u32_longer n w in omega (arith, h)
instr_longer (instructions.I32Load a) w = let h = u32_longer a.offset w in let g = u32_longer a.align (put_u32 a.offset w) in omega (arith, h, g)
instr_longer (instructions.I32Load8U a) w = let h = u32_longer a.offset w in let g = u32_longer a.align (put_u32 a.offset w) in omega (arith, h, g)
instr_longer (instructions.I32Store a) w = let h = u32_longer a.offset w in let g = u32_longer a.align (put_u32 a.offset w) in omega (arith, h, g)
instr_longer (instructions.I32Store8 a) w = let h = u32_longer a.offset w in let g = u32_longer a.align (put_u32 a.offset w) in omega (arith, h, g)
instr_longer instructions.MemorySize w = omega arith
instr_longer instructions.MemoryGrow w = omega arith
instr_longer (instructions.I32Const n) w = let h = signed_longer 5 32 n w in omega (arith, h)
instr_longer (instructions.I64Const n) w = let h = signed_longer 10 64 n w in omega (arith, h)
instr_longer (instructions.I32 op) w = omega arith

instrs_longer : (is : List Instr) (w : List ℕ) → length is + length w ≤ length (put_all put_instr is w)
unfolding put_all
instrs_longer [] w = omega arith
instrs_longer (i ∷ is) w = let a = instr_longer i (put_all put_instr is w) in let b = instrs_longer is w in omega (arith, a, b)

run_longer : (r : ℕ × ValType) → Longer (put_run r)
run_longer r w = let h = u32_longer r.0 (put_val_type r.1 w) in omega (arith, h)

locals_longer : (ts : List ValType) → Longer (put_locals ts)
unfolding put_locals
locals_longer ts w = let a = all_longer put_run run_longer (runs ts) w in let b = u32_longer (length (runs ts)) (put_all put_run (runs ts) w) in omega (arith, a, b)

body_longer : (b : Body) → length b.code ≤ length (body_bytes b)
unfolding body_bytes
body_longer b = let a = instrs_longer b.code [] in let c = locals_longer b.locals (put_all put_instr b.code []) in omega (arith, a, c)

-- a body whose bytes can be counted
abbrev IsSized : Body → Type 0
IsSized b = IsBody b × IsU32 (length (body_bytes b))

body_printed : (ws : List (List ℕ)) (m : Parts) (b : Body) → IsSized b → Prints ws m body put_body b
unfolding body body_bytes
body_printed ws m b ((few, closed), small) k w h =
    size_printed ws m (λ n. locals (λ ls. instrs n (false ∷ []) [] (λ is. finish (k (record { locals = ls; code = is }))))) (body_bytes b) w small
    (locals_printed (w ∷ ws) m b.locals few (λ ls. instrs (length (body_bytes b)) (false ∷ []) [] (λ is. finish (k (record { locals = ls; code = is })))) (put_all put_instr b.code [])
    (instrs_printed (w ∷ ws) m (length (body_bytes b)) (false ∷ []) b.code [] (body_longer b) closed (λ is. finish (k (record { locals = b.locals; code = is }))) []
    (finish_printed ws m (k b) w h)))

bodies_sized : (bs : List Body) (w : List ℕ) → All IsBody bs → IsU32 (length (put_all put_body bs w)) → All IsSized bs
unfolding put_all
bodies_sized [] w a l = tt
bodies_sized (b ∷ bs) w (p, a) l =
    let s = sized_longer (body_bytes b) (put_all put_body bs w) in
    ((p, omega (arith, s, l)), bodies_sized bs w a (omega (arith, s, l)))

-- ---- sections

all_prints : {A : Type 0} (ws : List (List ℕ)) (m : Parts) (P : A → Type 0) (one : (A → Spelling) → Spelling) (put : A → List ℕ → List ℕ) → ((x : A) → P x → Prints ws m one put x) → (xs : List A) → All P xs → All (Prints ws m one put) xs
all_prints ws m P one put f [] a = tt
all_prints ws m P one put f (x ∷ xs) (p, a) = (f x p, all_prints ws m P one put f xs a)

list_printed : {A : Type 0} (ws : List (List ℕ)) (m : Parts) (P : A → Type 0) (one : (A → Spelling) → Spelling) (put : A → List ℕ → List ℕ) → ((x : A) → P x → Prints ws m one put x) → (xs : List A) → IsVector P xs → Prints ws m (λ k. u32 (λ n. times n one [] k)) (put_list put) xs
list_printed ws m P one put f xs (l, a) k w h = u32_printed ws m (λ n. times n one [] k) (length xs) (put_all put xs w) l (times_printed ws m one put xs [] (all_prints ws m P one put f xs a) k w h)

memory_printed : (ws : List (List ℕ)) (m : Parts) (l : Option Limits) → AreSizes l → Prints ws m memory (λ l w. put_list put_limits (sizes l) w) l
unfolding memory put_all unsigned
memory_printed ws m None i k w h = (0, 1, ((omega arith, (omega arith, omega arith, refl)), refl), h)
memory_printed ws m (Some l) i k w h = (1, 1, ((omega arith, (omega arith, omega arith, refl)), refl), limits_printed ws m l i (λ l. k (Some l)) w h)

table_printed : (ws : List (List ℕ)) (m : Parts) (l : Option Limits) → AreSizes l → Prints ws m table (λ l w. put_list put_table_type (sizes l) w) l
unfolding table put_all unsigned
table_printed ws m None i k w h = (0, 1, ((omega arith, (omega arith, omega arith, refl)), refl), h)
table_printed ws m (Some l) i k w h = (1, 1, ((omega arith, (omega arith, omega arith, refl)), refl), table_type_printed ws m l i (λ l. k (Some l)) w h)

bodies_printed : (ws : List (List ℕ)) (m : Parts) (funcs : ℕ) (bs : List Body) → length bs ≡ funcs → IsU32 (length bs) → All IsSized bs → Prints ws m (bodies funcs) (put_list put_body) bs
unfolding bodies
bodies_printed ws m funcs bs e l a k w h =
    number_printed ws m false 32 (λ n. nat_eq n funcs) (λ n. times n body [] k) (put_list put_body bs w) (length bs) (put_all put_body bs w) (unsigned_before 5 32 (length bs) _ (omega arith) (omega arith) l) (eq-eqb _ _ e)
    (times_printed ws m body put_body bs [] (all_prints ws m IsSized body put_body (λ b p. body_printed ws m b p) bs a) k w h)

-- From this module on, these bytes spell the whole, if the last id was less than `hi` and at least n sections may come.
abbrev Later : Parts → Parts → ℕ → ℕ → List ℕ → Type 0
Later x m hi n w = (f last : ℕ) → n ≤ f → last < hi → SpellsPart (sections f last m) w [] x

section_printed : (x m m1 : Parts) (which : Section) (id f last : ℕ) (part w : List ℕ) → section_id last id ≡ Some which → IsU32 (length part) → ((k : Parts → Spelling) → SpellsPart (k m1) [] (w ∷ []) x → SpellsPart (contents which m k) part (w ∷ []) x) → SpellsPart (sections f
    (last_after last id) m1) w [] x → SpellsPart (sections (suc f) last m) (id ∷ put_sized part w) [] x
unfolding sections next_section section
section_printed x m m1 which id f last part w e l c h =
    let inside : SpellsPart (section which m (λ m'. sections f (last_after last id) m')) (put_sized part w) [] x =
    size_printed [] x (λ n. contents which m (λ m'. finish (sections f (last_after last id) m'))) part w l (c (λ m'. finish (sections f (last_after last id) m')) (finish_printed [] x (sections f (last_after last id) m1) w h)) in
    (id, 1, (refl, (_, refl), ap is_some e), subst (λ (o : Option Section). SpellsPart (on o (λ s. section s m (λ m'. sections f (last_after last id) m'))) (put_sized part w) [] x) (sym e) inside)

lower : (x m : Parts) (lo hi n : ℕ) (w : List ℕ) → lo ≤ hi → Later x m hi n w → Later x m lo n w
lower x m lo hi n w h later = λ f last a b. later f last a (omega (arith, b, h))

whole_at : (x : Parts) (f last : ℕ) → length x.funcs ≡ length x.bodies → SpellsPart (sections f last x) [] [] x
unfolding sections
whole_at x zero last e = (eq-eqb _ _ e, refl)
whole_at x (suc f) last e = (eq-eqb _ _ e, refl)

later_id : (last id : ℕ) (which : Section) → last < id → find id sections_by_id ≡ Some which → section_id last id ≡ Some which
later_id last id which l e = subst (λ (b : Bool). (if b then find id sections_by_id else None) ≡ Some which) (sym (or_right (nat_eq id 0) _ (lt-ltb last id l))) e

last_is : (last id : ℕ) → last < id → last_after last id ≡ id
last_is last id l = ap (λ (b : Bool). if b then last else id) (ne_eqb id 0 (λ e. omega arith))

more_printed : (x m m1 : Parts) (which : Section) (id hi n : ℕ) (part w : List ℕ) → find id sections_by_id ≡ Some which → hi ≤ id → IsU32 (length part) → ((k : Parts → Spelling) → SpellsPart (k m1) [] (w ∷ []) x → SpellsPart (contents which m k) part (w ∷ []) x) → Later x m1 (id +
    1) n w → (f last : ℕ) → n + 1 ≤ f → last < hi → SpellsPart (sections f last m) (id ∷ put_sized part w) [] x
more_printed x m m1 which id hi n part w e g l c later zero last a b = absurd (omega (arith, a))
more_printed x m m1 which id hi n part w e g l c later (suc f) last a b =
    let s : section_id last id ≡ Some which = later_id last id which (omega (arith, b, g)) e in
    section_printed x m m1 which id f last part w s l c (subst (λ i. SpellsPart (sections f i m1) w [] x) (sym (last_is last id (omega (arith, b, g)))) (later f id (omega (arith, a)) (omega arith)))

step_printed : {A : Type 0} (x m m1 : Parts) (which : Section) (id hi n : ℕ) (put : A → List ℕ → List ℕ) (xs : List A) (w : List ℕ) → find id sections_by_id ≡ Some which → hi ≤ id → IsU32 (length (put_list put xs [])) → (xs ≡ [] → m1 ≡ m) → ((k : Parts → Spelling) → SpellsPart (k m1)
    [] (w ∷ []) x → SpellsPart (contents which m k) (put_list put xs []) (w ∷ []) x) → Later x m1 (id + 1) n w → Later x m hi (n + 1) (put_section id put xs w)
unfolding put_section
step_printed x m m1 which id hi n put [] w e g s none c later = λ f last a b. subst (λ m. SpellsPart (sections f last m) w [] x) (none refl) (later f last (omega (arith, a)) (omega (arith, b, g)))
step_printed x m m1 which id hi n put (y ∷ ys) w e g s none c later = more_printed x m m1 which id hi n (put_list put (y ∷ ys) []) w e g s c later

no_memory : (l : Option Limits) → sizes l ≡ [] → l ≡ None
no_memory None e = refl
no_memory (Some l) e = absurd cc

-- ---- sizes: a section of a file that can be counted can be counted

section_longer : {A : Type 0} (id : ℕ) (one : A → List ℕ → List ℕ) (xs : List A) → Longer (put_section id one xs)
unfolding put_section
section_longer id one [] w = omega arith
section_longer id one (x ∷ xs) w = let a = sized_longer (put_list one (x ∷ xs) []) w in omega (arith, a)

part_small : {A : Type 0} (id : ℕ) (one : A → List ℕ → List ℕ) (xs : List A) (w : List ℕ) → IsU32 (length (put_section id one xs w)) → IsU32 (length (put_list one xs []))
unfolding put_section put_all unsigned
part_small id one [] w l = omega arith
part_small id one (x ∷ xs) w l = let a = sized_longer (put_list one (x ∷ xs) []) w in omega (arith, a, l)

rest_small : {A : Type 0} (id : ℕ) (one : A → List ℕ → List ℕ) (xs : List A) (w : List ℕ) → IsU32 (length (put_section id one xs w)) → IsU32 (length w)
rest_small id one xs w l = let a = section_longer id one xs w in omega (arith, a, l)

header_printed : (x : Parts) (k : Spelling) (w : List ℕ) → SpellsPart k w [] x → SpellsPart (header k) (put_header w) [] x
unfolding header
header_printed x k w h = byte_printed [] x 0 _ _ (byte_printed [] x 97 _ _ (byte_printed [] x 115 _ _ (byte_printed [] x 109 _ _ (byte_printed [] x 1 _ _ (byte_printed [] x 0 _ _ (byte_printed [] x 0 _ _ (byte_printed [] x 0 _ _ h)))))))

sections_printed : (x : Parts) → IsModule x → IsU32 (length (put_sections x [])) → Later x empty 1 8 (put_sections x [])
unfolding contents func_types indices globals exports segments
sections_printed x i l1 =
    let m1 : Parts = record { types = x.types; funcs = []; table = None; memory = None; globals = []; exports = []; elements = []; bodies = [] } in
    let m2 : Parts = record { types = x.types; funcs = x.funcs; table = None; memory = None; globals = []; exports = []; elements = []; bodies = [] } in
    let m3 : Parts = record { types = x.types; funcs = x.funcs; table = x.table; memory = None; globals = []; exports = []; elements = []; bodies = [] } in
    let m4 : Parts = record { types = x.types; funcs = x.funcs; table = x.table; memory = x.memory; globals = []; exports = []; elements = []; bodies = [] } in
    let m5 : Parts = record { types = x.types; funcs = x.funcs; table = x.table; memory = x.memory; globals = x.globals; exports = []; elements = []; bodies = [] } in
    let m6 : Parts = record { types = x.types; funcs = x.funcs; table = x.table; memory = x.memory; globals = x.globals; exports = x.exports; elements = []; bodies = [] } in
    let m7 : Parts = record { types = x.types; funcs = x.funcs; table = x.table; memory = x.memory; globals = x.globals; exports = x.exports; elements = x.elements; bodies = [] } in
    let w8 : List ℕ = put_section 10 put_body x.bodies [] in
    let w7 : List ℕ = put_section 9 put_segment x.elements w8 in
    let w6 : List ℕ = put_section 7 put_export x.exports w7 in
    let w5 : List ℕ = put_section 6 put_global x.globals w6 in
    let w4 : List ℕ = put_section 5 put_limits (sizes x.memory) w5 in
    let w3 : List ℕ = put_section 4 put_table_type (sizes x.table) w4 in
    let w2 : List ℕ = put_section 3 put_u32 x.funcs w3 in
    let l2 : IsU32 (length w2) = rest_small 1 put_func_type x.types w2 l1 in
    let l3 : IsU32 (length w3) = rest_small 3 put_u32 x.funcs w3 l2 in
    let l4 : IsU32 (length w4) = rest_small 4 put_table_type (sizes x.table) w4 l3 in
    let l5 : IsU32 (length w5) = rest_small 5 put_limits (sizes x.memory) w5 l4 in
    let l6 : IsU32 (length w6) = rest_small 6 put_global x.globals w6 l5 in
    let l7 : IsU32 (length w7) = rest_small 7 put_export x.exports w7 l6 in
    let l8 : IsU32 (length w8) = rest_small 9 put_segment x.elements w8 l7 in
    let sN : IsU32 (length (put_list put_body x.bodies [])) = part_small 10 put_body x.bodies [] l8 in
    let tN : IsU32 (length (put_all put_body x.bodies [])) = (let a = u32_longer (length x.bodies) (put_all put_body x.bodies []) in omega (arith, a, sN)) in
    let g8 : Later x m7 10 1 w8 = step_printed x m7 x sec.Codes 10 10 0 put_body x.bodies [] refl (omega arith) sN (λ e. rw e refl) (λ k h. bodies_printed ([] ∷ []) x (length x.funcs) x.bodies (sym i.whole) i.bodies.0 (bodies_sized x.bodies [] i.bodies.1 tN)
    (λ bs. k (record m7 { bodies = bs })) [] h) (λ f last a b. whole_at x f last i.whole) in
    let g7 : Later x m6 9 2 w7 = step_printed x m6 m7 sec.Elements 9 9 1 put_segment x.elements w8 refl (omega arith) (part_small 9 put_segment x.elements w8 l7) (λ e. rw e refl) (λ k h. list_printed (w8 ∷ []) x IsSegment segment put_segment
    (λ e p. segment_printed (w8 ∷ []) x e p) x.elements i.elements (λ es. k (record m6 { elements = es })) [] h) (lower x m7 10 10 1 w8 (omega arith) g8) in
    let g6 : Later x m5 7 3 w6 = step_printed x m5 m6 sec.Exports 7 7 2 put_export x.exports w7 refl (omega arith) (part_small 7 put_export x.exports w7 l6) (λ e. rw e refl) (λ k h. list_printed (w7 ∷ []) x IsExport exported put_export (λ e p. exported_printed (w7 ∷ []) x e p)
    x.exports i.exports (λ es. k (record m5 { exports = es })) [] h) (lower x m6 8 9 2 w7 (omega arith) g7) in
    let g5 : Later x m4 6 4 w5 = step_printed x m4 m5 sec.Globals 6 6 3 put_global x.globals w6 refl (omega arith) (part_small 6 put_global x.globals w6 l5) (λ e. rw e refl) (λ k h. list_printed (w6 ∷ []) x IsGlobal global put_global (λ g p. global_printed (w6 ∷ []) x g p)
    x.globals i.globals (λ es. k (record m4 { globals = es })) [] h) (lower x m5 7 7 3 w6 (omega arith) g6) in
    let g4 : Later x m3 5 5 w4 = step_printed x m3 m4 sec.Memories 5 5 4 put_limits (sizes x.memory) w5 refl (omega arith) (part_small 5 put_limits (sizes x.memory) w5 l4) (λ e. ap (λ (o : Option Limits). record m3 { memory = o }) (no_memory x.memory e)) (λ k h. memory_printed
    (w5 ∷ []) x x.memory i.memory (λ l. k (record m3 { memory = l })) [] h) (lower x m4 6 6 4 w5 (omega arith) g5) in
    let g3 : Later x m2 4 6 w3 = step_printed x m2 m3 sec.Tables 4 4 5 put_table_type (sizes x.table) w4 refl (omega arith) (part_small 4 put_table_type (sizes x.table) w4 l3) (λ e. ap (λ (o : Option Limits). record m2 { table = o }) (no_memory x.table e)) (λ k h. table_printed
    (w4 ∷ []) x x.table i.table (λ l. k (record m2 { table = l })) [] h) (lower x m3 5 5 5 w4 (omega arith) g4) in
    let g2 : Later x m1 3 7 w2 = step_printed x m1 m2 sec.Functions 3 3 6 put_u32 x.funcs w3 refl (omega arith) (part_small 3 put_u32 x.funcs w3 l2) (λ e. rw e refl) (λ k h. list_printed (w3 ∷ []) x IsU32 u32 put_u32 (λ n p k w h. u32_printed (w3 ∷ []) x k n w p h) x.funcs
    i.funcs (λ es. k (record m1 { funcs = es })) [] h) (lower x m2 4 4 6 w3 (omega arith) g3) in
    step_printed x empty m1 sec.Types 1 1 7 put_func_type x.types w2 refl (omega arith) (part_small 1 put_func_type x.types w2 l1) (λ e. rw e refl) (λ k h. list_printed (w2 ∷ []) x IsFuncType func_type put_func_type (λ t p. func_type_printed (w2 ∷ []) x t p) x.types i.types
    (λ es. k (record empty { types = es })) [] h) (lower x m1 2 3 7 w2 (omega arith) g2)

pub printed : (x : Parts) → IsModule x → IsU32 (length (module_bytes x)) → SpellsModule (module_bytes x) x
unfolding module_bytes file
printed x i l =
    let n = length (module_bytes x) in
    header_printed x (sections n 0 empty) (put_sections x []) (sections_printed x i (omega (arith, l)) n 0 (omega arith) (omega arith))
