-- Printing a thing takes no more bytes than any spelling of it: numbers, types, declarations, instructions, bodies.
use Rattle.std.proofs.Common.{◌≡◌, ◌⊎◌, inl, inr, ℕ, zero, suc, ◌+◌, ◌-◌, ◌*◌, ◌/◌, ◌%◌, ◌^◌, ◌<◌, ◌≤◌, List, [], ◌∷◌, ◌++◌, length, take, drop, Option, Some, None, Bool, true, false, refl, sym, ap, subst, ◌∙◌, arith, append_assoc, append-nil, length-append}
use Rattle.std.specs.Prelude.{if◌then◌else◌, replicate, nat_eq, nat_lt, nat_le, is_some, ◌&&◌}
use Rattle.std.proofs.lemmas.Bool.{lt-ltb, le-ltb, le-leb, ltb-true, ltb-false, cases_lt}
use Rattle.std.proofs.lemmas.List.{length-drop}
use Rattle.std.proofs.Math.Nat.{mod-add-div}
use Rattle.std.proofs.Math.Pow.{pow_mono}
use Rattle.std.proofs.lemmas.Option.{same_Some}
use Rattle.wasm_core.specs.Parts.{Parts}
use Rattle.wasm_core.specs.ModuleCondition.{All, opens_after}
use Rattle.wasm_core.specs.Format.{Name, Number}
use Rattle.wasm_core.specs.Spelling.{SpellsByte, IsNumber, IsSize, SpellsNumber, SpellsPart}
use Rattle.wasm_core.specs.ModuleGrammar.{Spelling, byte, u32, s32, s64, on, coded, find, finish, times, val_type, val_types, value_types, func_result, func_type, limits_flag, limits_flags, limits, mutability, mutabilities, block_type, block_kinds, access, row, Row, Plain, Typed}
use Rattle.wasm_core.specs.ModuleGrammar.{Index, Accessing, Pair, Table, Zeroed, Bits, LongBits, opcodes, operations, operation_row, row_or, opcode, instr, instrs, constant_of, constant_opcodes, constant, table_type, table, segment, groups, locals, body, indices, memory, global}
use Rattle.wasm_core.specs.ModuleGrammar.{export_kind, export_kinds, exported}
use Rattle.wasm_core.specs.ShortestBytes.{is_low, is_high, unsigned, signed, put_u32, put_s32, put_s64, put_all, put_list, put_sized, val_type_code, put_val_type, put_result, put_func_type, put_limits, flag, put_constant, put_global, put_name, kind_code, put_export}
use Rattle.wasm_core.specs.ShortestBytes.{block_type_code, put_access, put_instr, same_type, add_local, runs, put_run, put_locals, body_bytes, put_body, sizes, put_table_type, put_segment}
use Rattle.wasm_core.specs.declared.types.ValType.{ValType}
use Rattle.wasm_core.specs.declared.types.ValType.TheVariants.{I32, I64}
use Rattle.wasm_core.specs.declared.types.Limits.{Limits}
use Rattle.wasm_core.specs.declared.types.ConstValue.{ConstValue}
use Rattle.wasm_core.specs.declared.types.ConstValue.TheVariants as constants
use Rattle.wasm_core.specs.declared.exports.ExportKind.{ExportKind}
use Rattle.wasm_core.specs.declared.exports.ExportKind.TheVariants as kinds
use Rattle.wasm_core.specs.declared.instrs.BlockType.{BlockType}
use Rattle.wasm_core.specs.declared.instrs.BlockType.TheVariants as block_types
use Rattle.wasm_core.specs.declared.instrs.Access.{Access}
use Rattle.wasm_core.specs.declared.instrs.I32Op.{I32Op}
use Rattle.wasm_core.specs.declared.instrs.Instr.{Instr}
use Rattle.wasm_core.specs.declared.instrs.Instr.TheVariants as instructions
use Rattle.wasm_core.proofs.Longer.{u32_longer, unsigned_longer}
use Rattle.wasm_core.proofs.Inversion.{on_makes, found_row, take_few}

-- ---- numbers

unsigned_few : (bits g n : ℕ) (w u : List ℕ) → SpellsNumber false bits w n → length (unsigned g n u) ≤ length w + length u
unfolding unsigned
unsigned_few bits g n [] u h = absurd h
unsigned_few bits zero n (b ∷ w) u h = omega arith
unsigned_few bits (suc g) n (b ∷ []) u (small, l, e) = let t = lt-ltb n 128 (omega (arith, small, e)) in rw t (omega arith)
unsigned_few bits (suc g) n (b ∷ c ∷ w) u (lo, hi, m, (high, e, p)) =
    let ih = unsigned_few (bits - 7) g high (c ∷ w) u p in
    let q = mod-add-div n 128 in
    let d : n / 128 ≡ high = omega (arith, q, e, lo, hi) in
    let goal : (t : Bool) → length (if t then n ∷ u else (n % 128 + 128) ∷ unsigned g (n / 128) u) ≤ length (b ∷ c ∷ w) + length u =
    λ t. elim t as (λ t. length (if t then n ∷ u else (n % 128 + 128) ∷ unsigned g (n / 128) u) ≤ length (b ∷ c ∷ w) + length u) [ true ↦ omega arith | false ↦ rw d (omega (arith, ih)) ] in
    goal (nat_lt n 128)

signed_last_few : (bits g n b : ℕ) (u more : List ℕ) → 64 ≤ b → b < 128 → 128 - b ≤ 2 ^ (bits - 1) → n ≡ 2 ^ bits - (128 - b) → length (if is_low bits n then n ∷ u else if is_high bits n then (128 - (2 ^ bits - n)) ∷ u else more) ≤ 1 + length u
signed_last_few bits g n b u more f s l e =
    let p : 2 ^ (bits - 1) ≤ 2 ^ bits = pow_mono {i = bits - 1} {j = bits} (omega arith) in
    let t : is_high bits n ≡ true = le-leb (2 ^ bits) (n + 64) (omega (arith, p, f, s, l, e)) in
    let goal : (c d : Bool) → d ≡ true → length (if c then n ∷ u else if d then (128 - (2 ^ bits - n)) ∷ u else more) ≤ 1 + length u =
    λ c d t. elim c as (λ c. length (if c then n ∷ u else if d then (128 - (2 ^ bits - n)) ∷ u else more) ≤ 1 + length u) [ true ↦ omega arith | false ↦ rw t (omega arith) ] in
    goal (is_low bits n) (is_high bits n) t

signed_few : (bits g n : ℕ) (w u : List ℕ) → SpellsNumber true bits w n → length (signed g bits n u) ≤ length w + length u
unfolding signed
signed_few bits g n [] u h = absurd h
signed_few bits zero n (b ∷ w) u h = omega arith
signed_few bits (suc g) n (b ∷ []) u (inl (s, l, e)) =
    let t = lt-ltb n 64 (omega (arith, s, e)) in
    let v = lt-ltb n (2 ^ (bits - 1)) (omega (arith, l, e)) in
    rw (t, v) (omega arith)
signed_few bits (suc g) n (b ∷ []) u (inr (f, s, l, e)) = signed_last_few bits g n b u ((n % 128 + 128) ∷ signed g (bits - 7) (n / 128) u) f s l e
signed_few bits (suc g) n (b ∷ c ∷ w) u (lo, hi, m, (high, e, p)) =
    let ih = signed_few (bits - 7) g high (c ∷ w) u p in
    let q = mod-add-div n 128 in
    let d : n / 128 ≡ high = omega (arith, q, e, lo, hi) in
    let goal : (t v : Bool) → length (if t then n ∷ u else if v then (128 - (2 ^ bits - n)) ∷ u else (n % 128 + 128) ∷ signed g (bits - 7) (n / 128) u) ≤ length (b ∷ c ∷ w) + length u =
    λ t v. elim t as (λ t. length (if t then n ∷ u else if v then (128 - (2 ^ bits - n)) ∷ u else (n % 128 + 128) ∷ signed g (bits - 7) (n / 128) u) ≤ length (b ∷ c ∷ w) + length u) [
      | true ↦ omega arith
      | false ↦ elim v as (λ v. length (if v then (128 - (2 ^ bits - n)) ∷ u else (n % 128 + 128) ∷ signed g (bits - 7) (n / 128) u) ≤ length (b ∷ c ∷ w) + length u) [ true ↦ omega arith | false ↦ rw d (omega (arith, ih)) ]
    ] in
    goal (is_low bits n) (is_high bits n)

-- a lesser number takes no more bytes
unsigned_rises : (g n p : ℕ) (u : List ℕ) → n ≤ p → length (unsigned g n u) ≤ length (unsigned g p u)
unfolding unsigned
unsigned_rises zero n p u h = omega arith
unsigned_rises (suc g) n p u h =
    let a = mod-add-div n 128 in
    let b = mod-add-div p 128 in
    let ih = unsigned_rises g (n / 128) (p / 128) u (omega (arith, a, b, h)) in
    let l = unsigned_longer g (p / 128) u in
    let goal : (c d : Bool) → nat_lt n 128 ≡ c → nat_lt p 128 ≡ d → length (if c then n ∷ u else (n % 128 + 128) ∷ unsigned g (n / 128) u) ≤ length (if d then p ∷ u else (p % 128 + 128) ∷ unsigned g (p / 128) u) =
    λ c d. elim c as (λ c. nat_lt n 128 ≡ c → nat_lt p 128 ≡ d → length (if c then n ∷ u else (n % 128 + 128) ∷ unsigned g (n / 128) u) ≤ length (if d then p ∷ u else (p % 128 + 128) ∷ unsigned g (p / 128) u)) [
      | true ↦ elim d as (λ d. nat_lt n 128 ≡ true → nat_lt p 128 ≡ d → length (n ∷ u) ≤ length (if d then p ∷ u else (p % 128 + 128) ∷ unsigned g (p / 128) u)) [ true ↦ λ s t. omega arith | false ↦ λ s t. omega (arith, l) ]
      | false ↦ elim d as (λ d. nat_lt n 128 ≡ false → nat_lt p 128 ≡ d → length ((n % 128 + 128) ∷ unsigned g (n / 128) u) ≤ length (if d then p ∷ u else (p % 128 + 128) ∷ unsigned g (p / 128) u)) [
        | true ↦ λ s t. (let x = ltb-false _ _ s in let y = ltb-true _ _ t in absurd (omega (arith, x, y, h)))
        | false ↦ λ s t. omega (arith, ih)
      ]
    ] in
    goal (nat_lt n 128) (nat_lt p 128) refl refl

-- a number's bytes are as many whatever comes after them
pub unsigned_adds : (g n : ℕ) (u : List ℕ) → length (unsigned g n u) ≡ length (unsigned g n []) + length u
unfolding unsigned
unsigned_adds zero n u = omega arith
unsigned_adds (suc g) n u =
    let ih = unsigned_adds g (n / 128) u in
    let goal : (c : Bool) → length (if c then n ∷ u else (n % 128 + 128) ∷ unsigned g (n / 128) u) ≡ length (if c then n ∷ [] else (n % 128 + 128) ∷ unsigned g (n / 128) []) + length u =
    λ c. elim c as (λ c. length (if c then n ∷ u else (n % 128 + 128) ∷ unsigned g (n / 128) u) ≡ length (if c then n ∷ [] else (n % 128 + 128) ∷ unsigned g (n / 128) []) + length u) [ true ↦ omega arith | false ↦ omega (arith, ih) ] in
    goal (nat_lt n 128)

-- how many bytes a number takes in so many groups at most
abbrev pub size : ℕ → ℕ → ℕ
size g n = length (unsigned g n [])

tiny : (g n : ℕ) → n < 128 → size g n ≤ 1
unfolding unsigned
tiny zero n h = omega arith
tiny (suc g) n h = let t = lt-ltb n 128 h in rw t (omega arith)

some_size : (g n : ℕ) → 128 ≤ n → size (suc g) n ≡ 1 + size g (n / 128)
unfolding unsigned
some_size g n h = let t = le-ltb n 128 h in rw t (omega arith)

one_at_least : (g n : ℕ) → 1 ≤ size (suc g) n
unfolding unsigned
one_at_least g n =
    let goal : (c : Bool) → 1 ≤ length (if c then n ∷ [] else (n % 128 + 128) ∷ unsigned g (n / 128) []) =
    λ c. elim c as (λ c. 1 ≤ length (if c then n ∷ [] else (n % 128 + 128) ∷ unsigned g (n / 128) [])) [ true ↦ omega arith | false ↦ omega arith ] in
    goal (nat_lt n 128)

higher_size : (g n : ℕ) → size g (n / 128) ≤ size (suc g) n
higher_size g n =
    let q = mod-add-div n 128 in
    let o = one_at_least g n in
    elim (cases_lt n 128) [
      | inl s ↦ (let t = tiny g (n / 128) (omega (arith, q, s)) in omega (arith, t, o))
      | inr l ↦ (let e = some_size g n l in omega (arith, e))
    ]

no_size : (n m : ℕ) → size 0 n ≤ m
unfolding unsigned
no_size n m = omega arith

-- one run of so many takes no more than two
sum_size : (g c d : ℕ) → size g (c + d + 1) ≤ size g c + size g d
sum_size zero c d = no_size (c + d + 1) (size 0 c + size 0 d)
sum_size (suc g) c d =
    let mx = mod-add-div (c + d + 1) 128 in
    let mc = mod-add-div c 128 in
    let md = mod-add-div d 128 in
    let r : size g ((c + d + 1) / 128) ≤ size g (c / 128 + d / 128 + 1) = unsigned_rises g ((c + d + 1) / 128) (c / 128 + d / 128 + 1) [] (omega (arith, mx, mc, md)) in
    let ih = sum_size g (c / 128) (d / 128) in
    let a = one_at_least g c in
    let b = one_at_least g d in
    let hc = higher_size g c in
    let hd = higher_size g d in
    elim (cases_lt (c + d + 1) 128) [
      | inl s ↦ (let t = tiny (suc g) (c + d + 1) s in omega (arith, t, a, b))
      | inr l ↦ (let e = some_size g (c + d + 1) l in elim (cases_lt c 128) [
        | inl sc ↦ elim (cases_lt d 128) [
          | inl sd ↦ (let t = tiny g ((c + d + 1) / 128) (omega (arith, mx, sc, sd)) in omega (arith, e, t, a, b))
          | inr ld ↦ (let f = some_size g d ld in omega (arith, e, f, r, ih, hc))
        ]
        | inr lc ↦ (let f = some_size g c lc in omega (arith, e, f, r, ih, hd))
      ])
    ]

-- ---- what comes takes at least as many bytes as printing it does

-- from these bytes on to those, no fewer than are put
abbrev pub Less : (List ℕ → List ℕ) → List ℕ → List ℕ → Type 0
Less put w v = (u : List ℕ) → length (put u) + length v ≤ length w + length u

less_then : (f g : List ℕ → List ℕ) (w v z : List ℕ) → Less f w v → Less g v z → Less (λ u. f (g u)) w z
less_then f g w v z p q = λ u. let a = p (g u) in let b = q u in omega (arith, a, b)

-- a byte of fixed meaning
less_byte : (c : ℕ) (w v : List ℕ) → length v + 1 ≤ length w → Less (λ u. c ∷ u) w v
less_byte c w v l = λ u. omega (arith, l)

abbrev pub Spends : {A : Type 0} → ((A → Spelling) → Spelling) → (A → List ℕ → List ℕ) → Type 0
Spends {A = A} one put = (k : A → Spelling) (w : List ℕ) (ws : List (List ℕ)) (m : Parts) → SpellsPart (one k) w ws m → (x : A) × (v : List ℕ) × Less (put x) w v × SpellsPart (k x) v ws m

number_left : (s : Bool) (bits : ℕ) (w : List ℕ) (n k : ℕ) → IsNumber s bits w n k → length (drop k w) + 1 ≤ length w
number_left s bits w n zero (l, h) = absurd h
number_left s bits [] n (suc k) (l, h) = absurd h
number_left s bits (b ∷ w) n (suc k) (l, h) = let a = length-drop k w in omega (arith, a)

pub less_unsigned : (w : List ℕ) (n k : ℕ) → IsNumber false 32 w n k → Less (put_u32 n) w (drop k w)
less_unsigned w n k (l, h) = λ u. let a = unsigned_few 32 5 n (take k w) u h in let b = take_few k w in let c = length-drop k w in omega (arith, a, b, c, l)

less_signed : (bits g : ℕ) (w : List ℕ) (n k : ℕ) → IsNumber true bits w n k → Less (signed g bits n) w (drop k w)
less_signed bits g w n k (l, h) = λ u. let a = signed_few bits g n (take k w) u h in let b = take_few k w in let c = length-drop k w in omega (arith, a, b, c, l)

pub u32_spends : Spends u32 put_u32
unfolding u32
u32_spends k w ws m (n, j, (i, f), h) = (n, drop j w, less_unsigned w n j i, h)

s32_spends : Spends s32 put_s32
unfolding s32
s32_spends k w ws m (n, j, (i, f), h) = (n, drop j w, less_signed 32 5 w n j i, h)

s64_spends : Spends s64 put_s64
unfolding s64
s64_spends k w ws m (n, j, (i, f), h) = (n, drop j w, less_signed 64 10 w n j i, h)

pub byte_left : (fits : ℕ → Bool) (w : List ℕ) (b k : ℕ) → SpellsByte fits w b k → length (drop k w) + 1 ≤ length w
byte_left fits w b k (e, (rest, d), q) = let a = length-drop k w in let l = ap length d in omega (arith, a, l, e)

pub byte_spends : (b : ℕ) (k : Spelling) (w : List ℕ) (ws : List (List ℕ)) (m : Parts) → SpellsPart (byte b k) w ws m → (v : List ℕ) × (length v + 1 ≤ length w) × SpellsPart k v ws m
unfolding byte
byte_spends b k w ws m (c, j, i, h) = (drop j w, byte_left (λ c. nat_eq c b) w c j i, h)

pub coded_spends : {A : Type 0} (table : ℕ → Option A) (k : A → Spelling) (w : List ℕ) (ws : List (List ℕ)) (m : Parts) → SpellsPart (coded table k) w ws m → (b : ℕ) × (x : A) × (table b ≡ Some x) × (v : List ℕ) × (length v + 1 ≤ length w) × SpellsPart (k x) v ws m
coded_spends table k w ws m (b, j, i, h) =
    let (x, e, h2) = on_makes (table b) k (drop j w) ws m h in
    (b, x, e, drop j w, byte_left (λ b. is_some (table b)) w b j i, h2)

pub finish_spends : (k : Spelling) (v z : List ℕ) (ws : List (List ℕ)) (m : Parts) → SpellsPart (finish k) v (z ∷ ws) m → (length v ≡ 0) × SpellsPart k z ws m
unfolding finish
finish_spends k [] z ws m (e, h) = (refl, h)
finish_spends k (b ∷ v) z ws m h = absurd h

-- a part with at most as many bytes
pub less_sized : (part w : List ℕ) (n k : ℕ) → IsSize w n k → length part ≤ n → Less (put_sized part) w (drop n (drop k w))
less_sized part w n k ((l, h), r) few = λ u.
    let a = unsigned_rises 5 (length part) n (part ++ u) few in
    let b = unsigned_few 32 5 n (take k w) (part ++ u) h in
    let c = length-append part u in
    let d = take_few k w in
    let e = length-drop k w in
    let f = length-drop n (drop k w) in
    omega (arith, a, b, c, d, e, f, few, l, r)

pub name_spends : Spends Name put_name
name_spends k w ws m (s, j, (n, i, (l, p), r, t, u, e), h) =
    let few : length s ≤ n = rw t (take_few n (drop i w)) in
    let less : Less (put_name s) w (drop j w) = λ u.
    let a = unsigned_rises 5 (length s) n (s ++ u) few in
    let b = unsigned_few 32 5 n (take i w) (s ++ u) p in
    let c = length-append s u in
    let d = take_few i w in
    let f = length-drop i w in
    let g = length-drop j w in
    omega (arith, a, b, c, d, f, g, few, l, r, e) in
    (s, drop j w, less, h)

-- ---- lists

pub times_spend : {A : Type 0} (one : (A → Spelling) → Spelling) (put : A → List ℕ → List ℕ) → Spends one put →
    (n : ℕ) (done : List A) (k : List A → Spelling) (w : List ℕ) (ws : List (List ℕ)) (m : Parts) → SpellsPart (times n one done k) w ws m →
    (xs : List A) × (length xs ≡ n) × (v : List ℕ) × Less (put_all put xs) w v × SpellsPart (k (done ++ xs)) v ws m
unfolding times put_all
times_spend one put f zero done k w ws m h = ([], refl, w, (λ u. omega arith), subst (λ xs. SpellsPart (k xs) w ws m) (sym (append-nil done)) h)
times_spend one put f (suc n) done k w ws m h =
    let (x, v, l, g) = f (λ x. times n one (done ++ x ∷ []) k) w ws m h in
    let (xs, e, z, q, r) = times_spend one put f n (done ++ x ∷ []) k v ws m g in
    (x ∷ xs, omega (arith, e), z, less_then (put x) (put_all put xs) w v z l q, subst (λ xs. SpellsPart (k xs) z ws m) (append_assoc done (x ∷ []) xs) r)

pub list_spends : {A : Type 0} (one : (A → Spelling) → Spelling) (put : A → List ℕ → List ℕ) → Spends one put → Spends (λ k. u32 (λ n. times n one [] k)) (put_list put)
list_spends one put f k w ws m h =
    let (n, v, l, g) = u32_spends (λ n. times n one [] k) w ws m h in
    let (xs, e, z, q, r) = times_spend one put f n [] k v ws m g in
    (xs, z, less_then (put_u32 (length xs)) (put_all put xs) w v z (subst (λ n. Less (put_u32 n) w v) (sym e) l) q, r)

-- ---- types

val_type_spends : Spends val_type put_val_type
unfolding val_type
val_type_spends k w ws m h = let (b, t, e, v, l, g) = coded_spends (λ b. find b value_types) k w ws m h in (t, v, less_byte (val_type_code t) w v l, g)

val_types_spend : Spends val_types (put_list put_val_type)
unfolding val_types
val_types_spend k w ws m h = list_spends val_type put_val_type val_type_spends k w ws m h

-- at most one of them
optional_spends : {A : Type 0} (one : (A → Spelling) → Spelling) (put : A → List ℕ → List ℕ) (all : Option A → List ℕ → List ℕ) → ((u : List ℕ) → all None u ≡ 0 ∷ u) →
    ((x : A) (u : List ℕ) → all (Some x) u ≡ 1 ∷ put x u) → Spends one put → Spends (λ k. Number false 32 (λ n. nat_le n 1) (λ n. if nat_eq n 0 then k None else one (λ x. k (Some x)))) all
optional_spends {A = A} one put all at_none at_some f k w ws m (n, j, (i, q), h) =
    let left = number_left false 32 w n j i in
    let goal : (c : Bool) → SpellsPart (if c then k None else one (λ x. k (Some x))) (drop j w) ws m → (x : Option A) × (v : List ℕ) × Less (all x) w v × SpellsPart (k x) v ws m =
    λ c. elim c as (λ c. SpellsPart (if c then k None else one (λ x. k (Some x))) (drop j w) ws m → (x : Option A) × (v : List ℕ) × Less (all x) w v × SpellsPart (k x) v ws m) [
      | true ↦ λ h. (None, drop j w, (λ u. rw (at_none u) (omega (arith, left))), h)
      | false ↦ λ h. let (x, v, l, g) = f (λ x. k (Some x)) (drop j w) ws m h in (Some x, v, (λ u. let a = l u in rw (at_some x u) (omega (arith, left, a))), g)
    ] in goal _ h

func_result_spends : Spends func_result put_result
unfolding func_result
func_result_spends k w ws m h = optional_spends val_type put_val_type put_result (λ u. refl) (λ x u. refl) val_type_spends k w ws m h

pub func_type_spends : Spends func_type put_func_type
unfolding func_type put_func_type
func_type_spends k w ws m h =
    let (w1, l1, h1) = byte_spends 96 (val_types (λ ps. func_result (λ r. k (record { params = ps; result = r })))) w ws m h in
    let (ps, w2, l2, h2) = val_types_spend (λ ps. func_result (λ r. k (record { params = ps; result = r }))) w1 ws m h1 in
    let (r, w3, l3, h3) = func_result_spends (λ r. k (record { params = ps; result = r })) w2 ws m h2 in
    (record { params = ps; result = r }, w3, (λ u. let a = l2 (put_result r u) in let b = l3 u in omega (arith, l1, a, b)), h3)

pub limits_spends : Spends limits put_limits
unfolding limits limits_flag put_limits
limits_spends k w ws m h =
    let (c, bounded, e, w1, l1, h1) = coded_spends (λ b. find b limits_flags) (λ bounded. u32 (λ lo. if bounded then u32 (λ hi. k (record { min = lo; max = Some hi })) else k (record { min = lo; max = None }))) w ws m h in
    let (lo, w2, l2, h2) = u32_spends (λ lo. if bounded then u32 (λ hi. k (record { min = lo; max = Some hi })) else k (record { min = lo; max = None })) w1 ws m h1 in
    let goal : (c : Bool) → SpellsPart (if c then u32 (λ hi. k (record { min = lo; max = Some hi })) else k (record { min = lo; max = None })) w2 ws m → (x : Limits) × (v : List ℕ) × Less (put_limits x) w v × SpellsPart (k x) v ws m =
    λ c. elim c as (λ c. SpellsPart (if c then u32 (λ hi. k (record { min = lo; max = Some hi })) else k (record { min = lo; max = None })) w2 ws m → (x : Limits) × (v : List ℕ) × Less (put_limits x) w v × SpellsPart (k x) v ws m) [
      | true ↦ λ h. let (hi, w3, l3, h3) = u32_spends (λ hi. k (record { min = lo; max = Some hi })) w2 ws m h in (record { min = lo; max = Some hi }, w3, (λ u. let a = l2 (put_u32 hi u) in let b = l3 u in omega (arith, l1, a, b)), h3)
      | false ↦ λ h. (record { min = lo; max = None }, w2, (λ u. let a = l2 u in omega (arith, l1, a)), h)
    ] in goal bounded h2

table_type_spends : Spends table_type put_table_type
unfolding table_type put_table_type
table_type_spends k w ws m h =
    let (w1, l1, h1) = byte_spends 112 (limits k) w ws m h in
    let (l, w2, l2, h2) = limits_spends k w1 ws m h1 in
    (l, w2, (λ u. let a = l2 u in omega (arith, l1, a)), h2)

pub table_spends : Spends table (λ l. put_list put_table_type (sizes l))
unfolding table put_all unsigned
table_spends k w ws m h = optional_spends table_type put_table_type (λ l. put_list put_table_type (sizes l)) (λ u. refl) (λ x u. refl) table_type_spends k w ws m h

pub memory_spends : Spends memory (λ l. put_list put_limits (sizes l))
unfolding memory put_all unsigned
memory_spends k w ws m h = optional_spends limits put_limits (λ l. put_list put_limits (sizes l)) (λ u. refl) (λ x u. refl) limits_spends k w ws m h

-- ---- declarations

after_opcode : (t : ValType) (k : ConstValue → Spelling) (w0 w : List ℕ) (ws : List (List ℕ)) (m : Parts) → length w + 1 ≤ length w0 → SpellsPart (constant_of t k) w ws m → (x : ConstValue) × (v : List ℕ) × Less (put_constant x) w0 v × SpellsPart (k x) v ws m
after_opcode I32 k w0 w ws m l h =
    let (n, w1, l1, h1) = s32_spends (λ n. byte 11 (k (constants.I32 n))) w ws m h in
    let (w2, l2, h2) = byte_spends 11 (k (constants.I32 n)) w1 ws m h1 in
    (constants.I32 n, w2, (λ u. let a = l1 (11 ∷ u) in omega (arith, l, a, l2)), h2)
after_opcode I64 k w0 w ws m l h =
    let (n, w1, l1, h1) = s64_spends (λ n. byte 11 (k (constants.I64 n))) w ws m h in
    let (w2, l2, h2) = byte_spends 11 (k (constants.I64 n)) w1 ws m h1 in
    (constants.I64 n, w2, (λ u. let a = l1 (11 ∷ u) in omega (arith, l, a, l2)), h2)

constant_spends : Spends constant put_constant
unfolding constant
constant_spends k w ws m h =
    let (b, t, e, w1, l1, h1) = coded_spends (λ b. find b constant_opcodes) (λ t. constant_of t k) w ws m h in
    after_opcode t k w w1 ws m l1 h1

pub global_spends : Spends global put_global
unfolding global mutability put_global
global_spends k w ws m h =
    let (t, w1, l1, h1) = val_type_spends (λ t. mutability (λ c. constant (λ v. k (record { mutable = c; ty = t; init = v })))) w ws m h in
    let (b, c, e, w2, l2, h2) = coded_spends (λ b. find b mutabilities) (λ c. constant (λ v. k (record { mutable = c; ty = t; init = v }))) w1 ws m h1 in
    let (v, w3, l3, h3) = constant_spends (λ v. k (record { mutable = c; ty = t; init = v })) w2 ws m h2 in
    (record { mutable = c; ty = t; init = v }, w3, (λ u. let a = l1 (flag c ∷ put_constant v u) in let d = l3 u in omega (arith, a, l2, d)), h3)

pub exported_spends : Spends exported put_export
unfolding exported export_kind put_export
exported_spends k w ws m h =
    let (s, w1, l1, h1) = name_spends (λ s. export_kind (λ e. u32 (λ i. k (record { name = s; kind = e; index = i })))) w ws m h in
    let (b, e, q, w2, l2, h2) = coded_spends (λ b. find b export_kinds) (λ e. u32 (λ i. k (record { name = s; kind = e; index = i }))) w1 ws m h1 in
    let (i, w3, l3, h3) = u32_spends (λ i. k (record { name = s; kind = e; index = i })) w2 ws m h2 in
    (record { name = s; kind = e; index = i }, w3, (λ u. let a = l1 (kind_code e ∷ put_u32 i u) in let d = l3 u in omega (arith, a, l2, d)), h3)

pub indices_spend : Spends indices (put_list put_u32)
unfolding indices
indices_spend k w ws m h = list_spends u32 put_u32 u32_spends k w ws m h

pub segment_spends : Spends segment put_segment
unfolding segment put_segment
segment_spends k w ws m (n, j, (i, f), h) =
    let l0 = number_left false 32 w n j i in
    let (w1, l1, h1) = byte_spends 65 (s32 (λ o. byte 11 (indices (λ fs. k (record { offset = o; funcs = fs }))))) (drop j w) ws m h in
    let (o, w2, l2, h2) = s32_spends (λ o. byte 11 (indices (λ fs. k (record { offset = o; funcs = fs })))) w1 ws m h1 in
    let (w3, l3, h3) = byte_spends 11 (indices (λ fs. k (record { offset = o; funcs = fs }))) w2 ws m h2 in
    let (fs, w4, l4, h4) = indices_spend (λ fs. k (record { offset = o; funcs = fs })) w3 ws m h3 in
    (record { offset = o; funcs = fs }, w4, (λ u. let a = l2 (11 ∷ put_list put_u32 fs u) in let b = l4 u in omega (arith, l0, l1, a, l3, b)), h4)

-- ---- instructions

block_type_spends : Spends block_type (λ t u. block_type_code t ∷ u)
unfolding block_type
block_type_spends k w ws m h = let (b, t, e, v, l, g) = coded_spends (λ b. find b block_kinds) k w ws m h in (t, v, less_byte (block_type_code t) w v l, g)

access_spends : Spends access put_access
unfolding access
access_spends k w ws m h =
    let (a, w1, l1, h1) = u32_spends (λ a. u32 (λ o. k (record { align = a; offset = o }))) w ws m h in
    let (o, w2, l2, h2) = u32_spends (λ o. k (record { align = a; offset = o })) w1 ws m h1 in
    (record { align = a; offset = o }, w2, less_then (put_u32 a) (put_u32 o) w w1 w2 l1 l2, h2)

-- an instruction of this row takes no more than its opcode and what comes after it
IsFew : Row → Type 0
IsFew (Plain i) = (u : List ℕ) → length (put_instr i u) ≤ 1 + length u
IsFew (Typed i) = (t : BlockType) (u : List ℕ) → length (put_instr (i t) u) ≤ 2 + length u
IsFew (Index i) = (n : ℕ) (u : List ℕ) → length (put_instr (i n) u) ≤ 1 + length (put_u32 n u)
IsFew (Accessing i) = (a : Access) (u : List ℕ) → length (put_instr (i a) u) ≤ 1 + length (put_access a u)
IsFew (Pair i) = (a b : ℕ) (u : List ℕ) → length (put_instr (i a b) u) ≤ 1 + length (put_u32 a (put_u32 b u))
IsFew (Table i) = (ls : List ℕ) (l : ℕ) (u : List ℕ) → length (put_instr (i ls l) u) ≤ 1 + length (put_list put_u32 ls (put_u32 l u))
IsFew (Zeroed i) = (u : List ℕ) → length (put_instr i u) ≤ 2 + length u
IsFew (Bits i) = (n : ℕ) (u : List ℕ) → length (put_instr (i n) u) ≤ 1 + length (put_s32 n u)
IsFew (LongBits i) = (n : ℕ) (u : List ℕ) → length (put_instr (i n) u) ≤ 1 + length (put_s64 n u)

row_spends : (r : Row) → IsFew r → (k : Instr → Spelling) (w0 w : List ℕ) (ws : List (List ℕ)) (m : Parts) → length w + 1 ≤ length w0 → SpellsPart (row r k) w ws m → (x : Instr) × (v : List ℕ) × Less (put_instr x) w0 v × SpellsPart (k x) v ws m
unfolding row IsFew
row_spends (Plain i) p k w0 w ws m l h = (i, w, (λ u. let a = p u in omega (arith, a, l)), h)
row_spends (Typed i) p k w0 w ws m l h = let (t, w1, l1, h1) = block_type_spends (λ t. k (i t)) w ws m h in (i t, w1, (λ u. let a = p t u in let b = l1 u in omega (arith, a, b, l)), h1)
row_spends (Index i) p k w0 w ws m l h = let (n, w1, l1, h1) = u32_spends (λ n. k (i n)) w ws m h in (i n, w1, (λ u. let a = p n u in let b = l1 u in omega (arith, a, b, l)), h1)
row_spends (Accessing i) p k w0 w ws m l h = let (n, w1, l1, h1) = access_spends (λ n. k (i n)) w ws m h in (i n, w1, (λ u. let a = p n u in let b = l1 u in omega (arith, a, b, l)), h1)
row_spends (Pair i) p k w0 w ws m l h =
    let (x, w1, l1, h1) = u32_spends (λ a. u32 (λ b. k (i a b))) w ws m h in
    let (y, w2, l2, h2) = u32_spends (λ b. k (i x b)) w1 ws m h1 in
    (i x y, w2, (λ u. let a = p x y u in let b = l1 (put_u32 y u) in let c = l2 u in omega (arith, a, b, c, l)), h2)
row_spends (Table i) p k w0 w ws m l h =
    let (ls, w1, l1, h1) = indices_spend (λ ls. u32 (λ l. k (i ls l))) w ws m h in
    let (y, w2, l2, h2) = u32_spends (λ l. k (i ls l)) w1 ws m h1 in
    (i ls y, w2, (λ u. let a = p ls y u in let b = l1 (put_u32 y u) in let c = l2 u in omega (arith, a, b, c, l)), h2)
row_spends (Zeroed i) p k w0 w ws m l h = let (w1, l1, h1) = byte_spends 0 (k i) w ws m h in (i, w1, (λ u. let a = p u in omega (arith, a, l1, l)), h1)
row_spends (Bits i) p k w0 w ws m l h = let (n, w1, l1, h1) = s32_spends (λ n. k (i n)) w ws m h in (i n, w1, (λ u. let a = p n u in let b = l1 u in omega (arith, a, b, l)), h1)
row_spends (LongBits i) p k w0 w ws m l h = let (n, w1, l1, h1) = s64_spends (λ n. k (i n)) w ws m h in (i n, w1, (λ u. let a = p n u in let b = l1 u in omega (arith, a, b, l)), h1)

opcodes_few : All (λ (r : ℕ × Row). IsFew r.1) opcodes
unfolding IsFew put_instr
opcodes_few = (
  (λ u. omega arith),
  (
    (λ u. omega arith),
    (
      (λ t u. omega arith),
      (
        (λ t u. omega arith),
        (
          (λ t u. omega arith),
          (
            (λ u. omega arith),
            (
              (λ u. omega arith),
              (
                (λ n u. omega arith),
                (
                  (λ n u. omega arith),
                  (
                    (λ ls l u. omega arith),
                    (
                      (λ u. omega arith),
                      (
                        (λ n u. omega arith),
                        (
                          (λ a b u. omega arith),
                          (
                            (λ n u. omega arith),
                            (
                              (λ a b u. omega arith),
                              (
                                (λ u. omega arith),
                                (
                                  (λ n u. omega arith),
                                  (
                                    (λ n u. omega arith),
                                    (
                                      (λ n u. omega arith),
                                      (
                                        (λ n u. omega arith),
                                        (
                                          (λ n u. omega arith),
                                          (
                                            (λ a u. omega arith),
                                            ((λ a u. omega arith), ((λ a u. omega arith), ((λ a u. omega arith), ((λ u. omega arith), ((λ u. omega arith), ((λ n u. omega arith), ((λ n u. omega arith), tt))))))),
                                          ),
                                        ),
                                      ),
                                    ),
                                  ),
                                ),
                              ),
                            ),
                          ),
                        ),
                      ),
                    ),
                  ),
                ),
              ),
            ),
          ),
        ),
      ),
    ),
  ),
)

operation_few : (o : Option I32Op) (r : Row) → operation_row o ≡ Some r → IsFew r
unfolding IsFew put_instr
operation_few None r e = absurd cc
operation_few (Some op) r e = let q : Plain (instructions.I32 op) ≡ r = same_Some _ _ e in subst IsFew q (λ u. omega arith)

found_few : (b : ℕ) (x : Option Row) → find b opcodes ≡ x → (r : Row) → row_or x (find b operations) ≡ Some r → IsFew r
found_few b None h r e = operation_few (find b operations) r e
found_few b (Some x) h r e = let q : x ≡ r = same_Some _ _ e in subst IsFew q (found_row IsFew b opcodes opcodes_few x h)

opcode_few : (may : Bool) (b : ℕ) (r : Row) → opcode may b ≡ Some r → IsFew r
opcode_few may b r e =
    let goal : (c : Bool) → (if c then None else row_or (find b opcodes) (find b operations)) ≡ Some r → IsFew r =
    λ c. elim c as (λ c. (if c then None else row_or (find b opcodes) (find b operations)) ≡ Some r → IsFew r) [
      | true ↦ λ e. absurd cc
      | false ↦ λ e. found_few b (find b opcodes) refl r e
    ] in goal _ e

instr_spends : (may : Bool) → Spends (instr may) put_instr
unfolding instr
instr_spends may k w ws m h =
    let (b, r, e, w1, l1, h1) = coded_spends (opcode may) (λ r. row r k) w ws m h in
    row_spends r (opcode_few may b r e) k w w1 ws m l1 h1

instrs_spend : (fuel : ℕ) (os : List Bool) (done : List Instr) (k : List Instr → Spelling) (w : List ℕ) (ws : List (List ℕ)) (m : Parts) → SpellsPart (instrs fuel os done k) w ws m → (is : List Instr) × (v : List ℕ) × Less (put_all put_instr is) w v × SpellsPart (k (done ++ is)) v ws m
unfolding instrs put_all
instrs_spend fuel [] done k w ws m h = ([], w, (λ u. omega arith), subst (λ is. SpellsPart (k is) w ws m) (sym (append-nil done)) h)
instrs_spend zero (o ∷ os) done k w ws m h = absurd h
instrs_spend (suc fuel) (o ∷ os) done k w ws m h =
    let (i, w1, l1, h1) = instr_spends o (λ i. instrs fuel (opens_after i (o ∷ os)) (done ++ i ∷ []) k) w ws m h in
    let (is, w2, l2, h2) = instrs_spend fuel (opens_after i (o ∷ os)) (done ++ i ∷ []) k w1 ws m h1 in
    (i ∷ is, w2, less_then (put_instr i) (put_all put_instr is) w w1 w2 l1 l2, subst (λ is. SpellsPart (k is) w2 ws m) (append_assoc done (i ∷ []) is) h2)

-- ---- locals: joining runs makes them fewer

abbrev Runs : Type 0
Runs = List (ℕ × ValType)

-- so many locals of a type before these runs
abbrev Joined : ℕ → ValType → Runs → Runs → Type 0
Joined c t rs out = ((c ≡ 0) × (out ≡ rs)) ⊎ ((out ≡ (c, t) ∷ rs) ⊎ ((d : ℕ) × (rest : Runs) × (rs ≡ (d, t) ∷ rest) × (out ≡ (c + d, t) ∷ rest)))

same_is : (t u : ValType) → same_type t u ≡ true → u ≡ t
same_is I32 I32 e = refl
same_is I64 I64 e = refl
same_is I32 I64 e = absurd cc
same_is I64 I32 e = absurd cc

pub same_self : (t : ValType) → same_type t t ≡ true
same_self I32 = refl
same_self I64 = refl

first_joined : (t : ValType) (rs : Runs) → Joined 1 t rs (add_local t rs)
first_joined t [] = inr (inl refl)
first_joined t ((d, x) ∷ rs) =
    let goal : (c : Bool) → same_type t x ≡ c → Joined 1 t ((d, x) ∷ rs) (if c then (d + 1, t) ∷ rs else (1, t) ∷ (d, x) ∷ rs) =
    λ c. elim c as (λ c. same_type t x ≡ c → Joined 1 t ((d, x) ∷ rs) (if c then (d + 1, t) ∷ rs else (1, t) ∷ (d, x) ∷ rs)) [
      | true ↦ λ e. inr (inr (d, rs, ap (λ (y : ValType). (d, y) ∷ rs) (same_is t x e), ap (λ (n : ℕ). (n, t) ∷ rs) (let q : d + 1 ≡ 1 + d = omega arith in q)))
      | false ↦ λ e. inr (inl refl)
    ] in goal (same_type t x) refl

next_run : (t : ValType) (n : ℕ) (rs : Runs) → add_local t ((n, t) ∷ rs) ≡ (suc n, t) ∷ rs
next_run t n rs = let s = same_self t in let q : n + 1 ≡ suc n = omega arith in rw (s, q) refl

next_joined : (c : ℕ) (t : ValType) (rs out : Runs) → Joined c t rs out → Joined (suc c) t rs (add_local t out)
next_joined c t rs out (inl (z, e)) = subst (λ (c : ℕ). Joined (suc c) t rs (add_local t out)) (sym z) (subst (λ (o : Runs). Joined 1 t rs (add_local t o)) (sym e) (first_joined t rs))
next_joined c t rs out (inr (inl e)) = inr (inl (ap (add_local t) e ∙ next_run t c rs))
next_joined c t rs out (inr (inr (d, rest, e, o))) = inr (inr (d, rest, e, (let q : suc (c + d) ≡ suc c + d = omega arith in ap (add_local t) o ∙ next_run t (c + d) rest ∙ ap (λ (n : ℕ). (n, t) ∷ rest) q)))

joined : (c : ℕ) (t : ValType) (ts : List ValType) → Joined c t (runs ts) (runs (replicate c t ++ ts))
unfolding runs
joined zero t ts = inl (refl, refl)
joined (suc c) t ts = next_joined c t (runs ts) (runs (replicate c t ++ ts)) (joined c t ts)

joined_few : (c : ℕ) (t : ValType) (rs out : Runs) → Joined c t rs out → length out ≤ length rs + 1
joined_few c t rs out (inl (z, e)) = let l = ap length e in omega (arith, l)
joined_few c t rs out (inr (inl e)) = let l = ap length e in omega (arith, l)
joined_few c t rs out (inr (inr (d, rest, e, o))) = let l = ap length e in let p = ap length o in omega (arith, l, p)

joined_less : (c : ℕ) (t : ValType) (rs out : Runs) (u : List ℕ) → Joined c t rs out → length (put_all put_run out u) ≤ length (put_run (c, t) (put_all put_run rs u))
unfolding put_all
joined_less c t rs out u (inl (z, e)) = rw e (let a = u32_longer c (val_type_code t ∷ put_all put_run rs u) in omega (arith, a))
joined_less c t rs out u (inr (inl e)) = rw e (omega arith)
joined_less c t rs out u (inr (inr (d, rest, e, o))) =
    let all = put_all put_run rest u in
    let a = unsigned_adds 5 (c + d) (val_type_code t ∷ all) in
    let b = unsigned_adds 5 d (val_type_code t ∷ all) in
    let f = unsigned_adds 5 c (val_type_code t ∷ unsigned 5 d (val_type_code t ∷ all)) in
    let g = sum_size 5 c d in
    let r = unsigned_rises 5 (c + d) (c + d + 1) [] (omega arith) in
    rw (o, e) (omega (arith, a, b, f, g, r))

no_runs : length (runs []) ≤ 0
unfolding runs
no_runs = omega arith

less_nothing : (w : List ℕ) → Less (put_all put_run (runs [])) w w
unfolding runs put_all
less_nothing w = λ u. omega arith

groups_spend : (n : ℕ) (done : List ValType) (k : List ValType → Spelling) (w : List ℕ) (ws : List (List ℕ)) (m : Parts) → SpellsPart (groups n done k) w ws m → (ts : List ValType) × (length (runs ts) ≤ n) × (v : List ℕ) × Less (put_all put_run (runs ts)) w v × SpellsPart (k (done ++ ts)) v ws m
unfolding groups
groups_spend zero done k w ws m h = ([], no_runs, w, less_nothing w, subst (λ ts. SpellsPart (k ts) w ws m) (sym (append-nil done)) h)
groups_spend (suc n) done k w ws m (c, j, (i, f), h) =
    let (t, w1, l1, h1) = val_type_spends (λ t. groups n (done ++ replicate c t) k) (drop j w) ws m h in
    let (ts, few, v, l2, h2) = groups_spend n (done ++ replicate c t) k w1 ws m h1 in
    let p = joined c t ts in
    let q = joined_few c t (runs ts) (runs (replicate c t ++ ts)) p in
    let less : Less (put_all put_run (runs (replicate c t ++ ts))) w v = λ u.
    let a = joined_less c t (runs ts) (runs (replicate c t ++ ts)) u p in
    let b = less_unsigned w c j i (put_val_type t (put_all put_run (runs ts) u)) in
    let d = l1 (put_all put_run (runs ts) u) in
    let e = l2 u in
    omega (arith, a, b, d, e) in
    (replicate c t ++ ts, omega (arith, few, q), v, less, subst (λ ts. SpellsPart (k ts) v ws m) (append_assoc done (replicate c t) ts) h2)

locals_spend : Spends locals put_locals
unfolding locals put_locals
locals_spend k w ws m h =
    let (n, w1, l1, h1) = u32_spends (λ n. groups n [] k) w ws m h in
    let (ts, few, v, l2, h2) = groups_spend n [] k w1 ws m h1 in
    (ts, v, (λ u. let a = unsigned_rises 5 (length (runs ts)) n (put_all put_run (runs ts) u) few in let b = l1 (put_all put_run (runs ts) u) in let c = l2 u in omega (arith, a, b, c)), h2)

pub body_spends : Spends body put_body
unfolding body body_bytes
body_spends k w ws m (n, j, i, h) =
    let part = take n (drop j w) in
    let rest = drop n (drop j w) in
    let (ls, w1, l1, h1) = locals_spend (λ ls. instrs n (false ∷ []) [] (λ is. finish (k (record { locals = ls; code = is })))) part (rest ∷ ws) m h in
    let (is, w2, l2, h2) = instrs_spend n (false ∷ []) [] (λ is. finish (k (record { locals = ls; code = is }))) w1 (rest ∷ ws) m h1 in
    let (e, h3) = finish_spends (k (record { locals = ls; code = is })) w2 rest ws m h2 in
    let a = l1 (put_all put_instr is []) in
    let b = l2 [] in
    let c = take_few n (drop j w) in
    (record { locals = ls; code = is }, rest, less_sized (put_locals ls (put_all put_instr is [])) w n j i (omega (arith, a, b, c)), h3)
