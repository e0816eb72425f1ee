-- What is printed is spelled.
use Rattle.std.proofs.Common.{◌≡◌, ◌⊎◌, inl, inr, ℕ, zero, suc, ◌+◌, ◌-◌, ◌*◌, ◌/◌, ◌%◌, ◌^◌, ◌<◌, ◌≤◌, List, [], ◌∷◌, ◌++◌, length, take, drop, Option, Some, None, Bool, true, false, refl, sym, ap, subst, ◌∙◌, arith, append_assoc, append-nil, length-append, pow-add, drop-drop}
use Rattle.std.specs.Prelude.{nat_lt, nat_le, ◌&&◌, if◌then◌else◌, IsUtf8, is_some}
use Rattle.std.proofs.lemmas.Bool.{ltb-true, ltb-false, leb-true, leb-false, cases_lt}
use Rattle.std.proofs.lemmas.Bool.{eq-eqb}
use Rattle.std.proofs.Math.Nat.{mod-add-div}
use Rattle.std.proofs.Math.Pow.{pow_mono}
use Rattle.std.proofs.Math.Seq.{take-append_seam, drop-append_seam}
use Rattle.wasm_core.specs.Format.{Number, Name, Size}
use Rattle.wasm_core.specs.Spelling.{Lasts, IsNumber, SpellsPart}
use Rattle.wasm_core.specs.Parts.{Parts}
use Rattle.wasm_core.specs.ModuleCondition.{All, IsFuncType, IsLimits, IsConstValue, IsGlobal, IsExport, IsU32, IsVector, IsSegment, IsAccess, IsInstr, MayCome, opens_after, IsClosed}
use Rattle.wasm_core.specs.ModuleGrammar.{Spelling, byte, u32, s32, s64, block_type, access, indices, table_type, segment, Row, Plain, Typed, Index, Accessing, Pair, Table, Zeroed, Bits, LongBits, opcode, on, any, times, val_type, val_types, func_result, func_type, finish, limits_flag, limits, mutability, constant, global, export_kind, exported, instr, row, instrs}
use Rattle.wasm_core.specs.ShortestBytes.{unsigned, signed, put_u32, put_all, put_list, put_val_type, put_result, put_func_type, put_bounds, put_limits, flag, put_constant, put_global, put_name, kind_code, put_export, block_type_code, operation_code, put_access, put_instr, put_table_type, put_segment}
use Rattle.wasm_core.specs.declared.types.ValType.{ValType}
use Rattle.wasm_core.specs.declared.types.ValType.TheVariants.{I32, I64}
use Rattle.wasm_core.specs.declared.types.FuncType.{FuncType}
use Rattle.wasm_core.specs.declared.types.Limits.{Limits}
use Rattle.wasm_core.specs.declared.types.ConstValue.{ConstValue}
use Rattle.wasm_core.specs.declared.types.ConstValue.TheVariants as constants
use Rattle.wasm_core.specs.declared.types.GlobalDef.{GlobalDef}
use Rattle.wasm_core.specs.declared.exports.ExportKind.{ExportKind}
use Rattle.wasm_core.specs.declared.exports.ExportKind.TheVariants as kinds
use Rattle.wasm_core.specs.declared.exports.Export.{Export}
use Rattle.wasm_core.specs.declared.elements.Segment.{Segment}
use Rattle.wasm_core.specs.declared.instrs.BlockType.{BlockType}
use Rattle.wasm_core.specs.declared.instrs.BlockType.TheVariants as block_types
use Rattle.wasm_core.specs.declared.instrs.Access.{Access}
use Rattle.wasm_core.specs.declared.instrs.I32Op.{I32Op}
use Rattle.wasm_core.specs.declared.instrs.I32Op.TheVariants as ops
use Rattle.wasm_core.specs.declared.instrs.Instr.{Instr}
use Rattle.wasm_core.specs.declared.instrs.Instr.TheVariants as instructions
use Rattle.wasm_core.proofs.Powers.{seven_off}

-- ---- numbers

-- the number stands at the front, and then these bytes
abbrev Before : (signed : Bool) → (bits : ℕ) → List ℕ → ℕ → List ℕ → Type 0
Before s bits w n rest = (k : ℕ) × IsNumber s bits w n k × (drop k w ≡ rest)

one_byte : (s : Bool) (bits b n : ℕ) (w : List ℕ) → Lasts s bits b n → Before s bits (b ∷ w) n w
one_byte s bits b n w l = (1, (omega arith, l), refl)

more_bytes : (s : Bool) (bits n : ℕ) (w rest : List ℕ) → 7 < bits → Before s (bits - 7) w (n / 128) rest → Before s bits ((n % 128 + 128) ∷ w) n rest
more_bytes s bits n w rest m (zero, (h, p), d) = absurd p
more_bytes s bits n [] rest m (suc j, (h, p), d) = absurd p
more_bytes s bits n (c ∷ w) rest m (suc j, (h, p), d) =
    let e : n ≡ n % 128 + 128 - 128 + 128 * (n / 128) = let q = mod-add-div n 128 in omega (arith, q) in
    (suc (suc j), (omega (arith, h), (omega arith, omega arith, m, (n / 128, e, p))), d)

not_few : (bits : ℕ) → (bits ≤ 7 → ⊥) → 7 < bits
not_few bits n = elim (cases_lt 7 bits) [ inl h ↦ h | inr h ↦ absurd (n h) ]

pub seventh : (bits n : ℕ) → 7 < bits → n < 2 ^ bits → n / 128 < 2 ^ (bits - 7)
seventh bits n m l =
    let p = seven_off bits (omega (arith, m)) in
    let q = mod-add-div n 128 in
    omega (arith, p, q, l)

seven_more : (bits n : ℕ) → 128 ≤ n → n < 2 ^ bits → 7 < bits
seven_more bits n g l =
    let goal : bits ≤ 7 → ⊥ = λ few. let p : 2 ^ bits ≤ 128 = pow_mono {i = bits} {j = 7} few in omega (arith, g, l, p) in
    not_few bits goal

pub unsigned_before : (g bits n : ℕ) (w : List ℕ) → 0 < bits → bits ≤ 7 * g → n < 2 ^ bits → Before false bits (unsigned g n w) n w
unfolding unsigned
unsigned_before zero bits n w p h l = absurd (omega (arith, p, h))
unsigned_before (suc g) bits n w p h l =
    let goal : (c : Bool) → nat_lt n 128 ≡ c → Before false bits (if c then n ∷ w else (n % 128 + 128) ∷ unsigned g (n / 128) w) n w =
    λ c. elim c as (λ c. nat_lt n 128 ≡ c → Before false bits (if c then n ∷ w else (n % 128 + 128) ∷ unsigned g (n / 128) w) n w) [
      | true ↦ λ t. one_byte false bits n n w (ltb-true _ _ t, l, refl)
      | false ↦ λ t.
          let m = seven_more bits n (ltb-false _ _ t) l in
          more_bytes false bits n (unsigned g (n / 128) w) w m (unsigned_before g (bits - 7) (n / 128) w (omega (arith, m)) (omega (arith, h)) (seventh bits n m l))
    ] in goal _ refl

halved : (bits : ℕ) → 0 < bits → 2 ^ bits ≡ 2 * 2 ^ (bits - 1)
halved bits p = let e : bits ≡ 1 + (bits - 1) = omega arith in ap (λ n. 2 ^ n) e ∙ pow-add 2 1 (bits - 1)

-- a number of few bits is below 64
below_64 : (bits n : ℕ) → bits ≤ 7 → n < 2 ^ bits → n < 128
below_64 bits n few l = let p : 2 ^ bits ≤ 128 = pow_mono {i = bits} {j = 7} few in omega (arith, p, l)

signed_last : (bits n : ℕ) (w : List ℕ) → 0 < bits → n < 2 ^ bits → 2 ^ bits ≤ n + 64 → 2 ^ (bits - 1) ≤ n ⊎ 64 ≤ n → Before true bits ((128 - (2 ^ bits - n)) ∷ w) n w
signed_last bits n w p l g big =
    let e = halved bits p in
    let half : 2 ^ (bits - 1) ≤ n = elim big [ inl h ↦ h | inr h ↦ omega (arith, h, g, e) ] in
    one_byte true bits (128 - (2 ^ bits - n)) n w (inr (omega (arith, l, g), omega (arith, l, g), omega (arith, l, g, e, half), omega (arith, l, g)))

pub seven_signed : (bits n : ℕ) → (2 ^ (bits - 1) ≤ n) ⊎ (64 ≤ n) → n + 64 < 2 ^ bits → 0 < bits → 7 < bits
seven_signed bits n big l p =
    let goal : bits ≤ 7 → ⊥ = λ few.
    let q : 2 ^ bits ≤ 128 = pow_mono {i = bits} {j = 7} few in
    let e = halved bits p in
    elim big [ inl h ↦ omega (arith, h, l, q, e) | inr h ↦ omega (arith, h, l, q) ] in
    not_few bits goal

pub signed_before : (g bits n : ℕ) (w : List ℕ) → 0 < bits → bits ≤ 7 * g → n < 2 ^ bits → Before true bits (signed g bits n w) n w
unfolding signed
signed_before zero bits n w p h l = absurd (omega (arith, p, h))
signed_before (suc g) bits n w p h l =
    let more = (n % 128 + 128) ∷ signed g (bits - 7) (n / 128) w in
    let great : (c : Bool) → nat_le (2 ^ bits) (n + 64) ≡ c → (2 ^ (bits - 1) ≤ n) ⊎ (64 ≤ n) → Before true bits (if c then (128 - (2 ^ bits - n)) ∷ w else more) n w =
    λ c. elim c as (λ c. nat_le (2 ^ bits) (n + 64) ≡ c → (2 ^ (bits - 1) ≤ n) ⊎ (64 ≤ n) → Before true bits (if c then (128 - (2 ^ bits - n)) ∷ w else more) n w) [
      | true ↦ λ t big. signed_last bits n w p l (leb-true _ _ t) big
      | false ↦ λ t big.
          let m = seven_signed bits n big (leb-false _ _ t) p in
          more_bytes true bits n (signed g (bits - 7) (n / 128) w) w m (signed_before g (bits - 7) (n / 128) w (omega (arith, m)) (omega (arith, h)) (seventh bits n m l))
    ] in
    let half : (c : Bool) → nat_lt n (2 ^ (bits - 1)) ≡ c → n < 64 → Before true bits (if c then n ∷ w else if nat_le (2 ^ bits) (n + 64) then (128 - (2 ^ bits - n)) ∷ w else more) n w =
    λ c. elim c as (λ c. nat_lt n (2 ^ (bits - 1)) ≡ c → n < 64 → Before true bits (if c then n ∷ w else if nat_le (2 ^ bits) (n + 64) then (128 - (2 ^ bits - n)) ∷ w else more) n w) [
      | true ↦ λ t u. one_byte true bits n n w (inl (u, ltb-true _ _ t, refl))
      | false ↦ λ t u. great _ refl (inl (ltb-false _ _ t))
    ] in
    let goal : (c : Bool) → nat_lt n 64 ≡ c → Before true bits (if c && nat_lt n (2 ^ (bits - 1)) then n ∷ w else if nat_le (2 ^ bits) (n + 64) then (128 - (2 ^ bits - n)) ∷ w else more) n w =
    λ c. elim c as (λ c. nat_lt n 64 ≡ c → Before true bits (if c && nat_lt n (2 ^ (bits - 1)) then n ∷ w else if nat_le (2 ^ bits) (n + 64) then (128 - (2 ^ bits - n)) ∷ w else more) n w) [
      | true ↦ λ t. half _ refl (ltb-true _ _ t)
      | false ↦ λ t. great _ refl (inr (ltb-false _ _ t))
    ] in goal _ refl

-- ---- items before what is spelled after them

module _ (ws : List (List ℕ)) (m : Parts) where
  pub byte_printed : (b : ℕ) (k : Spelling) (w : List ℕ) → SpellsPart k w ws m → SpellsPart (byte b k) (b ∷ w) ws m
  unfolding byte
  byte_printed b k w h = (b, 1, (refl, (w, refl), eq-eqb b b refl), h)

  pub number_printed : (s : Bool) (bits : ℕ) (fits : ℕ → Bool) (next : ℕ → Spelling) (w : List ℕ) (n : ℕ) (rest : List ℕ) → Before s bits w n rest → fits n ≡ true → SpellsPart (next n) rest ws m → SpellsPart (Number s bits fits next) w ws m
  number_printed s bits fits next w n rest (k, i, d) f h = (n, k, (i, f), subst (λ w. SpellsPart (next n) w ws m) (sym d) h)

  pub u32_printed : (k : ℕ → Spelling) (n : ℕ) (w : List ℕ) → n < 2 ^ 32 → SpellsPart (k n) w ws m → SpellsPart (u32 k) (put_u32 n w) ws m
  unfolding u32
  u32_printed k n w l h = number_printed false 32 any k (put_u32 n w) n w (unsigned_before 5 32 n w (omega arith) (omega arith) l) refl h

  pub s32_printed : (k : ℕ → Spelling) (n : ℕ) (w : List ℕ) → n < 2 ^ 32 → SpellsPart (k n) w ws m → SpellsPart (s32 k) (signed 5 32 n w) ws m
  unfolding s32
  s32_printed k n w l h = number_printed true 32 any k (signed 5 32 n w) n w (signed_before 5 32 n w (omega arith) (omega arith) l) refl h

  pub s64_printed : (k : ℕ → Spelling) (n : ℕ) (w : List ℕ) → n < 2 ^ 64 → SpellsPart (k n) w ws m → SpellsPart (s64 k) (signed 10 64 n w) ws m
  unfolding s64
  s64_printed k n w l h = number_printed true 64 any k (signed 10 64 n w) n w (signed_before 10 64 n w (omega arith) (omega arith) l) refl h

  pub size_printed : (next : ℕ → Spelling) (part w : List ℕ) → length part < 2 ^ 32 → SpellsPart (next (length part)) part (w ∷ ws) m → SpellsPart (Size next) (put_u32 (length part) (part ++ w)) ws m
  size_printed next part w l h =
      let (k, i, d) = unsigned_before 5 32 (length part) (part ++ w) (omega arith) (omega arith) l in
      let inside : take (length part) (drop k (put_u32 (length part) (part ++ w))) ≡ part = ap (take (length part)) d ∙ take-append_seam part w in
      let after : drop (length part) (drop k (put_u32 (length part) (part ++ w))) ≡ w = ap (drop (length part)) d ∙ drop-append_seam part w in
      let room : length part ≤ length (drop k (put_u32 (length part) (part ++ w))) = let e = ap length d in let f = length-append part w in omega (arith, e, f) in
      (length part, k, (i, room), subst (λ p. SpellsPart (next (length part)) p (drop (length part) (drop k (put_u32 (length part) (part ++ w))) ∷ ws) m) (sym inside) (subst (λ r. SpellsPart (next (length part)) part (r ∷ ws) m) (sym after) h))

  pub finish_printed : (k : Spelling) (w : List ℕ) → SpellsPart k w ws m → SpellsPart (finish k) [] (w ∷ ws) m
  unfolding finish
  finish_printed k w h = (refl, h)

  -- one thing printed, whatever comes after it
  abbrev pub Prints : {A : Type 0} → ((A → Spelling) → Spelling) → (A → List ℕ → List ℕ) → A → Type 0
  Prints {A = A} one put x = (k : A → Spelling) (w : List ℕ) → SpellsPart (k x) w ws m → SpellsPart (one k) (put x w) ws m

  pub times_printed : {A : Type 0} (one : (A → Spelling) → Spelling) (put : A → List ℕ → List ℕ) (xs done : List A) → All (Prints one put) xs → (k : List A → Spelling) (w : List ℕ) → SpellsPart (k (done ++ xs)) w ws m → SpellsPart (times (length xs) one done k) (put_all put xs w) ws m
  unfolding times put_all
  times_printed one put [] done a k w h = subst (λ xs. SpellsPart (k xs) w ws m) (append-nil done) h
  times_printed one put (x ∷ xs) done (p, a) k w h = p _ (put_all put xs w) (times_printed one put xs (done ++ x ∷ []) a k w (subst (λ ys. SpellsPart (k ys) w ws m) (sym (append_assoc done (x ∷ []) xs)) h))

  -- ---- types

  pub val_type_printed : (t : ValType) → Prints val_type put_val_type t
  unfolding val_type
  val_type_printed I32 k w h = (127, 1, (refl, (w, refl), refl), h)
  val_type_printed I64 k w h = (126, 1, (refl, (w, refl), refl), h)

  all_val_types : (ts : List ValType) → All (Prints val_type put_val_type) ts
  all_val_types [] = tt
  all_val_types (t ∷ ts) = (val_type_printed t, all_val_types ts)

  pub val_types_printed : (ts : List ValType) → length ts < 2 ^ 32 → Prints val_types (put_list put_val_type) ts
  unfolding val_types
  val_types_printed ts l k w h = u32_printed _ (length ts) _ l (times_printed val_type put_val_type ts [] (all_val_types ts) k w h)

  pub result_printed : (t : Option ValType) → Prints func_result put_result t
  unfolding func_result
  result_printed None k w h = (0, 1, ((omega arith, (omega arith, omega arith, refl)), refl), h)
  result_printed (Some t) k w h = (1, 1, ((omega arith, (omega arith, omega arith, refl)), refl), val_type_printed t _ w h)

  pub func_type_printed : (t : FuncType) → IsFuncType t → Prints func_type put_func_type t
  unfolding func_type put_func_type
  func_type_printed t l k w h = byte_printed 96 _ _ (val_types_printed t.params l _ _ (result_printed t.result _ w h))

  flag_printed : (b : Bool) → Prints limits_flag (λ b w. flag b ∷ w) b
  unfolding limits_flag
  flag_printed false k w h = (0, 1, (refl, (w, refl), refl), h)
  flag_printed true k w h = (1, 1, (refl, (w, refl), refl), h)

  bounds_printed : (lo : ℕ) (hi : Option ℕ) → IsLimits (record { min = lo; max = hi }) → Prints limits (λ l w. put_bounds l.min l.max w) (record { min = lo; max = hi })
  unfolding limits
  bounds_printed lo None (l, u) k w h =
      flag_printed false (λ bounded. u32 (λ lo. if bounded then u32 (λ hi. k (record { min = lo; max = Some hi })) else k (record { min = lo; max = None }))) (put_u32 lo w)
      (u32_printed (λ lo. k (record { min = lo; max = None })) lo w l h)
  bounds_printed lo (Some hi) (l, u) k w h =
      flag_printed true (λ bounded. u32 (λ lo. if bounded then u32 (λ hi. k (record { min = lo; max = Some hi })) else k (record { min = lo; max = None }))) (put_u32 lo (put_u32 hi w))
      (u32_printed (λ lo. u32 (λ hi. k (record { min = lo; max = Some hi }))) lo (put_u32 hi w) l (u32_printed (λ hi. k (record { min = lo; max = Some hi })) hi w u h))

  pub limits_printed : (l : Limits) → IsLimits l → Prints limits put_limits l
  unfolding put_limits
  limits_printed l i k w h = bounds_printed l.min l.max i k w h

  mutability_printed : (b : Bool) → Prints mutability (λ b w. flag b ∷ w) b
  unfolding mutability
  mutability_printed false k w h = (0, 1, (refl, (w, refl), refl), h)
  mutability_printed true k w h = (1, 1, (refl, (w, refl), refl), h)

  constant_printed : (c : ConstValue) → IsConstValue c → Prints constant put_constant c
  unfolding constant
  constant_printed (constants.I32 n) l k w h = (65, 1, (refl, (_, refl), refl), s32_printed (λ n. byte 11 (k (constants.I32 n))) n (11 ∷ w) l (byte_printed 11 _ w h))
  constant_printed (constants.I64 n) l k w h = (66, 1, (refl, (_, refl), refl), s64_printed (λ n. byte 11 (k (constants.I64 n))) n (11 ∷ w) l (byte_printed 11 _ w h))

  pub global_printed : (g : GlobalDef) → IsGlobal g → Prints global put_global g
  unfolding global put_global
  global_printed g l k w h =
      val_type_printed g.ty (λ t. mutability (λ m. constant (λ c. k (record { mutable = m; ty = t; init = c })))) (flag g.mutable ∷ put_constant g.init w)
      (mutability_printed g.mutable (λ m. constant (λ c. k (record { mutable = m; ty = g.ty; init = c }))) (put_constant g.init w)
      (constant_printed g.init l (λ c. k (record { mutable = g.mutable; ty = g.ty; init = c })) w h))

  -- lists of indices
  all_indices : (ns : List ℕ) → All IsU32 ns → All (Prints u32 put_u32) ns
  all_indices [] a = tt
  all_indices (n ∷ ns) (p, a) = ((λ k w h. u32_printed k n w p h), all_indices ns a)

  pub indices_printed : (ns : List ℕ) → IsVector IsU32 ns → Prints indices (put_list put_u32) ns
  unfolding indices
  indices_printed ns (l, a) k w h = u32_printed _ (length ns) _ l (times_printed u32 put_u32 ns [] (all_indices ns a) k w h)

  pub table_type_printed : (l : Limits) → IsLimits l → Prints table_type put_table_type l
  unfolding table_type put_table_type
  table_type_printed l i k w h = byte_printed 112 _ _ (limits_printed l i k w h)

  pub segment_printed : (s : Segment) → IsSegment s → Prints segment put_segment s
  unfolding segment put_segment
  segment_printed s (l, v) k w h = (
    0,
    1,
    ((omega arith, (omega arith, omega arith, refl)), refl),
    byte_printed 65 _ _ (s32_printed (λ o. byte 11 (indices (λ fs. k (record { offset = o; funcs = fs })))) s.offset (11 ∷ put_list put_u32 s.funcs w) l
        (byte_printed 11 _ _ (indices_printed s.funcs v (λ fs. k (record { offset = s.offset; funcs = fs })) w h))),
  )

  -- ---- names

  pub name_printed : (s : List ℕ) → IsUtf8 s → length s < 2 ^ 32 → Prints Name put_name s
  name_printed s u l k w h =
      let (j, i, d) = unsigned_before 5 32 (length s) (s ++ w) (omega arith) (omega arith) l in
      let v = put_u32 (length s) (s ++ w) in
      let inside : s ≡ take (length s) (drop j v) = sym (ap (take (length s)) d ∙ take-append_seam s w) in
      let after : drop (j + length s) v ≡ w = sym (drop-drop (length s) j v) ∙ ap (drop (length s)) d ∙ drop-append_seam s w in
      let room : length s ≤ length (drop j v) = let e = ap length d in let f = length-append s w in omega (arith, e, f) in
      (s, j + length s, (length s, j, i, room, inside, u, refl), subst (λ r. SpellsPart (k s) r ws m) (sym after) h)

  -- ---- exports

  kind_printed : (e : ExportKind) → Prints export_kind (λ e w. kind_code e ∷ w) e
  unfolding export_kind
  kind_printed kinds.Func k w h = (0, 1, (refl, (w, refl), refl), h)
  kind_printed kinds.Table k w h = (1, 1, (refl, (w, refl), refl), h)
  kind_printed kinds.Memory k w h = (2, 1, (refl, (w, refl), refl), h)
  kind_printed kinds.Global k w h = (3, 1, (refl, (w, refl), refl), h)

  pub exported_printed : (e : Export) → IsExport e → Prints exported put_export e
  unfolding exported put_export
  exported_printed e (u, l, i) k w h =
      name_printed e.name u l (λ s. export_kind (λ t. u32 (λ n. k (record { name = s; kind = t; index = n })))) _
      (kind_printed e.kind (λ t. u32 (λ n. k (record { name = e.name; kind = t; index = n }))) (put_u32 e.index w)
      (u32_printed (λ n. k (record { name = e.name; kind = e.kind; index = n })) e.index w i h))

  -- ---- instructions

  block_type_printed : (t : BlockType) → Prints block_type (λ t w. block_type_code t ∷ w) t
  unfolding block_type
  block_type_printed block_types.Empty k w h = (64, 1, (refl, (w, refl), refl), h)
  block_type_printed (block_types.Value I32) k w h = (127, 1, (refl, (w, refl), refl), h)
  block_type_printed (block_types.Value I64) k w h = (126, 1, (refl, (w, refl), refl), h)

  access_printed : (a : Access) → IsAccess a → Prints access put_access a
  unfolding access
  access_printed a (l, q) k w h = u32_printed (λ x. u32 (λ o. k (record { align = x; offset = o }))) a.align _ l (u32_printed (λ o. k (record { align = a.align; offset = o })) a.offset w q h)

  -- an opcode whose `else` doesn't matter
  op_printed : (may : Bool) (b : ℕ) (r : Row) → ((c : Bool) → opcode c b ≡ Some r) → (k : Instr → Spelling) (w : List ℕ) → SpellsPart (row r k) w ws m → SpellsPart (instr may k) (b ∷ w) ws m
  unfolding instr
  op_printed may b r e k w h = (b, 1, (refl, (w, refl), ap is_some (e may)), subst (λ (o : Option Row). SpellsPart (on o (λ r. row r k)) w ws m) (sym (e may)) h)

  operation_printed : (may : Bool) (op : I32Op) (k : Instr → Spelling) (w : List ℕ) → SpellsPart (k (instructions.I32 op)) w ws m → SpellsPart (instr may k) (operation_code op ∷ w) ws m
  unfolding row
  operation_printed may ops.Eqz k w h = op_printed may 69 (Plain (instructions.I32 ops.Eqz)) (λ c. refl) k w h
  operation_printed may ops.Eq k w h = op_printed may 70 (Plain (instructions.I32 ops.Eq)) (λ c. refl) k w h
  operation_printed may ops.Ne k w h = op_printed may 71 (Plain (instructions.I32 ops.Ne)) (λ c. refl) k w h
  operation_printed may ops.LtS k w h = op_printed may 72 (Plain (instructions.I32 ops.LtS)) (λ c. refl) k w h
  operation_printed may ops.LtU k w h = op_printed may 73 (Plain (instructions.I32 ops.LtU)) (λ c. refl) k w h
  operation_printed may ops.GtS k w h = op_printed may 74 (Plain (instructions.I32 ops.GtS)) (λ c. refl) k w h
  operation_printed may ops.GtU k w h = op_printed may 75 (Plain (instructions.I32 ops.GtU)) (λ c. refl) k w h
  operation_printed may ops.LeS k w h = op_printed may 76 (Plain (instructions.I32 ops.LeS)) (λ c. refl) k w h
  operation_printed may ops.LeU k w h = op_printed may 77 (Plain (instructions.I32 ops.LeU)) (λ c. refl) k w h
  operation_printed may ops.GeS k w h = op_printed may 78 (Plain (instructions.I32 ops.GeS)) (λ c. refl) k w h
  operation_printed may ops.GeU k w h = op_printed may 79 (Plain (instructions.I32 ops.GeU)) (λ c. refl) k w h
  operation_printed may ops.Add k w h = op_printed may 106 (Plain (instructions.I32 ops.Add)) (λ c. refl) k w h
  operation_printed may ops.Sub k w h = op_printed may 107 (Plain (instructions.I32 ops.Sub)) (λ c. refl) k w h
  operation_printed may ops.Mul k w h = op_printed may 108 (Plain (instructions.I32 ops.Mul)) (λ c. refl) k w h
  operation_printed may ops.And k w h = op_printed may 113 (Plain (instructions.I32 ops.And)) (λ c. refl) k w h
  operation_printed may ops.Or k w h = op_printed may 114 (Plain (instructions.I32 ops.Or)) (λ c. refl) k w h
  operation_printed may ops.Xor k w h = op_printed may 115 (Plain (instructions.I32 ops.Xor)) (λ c. refl) k w h
  operation_printed may ops.Shl k w h = op_printed may 116 (Plain (instructions.I32 ops.Shl)) (λ c. refl) k w h
  operation_printed may ops.ShrS k w h = op_printed may 117 (Plain (instructions.I32 ops.ShrS)) (λ c. refl) k w h
  operation_printed may ops.ShrU k w h = op_printed may 118 (Plain (instructions.I32 ops.ShrU)) (λ c. refl) k w h

  pub instr_printed : (may : Bool) (i : Instr) → MayCome may i → IsInstr i → Prints (instr may) put_instr i
  unfolding instr row put_instr
  instr_printed may instructions.Unreachable q f k w h = op_printed may 0 (Plain (instructions.Unreachable)) (λ c. refl) k _ h
  instr_printed may instructions.Nop q f k w h = op_printed may 1 (Plain (instructions.Nop)) (λ c. refl) k _ h
  instr_printed may (instructions.Block t) q f k w h = op_printed may 2 (Typed instructions.Block) (λ c. refl) k _ (block_type_printed t (λ t. k (instructions.Block t)) w h)
  instr_printed may (instructions.Loop t) q f k w h = op_printed may 3 (Typed instructions.Loop) (λ c. refl) k _ (block_type_printed t (λ t. k (instructions.Loop t)) w h)
  instr_printed may (instructions.If t) q f k w h = op_printed may 4 (Typed instructions.If) (λ c. refl) k _ (block_type_printed t (λ t. k (instructions.If t)) w h)
  instr_printed may instructions.Else q f k w h = else_first may q
    where
      else_first : (may : Bool) → may ≡ true → SpellsPart (instr may k) (5 ∷ w) ws m
      else_first true e = (5, 1, (refl, (w, refl), refl), h)
      else_first false e = absurd cc
  instr_printed may instructions.End q f k w h = op_printed may 11 (Plain (instructions.End)) (λ c. refl) k _ h
  instr_printed may (instructions.Br n) q f k w h = op_printed may 12 (Index instructions.Br) (λ c. refl) k _ (u32_printed (λ n. k (instructions.Br n)) n w f h)
  instr_printed may (instructions.BrIf n) q f k w h = op_printed may 13 (Index instructions.BrIf) (λ c. refl) k _ (u32_printed (λ n. k (instructions.BrIf n)) n w f h)
  instr_printed may (instructions.BrTable l ls) q f k w h = op_printed may 14 (Table (λ ls l. instructions.BrTable l ls)) (λ c. refl) k _ (indices_printed ls f.0 (λ ls. u32 (λ l. k (instructions.BrTable l ls))) (put_u32 l w) (u32_printed (λ l. k (instructions.BrTable l ls)) l w f.1 h))
  instr_printed may instructions.Return q f k w h = op_printed may 15 (Plain (instructions.Return)) (λ c. refl) k _ h
  instr_printed may (instructions.Call n) q f k w h = op_printed may 16 (Index instructions.Call) (λ c. refl) k _ (u32_printed (λ n. k (instructions.Call n)) n w f h)
  instr_printed may (instructions.CallIndirect index table) q f k w h = op_printed may 17 (Pair instructions.CallIndirect) (λ c. refl) k _ (u32_printed (λ a. u32 (λ b. k (instructions.CallIndirect a b))) index (put_u32 table w) f.0
      (u32_printed (λ b. k (instructions.CallIndirect index b)) table w f.1 h))
  instr_printed may (instructions.ReturnCall n) q f k w h = op_printed may 18 (Index instructions.ReturnCall) (λ c. refl) k _ (u32_printed (λ n. k (instructions.ReturnCall n)) n w f h)
  instr_printed may (instructions.ReturnCallIndirect index table) q f k w h = op_printed may 19 (Pair instructions.ReturnCallIndirect) (λ c. refl) k _ (u32_printed (λ a. u32 (λ b. k (instructions.ReturnCallIndirect a b))) index (put_u32 table w) f.0
      (u32_printed (λ b. k (instructions.ReturnCallIndirect index b)) table w f.1 h))
  instr_printed may instructions.Drop q f k w h = op_printed may 26 (Plain (instructions.Drop)) (λ c. refl) k _ h
  instr_printed may (instructions.LocalGet n) q f k w h = op_printed may 32 (Index instructions.LocalGet) (λ c. refl) k _ (u32_printed (λ n. k (instructions.LocalGet n)) n w f h)
  instr_printed may (instructions.LocalSet n) q f k w h = op_printed may 33 (Index instructions.LocalSet) (λ c. refl) k _ (u32_printed (λ n. k (instructions.LocalSet n)) n w f h)
  instr_printed may (instructions.LocalTee n) q f k w h = op_printed may 34 (Index instructions.LocalTee) (λ c. refl) k _ (u32_printed (λ n. k (instructions.LocalTee n)) n w f h)
  instr_printed may (instructions.GlobalGet n) q f k w h = op_printed may 35 (Index instructions.GlobalGet) (λ c. refl) k _ (u32_printed (λ n. k (instructions.GlobalGet n)) n w f h)
  instr_printed may (instructions.GlobalSet n) q f k w h = op_printed may 36 (Index instructions.GlobalSet) (λ c. refl) k _ (u32_printed (λ n. k (instructions.GlobalSet n)) n w f h)
  instr_printed may (instructions.I32Load a) q f k w h = op_printed may 40 (Accessing instructions.I32Load) (λ c. refl) k _ (access_printed a f (λ a. k (instructions.I32Load a)) w h)
  instr_printed may (instructions.I32Load8U a) q f k w h = op_printed may 45 (Accessing instructions.I32Load8U) (λ c. refl) k _ (access_printed a f (λ a. k (instructions.I32Load8U a)) w h)
  instr_printed may (instructions.I32Store a) q f k w h = op_printed may 54 (Accessing instructions.I32Store) (λ c. refl) k _ (access_printed a f (λ a. k (instructions.I32Store a)) w h)
  instr_printed may (instructions.I32Store8 a) q f k w h = op_printed may 58 (Accessing instructions.I32Store8) (λ c. refl) k _ (access_printed a f (λ a. k (instructions.I32Store8 a)) w h)
  instr_printed may instructions.MemorySize q f k w h = op_printed may 63 (Zeroed (instructions.MemorySize)) (λ c. refl) k _ (byte_printed 0 _ w h)
  instr_printed may instructions.MemoryGrow q f k w h = op_printed may 64 (Zeroed (instructions.MemoryGrow)) (λ c. refl) k _ (byte_printed 0 _ w h)
  instr_printed may (instructions.I32Const n) q f k w h = op_printed may 65 (Bits instructions.I32Const) (λ c. refl) k _ (s32_printed (λ n. k (instructions.I32Const n)) n w f h)
  instr_printed may (instructions.I64Const n) q f k w h = op_printed may 66 (LongBits instructions.I64Const) (λ c. refl) k _ (s64_printed (λ n. k (instructions.I64Const n)) n w f h)
  instr_printed may (instructions.I32 op) q f k w h = operation_printed may op k w h

  pub instrs_printed : (fuel : ℕ) (os : List Bool) (is done : List Instr) → length is ≤ fuel → IsClosed os is → (k : List Instr → Spelling) (w : List ℕ) → SpellsPart (k (done ++ is)) w ws m → SpellsPart (instrs fuel os done k) (put_all put_instr is w) ws m
  unfolding instrs put_all
  instrs_printed fuel [] [] done l b k w h = subst (λ xs. SpellsPart (k xs) w ws m) (append-nil done) h
  instrs_printed fuel [] (i ∷ is) done l b k w h = absurd b
  instrs_printed fuel (o ∷ os) [] done l b k w h = absurd b
  instrs_printed zero (o ∷ os) (i ∷ is) done l b k w h = absurd (omega (arith, l))
  instrs_printed (suc fuel) (o ∷ os) (i ∷ is) done l (q, f, b) k w h =
      instr_printed o i q f _ _ (instrs_printed fuel (opens_after i (o ∷ os)) is (done ++ i ∷ []) (omega (arith, l)) b k w (subst (λ ys. SpellsPart (k ys) w ws m) (sym (append_assoc done (i ∷ []) is)) h))
