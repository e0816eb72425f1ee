-- What bytes spell meets the condition of modules.
use Rattle.std.proofs.Common.{◌≡◌, inl, inr, ℕ, zero, suc, ◌+◌, ◌-◌, ◌^◌, ◌<◌, ◌≤◌, List, [], ◌∷◌, ◌++◌, length, take, drop, Option, Some, None, Bool, true, false, refl, sym, subst, arith, append_assoc, append-nil, length-append}
use Rattle.std.specs.Prelude.{if◌then◌else◌, replicate, IsUtf8, nat_eq, not, ◌&&◌}
use Rattle.std.proofs.lemmas.Bool.{leb-true, eqb-true, not-false}
use Rattle.std.proofs.lemmas.List.{length-replicate}
use Rattle.std.proofs.Math.Pow.{pow_mono}
use Rattle.std.proofs.lemmas.Option.{same_Some}
use Rattle.wasm_core.proofs.Powers.{seven_off, half_below}
use Rattle.wasm_core.specs.Parts.{Parts}
use Rattle.wasm_core.specs.ModuleCondition.{All, IsU32, IsU64, IsVector, IsFuncType, IsLimits, AreSizes, IsConstValue, IsGlobal, IsExport, IsSegment, IsAccess, IsInstr, MayCome, opens_after, IsClosed, IsBody, IsModule}
use Rattle.wasm_core.specs.Format.{Name, Skip}
use Rattle.wasm_core.specs.Spelling.{Lasts, SpellsNumber, SpellsPart}
use Rattle.wasm_core.specs.ModuleGrammar.{Spelling, byte, u32, s32, s64, on, coded, find, finish, times, val_type, val_types, func_result, func_type, limits_flag, limits, mutability, block_type, access, row, Row, Plain, Typed, Index, Accessing, Pair, Table, Zeroed, Bits, LongBits, opcodes, operations, operation_row, row_or, opcode, instr, instrs, constant_of, constant_opcodes, constant, table_type, table, segment, segments, last_after, groups, locals, body, func_types, indices, memory, global, globals, export_kind, exported, exports, bodies, contents, section, section_id, next_section, is_whole, sections, header, file, empty, SpellsModule}
use Rattle.wasm_core.specs.declared.types.ValType.{ValType}
use Rattle.wasm_core.specs.declared.types.ValType.TheVariants.{I32, I64}
use Rattle.wasm_core.specs.declared.instrs.BlockType.{BlockType}
use Rattle.wasm_core.specs.declared.instrs.I32Op.{I32Op}
use Rattle.wasm_core.specs.declared.instrs.Instr.TheVariants as instructions
use Rattle.wasm_core.specs.declared.types.Limits.{Limits}
use Rattle.wasm_core.specs.declared.types.ConstValue.TheVariants as constants
use Rattle.wasm_core.specs.declared.instrs.Access.{Access}
use Rattle.wasm_core.specs.declared.instrs.Instr.{Instr}
use Rattle.wasm_core.specs.declared.sections.Section.{Section}
use Rattle.wasm_core.specs.declared.sections.Section.TheVariants as sec

-- ---- numbers

last_fits : (s : Bool) (bits b n : ℕ) → Lasts s bits b n → n < 2 ^ bits
last_fits false bits b n (h, l, e) = rw e l
last_fits true bits b n (inl (h, l, e)) = rw e (half_below bits b l)
last_fits true bits b n (inr (g, h, l, e)) = let p : 2 ^ 0 ≤ 2 ^ bits = pow_mono {i = 0} {j = bits} (omega arith) in rw e (omega (arith, p, h))

spelled_fits : (s : Bool) (bits : ℕ) (w : List ℕ) (n : ℕ) → SpellsNumber s bits w n → n < 2 ^ bits
spelled_fits s bits [] n h = absurd h
spelled_fits s bits (b ∷ []) n h = last_fits s bits b n h
spelled_fits s bits (b ∷ c ∷ w) n (g, x, m, (high, e, p)) =
    let ih = spelled_fits s (bits - 7) (c ∷ w) high p in
    let q = seven_off bits (omega (arith, m)) in
    omega (arith, ih, q, g, x, e)

-- ---- whatever comes after it and around it, bytes that spell something spell a thing that meets this condition

abbrev pub Makes : {A : Type 0} → ((A → Spelling) → Spelling) → (A → Type 0) → Type 0
Makes {A = A} one P = (k : A → Spelling) (w : List ℕ) (ws : List (List ℕ)) (m : Parts) → SpellsPart (one k) w ws m → (x : A) × P x × ((v : List ℕ) × (vs : List (List ℕ)) × SpellsPart (k x) v vs m)

abbrev Any : {A : Type 0} → A → Type 0
Any x = Unit {0}

u32_makes : Makes u32 IsU32
unfolding u32
u32_makes k w ws m (n, j, (i, f), h) = (n, spelled_fits false 32 (take j w) n i.1, (drop j w, ws, h))

s32_makes : Makes s32 IsU32
unfolding s32
s32_makes k w ws m (n, j, (i, f), h) = (n, spelled_fits true 32 (take j w) n i.1, (drop j w, ws, h))

s64_makes : Makes s64 IsU64
unfolding s64
s64_makes k w ws m (n, j, (i, f), h) = (n, spelled_fits true 64 (take j w) n i.1, (drop j w, ws, h))

byte_makes : (b : ℕ) (k : Spelling) (w : List ℕ) (ws : List (List ℕ)) (m : Parts) → SpellsPart (byte b k) w ws m → (v : List ℕ) × (vs : List (List ℕ)) × SpellsPart k v vs m
unfolding byte
byte_makes b k w ws m (c, j, i, h) = (drop j w, ws, h)

pub on_makes : {A : Type 0} (o : Option A) (k : A → Spelling) (w : List ℕ) (ws : List (List ℕ)) (m : Parts) → SpellsPart (on o k) w ws m → (x : A) × (o ≡ Some x) × SpellsPart (k x) w ws m
on_makes None k w ws m h = absurd h
on_makes (Some x) k w ws m h = (x, refl, h)

coded_makes : {A : Type 0} (table : ℕ → Option A) (P : A → Type 0) → ((b : ℕ) (x : A) → table b ≡ Some x → P x) → Makes (coded table) P
coded_makes table P f k w ws m (b, j, i, h) = let (x, e, h2) = on_makes (table b) k (drop j w) ws m h in (x, f b x e, (drop j w, ws, h2))

-- what is found in a table meets the condition that its rows meet
pub found_row : {A : Type 0} (P : A → Type 0) (b : ℕ) (rows : List (ℕ × A)) → All (λ r. P r.1) rows → (x : A) → find b rows ≡ Some x → P x
found_row P b [] a x e = absurd cc
found_row {A = A} P b (r ∷ rows) (p, a) x e =
    let goal : (c : Bool) → (if c then Some r.1 else find b rows) ≡ Some x → P x =
    λ c. elim c as (λ c. (if c then Some r.1 else find b rows) ≡ Some x → P x) [
      | true ↦ λ e. let q : r.1 ≡ x = same_Some _ _ e in subst P q p
      | false ↦ λ e. found_row P b rows a x e
    ] in goal _ e

finish_makes : (k : Spelling) (w : List ℕ) (ws : List (List ℕ)) (m : Parts) → SpellsPart (finish k) w ws m → (v : List ℕ) × (vs : List (List ℕ)) × SpellsPart k v vs m
unfolding finish
finish_makes k [] ws m (e, h) = (_, _, h)
finish_makes k (b ∷ w) ws m h = absurd h

pub take_few : {A : Type 0} (n : ℕ) (xs : List A) → length (take n xs) ≤ n
take_few zero xs = omega arith
take_few (suc n) [] = omega arith
take_few (suc n) (x ∷ xs) = let h = take_few n xs in omega (arith, h)

name_makes : Makes Name (λ s. IsUtf8 s × IsU32 (length s))
name_makes k w ws m (s, j, (n, i, p, l, t, u, e), h) =
    let f = spelled_fits false 32 (take i w) n p.1 in
    let c : length s ≤ n = rw t (take_few n (drop i w)) in
    (s, (u, omega (arith, f, c)), (drop j w, ws, h))

all_push : {A : Type 0} (P : A → Type 0) (xs : List A) (x : A) → All P xs → P x → All P (xs ++ x ∷ [])
all_push P [] x a p = (p, tt)
all_push P (y ∷ ys) x (q, a) p = (q, all_push P ys x a p)

-- so many of them, after those that are there
times_makes : {A : Type 0} (n : ℕ) (one : (A → Spelling) → Spelling) (P : A → Type 0) → Makes one P → (done : List A) → All P done → Makes (times n one done) (λ xs. All P xs × (length xs ≡ length done + n))
unfolding times
times_makes zero one P f done a k w ws m h = (done, (a, omega arith), (w, ws, h))
times_makes (suc n) one P f done a k w ws m h =
    let (x, p, (v, vs, g)) = f _ w ws m h in
    let (xs, (b, e), r) = times_makes n one P f (done ++ x ∷ []) (all_push P done x a p) k v vs m g in
    let l = length-append done (x ∷ []) in
    (xs, (b, omega (arith, e, l)), r)

vector_makes : {A : Type 0} (one : (A → Spelling) → Spelling) (P : A → Type 0) → Makes one P → Makes (λ k. u32 (λ n. times n one [] k)) (IsVector P)
vector_makes one P f k w ws m h =
    let (n, l, (v, vs, g)) = u32_makes (λ n. times n one [] k) w ws m h in
    let (xs, (a, e), r) = times_makes n one P f [] tt k v vs m g in
    (xs, (omega (arith, l, e), a), r)

-- ---- types

val_type_makes : Makes val_type Any
unfolding val_type
val_type_makes k w ws m h = coded_makes _ Any (λ b x e. tt) k w ws m h

val_types_makes : Makes val_types (λ ts. IsU32 (length ts))
unfolding val_types
val_types_makes k w ws m h = let (ts, v, r) = vector_makes val_type Any val_type_makes k w ws m h in (ts, v.0, r)

func_result_makes : Makes func_result Any
unfolding func_result
func_result_makes k w ws m (n, j, (i, f), h) =
    let goal : (c : Bool) → SpellsPart (if c then k None else val_type (λ t. k (Some t))) (drop j w) ws m → (x : Option ValType) × Any x × ((v : List ℕ) × (vs : List (List ℕ)) × SpellsPart (k x) v vs m) =
    λ c. elim c as (λ c. SpellsPart (if c then k None else val_type (λ t. k (Some t))) (drop j w) ws m → (x : Option ValType) × Any x × ((v : List ℕ) × (vs : List (List ℕ)) × SpellsPart (k x) v vs m)) [
      | true ↦ λ h. (None, tt, (drop j w, ws, h))
      | false ↦ λ h. let (t, p, r) = val_type_makes (λ t. k (Some t)) (drop j w) ws m h in (Some t, tt, r)
    ] in goal _ h

func_type_makes : Makes func_type IsFuncType
unfolding func_type
func_type_makes k w ws m h =
    let (w1, ws1, h1) = byte_makes 96 _ w ws m h in
    let (ps, l, (w2, ws2, h2)) = val_types_makes (λ ps. func_result (λ r. k (record { params = ps; result = r }))) w1 ws1 m h1 in
    let (r, p, (w3, ws3, h3)) = func_result_makes (λ r. k (record { params = ps; result = r })) w2 ws2 m h2 in
    (record { params = ps; result = r }, l, (w3, ws3, h3))

limits_flag_makes : Makes limits_flag Any
unfolding limits_flag
limits_flag_makes k w ws m h = coded_makes _ Any (λ b x e. tt) k w ws m h

limits_makes : Makes limits IsLimits
unfolding limits
limits_makes k w ws m h =
    let (bounded, p, (w1, ws1, h1)) = limits_flag_makes (λ bounded. u32 (λ lo. if bounded then u32 (λ hi. k (record { min = lo; max = Some hi })) else k (record { min = lo; max = None }))) w ws m h in
    let (lo, l, (w2, ws2, h2)) = u32_makes (λ lo. if bounded then u32 (λ hi. k (record { min = lo; max = Some hi })) else k (record { min = lo; max = None })) w1 ws1 m h1 in
    let goal : (c : Bool) → SpellsPart (if c then u32 (λ hi. k (record { min = lo; max = Some hi })) else k (record { min = lo; max = None })) w2 ws2 m → (x : Limits) × IsLimits x × ((v : List ℕ) × (vs : List (List ℕ)) × SpellsPart (k x) v vs m) =
    λ c. elim c as (λ c. SpellsPart (if c then u32 (λ hi. k (record { min = lo; max = Some hi })) else k (record { min = lo; max = None })) w2 ws2 m → (x : Limits) × IsLimits x × ((v : List ℕ) × (vs : List (List ℕ)) × SpellsPart (k x) v vs m)) [
      | true ↦ λ h. let (hi, u, r) = u32_makes (λ hi. k (record { min = lo; max = Some hi })) w2 ws2 m h in (record { min = lo; max = Some hi }, (l, u), r)
      | false ↦ λ h. (record { min = lo; max = None }, (l, tt), (w2, ws2, h))
    ] in goal bounded h2

memory_makes : Makes memory AreSizes
unfolding memory
memory_makes k w ws m (n, j, (i, f), h) =
    let goal : (c : Bool) → SpellsPart (if c then k None else limits (λ l. k (Some l))) (drop j w) ws m → (x : Option Limits) × AreSizes x × ((v : List ℕ) × (vs : List (List ℕ)) × SpellsPart (k x) v vs m) =
    λ c. elim c as (λ c. SpellsPart (if c then k None else limits (λ l. k (Some l))) (drop j w) ws m → (x : Option Limits) × AreSizes x × ((v : List ℕ) × (vs : List (List ℕ)) × SpellsPart (k x) v vs m)) [
      | true ↦ λ h. (None, tt, (drop j w, ws, h))
      | false ↦ λ h. let (l, p, r) = limits_makes (λ l. k (Some l)) (drop j w) ws m h in (Some l, p, r)
    ] in goal _ h

mutability_makes : Makes mutability Any
unfolding mutability
mutability_makes k w ws m h = coded_makes _ Any (λ b x e. tt) k w ws m h

-- ---- instructions

block_type_makes : Makes block_type Any
unfolding block_type
block_type_makes k w ws m h = coded_makes _ Any (λ b x e. tt) k w ws m h

indices_make : Makes indices (IsVector IsU32)
unfolding indices
indices_make k w ws m h = vector_makes u32 IsU32 u32_makes k w ws m h

access_makes : Makes access IsAccess
unfolding access
access_makes k w ws m h =
    let (a, l, (w1, ws1, h1)) = u32_makes (λ a. u32 (λ o. k (record { align = a; offset = o }))) w ws m h in
    let (o, q, r) = u32_makes (λ o. k (record { align = a; offset = o })) w1 ws1 m h1 in
    (record { align = a; offset = o }, (l, q), r)

-- what may come, and has its bits
abbrev Meets : Bool → Instr → Type 0
Meets may i = MayCome may i × IsInstr i

IsRow : Bool → Row → Type 0
IsRow may (Plain i) = Meets may i
IsRow may (Typed i) = (t : BlockType) → Meets may (i t)
IsRow may (Index i) = (n : ℕ) → IsU32 n → Meets may (i n)
IsRow may (Accessing i) = (a : Access) → IsAccess a → Meets may (i a)
IsRow may (Pair i) = (a b : ℕ) → IsU32 a → IsU32 b → Meets may (i a b)
IsRow may (Table i) = (ls : List ℕ) (l : ℕ) → IsVector IsU32 ls → IsU32 l → Meets may (i ls l)
IsRow may (Zeroed i) = Meets may i
IsRow may (Bits i) = (n : ℕ) → IsU32 n → Meets may (i n)
IsRow may (LongBits i) = (n : ℕ) → IsU64 n → Meets may (i n)

row_makes : (may : Bool) (r : Row) → IsRow may r → Makes (row r) (Meets may)
unfolding row IsRow
row_makes may (Plain i) p k w ws m h = (i, p, (w, ws, h))
row_makes may (Typed i) p k w ws m h = let (t, u, r) = block_type_makes (λ t. k (i t)) w ws m h in (i t, p t, r)
row_makes may (Index i) p k w ws m h = let (n, l, r) = u32_makes (λ n. k (i n)) w ws m h in (i n, p n l, r)
row_makes may (Accessing i) p k w ws m h = let (a, l, r) = access_makes (λ a. k (i a)) w ws m h in (i a, p a l, r)
row_makes may (Pair i) p k w ws m h =
    let (a, l, (w1, ws1, h1)) = u32_makes (λ a. u32 (λ b. k (i a b))) w ws m h in
    let (b, q, r) = u32_makes (λ b. k (i a b)) w1 ws1 m h1 in
    (i a b, p a b l q, r)
row_makes may (Table i) p k w ws m h =
    let (ls, l, (w1, ws1, h1)) = indices_make (λ ls. u32 (λ l. k (i ls l))) w ws m h in
    let (n, q, r) = u32_makes (λ l. k (i ls l)) w1 ws1 m h1 in
    (i ls n, p ls n l q, r)
row_makes may (Zeroed i) p k w ws m h = let r = byte_makes 0 (k i) w ws m h in (i, p, r)
row_makes may (Bits i) p k w ws m h = let (n, l, r) = s32_makes (λ n. k (i n)) w ws m h in (i n, p n l, r)
row_makes may (LongBits i) p k w ws m h = let (n, l, r) = s64_makes (λ n. k (i n)) w ws m h in (i n, p n l, r)

-- what is found in a table meets what its key says
found_by_key : {A : Type 0} (P : ℕ → A → Type 0) (b : ℕ) (rows : List (ℕ × A)) → All (λ r. P r.0 r.1) rows → (x : A) → find b rows ≡ Some x → P b x
found_by_key P b [] a x e = absurd cc
found_by_key {A = A} P b (r ∷ rows) (p, a) x e =
    let goal : (c : Bool) → nat_eq b r.0 ≡ c → (if c then Some r.1 else find b rows) ≡ Some x → P b x =
    λ c. elim c as (λ c. nat_eq b r.0 ≡ c → (if c then Some r.1 else find b rows) ≡ Some x → P b x) [
      | true ↦ λ t e. let q : r.1 ≡ x = same_Some _ _ e in let k : b ≡ r.0 = eqb-true b r.0 t in subst (λ k. P k x) (sym k) (subst (P r.0) q p)
      | false ↦ λ t e. found_by_key P b rows a x e
    ] in goal _ refl e

abbrev Allowed : Bool → ℕ → Row → Type 0
Allowed may b r = (nat_eq b 5 && not may) ≡ false → IsRow may r

opcodes_meet : (may : Bool) (b : ℕ) (r : Row) → find b opcodes ≡ Some r → (nat_eq b 5 && not may) ≡ false → IsRow may r
unfolding IsRow
opcodes_meet may b r e f = found_by_key (Allowed may) b opcodes (
  λ f. (tt, tt),
  (
    λ f. (tt, tt),
    (
      λ f t. (tt, tt),
      (
        λ f t. (tt, tt),
        (
          λ f t. (tt, tt),
          (
            λ f. (not-false may f, tt),
            (
              λ f. (tt, tt),
              (
                λ f n l. (tt, l),
                (
                  λ f n l. (tt, l),
                  (
                    λ f ls l v u. (tt, (v, u)),
                    (
                      λ f. (tt, tt),
                      (
                        λ f n l. (tt, l),
                        (
                          λ f a b l q. (tt, (l, q)),
                          (
                            λ f n l. (tt, l),
                            (
                              λ f a b l q. (tt, (l, q)),
                              (
                                λ f. (tt, tt),
                                (
                                  λ f n l. (tt, l),
                                  (
                                    λ f n l. (tt, l),
                                    (λ f n l. (tt, l), (λ f n l. (tt, l), (λ f n l. (tt, l), (λ f a l. (tt, l), (λ f a l. (tt, l), (λ f a l. (tt, l), (λ f a l. (tt, l), (λ f. (tt, tt), (λ f. (tt, tt), (λ f n l. (tt, l), (λ f n l. (tt, l), tt))))))))))),
                                  ),
                                ),
                              ),
                            ),
                          ),
                        ),
                      ),
                    ),
                  ),
                ),
              ),
            ),
          ),
        ),
      ),
    ),
  ),
) r e f

operation_meets : (may : Bool) (o : Option I32Op) (r : Row) → operation_row o ≡ Some r → IsRow may r
unfolding IsRow
operation_meets may None r e = absurd cc
operation_meets may (Some op) r e = let q : Plain (instructions.I32 op) ≡ r = same_Some _ _ e in subst (IsRow may) q (tt, tt)

row_meets : (may : Bool) (b : ℕ) (x : Option Row) → find b opcodes ≡ x → (r : Row) → row_or x (find b operations) ≡ Some r → (nat_eq b 5 && not may) ≡ false → IsRow may r
row_meets may b None h r e f = operation_meets may (find b operations) r e
row_meets may b (Some x) h r e f = let q : x ≡ r = same_Some _ _ e in subst (IsRow may) q (opcodes_meet may b x h f)

opcode_meets : (may : Bool) (b : ℕ) (r : Row) → opcode may b ≡ Some r → IsRow may r
opcode_meets may b r e =
    let goal : (c : Bool) → (nat_eq b 5 && not may) ≡ c → (if c then None else row_or (find b opcodes) (find b operations)) ≡ Some r → IsRow may r =
    λ c. elim c as (λ c. (nat_eq b 5 && not may) ≡ c → (if c then None else row_or (find b opcodes) (find b operations)) ≡ Some r → IsRow may r) [
      | true ↦ λ f e. absurd cc
      | false ↦ λ f e. row_meets may b (find b opcodes) refl r e f
    ] in goal _ refl e

instr_makes : (may : Bool) → Makes (instr may) (Meets may)
unfolding instr
instr_makes may k w ws m h =
    let (r, p, (w1, ws1, h1)) = coded_makes (opcode may) (IsRow may) (opcode_meets may) (λ r. row r k) w ws m h in
    row_makes may r p k w1 ws1 m h1

instrs_make : (fuel : ℕ) (os : List Bool) (done : List Instr) (k : List Instr → Spelling) (w : List ℕ) (ws : List (List ℕ)) (m : Parts) → SpellsPart (instrs fuel os done k) w ws m → (is : List Instr) × IsClosed os is × ((v : List ℕ) × (vs : List (List ℕ)) × SpellsPart (k (done ++ is)) v vs m)
unfolding instrs
instrs_make fuel [] done k w ws m h = ([], tt, (w, ws, subst (λ is. SpellsPart (k is) w ws m) (sym (append-nil done)) h))
instrs_make zero (o ∷ os) done k w ws m h = absurd h
instrs_make (suc fuel) (o ∷ os) done k w ws m h =
    let (i, (q, p), (w1, ws1, h1)) = instr_makes o (λ i. instrs fuel (opens_after i (o ∷ os)) (done ++ i ∷ []) k) w ws m h in
    let (is, c, (w2, ws2, h2)) = instrs_make fuel (opens_after i (o ∷ os)) (done ++ i ∷ []) k w1 ws1 m h1 in
    (i ∷ is, (q, p, c), (w2, ws2, subst (λ is. SpellsPart (k is) w2 ws2 m) (append_assoc done (i ∷ []) is) h2))

constant_of_makes : (t : ValType) → Makes (constant_of t) IsConstValue
constant_of_makes I32 k w ws m h =
    let (n, l, (w2, ws2, h2)) = s32_makes (λ n. byte 11 (k (constants.I32 n))) w ws m h in
    let (w3, ws3, h3) = byte_makes 11 _ w2 ws2 m h2 in
    (constants.I32 n, l, (w3, ws3, h3))
constant_of_makes I64 k w ws m h =
    let (n, l, (w2, ws2, h2)) = s64_makes (λ n. byte 11 (k (constants.I64 n))) w ws m h in
    let (w3, ws3, h3) = byte_makes 11 _ w2 ws2 m h2 in
    (constants.I64 n, l, (w3, ws3, h3))

constant_makes : Makes constant IsConstValue
unfolding constant
constant_makes k w ws m h =
    let (t, p, (w1, ws1, h1)) = coded_makes (λ b. find b constant_opcodes) Any (λ b x e. tt) (λ t. constant_of t k) w ws m h in
    constant_of_makes t k w1 ws1 m h1

-- ---- bodies

groups_make : (n : ℕ) (done : List ValType) → length done ≤ 50000 → Makes (groups n done) (λ ts. length ts ≤ 50000)
unfolding groups
groups_make zero done l k w ws m h = (done, l, (w, ws, h))
groups_make (suc n) done l k w ws m (c, j, (i, f), h) =
    let (t, p, (w1, ws1, h1)) = val_type_makes (λ t. groups n (done ++ replicate c t) k) (drop j w) ws m h in
    let a = length-append done (replicate c t) in
    let b = length-replicate c t in
    let few = leb-true (length done + c) 50000 f in
    groups_make n (done ++ replicate c t) (omega (arith, a, b, few)) k w1 ws1 m h1

locals_make : Makes locals (λ ts. length ts ≤ 50000)
unfolding locals
locals_make k w ws m h =
    let (n, l, (w1, ws1, h1)) = u32_makes (λ n. groups n [] k) w ws m h in
    groups_make n [] (omega arith) k w1 ws1 m h1

body_makes : Makes body IsBody
unfolding body
body_makes k w ws m (n, j, i, h) =
    let (ls, few, (w1, ws1, h1)) = locals_make (λ ls. instrs n (false ∷ []) [] (λ is. finish (k (record { locals = ls; code = is })))) _ _ m h in
    let (is, c, (w2, ws2, h2)) = instrs_make n (false ∷ []) [] (λ is. finish (k (record { locals = ls; code = is }))) w1 ws1 m h1 in
    let (w3, ws3, h3) = finish_makes (k (record { locals = ls; code = is })) w2 ws2 m h2 in
    (record { locals = ls; code = is }, (few, c), (w3, ws3, h3))

-- ---- sections

global_makes : Makes global IsGlobal
unfolding global
global_makes k w ws m h =
    let (t, p, (w1, ws1, h1)) = val_type_makes (λ t. mutability (λ m. constant (λ c. k (record { mutable = m; ty = t; init = c })))) w ws m h in
    let (b, q, (w2, ws2, h2)) = mutability_makes (λ m. constant (λ c. k (record { mutable = m; ty = t; init = c }))) w1 ws1 m h1 in
    let (c, l, (w3, ws3, h3)) = constant_makes (λ c. k (record { mutable = b; ty = t; init = c })) w2 ws2 m h2 in
    (record { mutable = b; ty = t; init = c }, l, (w3, ws3, h3))

table_type_makes : Makes table_type IsLimits
unfolding table_type
table_type_makes k w ws m h = let (w1, ws1, h1) = byte_makes 112 (limits k) w ws m h in limits_makes k w1 ws1 m h1

table_makes : Makes table AreSizes
unfolding table
table_makes k w ws m (n, j, (i, f), h) =
    let goal : (c : Bool) → SpellsPart (if c then k None else table_type (λ l. k (Some l))) (drop j w) ws m → (x : Option Limits) × AreSizes x × ((v : List ℕ) × (vs : List (List ℕ)) × SpellsPart (k x) v vs m) =
    λ c. elim c as (λ c. SpellsPart (if c then k None else table_type (λ l. k (Some l))) (drop j w) ws m → (x : Option Limits) × AreSizes x × ((v : List ℕ) × (vs : List (List ℕ)) × SpellsPart (k x) v vs m)) [
      | true ↦ λ h. (None, tt, (drop j w, ws, h))
      | false ↦ λ h. let (l, p, r) = table_type_makes (λ l. k (Some l)) (drop j w) ws m h in (Some l, p, r)
    ] in goal _ h

segment_makes : Makes segment IsSegment
unfolding segment
segment_makes k w ws m (n, j, (i, f), h) =
    let (w1, ws1, h1) = byte_makes 65 _ (drop j w) ws m h in
    let (o, l, (w2, ws2, h2)) = s32_makes (λ o. byte 11 (indices (λ fs. k (record { offset = o; funcs = fs })))) w1 ws1 m h1 in
    let (w3, ws3, h3) = byte_makes 11 _ w2 ws2 m h2 in
    let (fs, v, r) = indices_make (λ fs. k (record { offset = o; funcs = fs })) w3 ws3 m h3 in
    (record { offset = o; funcs = fs }, (l, v), r)

export_kind_makes : Makes export_kind Any
unfolding export_kind
export_kind_makes k w ws m h = coded_makes _ Any (λ b x e. tt) k w ws m h

exported_makes : Makes exported IsExport
unfolding exported
exported_makes k w ws m h =
    let (s, (u, l), (w1, ws1, h1)) = name_makes (λ s. export_kind (λ e. u32 (λ i. k (record { name = s; kind = e; index = i })))) w ws m h in
    let (e, p, (w2, ws2, h2)) = export_kind_makes (λ e. u32 (λ i. k (record { name = s; kind = e; index = i }))) w1 ws1 m h1 in
    let (n, q, (w3, ws3, h3)) = u32_makes (λ i. k (record { name = s; kind = e; index = i })) w2 ws2 m h2 in
    (record { name = s; kind = e; index = n }, (u, l, q), (w3, ws3, h3))

bodies_make : (funcs : ℕ) → Makes (bodies funcs) (IsVector IsBody)
unfolding bodies
bodies_make funcs k w ws m (n, j, (i, f), h) =
    let (bs, (a, e), r) = times_makes n body IsBody body_makes [] tt k (drop j w) ws m h in
    let l = spelled_fits false 32 (take j w) n i.1 in
    (bs, (omega (arith, e, l), a), r)

-- the parts that the sections read so far hold
record Partial (m : Parts) : Type 0 where
  types : IsVector IsFuncType m.types
  funcs : IsVector IsU32 m.funcs
  table : AreSizes m.table
  memory : AreSizes m.memory
  globals : IsVector IsGlobal m.globals
  exports : IsVector IsExport m.exports
  elements : IsVector IsSegment m.elements
  bodies : IsVector IsBody m.bodies

contents_make : (s : Section) (p : Parts) → Partial p → Makes (contents s p) Partial
unfolding contents func_types globals exports segments
contents_make sec.Custom p g k w ws m h = let (s, u, (w1, ws1, h1)) = name_makes (λ s. Skip (k p)) w ws m h in (p, g, ([], ws1, h1))
contents_make sec.Types p g k w ws m h = let (xs, v, r) = vector_makes func_type IsFuncType func_type_makes (λ ts. k (record p { types = ts })) w ws m h in (
  record p { types = xs },
  record
      { types = v; funcs = g.funcs; table = g.table; memory = g.memory; globals = g.globals; exports = g.exports; elements = g.elements; bodies = g.bodies },
  r,
)
contents_make sec.Functions p g k w ws m h = let (xs, v, r) = indices_make (λ ts. k (record p { funcs = ts })) w ws m h in (
  record p { funcs = xs },
  record
      { types = g.types; funcs = v; table = g.table; memory = g.memory; globals = g.globals; exports = g.exports; elements = g.elements; bodies = g.bodies },
  r,
)
contents_make sec.Tables p g k w ws m h = let (xs, v, r) = table_makes (λ ts. k (record p { table = ts })) w ws m h in (
  record p { table = xs },
  record
      { types = g.types; funcs = g.funcs; table = v; memory = g.memory; globals = g.globals; exports = g.exports; elements = g.elements; bodies = g.bodies },
  r,
)
contents_make sec.Memories p g k w ws m h = let (xs, v, r) = memory_makes (λ ts. k (record p { memory = ts })) w ws m h in (
  record p { memory = xs },
  record
      { types = g.types; funcs = g.funcs; table = g.table; memory = v; globals = g.globals; exports = g.exports; elements = g.elements; bodies = g.bodies },
  r,
)
contents_make sec.Globals p g k w ws m h = let (xs, v, r) = vector_makes global IsGlobal global_makes (λ ts. k (record p { globals = ts })) w ws m h in (
  record p { globals = xs },
  record
      { types = g.types; funcs = g.funcs; table = g.table; memory = g.memory; globals = v; exports = g.exports; elements = g.elements; bodies = g.bodies },
  r,
)
contents_make sec.Exports p g k w ws m h = let (xs, v, r) = vector_makes exported IsExport exported_makes (λ ts. k (record p { exports = ts })) w ws m h in (
  record p { exports = xs },
  record
      { types = g.types; funcs = g.funcs; table = g.table; memory = g.memory; globals = g.globals; exports = v; elements = g.elements; bodies = g.bodies },
  r,
)
contents_make sec.Elements p g k w ws m h = let (xs, v, r) = vector_makes segment IsSegment segment_makes (λ ts. k (record p { elements = ts })) w ws m h in (
  record p { elements = xs },
  record
      { types = g.types; funcs = g.funcs; table = g.table; memory = g.memory; globals = g.globals; exports = g.exports; elements = v; bodies = g.bodies },
  r,
)
contents_make sec.Codes p g k w ws m h = let (xs, v, r) = bodies_make (length p.funcs) (λ ts. k (record p { bodies = ts })) w ws m h in (
  record p { bodies = xs },
  record
      { types = g.types; funcs = g.funcs; table = g.table; memory = g.memory; globals = g.globals; exports = g.exports; elements = g.elements; bodies = v },
  r,
)

section_makes : (s : Section) (p : Parts) → Partial p → Makes (section s p) Partial
unfolding section
section_makes s p g k w ws m (n, j, i, h) =
    let (q, c, (w1, ws1, h1)) = contents_make s p g (λ m'. finish (k m')) _ _ m h in
    let (w2, ws2, h2) = finish_makes (k q) w1 ws1 m h1 in
    (q, c, (w2, ws2, h2))

whole_is : (p m : Parts) → Partial p → is_whole p ≡ true → p ≡ m → IsModule m
whole_is p m g e q = subst IsModule q (record { types = g.types; funcs = g.funcs; table = g.table; memory = g.memory; globals = g.globals; exports = g.exports; elements = g.elements; bodies = g.bodies; whole = eqb-true _ _ e })

sections_make : (fuel last : ℕ) (p : Parts) → Partial p → (w : List ℕ) (ws : List (List ℕ)) (m : Parts) → SpellsPart (sections fuel last p) w ws m → IsModule m
unfolding sections next_section
sections_make zero last p g [] ws m (e, q) = whole_is p m g e q
sections_make zero last p g (b ∷ w) ws m h = absurd h
sections_make (suc fuel) last p g [] ws m (e, q) = whole_is p m g e q
sections_make (suc fuel) last p g (b ∷ w) ws m (c, j, i, h) =
    let (s, e, h1) = on_makes (section_id last c) (λ s. section s p (λ m'. sections fuel (last_after last c) m')) (drop j (b ∷ w)) ws m h in
    let (q, f, (w2, ws2, h2)) = section_makes s p g (λ m'. sections fuel (last_after last c) m') (drop j (b ∷ w)) ws m h1 in
    sections_make fuel (last_after last c) q f w2 ws2 m h2

empty_is : Partial empty
empty_is = record { types = (omega arith, tt); funcs = (omega arith, tt); table = tt; memory = tt; globals = (omega arith, tt); exports = (omega arith, tt); elements = (omega arith, tt); bodies = (omega arith, tt) }

header_makes : (k : Spelling) (w : List ℕ) (ws : List (List ℕ)) (m : Parts) → SpellsPart (header k) w ws m → (v : List ℕ) × (vs : List (List ℕ)) × SpellsPart k v vs m
unfolding header
header_makes k w ws m h =
    let (w1, ws1, h1) = byte_makes 0 _ w ws m h in
    let (w2, ws2, h2) = byte_makes 97 _ w1 ws1 m h1 in
    let (w3, ws3, h3) = byte_makes 115 _ w2 ws2 m h2 in
    let (w4, ws4, h4) = byte_makes 109 _ w3 ws3 m h3 in
    let (w5, ws5, h5) = byte_makes 1 _ w4 ws4 m h4 in
    let (w6, ws6, h6) = byte_makes 0 _ w5 ws5 m h5 in
    let (w7, ws7, h7) = byte_makes 0 _ w6 ws6 m h6 in
    byte_makes 0 k w7 ws7 m h7

pub is_module : (bytes : List ℕ) (m : Parts) → SpellsModule bytes m → IsModule m
unfolding file
is_module bytes m h =
    let (w, ws, h1) = header_makes (sections (length bytes) 0 empty) bytes [] m h in
    sections_make (length bytes) 0 empty empty_is w ws m h1
