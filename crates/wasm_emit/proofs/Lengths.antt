-- How long the bytes of numbers, instructions and bodies are.
use Rattle.std.proofs.Common.{◌≡◌, ℕ, zero, suc, ◌+◌, ◌-◌, ◌/◌, ◌%◌, ◌^◌, ◌<◌, ◌≤◌, List, [], ◌∷◌, ◌++◌, length, length-append, replicate, Bool, true, false, refl, ap, sym, ◌∙◌, subst, arith}
use Rattle.std.proofs.lemmas.Bool.{and_from, lt-ltb, ltb-false}
use Rattle.std.specs.Prelude.{nat_lt, if◌then◌else◌}
use Rattle.wasm_core.specs.declared.types.ValType.{ValType}
use Rattle.wasm_core.specs.declared.types.ValType.TheVariants.{I32}
use Rattle.wasm_core.specs.declared.instrs.BlockType.{BlockType}
use Rattle.wasm_core.specs.declared.instrs.I32Op.{I32Op}
use Rattle.wasm_core.specs.declared.instrs.Instr.{Instr}
use Rattle.wasm_core.specs.declared.instrs.Instr.TheVariants.{Unreachable, If, Else, End, Call, CallIndirect, LocalGet, LocalSet, LocalTee, GlobalGet, GlobalSet, MemorySize, I32 as Operation}
use Rattle.wasm_core.specs.ShortestBytes.{unsigned, signed, is_low, is_high, add_local, put_u32, put_all, put_list, put_instr, runs, put_run, put_locals, body_bytes, put_body}
use Rattle.wasm_emit.specs.EmittedCode.{Load, StoreWord, ConstWord}
use Rattle.wasm_emit.specs.EmittedModule.{body}

chosen : (b : Bool) (x y : List ℕ) (k : ℕ) → (b ≡ true → length x ≤ k) → (b ≡ false → length y ≤ k) → length (if b then x else y) ≤ k
chosen true x y k f g = f refl
chosen false x y k f g = g refl

pub u_any : (g n : ℕ) (w : List ℕ) → length (unsigned g n w) ≤ g + length w
unfolding unsigned
u_any zero n w = omega arith
u_any (suc g) n w = chosen (nat_lt n 128) (n ∷ w) ((n % 128 + 128) ∷ unsigned g (n / 128) w) (suc g + length w) (λ e. omega arith) (λ e. omega (arith, u_any g (n / 128) w))

pub u_1 : (g n : ℕ) (w : List ℕ) → n < 128 → length (unsigned (suc g) n w) ≤ 1 + length w
unfolding unsigned
u_1 g n w h = chosen (nat_lt n 128) (n ∷ w) ((n % 128 + 128) ∷ unsigned g (n / 128) w) (1 + length w) (λ e. omega arith) (λ e. let z = ltb-false n 128 e in absurd (omega (arith, z)))

pub u_2 : (g n : ℕ) (w : List ℕ) → n < 16384 → length (unsigned (suc (suc g)) n w) ≤ 2 + length w
unfolding unsigned
u_2 g n w h = chosen (nat_lt n 128) (n ∷ w) ((n % 128 + 128) ∷ unsigned (suc g) (n / 128) w) (2 + length w) (λ e. omega arith) (λ e. omega (arith, u_1 g (n / 128) w (omega arith)))

pub u_3 : (g n : ℕ) (w : List ℕ) → n < 2097152 → length (unsigned (suc (suc (suc g))) n w) ≤ 3 + length w
unfolding unsigned
u_3 g n w h = chosen (nat_lt n 128) (n ∷ w) ((n % 128 + 128) ∷ unsigned (suc (suc g)) (n / 128) w) (3 + length w) (λ e. omega arith) (λ e. omega (arith, u_2 g (n / 128) w (omega arith)))

pub s_any : (g bits n : ℕ) (w : List ℕ) → length (signed g bits n w) ≤ g + length w
unfolding signed
s_any zero bits n w = omega arith
s_any (suc g) bits n w =
    chosen (is_low bits n) (n ∷ w) (if is_high bits n then (128 - (2 ^ bits - n)) ∷ w else (n % 128 + 128) ∷ signed g (bits - 7) (n / 128) w) (suc g + length w) (λ e. omega arith)
    (λ e. chosen (is_high bits n) ((128 - (2 ^ bits - n)) ∷ w) ((n % 128 + 128) ∷ signed g (bits - 7) (n / 128) w) (suc g + length w) (λ e. omega arith) (λ e. omega (arith, s_any g (bits - 7) (n / 128) w)))

-- small signed numbers of 32 bits
s_1 : (g n : ℕ) (w : List ℕ) → n < 64 → length (signed (suc g) 18 n w) ≤ 1 + length w
unfolding signed
s_1 g n w h =
    let low : is_low 18 n ≡ true = and_from (nat_lt n 64) (nat_lt n (2 ^ 17)) (lt-ltb n 64 h) (lt-ltb n (2 ^ 17) (omega arith)) in
    chosen (is_low 18 n) (n ∷ w) (if is_high 18 n then (128 - (2 ^ 18 - n)) ∷ w else (n % 128 + 128) ∷ signed g (18 - 7) (n / 128) w) (1 + length w) (λ e. omega arith) (λ e. cc)

s_2 : (g n : ℕ) (w : List ℕ) → n < 8192 → length (signed (suc (suc g)) 25 n w) ≤ 2 + length w
unfolding signed
s_2 g n w h =
    chosen (is_low 25 n) (n ∷ w) (if is_high 25 n then (128 - (2 ^ 25 - n)) ∷ w else (n % 128 + 128) ∷ signed (suc g) (25 - 7) (n / 128) w) (2 + length w) (λ e. omega arith)
    (λ e. chosen (is_high 25 n) ((128 - (2 ^ 25 - n)) ∷ w) ((n % 128 + 128) ∷ signed (suc g) (25 - 7) (n / 128) w) (2 + length w) (λ e. omega arith) (λ e. omega (arith, s_1 g (n / 128) w (omega arith))))

s_3 : (g n : ℕ) (w : List ℕ) → n < 1048576 → length (signed (suc (suc (suc g))) 32 n w) ≤ 3 + length w
unfolding signed
s_3 g n w h =
    chosen (is_low 32 n) (n ∷ w) (if is_high 32 n then (128 - (2 ^ 32 - n)) ∷ w else (n % 128 + 128) ∷ signed (suc (suc g)) (32 - 7) (n / 128) w) (3 + length w) (λ e. omega arith)
    (λ e. chosen (is_high 32 n) ((128 - (2 ^ 32 - n)) ∷ w) ((n % 128 + 128) ∷ signed (suc (suc g)) (32 - 7) (n / 128) w) (3 + length w) (λ e. omega arith) (λ e. omega (arith, s_2 g (n / 128) w (omega arith))))

-- the bytes of code
abbrev pub bytes_of : List Instr → List ℕ
bytes_of is = put_all put_instr is []

abbrev pub size : List Instr → ℕ
size is = length (bytes_of is)

first : (i : Instr) (rest : List Instr) → size (i ∷ rest) ≡ length (put_instr i (bytes_of rest))
unfolding put_all
first i rest = refl

plain : (i : Instr) (rest : List Instr) (k : ℕ) → length (put_instr i (bytes_of rest)) ≤ k + length (bytes_of rest) → size (i ∷ rest) ≤ k + size rest
plain i rest k h = omega (arith, first i rest, h)

module _ (rest : List Instr) where
  pub z_unreachable : size (Unreachable ∷ rest) ≤ 1 + size rest
  unfolding put_instr
  z_unreachable = plain Unreachable rest 1 (omega arith)

  pub z_if : (t : BlockType) → size (If t ∷ rest) ≤ 2 + size rest
  unfolding put_instr
  z_if t = plain (If t) rest 2 (omega arith)

  pub z_else : size (Else ∷ rest) ≤ 1 + size rest
  unfolding put_instr
  z_else = plain Else rest 1 (omega arith)

  pub z_end : size (End ∷ rest) ≤ 1 + size rest
  unfolding put_instr
  z_end = plain End rest 1 (omega arith)

  pub z_op : (o : I32Op) → size (Operation o ∷ rest) ≤ 1 + size rest
  unfolding put_instr
  z_op o = plain (Operation o) rest 1 (omega arith)

  pub z_call : (f : ℕ) → f < 2097152 → size (Call f ∷ rest) ≤ 4 + size rest
  unfolding put_instr
  z_call f h = plain (Call f) rest 4 (omega (arith, u_3 2 f (bytes_of rest) h))

  pub z_indirect : size (CallIndirect 2 0 ∷ rest) ≤ 3 + size rest
  unfolding put_instr
  z_indirect = plain (CallIndirect 2 0) rest 3 (omega (arith, u_1 4 2 (put_u32 0 (bytes_of rest)) (omega arith), u_1 4 0 (bytes_of rest) (omega arith)))

  pub z_get : (x : ℕ) → x < 2097152 → size (LocalGet x ∷ rest) ≤ 4 + size rest
  unfolding put_instr
  z_get x h = plain (LocalGet x) rest 4 (omega (arith, u_3 2 x (bytes_of rest) h))

  pub z_set : (x : ℕ) → x < 2097152 → size (LocalSet x ∷ rest) ≤ 4 + size rest
  unfolding put_instr
  z_set x h = plain (LocalSet x) rest 4 (omega (arith, u_3 2 x (bytes_of rest) h))

  pub z_global : (x : ℕ) → x < 128 → size (GlobalSet x ∷ rest) ≤ 2 + size rest
  unfolding put_instr
  z_global x h = plain (GlobalSet x) rest 2 (omega (arith, u_1 4 x (bytes_of rest) h))

  pub z_tee : (x : ℕ) → x < 2097152 → size (LocalTee x ∷ rest) ≤ 4 + size rest
  unfolding put_instr
  z_tee x h = plain (LocalTee x) rest 4 (omega (arith, u_3 2 x (bytes_of rest) h))

  -- the end of the heap, memory's pages, a call of the function that makes room, a small number, and the header of a block
  pub z_heap : size (GlobalGet 2 ∷ rest) ≤ 2 + size rest
  unfolding put_instr
  z_heap = plain (GlobalGet 2) rest 2 (omega (arith, u_1 4 2 (bytes_of rest) (omega arith)))

  pub z_size : size (MemorySize ∷ rest) ≤ 2 + size rest
  unfolding put_instr
  z_size = plain MemorySize rest 2 (omega arith)

  pub z_room : size (Call 0 ∷ rest) ≤ 2 + size rest
  unfolding put_instr
  z_room = plain (Call 0) rest 2 (omega (arith, u_1 4 0 (bytes_of rest) (omega arith)))

  pub z_small : (n : ℕ) → n < 1048576 → size (ConstWord n ∷ rest) ≤ 4 + size rest
  unfolding put_instr
  z_small n h = plain (ConstWord n) rest 4 (omega (arith, s_3 2 n (bytes_of rest) h))

  pub z_header : size (StoreWord 0 ∷ rest) ≤ 3 + size rest
  unfolding put_instr
  z_header = plain (StoreWord 0) rest 3 (omega (arith, u_1 4 2 (put_u32 0 (bytes_of rest)) (omega arith), u_1 4 0 (bytes_of rest) (omega arith)))

  pub z_load : (o : ℕ) → o < 16384 → size (Load o ∷ rest) ≤ 4 + size rest
  unfolding put_instr
  z_load o h = plain (Load o) rest 4 (omega (arith, u_1 4 2 (put_u32 o (bytes_of rest)) (omega arith), u_2 3 o (bytes_of rest) h))

  pub z_store : (o : ℕ) → o < 16384 → size (StoreWord o ∷ rest) ≤ 4 + size rest
  unfolding put_instr
  z_store o h = plain (StoreWord o) rest 4 (omega (arith, u_1 4 2 (put_u32 o (bytes_of rest)) (omega arith), u_2 3 o (bytes_of rest) h))

  pub z_const : (n : ℕ) → size (ConstWord n ∷ rest) ≤ 6 + size rest
  unfolding put_instr
  z_const n = plain (ConstWord n) rest 6 (omega (arith, s_any 5 32 n (bytes_of rest)))

-- equal locals are one run
one_run : (n : ℕ) → runs (replicate (suc n) I32) ≡ (suc n, I32) ∷ []
unfolding runs
one_run zero = refl
one_run (suc n) = ap (λ (rs : List (ℕ × ValType)). add_local I32 rs) (one_run n) ∙ ap (λ (k : ℕ). (k, I32) ∷ []) (omega arith)

no_locals : (w : List ℕ) → length (put_locals [] w) ≤ 5 + length w
unfolding put_locals put_all runs
no_locals w = u_any 5 0 w

locals_size : (n : ℕ) (w : List ℕ) → length (put_locals (replicate n I32) w) ≤ 12 + length w
unfolding put_locals put_all
locals_size zero w = omega (arith, no_locals w)
locals_size (suc n) w = subst (λ (rs : List (ℕ × ValType)). length (put_list put_run rs w) ≤ 12 + length w) (sym (one_run n)) (omega (arith, u_any 5 1 (put_u32 (suc n) (127 ∷ w)), u_any 5 (suc n) (127 ∷ w)))

-- a body with its size in front
pub body_size : (n : ℕ) (is : List Instr) (w : List ℕ) → length (put_body (body n is) w) ≤ 17 + size is + length w
unfolding body_bytes
body_size n is w =
    let b = put_locals (replicate n I32) (bytes_of is) in
    omega (arith, u_any 5 (length b) (b ++ w), length-append b w, locals_size n (bytes_of is))
