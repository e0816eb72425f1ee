-- Operations on words give words.
use Rattle.std.proofs.Common.{◌≡◌, ℕ, ◌+◌, ◌-◌, ◌*◌, ◌/◌, ◌%◌, ◌^◌, ◌<◌, List, length, Bool, true, false, ◌∙◌, arith, length-set}
use Rattle.std.specs.Prelude.{if◌then◌else◌, nat_eq, nat_le, nat_lt, not}
use Rattle.std.proofs.lemmas.Nat.{and_le_l, or_lt, xor_lt, shr_le}
use Rattle.std.proofs.Math.Nat.{mod-lt}
use Rattle.wasm_core.specs.declared.instrs.I32Op.{I32Op}
use Rattle.wasm_core.specs.declared.instrs.I32Op.TheVariants.{Eqz, Eq, Ne, LtS, LtU, GtS, GtU, LeS, LeU, GeS, GeU, Add, Sub, Mul, And, Or, Xor, Shl, ShrS, ShrU}
use Rattle.wasm_core.specs.Arithmetic.{flag, lifted, unary, binary}
use Rattle.wasm_core.specs.Memory.{byte, word, put_byte, put_word}
use Rattle.wasm_core.specs.ModuleCondition.{All as Each}
use Rattle.wasm_core.specs.Words.{IsByte}
use Rattle.wasm_core.proofs.Eaches.{each_get_or, each_set}

flag_small : (b : Bool) → flag b < 4294967296
flag_small true = omega arith
flag_small false = omega arith

shifted_small : (b : Bool) (x k : ℕ) → x < 4294967296 → (if b then x / 2 ^ k else 4294967296 - 1 - (4294967296 - 1 - x) / 2 ^ k) < 4294967296
shifted_small true x k h = omega (arith, shr_le x k)
shifted_small false x k h = omega arith

pub unary_small : (op : I32Op) (x : ℕ) → unary op x < 4294967296
unary_small op x = flag_small (nat_eq x 0)

pub binary_small : (op : I32Op) (x y : ℕ) → x < 4294967296 → y < 4294967296 → binary op x y < 4294967296
binary_small Eqz x y h k = omega arith
binary_small Eq x y h k = flag_small (nat_eq x y)
binary_small Ne x y h k = flag_small (not (nat_eq x y))
binary_small LtS x y h k = flag_small (nat_lt (lifted x) (lifted y))
binary_small LtU x y h k = flag_small (nat_lt x y)
binary_small GtS x y h k = flag_small (nat_lt (lifted y) (lifted x))
binary_small GtU x y h k = flag_small (nat_lt y x)
binary_small LeS x y h k = flag_small (nat_le (lifted x) (lifted y))
binary_small LeU x y h k = flag_small (nat_le x y)
binary_small GeS x y h k = flag_small (nat_le (lifted y) (lifted x))
binary_small GeU x y h k = flag_small (nat_le y x)
binary_small Add x y h k = omega arith
binary_small Sub x y h k = omega arith
binary_small Mul x y h k = mod-lt (x * y) {m = 4294967296} (omega arith)
binary_small And x y h k = omega (arith, and_le_l x y)
binary_small Or x y h k = or_lt 32 x y h k
binary_small Xor x y h k = xor_lt 32 x y h k
binary_small Shl x y h k = mod-lt (x * 2 ^ (y % 32)) {m = 4294967296} (omega arith)
binary_small ShrS x y h k = shifted_small (nat_lt x (2 ^ 31)) x (y % 32) h
binary_small ShrU x y h k = omega (arith, shr_le x (y % 32))

pub byte_small : (memory : List ℕ) (a : ℕ) → Each IsByte memory → byte memory a < 256
byte_small memory a h = each_get_or IsByte memory a 0 h (omega arith)

pub word_small : (memory : List ℕ) (a : ℕ) → Each IsByte memory → word memory a < 4294967296
unfolding word
word_small memory a h = omega (arith, byte_small memory a h, byte_small memory (a + 1) h, byte_small memory (a + 2) h, byte_small memory (a + 3) h)

low_small : (n : ℕ) → n % 256 < 256
low_small n = omega arith

pub put_byte_bytes : (memory : List ℕ) (a n : ℕ) → Each IsByte memory → Each IsByte (put_byte memory a n)
unfolding put_byte
put_byte_bytes memory a n h = each_set IsByte memory a (n % 256) h (low_small n)

pub put_word_bytes : (memory : List ℕ) (a n : ℕ) → Each IsByte memory → Each IsByte (put_word memory a n)
unfolding put_word
put_word_bytes memory a n h =
    each_set IsByte _ (a + 3) _ (each_set IsByte _ (a + 2) _ (each_set IsByte _ (a + 1) _ (each_set IsByte memory a _ h (low_small n)) (low_small (n / 256))) (low_small (n / 65536))) (low_small (n / 16777216))

pub put_byte_length : (memory : List ℕ) (a n : ℕ) → length (put_byte memory a n) ≡ length memory
unfolding put_byte
put_byte_length memory a n = length-set memory a _

pub put_word_length : (memory : List ℕ) (a n : ℕ) → length (put_word memory a n) ≡ length memory
unfolding put_word
put_word_length memory a n = length-set _ _ _ ∙ length-set _ _ _ ∙ length-set _ _ _ ∙ length-set memory a _
