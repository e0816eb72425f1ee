-- Operations on 32-bit integers (WebAssembly Core Specification, section 4.3.2).
use Rattle.std.specs.Prelude.{ℕ, ◌+◌, ◌-◌, ◌*◌, ◌/◌, ◌%◌, ◌^◌, Bool, true, false, if◌then◌else◌, nat_eq, nat_le, nat_lt, not, bit_and, bit_or, bit_xor}
use Rattle.wasm_core.specs.declared.instrs.I32Op.{I32Op}
use Rattle.wasm_core.specs.declared.instrs.I32Op.TheVariants.{Eqz, Eq, Ne, LtS, LtU, GtS, GtU, LeS, LeU, GeS, GeU, Add, Sub, Mul, And, Or, Xor, Shl, ShrS, ShrU}

-- a truth value as a word
abbrev pub flag : Bool → ℕ
flag false = 0
flag true = 1

-- a word read as signed, moved up by 2^31: these are ordered as the signed numbers are
abbrev pub lifted : ℕ → ℕ
lifted n = (n + 2 ^ 31) % 2 ^ 32

-- a word shifted right by so many bits, which are filled with its sign
abbrev pub shifted_by_sign : ℕ → ℕ → ℕ
shifted_by_sign n k = if nat_lt n (2 ^ 31) then n / 2 ^ k else 2 ^ 32 - 1 - (2 ^ 32 - 1 - n) / 2 ^ k

-- whether the operation takes one operand
abbrev pub is_unary : I32Op → Bool
is_unary Eqz = true
is_unary _ = false

-- of one operand
abbrev pub unary : I32Op → ℕ → ℕ
unary _ x = flag (nat_eq x 0)

-- of two operands, the second one topmost
abbrev pub binary : I32Op → ℕ → ℕ → ℕ
binary Eqz x y = 0
binary Eq x y = flag (nat_eq x y)
binary Ne x y = flag (not (nat_eq x y))
binary LtS x y = flag (nat_lt (lifted x) (lifted y))
binary LtU x y = flag (nat_lt x y)
binary GtS x y = flag (nat_lt (lifted y) (lifted x))
binary GtU x y = flag (nat_lt y x)
binary LeS x y = flag (nat_le (lifted x) (lifted y))
binary LeU x y = flag (nat_le x y)
binary GeS x y = flag (nat_le (lifted y) (lifted x))
binary GeU x y = flag (nat_le y x)
binary Add x y = (x + y) % 2 ^ 32
binary Sub x y = (2 ^ 32 + x - y) % 2 ^ 32
binary Mul x y = (x * y) % 2 ^ 32
binary And x y = bit_and x y
binary Or x y = bit_or x y
binary Xor x y = bit_xor x y
binary Shl x y = (x * 2 ^ (y % 32)) % 2 ^ 32
binary ShrS x y = shifted_by_sign x (y % 32)
binary ShrU x y = x / 2 ^ (y % 32)
