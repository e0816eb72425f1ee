-- What is put makes the bytes no fewer.
use Rattle.std.proofs.Common.{ℕ, zero, suc, ◌+◌, ◌/◌, ◌%◌, ◌≤◌, List, ◌∷◌, ◌++◌, length, Bool, true, false, arith, length-append}
use Rattle.std.specs.Prelude.{nat_lt, if◌then◌else◌}
use Rattle.wasm_core.specs.ShortestBytes.{unsigned, put_u32, put_sized}

pub unsigned_longer : (g n : ℕ) (w : List ℕ) → length w ≤ length (unsigned g n w)
unfolding unsigned
unsigned_longer zero n w = omega arith
unsigned_longer (suc g) n w =
    let goal : (c : Bool) → length w ≤ length (if c then n ∷ w else (n % 128 + 128) ∷ unsigned g (n / 128) w) =
    λ c. elim c as (λ c. length w ≤ length (if c then n ∷ w else (n % 128 + 128) ∷ unsigned g (n / 128) w)) [ true ↦ omega arith | false ↦ (let h = unsigned_longer g (n / 128) w in omega (arith, h)) ] in
    goal (nat_lt n 128)

pub u32_longer : (n : ℕ) (w : List ℕ) → length w ≤ length (put_u32 n w)
u32_longer n w = unsigned_longer 5 n w

pub sized_longer : (part w : List ℕ) → length part + length w ≤ length (put_sized part w)
sized_longer part w = let a = u32_longer (length part) (part ++ w) in let b = length-append part w in omega (arith, a, b)
