-- The counts of a constructor's block: one block at most, and nothing else.
use Rattle.std.proofs.Common.{◌≡◌, ℕ, zero, suc, ◌≤◌, refl, arith}
use Rattle.lambda_box.specs.ClosureEvaluation.{constructor_block}

pub constructor_block_small : (n : ℕ) → (constructor_block n).blocks ≤ 1
constructor_block_small zero = omega arith
constructor_block_small (suc n) = omega arith

pub constructor_block_quiet : (n : ℕ) → (constructor_block n).contractions ≡ 0
constructor_block_quiet zero = refl
constructor_block_quiet (suc n) = refl

pub constructor_block_matches : (n : ℕ) → (constructor_block n).matches ≡ 0
constructor_block_matches zero = refl
constructor_block_matches (suc n) = refl
