-- Words of memory, and the zeroed memory of a page.
use Rattle.std.proofs.Common.{◌≡◌, ℕ, ◌+◌, ◌*◌, ◌<◌, List, length, replicate, ap, arith}
use Rattle.std.proofs.lemmas.List.{get_or-replicate, length-replicate}
use Rattle.wasm_core.specs.Memory.{byte, word, zeroed}
pub use Rattle.wasm_core.proofs.Bits.{put_word_length as put_length}
pub use Rattle.wasm_core.proofs.MemoryWords.{word_same, put_other, word_put, word_put_at, more_same}

abbrev pub Mem : Type 0
Mem = List ℕ

pub zeroed_length : (n : ℕ) → length (zeroed n) ≡ 65536 * n
unfolding zeroed
zeroed_length n = length-replicate {A = ℕ} (65536 * n) 0

zeros_byte : (n x : ℕ) → x < n → byte (replicate n 0) x ≡ 0
zeros_byte n x h = get_or-replicate n x 0 0 h

pub zeroed_word : word (zeroed 1) 0 ≡ 0
unfolding word zeroed
zeroed_word = omega (arith, zeros_byte 65536 0 (omega arith), zeros_byte 65536 1 (omega arith), zeros_byte 65536 2 (omega arith), zeros_byte 65536 3 (omega arith))

pub at_zero : (m : Mem) (w : ℕ) → word m (w + 0) ≡ word m w
at_zero m w = ap (word m) (omega arith)
