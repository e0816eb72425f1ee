-- Words of memory that were put one after the other: what they say, and what they leave alone.
use Rattle.std.proofs.Common.{◌≡◌, ℕ, ◌+◌, ◌*◌, ◌<◌, ◌≤◌, List, [], ◌∷◌, length, refl, ◌∙◌, inl, arith}
use Rattle.wasm_core.specs.Memory.{byte, word, put_word}
use Rattle.wasm_core.specs.ModuleCondition.{All as Each}
use Rattle.wasm_core.specs.HostStore.{put_words}
use Rattle.wasm_core.proofs.Bits.{put_word_length}
use Rattle.wasm_core.proofs.MemoryWords.{word_same, put_other, word_put}

-- below the words nothing changes
pub puts_other : (m : List ℕ) (a x : ℕ) (ws : List ℕ) → x < a → byte (put_words m a ws) x ≡ byte m x
puts_other m a x [] lt = refl
puts_other m a x (w ∷ ws) lt = puts_other (put_word m a w) (a + 4) x ws (omega arith) ∙ put_other m a w x (inl lt)

-- words stand one after the other from an address on
abbrev pub WordsAt : List ℕ → ℕ → List ℕ → Type 0
WordsAt m a [] = Unit {0}
WordsAt m a (w ∷ ws) = (word m a ≡ w) × WordsAt m (a + 4) ws

abbrev pub IsWord32 : ℕ → Type 0
IsWord32 w = w < 4294967296

pub puts_there : (m : List ℕ) (a : ℕ) (ws : List ℕ) → Each IsWord32 ws → a + 4 * length ws ≤ length m → WordsAt (put_words m a ws) a ws
puts_there m a [] small fits = tt
puts_there m a (w ∷ ws) (first, small) fits =
    let here : a + 4 ≤ length m = omega (arith, fits) in
    let next : a + 4 + 4 * length ws ≤ length (put_word m a w) = omega (arith, fits, put_word_length m a w) in (
      word_same (put_word m a w) (put_words (put_word m a w) (a + 4) ws) a (λ x low high. puts_other (put_word m a w) (a + 4) x ws high) ∙ word_put m a w here first,
      puts_there (put_word m a w) (a + 4) ws small next,
    )
