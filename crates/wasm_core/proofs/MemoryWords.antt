-- Words of memory: what a word that was put says, what it leaves alone, and what memory says that has grown.
use Rattle.std.proofs.Common.{◌≡◌, ℕ, ◌+◌, ◌*◌, ◌/◌, ◌%◌, ◌<◌, ◌≤◌, List, ◌++◌, length, set, replicate, ap, ◌∙◌, inl, inr, arith, length-set}
use Rattle.std.proofs.lemmas.List.{get_or-set_same, get_or-set_other, get_or_append_left}
use Rattle.std.specs.Prelude.{◌⊎◌}
use Rattle.wasm_core.specs.Memory.{byte, word, put_word, zeroed}

-- equal bytes make equal words
pub word_same : (m m' : List ℕ) (a : ℕ) → ((x : ℕ) → a ≤ x → x < a + 4 → byte m' x ≡ byte m x) → word m' a ≡ word m a
unfolding word
word_same m m' a h = omega (arith, h a (omega arith) (omega arith), h (a + 1) (omega arith) (omega arith), h (a + 2) (omega arith) (omega arith), h (a + 3) (omega arith) (omega arith))

pub put_other : (m : List ℕ) (a n x : ℕ) → (x < a) ⊎ (a + 4 ≤ x) → byte (put_word m a n) x ≡ byte m x
unfolding put_word
put_other m a n x (inl h) = get_or-set_other _ _ x _ 0 (λ e. omega arith) ∙ get_or-set_other _ _ x _ 0 (λ e. omega arith) ∙ get_or-set_other _ _ x _ 0 (λ e. omega arith) ∙ get_or-set_other m a x _ 0 (λ e. omega arith)
put_other m a n x (inr h) = get_or-set_other _ _ x _ 0 (λ e. omega arith) ∙ get_or-set_other _ _ x _ 0 (λ e. omega arith) ∙ get_or-set_other _ _ x _ 0 (λ e. omega arith) ∙ get_or-set_other m a x _ 0 (λ e. omega arith)

four : (n : ℕ) → n < 4294967296 → n % 256 + 256 * (n / 256 % 256) + 65536 * (n / 65536 % 256) + 16777216 * (n / 16777216 % 256) ≡ n
four n h = omega arith

module _ (m : List ℕ) (a n : ℕ) (fits : a + 4 ≤ length m) where
  m1 : List ℕ
  m1 = set m a (n % 256)

  m2 : List ℕ
  m2 = set m1 (a + 1) (n / 256 % 256)

  m3 : List ℕ
  m3 = set m2 (a + 2) (n / 65536 % 256)

  l1 : length m1 ≡ length m
  unfolding m1
  l1 = length-set m a _

  l2 : length m2 ≡ length m
  unfolding m2
  l2 = length-set m1 (a + 1) _ ∙ l1

  l3 : length m3 ≡ length m
  unfolding m3
  l3 = length-set m2 (a + 2) _ ∙ l2

  put_0 : byte (put_word m a n) a ≡ n % 256
  unfolding put_word
  put_0 = get_or-set_other _ _ a _ 0 (λ e. omega arith) ∙ get_or-set_other _ _ a _ 0 (λ e. omega arith) ∙ get_or-set_other _ _ a _ 0 (λ e. omega arith) ∙ get_or-set_same m a _ 0 (omega arith)

  put_1 : byte (put_word m a n) (a + 1) ≡ n / 256 % 256
  unfolding put_word m1
  put_1 = get_or-set_other _ _ (a + 1) _ 0 (λ e. omega arith) ∙ get_or-set_other _ _ (a + 1) _ 0 (λ e. omega arith) ∙ get_or-set_same m1 (a + 1) _ 0 (omega (arith, l1))

  put_2 : byte (put_word m a n) (a + 2) ≡ n / 65536 % 256
  unfolding put_word m2 m1
  put_2 = get_or-set_other _ _ (a + 2) _ 0 (λ e. omega arith) ∙ get_or-set_same m2 (a + 2) _ 0 (omega (arith, l2))

  put_3 : byte (put_word m a n) (a + 3) ≡ n / 16777216 % 256
  unfolding put_word m3 m2 m1
  put_3 = get_or-set_same m3 (a + 3) _ 0 (omega (arith, l3))

  pub word_put : n < 4294967296 → word (put_word m a n) a ≡ n
  unfolding word
  word_put h = omega (arith, put_0, put_1, put_2, put_3, four n h)

pub word_put_at : (m : List ℕ) (a b n : ℕ) → a + 4 ≤ length m → b ≡ a → n < 4294967296 → word (put_word m a n) b ≡ n
word_put_at m a b n fits e h = ap (word (put_word m a n)) e ∙ word_put m a n fits h

-- memory that has grown
pub more_same : (m : List ℕ) (n x : ℕ) → x < length m → byte (m ++ zeroed n) x ≡ byte m x
unfolding zeroed
more_same m n x h = get_or_append_left m (replicate (65536 * n) 0) 0 x h
