-- Numbers for names and levels, in the order of first use.
use Rattle.std.specs.Prelude.{◌≡◌, ℕ, zero, suc, List, [], ◌∷◌, ◌++◌, Option, Some, None, Bool, true, false, ◌||◌, bytes_eq, if◌then◌else◌}
use Rattle.dump_grammar.specs.Keywords.{spelling}
use Rattle.dump_grammar.specs.declared.keyword.Keyword.TheVariants as words
use Rattle.dump_grammar.specs.Named.{NamedEnv}
use Rattle.dump_grammar.specs.Uses.{name_uses, level_uses}

unfoldable pub without : List ℕ → List (List ℕ) → List (List ℕ)
without a [] = []
without a (b ∷ bs) = if bytes_eq b a then without a bs else b ∷ without a bs

-- each text at its first place, and never again
unfoldable pub firsts : List (List ℕ) → List (List ℕ)
firsts [] = []
firsts (a ∷ more) = a ∷ without a (firsts more)

unfoldable pub is_in : List ℕ → List (List ℕ) → Bool
is_in a [] = false
is_in a (b ∷ bs) = bytes_eq a b || is_in a bs

-- where the text stands, counted from 0; the length where it doesn't
unfoldable pub place_of : List ℕ → List (List ℕ) → ℕ
place_of a [] = 0
place_of a (b ∷ bs) = if bytes_eq a b then 0 else suc (place_of a bs)

unfoldable pub text_at : ℕ → List (List ℕ) → Option (List ℕ)
text_at n [] = None
text_at zero (b ∷ bs) = Some b
text_at (suc n) (b ∷ bs) = text_at n bs

-- The names from number 0 on.
abbrev pub name_table : NamedEnv → List (List ℕ)
name_table env = firsts (name_uses env)

-- The levels from number 0 on: Set, those of `levels`, then the others.
abbrev pub level_table : NamedEnv → List (List ℕ)
level_table env = firsts (spelling words.Set ∷ level_uses env)

abbrev pub number_of_name : NamedEnv → List ℕ → ℕ
number_of_name env a = place_of a (name_table env)

abbrev pub number_of_level : NamedEnv → List ℕ → ℕ
number_of_level env a = place_of a (level_table env)

-- What it means that texts are numbered by first use.
pub record IsNumbering : Type 0 where
  -- the number of a text that is used stands for that text
  pub used : (uses : List (List ℕ)) (a : List ℕ) → is_in a uses ≡ true → text_at (place_of a (firsts uses)) (firsts uses) ≡ Some a
  -- a number stands for one text, and that text has no other number
  pub one : (uses : List (List ℕ)) (n : ℕ) (a : List ℕ) → text_at n (firsts uses) ≡ Some a → place_of a (firsts uses) ≡ n
  -- nothing is numbered that isn't used
  pub only : (uses : List (List ℕ)) (a : List ℕ) → is_in a (firsts uses) ≡ is_in a uses
  -- a further use has the next number where it is the first use of its text, and changes no number
  pub next : (uses : List (List ℕ)) (a : List ℕ) → firsts (uses ++ a ∷ []) ≡ (if is_in a uses then firsts uses else firsts uses ++ a ∷ [])
