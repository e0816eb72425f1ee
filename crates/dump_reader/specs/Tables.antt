-- Tables of texts that grow use by use: a text that isn't there goes to the end.
use Rattle.std.specs.Prelude.{ℕ, List, [], ◌∷◌, ◌++◌, if◌then◌else◌}
use Rattle.dump_grammar.specs.Numbering.{is_in}

-- the table after one use
abbrev pub with_text : List ℕ → List (List ℕ) → List (List ℕ)
with_text a table = if is_in a table then table else table ++ a ∷ []

-- the table after some uses, the first use first
unfoldable pub after_uses : List (List ℕ) → List (List ℕ) → List (List ℕ)
after_uses table [] = table
after_uses table (a ∷ uses) = after_uses (with_text a table) uses
