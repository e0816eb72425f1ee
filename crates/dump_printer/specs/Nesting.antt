-- How deep brackets stand in one another.
use Rattle.std.specs.Prelude.{ℕ, max, List, [], ◌∷◌}
use Rattle.sexp_reader.specs.Text.{Text}
use Rattle.sexp_reader.specs.Lex.{nesting_after_text}

-- the most brackets that are open at once, where so many are open before the tokens
unfoldable pub deepest : (nesting : ℕ) → List Text → ℕ
deepest d [] = d
deepest d (t ∷ ts) = max d (deepest (nesting_after_text d t) ts)

-- the nesting of a text
abbrev pub nesting : List Text → ℕ
nesting ts = deepest 0 ts
