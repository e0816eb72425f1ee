-- Which word stands for what.
use Rattle.std.specs.Prelude.{ℕ, List, [], ◌∷◌, Option, Some, None, bytes_eq, if◌then◌else◌}
use Rattle.dump_grammar.specs.Keywords.{spelling}
use Rattle.dump_grammar.specs.declared.keyword.Keyword.{Keyword}
use Rattle.dump_grammar.specs.declared.keyword.Keyword.TheVariants as words
use Rattle.dump_grammar.specs.declared.keyword.Former.{Former}
use Rattle.dump_grammar.specs.declared.keyword.Former.TheVariants as formers
use Rattle.dump_grammar.specs.declared.keyword.Opening.{Opening}
use Rattle.dump_grammar.specs.declared.keyword.Opening.TheVariants as openings
use Rattle.dump_grammar.specs.declared.refusal.Foreign.{Foreign}
use Rattle.dump_grammar.specs.declared.refusal.Foreign.TheVariants as foreigns
use Rattle.dump_grammar.specs.Named.{NamedComparison, Less, AtMost, Equal}

-- what stands beside the word, in the first row that has it
abbrev pub find : {X : Type 0} → List ℕ → List (Keyword × X) → Option X
find a [] = None
find a (row ∷ rows) = if bytes_eq a (spelling row.0) then Some row.1 else find a rows

-- the heads of terms
abbrev pub former_words : List (Keyword × Former)
former_words =
    (words.Rel, formers.Rel) ∷
    (words.TermSort, formers.Sort) ∷
    (words.Prod, formers.Prod) ∷
    (words.Lambda, formers.Lambda) ∷
    (words.LetIn, formers.LetIn) ∷
    (words.App, formers.App) ∷
    (words.Const, formers.Const) ∷
    (words.Ind, formers.Ind) ∷
    (words.Construct, formers.Construct) ∷
    (words.Case, formers.Case) ∷
    (words.Fix, formers.Fix) ∷
    (words.Cast, formers.Cast) ∷
    []

unfoldable pub former_of : List ℕ → Option Former
former_of a = find a former_words

-- the heads of terms that are known and not read
abbrev pub foreign_words : List (Keyword × Foreign)
foreign_words =
    (words.Var, foreigns.Var) ∷
    (words.Evar, foreigns.Evar) ∷
    (words.Proj, foreigns.Proj) ∷
    (words.CoFix, foreigns.CoFix) ∷
    (words.Int, foreigns.Int) ∷
    (words.Float, foreigns.Float) ∷
    (words.String, foreigns.String) ∷
    (words.Array, foreigns.Array) ∷
    []

unfoldable pub foreign_of : List ℕ → Option Foreign
foreign_of a = find a foreign_words

-- what stands between the levels of a constraint
abbrev pub comparison_words : List (Keyword × NamedComparison)
comparison_words = (words.Lt, Less) ∷ (words.Le, AtMost) ∷ (words.Eq, Equal) ∷ []

unfoldable pub comparison_of : List ℕ → Option NamedComparison
comparison_of a = find a comparison_words

-- what begins after the constraints
abbrev pub opening_words : List (Keyword × Opening)
opening_words = (words.ConstantDecl, openings.Constant) ∷ (words.InductiveDecl, openings.Block) ∷ (words.Main, openings.Main) ∷ []

unfoldable pub opening_of : List ℕ → Option Opening
opening_of a = find a opening_words
