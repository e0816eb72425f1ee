-- Sorts: `Prop`, `Set`, `(Type (l n)+)`.
use Rattle.std.specs.Prelude.{ℕ, List, [], ◌∷◌, map}
use Rattle.sexp_reader.specs.Text.{Text, Open, Close, Atom}
use Rattle.dump_grammar.specs.Keywords.{spelling}
use Rattle.dump_grammar.specs.declared.keyword.Keyword.TheVariants as words
use Rattle.dump_grammar.specs.Numbers.{word, Numeral}
use Rattle.dump_grammar.specs.Named.{NamedSort, AProp, AType}

-- a level and what is added to it: `(l n)`
pub record PartForm : Type 0 where
  pub level : List ℕ
  pub add : Numeral

pub data SortForm : Type 0 where
  PropForm : SortForm
  SetForm : SortForm
  TypeForm : (first : PartForm) (more : List PartForm) → SortForm

-- Each form's tokens, before the tokens that follow. Where a form begins with a bracket, that bracket is left to the place where it stands.
abbrev pub part : PartForm → List Text → List Text
part p after = Atom p.level ∷ Atom p.add.atom ∷ Close ∷ after

unfoldable pub parts : List PartForm → List Text → List Text
parts [] after = after
parts (p ∷ more) after = Open ∷ part p (parts more after)

unfoldable pub sort : SortForm → List Text → List Text
sort PropForm after = word words.Prop ∷ after
sort SetForm after = word words.Set ∷ after
sort (TypeForm p more) after = Open ∷ word words.Type ∷ Open ∷ part p (parts more (Close ∷ after))

abbrev pub part_meaning : PartForm → List ℕ × ℕ
part_meaning p = (p.level, p.add.value)

-- `Set` is the level Set with nothing added.
unfoldable pub sort_meaning : SortForm → NamedSort
sort_meaning PropForm = AProp
sort_meaning SetForm = AType ((spelling words.Set, 0) ∷ [])
sort_meaning (TypeForm p more) = AType (part_meaning p ∷ map part_meaning more)
