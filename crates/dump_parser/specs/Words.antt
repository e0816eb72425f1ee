-- What stands for a word of the text, or why it is refused.
use Rattle.std.specs.Prelude.{◌≡◌, ℕ, List, [], ◌∷◌, Some, None, Result, Ok, Err}
use Rattle.sexp_reader.specs.Text.{Atom}
use Rattle.dump_grammar.specs.declared.refusal.ReadRefusal.{ReadRefusal}
use Rattle.dump_grammar.specs.declared.refusal.ReadRefusal.TheVariants as refusals
use Rattle.dump_grammar.specs.Table.{Value, VSort, ISort, at_sort}
use Rattle.dump_grammar.specs.Foreign.{foreign}
use Rattle.dump_grammar.specs.Judge.{unread}
use Rattle.dump_parser.specs.declared.tree.SortTree.{SortTree}
use Rattle.dump_parser.specs.Tree.{named_sort}

-- the sort of a word at an offset
abbrev pub IsSort : Result SortTree ReadRefusal → List ℕ → ℕ → Type 0
IsSort (Ok s) a o = (vs : List Value) → at_sort a vs ≡ Some ([], VSort (named_sort s) ∷ vs)
IsSort (Err refusals.Memory) a o = Unit {0}
IsSort (Err r) a o = (r ≡ unread (foreign ISort (Atom a)) o) × ((vs : List Value) → at_sort a vs ≡ None)
