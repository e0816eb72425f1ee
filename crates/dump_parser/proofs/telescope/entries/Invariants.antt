use Rattle.std.proofs.Common.{◌≡◌, ◌≤◌, List, ◌∷◌, length}
use Rattle.sexp_reader.specs.Stream.{source, stream}
use Rattle.dump_grammar.specs.Table.{Item, Value, IList, Telescope, Do, NoTypes, VTypes}
use Rattle.dump_parser.specs.Reading.{judged}
use Rattle.dump_parser.proofs.telescope.entries.Given as goal

abbrev pub invariant-loop-list : goal.invariant-loop-list
invariant-loop-list l = record {
  same : source l.tokens ≡ source l.fn.tokens;
  shorter : length (stream l.tokens) ≤ length (stream l.fn.tokens);
  goes : (k : List Item) (vs : List Value) → judged l.fn.tokens (Do NoTypes (IList Telescope) ∷ k) vs ≡ judged l.tokens (IList Telescope ∷ k) (VTypes l.list.items ∷ vs);
}

abbrev pub decreases-loop-list : goal.decreases-loop-list
decreases-loop-list l = length (stream l.tokens)
