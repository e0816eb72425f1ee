use Rattle.std.proofs.Common.{◌≡◌, ◌≤◌, List, [], ◌∷◌, length, map}
use Rattle.sexp_reader.specs.Stream.{source, stream}
use Rattle.dump_grammar.specs.Table.{Item, Value, IList, Parts, VParts}
use Rattle.dump_parser.specs.Reading.{judged}
use Rattle.dump_parser.specs.Tree.{part_of}
use Rattle.dump_parser.proofs.sort.parts.Given as goal

abbrev pub invariant-loop-list : goal.invariant-loop-list
invariant-loop-list l = record {
  same : source l.tokens ≡ source l.fn.tokens;
  shorter : length (stream l.tokens) ≤ length (stream l.fn.tokens);
  goes : (k : List Item) (vs : List Value) → judged l.fn.tokens (IList Parts ∷ k) (VParts (part_of l.fn.first ∷ []) ∷ vs) ≡ judged l.tokens (IList Parts ∷ k) (VParts (part_of l.first ∷ map part_of l.list.items) ∷ vs);
}

abbrev pub decreases-loop-list : goal.decreases-loop-list
decreases-loop-list l = length (stream l.tokens)
