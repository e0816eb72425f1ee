use Rattle.std.proofs.Common.{◌≡◌, ◌≤◌, List, ◌∷◌, length}
use Rattle.sexp_reader.specs.Stream.{source, stream}
use Rattle.dump_grammar.specs.Table.{Item, Value, INames, Do, Zero, VNumber}
use Rattle.dump_parser.specs.Reading.{judged}
use Rattle.dump_parser.proofs.leaf.names.Given as goal

abbrev pub invariant-loop-token : goal.invariant-loop-token
invariant-loop-token l = record {
  same : source l.tokens ≡ source l.fn.tokens;
  shorter : length (stream l.tokens) ≤ length (stream l.fn.tokens);
  goes : (k : List Item) (vs : List Value) → judged l.fn.tokens (Do Zero INames ∷ k) vs ≡ judged l.tokens (INames ∷ k) (VNumber l.count ∷ vs);
}

abbrev pub decreases-loop-token : goal.decreases-loop-token
decreases-loop-token l = length (stream l.tokens)
