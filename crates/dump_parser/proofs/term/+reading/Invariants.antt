use Rattle.std.proofs.Common.{◌≡◌, ◌≤◌, ◌<◌, ◌+◌, ◌*◌, List, [], ◌∷◌, ◌++◌, length, map}
use Rattle.sexp_reader.specs.Stream.{source, stream}
use Rattle.dump_grammar.specs.Named.{App}
use Rattle.dump_grammar.specs.Table.{Item, Value, IList, Arguments, Terms, Branches, Definitions, Do, NoTerms, VTerm, VTerms, VDefs}
use Rattle.dump_parser.specs.Reading.{judged}
use Rattle.dump_parser.specs.Tree.{applied, named_def, match_values}
use Rattle.dump_parser.proofs.term.+reading.Given as goal

abbrev pub decreases-term : goal.decreases-term
decreases-term l = 4 * length (stream l.tokens.now)

abbrev pub decreases-after_bracket : goal.decreases-after_bracket
decreases-after_bracket l = 4 * length (stream l.tokens.now)

abbrev pub decreases-product : goal.decreases-product
decreases-product l = 4 * length (stream l.tokens.now)

abbrev pub decreases-lambda : goal.decreases-lambda
decreases-lambda l = 4 * length (stream l.tokens.now)

abbrev pub decreases-let_in : goal.decreases-let_in
decreases-let_in l = 4 * length (stream l.tokens.now)

abbrev pub decreases-arguments : goal.decreases-arguments
decreases-arguments l = 4 * length (stream l.tokens.now)

abbrev pub decreases-terms : goal.decreases-terms
decreases-terms l = 4 * length (stream l.tokens.now)

abbrev pub decreases-term_list : goal.decreases-term_list
decreases-term_list l = 4 * length (stream l.tokens.now)

abbrev pub decreases-last_term : goal.decreases-last_term
decreases-last_term l = 4 * length (stream l.tokens.now) + 1

abbrev pub decreases-branch : goal.decreases-branch
decreases-branch l = 4 * length (stream l.tokens.now)

abbrev pub decreases-branches : goal.decreases-branches
decreases-branches l = 4 * length (stream l.tokens.now)

abbrev pub decreases-match_term : goal.decreases-match_term
decreases-match_term l = 4 * length (stream l.tokens.now)

abbrev pub decreases-definition : goal.decreases-definition
decreases-definition l = 4 * length (stream l.tokens.now)

abbrev pub decreases-definitions : goal.decreases-definitions
decreases-definitions l = 4 * length (stream l.tokens.now)

abbrev pub decreases-fixpoint : goal.decreases-fixpoint
decreases-fixpoint l = 4 * length (stream l.tokens.now) + 1

abbrev pub decreases-application : goal.decreases-application
decreases-application l = 4 * length (stream l.tokens.now) + 1

abbrev pub decreases-cast : goal.decreases-cast
decreases-cast l = 4 * length (stream l.tokens.now) + 1

abbrev pub decreases-after_head : goal.decreases-after_head
decreases-after_head l = 4 * length (stream l.tokens.now) + 2

abbrev pub invariant-arguments-loop-list : goal.invariant-arguments-loop-list
invariant-arguments-loop-list l = record {
  same : source l.tokens ≡ source l.fn.tokens;
  shorter : length (stream l.tokens) ≤ length (stream l.fn.tokens);
  goes : (k : List Item) (vs : List Value) → judged l.fn.tokens (IList Arguments ∷ k) (VTerm (App l.fn.function l.fn.argument) ∷ vs) ≡ judged l.tokens (IList Arguments ∷ k) (VTerm (applied (App l.function l.argument) l.list.items) ∷ vs);
}

abbrev pub decreases-arguments-loop-list : goal.decreases-arguments-loop-list
decreases-arguments-loop-list l = length (stream l.tokens)

abbrev pub invariant-terms-loop-list : goal.invariant-terms-loop-list
invariant-terms-loop-list l = record {
  same : source l.tokens ≡ source l.fn.tokens;
  shorter : length (stream l.tokens) ≤ length (stream l.fn.tokens);
  goes : (k : List Item) (vs : List Value) → judged l.fn.tokens (Do NoTerms (IList Terms) ∷ k) vs ≡ judged l.tokens (IList Terms ∷ k) (VTerms l.list.items ∷ vs);
}

abbrev pub decreases-terms-loop-list : goal.decreases-terms-loop-list
decreases-terms-loop-list l = length (stream l.tokens)

abbrev pub invariant-branches-loop-whole : goal.invariant-branches-loop-whole
invariant-branches-loop-whole l = record {
  same : source l.tokens ≡ source l.fn.tokens;
  shorter : length (stream l.tokens) ≤ length (stream l.fn.tokens);
  goes : (k : List Item) (vs : List Value) → judged l.fn.tokens (IList Branches ∷ k) (match_values l.fn.front ++ vs) ≡ judged l.tokens (IList Branches ∷ k) (match_values l.whole ++ vs);
}

abbrev pub decreases-branches-loop-whole : goal.decreases-branches-loop-whole
decreases-branches-loop-whole l = length (stream l.tokens)

abbrev pub invariant-definitions-loop-list : goal.invariant-definitions-loop-list
invariant-definitions-loop-list l = record {
  same : source l.tokens ≡ source l.fn.tokens;
  shorter : length (stream l.tokens) ≤ length (stream l.fn.tokens);
  some : 0 < length l.list.items;
  few : length l.list.items ≤ 255;
  goes : (k : List Item) (vs : List Value) → judged l.fn.tokens (IList Definitions ∷ k) (VDefs (named_def l.fn.first ∷ []) ∷ vs) ≡ judged l.tokens (IList Definitions ∷ k) (VDefs (map named_def l.list.items) ∷ vs);
}

abbrev pub decreases-definitions-loop-list : goal.decreases-definitions-loop-list
decreases-definitions-loop-list l = length (stream l.tokens)

abbrev pub decreases-match_rest : goal.decreases-match_rest
decreases-match_rest l = 4 * length (stream l.tokens.now)

abbrev pub decreases-definition_list : goal.decreases-definition_list
decreases-definition_list l = 4 * length (stream l.tokens.now)
