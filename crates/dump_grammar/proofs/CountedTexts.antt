-- The counted limits, computed.
use Rattle.std.proofs.Common.{refl}
use Rattle.sexp_reader.specs.Lex.{lex, atom_len}
use Rattle.dump_grammar.specs.Keywords.{spelling}
use Rattle.dump_grammar.specs.Numbers.{number_of}
use Rattle.dump_grammar.specs.Words.{former_of, foreign_of, comparison_of, opening_of}
use Rattle.dump_grammar.specs.Named.{depth}
use Rattle.dump_grammar.specs.Limits.{number_over, add_over, depth_over}
use Rattle.dump_grammar.specs.Judge.{judge}
use Rattle.dump_grammar.specs.CountedTexts.{AreCounted}

pub counted : AreCounted
unfolding lex atom_len spelling number_of former_of foreign_of comparison_of opening_of depth number_over add_over depth_over judge
counted = record {
  telescope = refl;
  telescope-end = refl;
  indices = refl;
  indices-end = refl;
  args = refl;
  args-end = refl;
  families = refl;
  families-end = refl;
  constructors = refl;
  constructors-end = refl;
  definitions = refl;
  definitions-end = refl;
  levels = refl;
  levels-end = refl;
  depth = refl;
  depth-end = refl;
}
