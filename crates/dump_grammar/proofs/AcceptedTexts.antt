-- The texts that are read, computed.
use Rattle.std.proofs.Common.{refl}
use Rattle.sexp_reader.specs.Lex.{lex, atom_len}
use Rattle.dump_grammar.specs.Keywords.{spelling}
use Rattle.dump_grammar.specs.Numbers.{number_of}
use Rattle.dump_grammar.specs.Words.{former_of, foreign_of, comparison_of, opening_of}
use Rattle.dump_grammar.specs.Named.{depth}
use Rattle.dump_grammar.specs.Uses.{each, names, names_of_decl, levels, levels_of_decl}
use Rattle.dump_grammar.specs.Numbering.{without, firsts}
use Rattle.dump_grammar.specs.Limits.{number_over, add_over, depth_over}
use Rattle.dump_grammar.specs.Judge.{judge}
use Rattle.dump_grammar.specs.AcceptedTexts.{AreRead, AreNumbered}

pub read : AreRead
unfolding lex atom_len spelling number_of former_of foreign_of comparison_of opening_of depth number_over add_over depth_over judge
read = record { bool = refl; application = refl; cast = refl; let_in = refl; match = refl; fixpoint = refl; levels = refl; families = refl; nesting = refl; end = refl }

pub numbered : AreNumbered
unfolding spelling each names names_of_decl levels levels_of_decl without firsts
numbered = record { names = refl; levels = refl }
