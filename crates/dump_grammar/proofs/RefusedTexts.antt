-- The texts that are refused, computed.
use Rattle.std.proofs.Common.{refl}
use Rattle.sexp_reader.specs.Lex.{lex, atom_len}
use Rattle.dump_grammar.specs.Keywords.{spelling}
use Rattle.dump_grammar.specs.Numbers.{number_of}
use Rattle.dump_grammar.specs.Words.{former_of, foreign_of, comparison_of, opening_of}
use Rattle.dump_grammar.specs.Named.{depth}
use Rattle.dump_grammar.specs.Limits.{number_over, add_over, depth_over}
use Rattle.dump_grammar.specs.Judge.{judge}
use Rattle.dump_grammar.specs.RefusedTexts.{Refused, syntax_texts, unsupported_texts, limit_texts, AreRefused}

syntax : Refused syntax_texts
unfolding lex atom_len spelling number_of former_of foreign_of comparison_of opening_of depth number_over add_over depth_over judge
syntax = (refl, (refl, (refl, (refl, (refl, (refl, (refl, (refl, (refl, (refl, (refl, (refl, (refl, (refl, (refl, (refl, (refl, (refl, (refl, (refl, (refl, (refl, (refl, (refl, tt))))))))))))))))))))))))

unsupported : Refused unsupported_texts
unfolding lex atom_len spelling number_of former_of foreign_of comparison_of opening_of depth number_over add_over depth_over judge
unsupported = (refl, (refl, (refl, (refl, (refl, (refl, (refl, (refl, (refl, (refl, (refl, (refl, (refl, (refl, (refl, (refl, (refl, (refl, (refl, (refl, (refl, tt)))))))))))))))))))))

limit : Refused limit_texts
unfolding lex atom_len spelling number_of former_of foreign_of comparison_of opening_of depth number_over add_over depth_over judge
limit = (refl, (refl, (refl, (refl, (refl, (refl, tt))))))

pub refused : AreRefused
refused = record { syntax = syntax; unsupported = unsupported; limit = limit }
