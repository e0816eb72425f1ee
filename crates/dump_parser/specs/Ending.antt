-- The end of the text.
use Rattle.std.specs.Prelude.{◌≡◌, List, [], Result, Ok, Err}
use Rattle.sexp_reader.specs.declared.Tokens.{Tokens}
use Rattle.dump_grammar.specs.declared.refusal.ReadRefusal.{ReadRefusal}
use Rattle.dump_grammar.specs.declared.refusal.ReadRefusal.TheVariants as refusals
use Rattle.dump_grammar.specs.Table.{Value}
use Rattle.dump_grammar.specs.Judge.{Fine, Refuse}
use Rattle.dump_parser.specs.Reading.{judged}

-- Nothing is left: that is the verdict where nothing more is asked.
abbrev pub Ends : Result (Unit {0}) ReadRefusal → Tokens → Type 0
Ends (Ok x) old = (vs : List Value) → judged old [] vs ≡ Fine vs
Ends (Err refusals.Memory) old = Unit {0}
Ends (Err r) old = (vs : List Value) → judged old [] vs ≡ Refuse r
