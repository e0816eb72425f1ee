-- The text of a call: the tokens of the input are those of the environment's text, and then those of the arguments'.
use Rattle.std.specs.Prelude.{◌≡◌, ℕ, List, ◌++◌, drop}
use Rattle.sexp_reader.specs.Lex.{tokens_of}
use Rattle.dump_grammar.specs.Judge.{texts}
use Rattle.dump_reader.specs.Front.{front_bytes, front_length}

-- no token is cut by the end of the front, none begins in a comment of it, and none is lost
abbrev pub FrontAndRestAreTheInput : Type 0
FrontAndRestAreTheInput = (bytes : List ℕ) → texts (tokens_of bytes) ≡ texts (tokens_of (front_bytes bytes)) ++ texts (tokens_of (drop (front_length bytes) bytes))
