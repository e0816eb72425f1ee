-- Arguments in cells.
use Rattle.std.specs.Prelude.{List, [], ◌∷◌, Option, Some, None}
use Rattle.pc_terms.specs.Syntax.{Term}
use Rattle.guard_check.specs.declared.args.Argument.{Argument}

abbrev pub arguments : Option Argument → List Term
arguments None = []
arguments (Some a) = a.term.now ∷ a.rest.now
