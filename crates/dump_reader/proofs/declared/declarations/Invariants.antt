use Rattle.std.proofs.Common.{length}
use Rattle.sexp_reader.specs.Stream.{stream}
use Rattle.dump_reader.proofs.Sequences.{HasRead}
use Rattle.dump_reader.proofs.declared.declarations.Given as goal

abbrev pub invariant-loop-items : goal.invariant-loop-items
invariant-loop-items l = HasRead l.fn.parser l.parser l.fn.tables l.tables l.items.items

abbrev pub decreases-loop-items : goal.decreases-loop-items
decreases-loop-items l = length (stream l.parser.tokens)
