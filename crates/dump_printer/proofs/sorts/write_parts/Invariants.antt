use Rattle.std.proofs.Common.{List, drop}
use Rattle.sexp_reader.specs.Text.{Text}
use Rattle.dump_printer.specs.Writing.{Start, IsOn}
use Rattle.dump_printer.specs.CanonicalTerms.{each, part}
use Rattle.dump_printer.proofs.sorts.write_parts.Given as goal

abbrev pub invariant-loop-e : goal.invariant-loop-e
invariant-loop-e g l =
    (s : Start) (more : List Text) → IsOn s (g.K.Sink.taken l.fn.out) (g.K.Sink.faults l.fn.out) l.fn.at (each (part l.levels) l.parts more) →
    IsOn s (g.K.Sink.taken l.out) (g.K.Sink.faults l.out) l.at (each (part l.levels) (drop l.e-index l.parts) more)
