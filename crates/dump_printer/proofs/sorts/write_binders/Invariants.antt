use Rattle.std.proofs.Common.{◌-◌, List}
use Rattle.sexp_reader.specs.Text.{Text}
use Rattle.dump_printer.specs.Writing.{Start, IsOn}
use Rattle.dump_printer.specs.CanonicalTerms.{anonymous_names}
use Rattle.dump_printer.proofs.sorts.write_binders.Given as goal

abbrev pub invariant-loop : goal.invariant-loop
invariant-loop g l =
    (s : Start) (more : List Text) → IsOn s (g.K.Sink.taken l.fn.out) (g.K.Sink.faults l.fn.out) l.fn.at (anonymous_names l.count more) →
    IsOn s (g.K.Sink.taken l.out) (g.K.Sink.faults l.out) l.at (anonymous_names (l.count - l.counter) more)
