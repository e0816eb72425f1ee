use Rattle.std.proofs.Common.{◌≡◌, List, drop}
use Rattle.sexp_reader.specs.Text.{Text}
use Rattle.dump_printer.specs.Writing.{Start, IsOn}
use Rattle.dump_printer.specs.CanonicalTerms.{each}
use Rattle.dump_printer.specs.Canonical.{level}
use Rattle.dump_printer.proofs.declarations.write_levels.Given as goal

abbrev pub invariant-loop-l : goal.invariant-loop-l
invariant-loop-l g l = record {
  items : l.l-items ≡ l.levels;
  goes : (s : Start) (more : List Text) → IsOn s (g.K.Sink.taken l.fn.out) (g.K.Sink.faults l.fn.out) l.fn.at (each (level l.names) l.levels more) →
      IsOn s (g.K.Sink.taken l.out) (g.K.Sink.faults l.out) l.at (each (level l.names) (drop l.l-index l.l-items) more);
}
