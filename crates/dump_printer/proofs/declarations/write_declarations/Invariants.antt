use Rattle.std.proofs.Common.{◌≡◌, List, drop}
use Rattle.sexp_reader.specs.Text.{Text}
use Rattle.dump_printer.specs.Writing.{Start, IsOn}
use Rattle.dump_printer.specs.CanonicalTerms.{each}
use Rattle.dump_printer.specs.Canonical.{declaration}
use Rattle.dump_printer.proofs.declarations.write_declarations.Given as goal

abbrev pub invariant-loop-d : goal.invariant-loop-d
invariant-loop-d g l = record {
  items : l.d-items ≡ l.decls;
  goes : (s : Start) (more : List Text) → IsOn s (g.K.Sink.taken l.fn.out) (g.K.Sink.faults l.fn.out) l.fn.at (each (declaration l.env.names l.env.level_names) l.decls more) →
      IsOn s (g.K.Sink.taken l.out) (g.K.Sink.faults l.out) l.at (each (declaration l.env.names l.env.level_names) (drop l.d-index l.d-items) more);
}
