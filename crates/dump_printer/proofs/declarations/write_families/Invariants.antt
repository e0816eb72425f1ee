use Rattle.std.proofs.Common.{◌≡◌, List, drop}
use Rattle.sexp_reader.specs.Text.{Text}
use Rattle.dump_printer.specs.Writing.{Start, IsOn}
use Rattle.dump_printer.specs.CanonicalTerms.{each}
use Rattle.dump_printer.specs.Canonical.{family}
use Rattle.dump_printer.proofs.declarations.write_families.Given as goal

abbrev pub invariant-loop-f : goal.invariant-loop-f
invariant-loop-f g l = record {
  items : l.f-items ≡ l.families;
  goes : (s : Start) (more : List Text) → IsOn s (g.K.Sink.taken l.fn.out) (g.K.Sink.faults l.fn.out) l.fn.at (each (family l.env.names l.env.level_names) l.families more) →
      IsOn s (g.K.Sink.taken l.out) (g.K.Sink.faults l.out) l.at (each (family l.env.names l.env.level_names) (drop l.f-index l.f-items) more);
}
