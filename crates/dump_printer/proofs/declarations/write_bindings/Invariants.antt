use Rattle.std.proofs.Common.{◌≡◌, List, drop}
use Rattle.sexp_reader.specs.Text.{Text}
use Rattle.dump_printer.specs.Writing.{Start, IsOn}
use Rattle.dump_printer.specs.CanonicalTerms.{each}
use Rattle.dump_printer.specs.Canonical.{binding}
use Rattle.dump_printer.proofs.declarations.write_bindings.Given as goal

abbrev pub invariant-loop-ty : goal.invariant-loop-ty
invariant-loop-ty g l = record {
  items : l.ty-items ≡ l.types;
  goes : (s : Start) (more : List Text) → IsOn s (g.K.Sink.taken l.fn.out) (g.K.Sink.faults l.fn.out) l.fn.at (each (binding l.env.names l.env.level_names) l.types more) →
      IsOn s (g.K.Sink.taken l.out) (g.K.Sink.faults l.out) l.at (each (binding l.env.names l.env.level_names) (drop l.ty-index l.ty-items) more);
}
