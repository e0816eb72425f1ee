use Rattle.std.proofs.Common.{◌≡◌, List, drop, false}
use Rattle.sexp_reader.specs.Text.{Text}
use Rattle.dump_printer.specs.Writing.{Start, IsOn}
use Rattle.dump_printer.specs.CanonicalTerms.{each, term}
use Rattle.dump_printer.proofs.terms.write_terms.Given as goal

abbrev pub invariant-loop-t : goal.invariant-loop-t
invariant-loop-t g l = record {
  items : l.t-items ≡ l.list;
  goes : (s : Start) (more : List Text) → IsOn s (g.K.Sink.taken l.fn.out) (g.K.Sink.faults l.fn.out) l.fn.at (each (term false l.env.names l.env.level_names) l.list more) →
      IsOn s (g.K.Sink.taken l.out) (g.K.Sink.faults l.out) l.at (each (term false l.env.names l.env.level_names) (drop l.t-index l.t-items) more);
}
