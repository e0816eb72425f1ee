use Rattle.std.proofs.Common.{List, drop, take}
use Rattle.sexp_reader.specs.Text.{Text}
use Rattle.dump_printer.specs.Writing.{Start, IsOn}
use Rattle.dump_printer.specs.CanonicalTerms.{each}
use Rattle.cert_text.specs.CertText.{item_tokens, AreSmall}
use Rattle.cert_text.proofs.printing.write_items.Given as goal

abbrev pub invariant-loop-i : goal.invariant-loop-i
invariant-loop-i g l = record {
  goes : (s : Start) (more : List Text) → IsOn s (g.K.Sink.taken l.fn.out) (g.K.Sink.faults l.fn.out) l.fn.at (each item_tokens l.items more) →
      IsOn s (g.K.Sink.taken l.out) (g.K.Sink.faults l.out) l.at (each item_tokens (drop l.i l.items) more);
  small : AreSmall (take l.i l.items);
}
