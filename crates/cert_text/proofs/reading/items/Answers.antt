use Rattle.std.proofs.Common.{rules, ◌≡◌, ◌∙◌, sym, ap, Err}
use Rattle.cert_rules.specs.Packed.{unpacked}
use Rattle.cert_text.specs.CertReading.{Read, AnItem}
use Rattle.cert_text.specs.Answering.{behind, with_items}
use Rattle.cert_text.proofs.Gathering.{items_last, items_end, items_refused}
use Rattle.cert_text.proofs.reading.items.Goals as goal

pub returns-in_err-taken : goal.returns-in_err-taken
returns-in_err-taken c =
    let q : c.from_residual.result ≡ Err c.in_err-taken.field-0.0 = search rules in
    rw q (record { answers = items_refused (unpacked c.items.out) _ _ c.in_err-taken.field-0.0 c.items.invariant.read c.in_err-taken.ensures.takes })

pub items-preserved : goal.items-preserved
items-preserved c =
    let takes = rw c.in-Some.is at c.in_ok-taken.ensures.takes in
    let rest = behind c.args.bytes.now c.in-Some.taken.end AnItem in
    record {
      within = c.short_items-at.ensures.within.1;
      read = c.items.invariant.read ∙ ap (with_items (unpacked c.items.out)) takes ∙ sym (items_last (unpacked c.items.out) c.in-Some.taken.item rest)
          ∙ ap (λ xs. with_items xs rest) (sym c.in_ok-push.ensures.ok) ∙ c.short_items-at.ensures.read;
    }

pub returns : goal.returns
returns c =
    let takes = rw c.in_default.is at c.in_ok-taken.ensures.takes in
    record { answers = c.items.invariant.read ∙ ap (with_items (unpacked c.items.out)) takes ∙ items_end (unpacked c.items.out) ∙ ap Read (sym c.of.ensures.is) }
