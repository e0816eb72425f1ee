use Rattle.std.proofs.Common.{arith, ◌≡◌, ◌∙◌, ◌+◌, ◌*◌, sym, ap, get_or}
use Rattle.cert_rules.specs.Packed.{item_of, unpacked}
use Rattle.cert_text.specs.CertReading.{AnItem}
use Rattle.cert_text.specs.Answering.{behind, with_items}
use Rattle.cert_text.proofs.Gathering.{items_last}
use Rattle.cert_text.proofs.ShortItems.{short_taken}
use Rattle.cert_text.proofs.reading.short_run.Goals as goal

pub short-init : goal.short-init
short-init c =
    let none : c.args.from ≡ c.args.from + 2 * 0 = omega arith in
    record {
      within = omega arith;
      room = omega (arith, c.requires.room);
      space = ap (λ n. get_or c.args.bytes.now n 0) (sym none) ∙ c.requires.space;
      read = ap (λ n. with_items (unpacked c.args.out.now) (behind c.args.bytes.now n AnItem)) none;
    }

pub short-preserved : goal.short-preserved
short-preserved c =
    let bytes = c.args.bytes.now in
    let at = c.args.from + 2 * c.short.count in
    let next : at + 2 ≡ c.args.from + 2 * (c.short.count + 1) = omega arith in
    let item = item_of c.in-Some.code in
    let items = unpacked c.short.out in
    let rest = behind bytes (at + 2) AnItem in
    let takes = short_taken bytes at (omega (arith, c.requires.within, c.short-test.true)) c.in-Some.ensures.atom c.if-bytes-from-eq32.true c.short.invariant.space item c.in-Some.ensures.is in
    record {
      within = omega (arith, c.short-test.true);
      room = omega (arith, c.short.invariant.room, c.push_reserved.ensures.len, c.push_reserved.ensures.capacity);
      space = ap (λ n. get_or bytes n 0) (sym next) ∙ c.if-bytes-from-eq32.true;
      read = c.short.invariant.read ∙ ap (with_items items) takes ∙ sym (items_last items item rest) ∙ ap (λ xs. with_items xs rest) (sym c.push_reserved.ensures.put)
          ∙ ap (λ n. with_items (unpacked c.push_reserved.new.self) (behind bytes n AnItem)) next;
    }
