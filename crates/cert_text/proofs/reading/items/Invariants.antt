use Rattle.std.proofs.Common.{◌≡◌, ◌≤◌, ◌-◌, length}
use Rattle.cert_rules.specs.Packed.{unpacked}
use Rattle.cert_text.specs.CertReading.{AnItem}
use Rattle.cert_text.specs.Answering.{behind, with_items}
use Rattle.cert_text.proofs.reading.items.Given as goal

-- the items so far stand before what is read of the rest
abbrev pub invariant-items : goal.invariant-items
invariant-items l = record {
  within : l.at ≤ length l.bytes;
  read : behind l.bytes l.from AnItem ≡ with_items (unpacked l.out) (behind l.bytes l.at AnItem);
}

abbrev pub decreases-items : goal.decreases-items
decreases-items l = length l.bytes - l.at
