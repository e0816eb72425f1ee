use Rattle.std.proofs.Common.{◌≡◌, ◌≤◌, ◌+◌, ◌*◌, ◌-◌, get_or, vec_len, vec_capacity}
use Rattle.cert_rules.specs.Packed.{unpacked}
use Rattle.cert_text.specs.CertReading.{AnItem}
use Rattle.cert_text.specs.Answering.{behind, with_items}
use Rattle.cert_text.proofs.reading.short_run.Given as goal

-- the items so far stand before what is read of the rest, which begins with a space
abbrev pub invariant-short : goal.invariant-short
invariant-short l = record {
  within : l.count ≤ l.most;
  room : vec_len l.out.codes + l.most ≤ vec_capacity l.out.codes + l.count;
  space : get_or l.bytes (l.from + 2 * l.count) 0 ≡ 32;
  read : with_items (unpacked l.fn.out) (behind l.bytes l.from AnItem) ≡ with_items (unpacked l.out) (behind l.bytes (l.from + 2 * l.count) AnItem);
}

abbrev pub decreases-short : goal.decreases-short
decreases-short l = l.most - l.count
