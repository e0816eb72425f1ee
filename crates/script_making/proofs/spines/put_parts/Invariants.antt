use Rattle.std.specs.Prelude.{replicate}
use Rattle.std.proofs.Common.{◌≡◌, ◌++◌}
use Rattle.cert_rules.specs.declared.item.CertItem.TheVariants.{Parts}
use Rattle.script_making.proofs.spines.put_parts.Given as goal

-- so many items stand behind what was written
abbrev pub invariant-loop : goal.invariant-loop
invariant-loop l = record {
  written : l.draft.written.items ≡ l.fn.draft.written.items ++ replicate l.counter Parts;
  meter : l.draft.meter ≡ l.fn.draft.meter;
}
