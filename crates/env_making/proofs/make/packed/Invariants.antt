use Rattle.std.proofs.Common.{◌≡◌, take}
use Rattle.cert_rules.specs.Packed.{unpacked}
use Rattle.env_making.proofs.make.packed.Given as goal

-- the items so far
abbrev pub invariant-loop-item : goal.invariant-loop-item
invariant-loop-item l = unpacked l.items ≡ take l.item-index l.written
