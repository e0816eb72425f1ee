-- The item for so many weak-head steps of a side of a script.
use Rattle.std.specs.Prelude.{ℕ}
use Rattle.cert_rules.specs.declared.item.CertItem.{CertItem}
use Rattle.cert_rules.specs.declared.item.CertItem.TheVariants.{Left, Right}
use Rattle.script_making.specs.declared.reductions.Side.{Side}
use Rattle.script_making.specs.declared.reductions.Side.TheVariants as of

abbrev pub steps_of : Side → ℕ → CertItem
steps_of of.Left n = Left n
steps_of of.Right n = Right n
