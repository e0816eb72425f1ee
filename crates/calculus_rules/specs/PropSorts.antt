-- Whether a sort is Prop, as a test.
use Rattle.std.specs.Prelude.{Bool, true, false}
use Rattle.universe_levels.specs.declared.sort.Sort.{Sort}
use Rattle.universe_levels.specs.declared.sort.Sort.TheVariants.{Prop, Of}

abbrev pub is_prop : Sort → Bool
is_prop Prop = true
is_prop (Of u) = false
