-- A comparison's mode as the directed rules write it: true where the terms are to be equal, and false where the left is to be below.
use Rattle.std.specs.Prelude.{Bool, true, false}
use Rattle.conversion.specs.declared.mode.Mode.{Mode}
use Rattle.conversion.specs.declared.mode.Mode.TheVariants.{Equal, Below}

abbrev pub is_equal : Mode → Bool
is_equal Equal = true
is_equal Below = false
