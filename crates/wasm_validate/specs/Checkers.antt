-- A checker as a place of the pass.
use Rattle.std.specs.Prelude.{map, reverse}
use Rattle.std.specs.Option.{option_to_list}
use Rattle.wasm_validate.specs.declared.checker.Control.{Control}
use Rattle.wasm_validate.specs.declared.checker.Checker.TheInside.{Inside}
use Rattle.wasm_core.specs.Pass.{Place, Ctl, knowing}

-- an open block
abbrev pub ctl_of : Control → Ctl
ctl_of c = record { label = option_to_list c.label; ends = option_to_list c.ends; one_arm = c.one_arm; below = knowing (reverse c.below.items) c.loose }

-- the code keeps the topmost operand and the innermost block last
abbrev pub place_of : Inside → Place
place_of a = record { now = knowing (reverse a.vals.items) a.loose; ctls = map ctl_of (reverse a.controls.items) }
