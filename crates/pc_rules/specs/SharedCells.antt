-- A list in cells that lists may share.
use Rattle.std.specs.Prelude.{List, [], ◌∷◌, Option, Some, None}
use Rattle.std.specs.declared.alloc.Global.{Global}
use Rattle.std.specs.declared.rc.Rc.{Rc}
use Rattle.pc_rules.specs.declared.shared_list.Cell.{Cell}

abbrev pub items : {T : Type 0} → Option (Rc (Cell T) Global) → List T
items None = []
items (Some c) = c.value.item ∷ c.value.below
