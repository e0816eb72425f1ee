-- Bindings in cells.
use Rattle.std.specs.Prelude.{◌≡◌, ◌<◌, ◌^◌, [], ◌∷◌, Option, Some, None}
use Rattle.std.specs.declared.alloc.Global.{Global}
use Rattle.std.specs.declared.rc.Rc.{Rc}
use Rattle.reduce_machine.specs.Bound.{Bound}
use Rattle.reduce_machine.specs.Memos.{IsMemo, number_of_list}
use Rattle.reduce_machine.specs.Reads.{read}
use Rattle.reduce_machine.specs.declared.bindings.Cell.{Cell}

abbrev pub bound_of : Option (Rc Cell Global) → Bound
bound_of None = record { items = []; rank = 0 }
bound_of (Some c) = record { items = read c.value.link.item ∷ c.value.link.below.items; rank = c.value.rank }

-- a cell lies above all that it leads to, its place is for the term that its item is, and its stamp is for what it binds
abbrev pub IsRanked : Option (Rc Cell Global) → Type 0
IsRanked None = Unit {0}
IsRanked (Some c) =
    (c.value.link.item.env.rank < c.value.rank) × (c.value.link.below.rank < c.value.rank) × (c.value.rank < 2 ^ 32) × IsMemo c.value.memo (read c.value.link.item)
    × (c.value.stamp ≡ number_of_list (read c.value.link.item ∷ c.value.link.below.items))
