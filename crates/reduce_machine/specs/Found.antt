-- What a variable is bound to.
use Rattle.std.specs.Prelude.{ℕ, ◌≡◌, ◌+◌, ◌<◌, length, slice_get, Some}
use Rattle.reduce_machine.specs.Bound.{Bound}
use Rattle.reduce_machine.specs.Memos.{IsMemo}
use Rattle.reduce_machine.specs.Reads.{read}
use Rattle.reduce_machine.specs.declared.bindings.Found.{Found}
use Rattle.reduce_machine.specs.declared.bindings.Found.TheVariants.{Item, Past}

-- the item, whose own bindings lie less deep, with the place for what it is read to; or the variable behind all items
abbrev pub IsFound : Bound → ℕ → Found → Type 0
IsFound b i (Item l m) = (slice_get b.items i ≡ Some (read l.now)) × (l.now.env.rank < b.rank) × IsMemo m.now (read l.now)
IsFound b i (Past j) = i ≡ length b.items + j
