use Rattle.std.proofs.Common.{rules, arith, ◌≡◌, ◌+◌, length-append, length-drop, slice_range}
use Rattle.std.proofs.Math.ListN.{drop_of_length-le}
use Rattle.kio.proofs.Bytes.{copied-front}
use Rattle.kio.proofs.memory.MemSourceSource.read.Goals as goal

pub returns-then-not-is_empty-clause-bytes : goal.returns-then-not-is_empty-clause-bytes
returns-then-not-is_empty-clause-bytes c =
    let copied : c.copy_from_slice.new.self ≡ slice_range c.self.inside.bytes.items c.self.inside.at (c.self.inside.at + c.min-n.result) = search rules in (
      rw (← c.self.view_is) (copied-front c.self.inside.bytes.items _ _ c.self.inside.at c.min-n.result copied (omega arith)),
      λ e h. search (rules, drop_of_length-le, length-append, length-drop),
    )
