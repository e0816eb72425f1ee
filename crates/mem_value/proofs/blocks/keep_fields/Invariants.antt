use Rattle.std.proofs.Common.{ℕ, ◌<◌}
use Rattle.mem_value.specs.Marks.{IsKept, Grows, MarksFields, field_at}
use Rattle.mem_value.proofs.blocks.keep_fields.Given as goal

abbrev pub invariant-loop-i : goal.invariant-loop-i
invariant-loop-i l =
    ((k : ℕ) → k < l.i → IsKept l.marks.items l.place (field_at l.memory l.place k))
    × Grows l.fn.marks.items l.marks.items
    × MarksFields l.memory l.place l.i l.fn.marks.items l.marks.items
