use Rattle.std.proofs.Common.{◌≡◌, ◌∷◌, reverse, take, drop}
use Rattle.mem_value.proofs.storing.take_block.Given as goal

abbrev pub invariant-loop-taken : goal.invariant-loop-taken
invariant-loop-taken l = (l.block.items ≡ l.header ∷ take l._taken (reverse l.fn.words.items)) × (reverse l.words.items ≡ drop l._taken (reverse l.fn.words.items))
