use Rattle.std.proofs.Common.{◌≡◌, ◌+◌, length}
use Rattle.erase.proofs.constants.count.Given as goal

abbrev pub invariant-loop-count : goal.invariant-loop-count
invariant-loop-count l = l.count + length l.walk ≡ length l.env.declarations

abbrev pub decreases-loop-count : goal.decreases-loop-count
decreases-loop-count l = length l.walk
