use Rattle.std.proofs.Common.{◌≡◌, ◌+◌, ◌*◌, length, drop}
use Rattle.pc_terms.specs.Syntax.{head, args}
use Rattle.reduce_machine.specs.Seen.{seen_term}
use Rattle.lazy_conversion.specs.Sound.{size_of}
use Rattle.lazy_conversion.proofs.same_values.+same.Given as goal

abbrev pub decreases-same_arguments : goal.decreases-same_arguments
decreases-same_arguments l = size_of l.a

abbrev pub decreases-same_seen : goal.decreases-same_seen
decreases-same_seen l = length l.x.below.now * 3 + 1

abbrev pub decreases-same_heads : goal.decreases-same_heads
decreases-same_heads l = length l.x.below.now * 3

abbrev pub decreases-same_stuck : goal.decreases-same_stuck
decreases-same_stuck l = length l.f.scrut.below.now * 3 + 2

-- where the arguments from here on are the same, all are
abbrev pub invariant-same_seen-loop-i : goal.invariant-same_seen-loop-i
invariant-same_seen-loop-i l = record {
  rest : drop l.i (args (seen_term l.x)) ≡ drop l.i (args (seen_term l.y)) → args (seen_term l.x) ≡ args (seen_term l.y);
  left : l.count ≡ length (args (seen_term l.x));
  right : l.count ≡ length (args (seen_term l.y));
  heads : head (seen_term l.x) ≡ head (seen_term l.y);
}
