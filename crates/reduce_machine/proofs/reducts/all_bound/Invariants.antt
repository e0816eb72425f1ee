use Rattle.std.proofs.Common.{◌≡◌, ◌-◌, drop, length, map}
use Rattle.pc_terms.specs.Syntax.{Rel, put_all}
use Rattle.reduce_machine.specs.Reads.{stands, read}
use Rattle.reduce_machine.proofs.reducts.all_bound.Given as goal

abbrev pub invariant-next : goal.invariant-next
invariant-next l = put_all (map read (drop l.i l.items)) (stands l.env.items) ≡ put_all (map read l.items) Rel

abbrev pub decreases-next : goal.decreases-next
decreases-next l = length l.items - l.i
