use Rattle.std.proofs.Common.{◌≡◌, drop, map}
use Rattle.pc_terms.specs.Syntax.{apply}
use Rattle.reduce_machine.specs.Reads.{read}
use Rattle.reduce_machine.proofs.spines.applied.Given as goal

abbrev pub invariant-loop-x : goal.invariant-loop-x
invariant-loop-x l = apply l.term (map read (drop l.x-index l.x-items)) ≡ apply l.fn.function (map read l.args.items)
