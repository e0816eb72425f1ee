use Rattle.std.proofs.Common.{◌≡◌, map, take}
use Rattle.erase_laws.specs.ErasedProgram.{arguments_of}
use Rattle.erase.proofs.families.arities.Given as goal

abbrev pub invariant-loop-ctor : goal.invariant-loop-ctor
invariant-loop-ctor l = l.out ≡ map arguments_of (take l.ctor-index l.ctor-items)
