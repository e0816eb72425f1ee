use Rattle.std.proofs.Common.{◌≡◌, [], drop, take, map}
use Rattle.calculus_rules.specs.declared.declaration.Block.{Block}
use Rattle.calculus_rules.specs.Context.{extend}
use Rattle.pc_rules.specs.Follows.{IsAfter}
use Rattle.rule_laws.specs.Declarations.{ConstructorsFormed}
use Rattle.inductive_check.specs.Given.{ctor_of, family_of}
use Rattle.type_cert.specs.Retraces.{stand}
use Rattle.block_cert.specs.BlockWalks.{ctors_walk}
use Rattle.block_cert.proofs.InTurn.{Collects}
use Rattle.block_cert.proofs.constructors.constructors.Given as goal

-- what answers for the rest of the constructors, with those before, answers for all
abbrev pub invariant-loop-i : goal.invariant-loop-i
invariant-loop-i g l = record {
  rest : (B : Block) → extend [] B.params ≡ l.ctx →
      Collects (ctors_walk l.walk.verifier B (family_of l.family) (map ctor_of l.items) (stand l.fn.trail)) l.out.items l.fn.trail
      (ctors_walk l.walk.verifier B (family_of l.family) (map ctor_of (drop l.i l.items)) (stand l.trail)) l.trail;
  formed : ConstructorsFormed (map ctor_of (take l.i l.items));
  after : IsAfter l.fn.trail.meter l.trail.meter;
}
