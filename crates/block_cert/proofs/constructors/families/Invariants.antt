use Rattle.std.proofs.Common.{◌≡◌, [], drop, take, map}
use Rattle.calculus_rules.specs.declared.declaration.Block.{Block}
use Rattle.calculus_rules.specs.Context.{extend}
use Rattle.calculus_rules.specs.Environment.{head_of}
use Rattle.pc_rules.specs.Follows.{IsAfter}
use Rattle.pc_rules.specs.WellCounted.{AreCountedFamilies}
use Rattle.rule_laws.specs.Declarations.{FamiliesFormed}
use Rattle.inductive_check.specs.Given.{family_of}
use Rattle.type_cert.specs.Retraces.{stand}
use Rattle.block_cert.specs.BlockWalks.{families_walk}
use Rattle.block_cert.proofs.InTurn.{Collects}
use Rattle.block_cert.proofs.constructors.families.Given as goal

-- what answers for the rest of the families, with those before, answers for all
abbrev pub invariant-loop-i : goal.invariant-loop-i
invariant-loop-i g l = record {
  rest : (B : Block) → extend [] B.params ≡ l.ctx →
      Collects (families_walk l.walk.verifier B (map family_of l.items) (stand l.fn.trail)) l.out.items l.fn.trail
      (families_walk l.walk.verifier B (map family_of (drop l.i l.items)) (stand l.trail)) l.trail;
  heads : AreCountedFamilies l.walk.verifier.env.now (map head_of (map family_of (drop l.i l.items)));
  formed : FamiliesFormed (map family_of (take l.i l.items));
  after : IsAfter l.fn.trail.meter l.trail.meter;
}
