use Rattle.std.proofs.Common.{◌≡◌, [], Result, drop, take, map}
use Rattle.calculus_rules.specs.declared.declaration.Block.{Block}
use Rattle.calculus_rules.specs.Context.{extend}
use Rattle.calculus_rules.specs.Environment.{head_of}
use Rattle.pc_rules.specs.Follows.{IsAfter}
use Rattle.pc_rules.specs.WellCounted.{AreCountedFamilies}
use Rattle.inductive_check.specs.Given.{family_of}
use Rattle.type_cert.specs.declared.halt.WalkHalt.{WalkHalt}
use Rattle.type_cert.specs.declared.trail.Trail.{Trail}
use Rattle.type_cert.specs.Retraces.{Retraces, stand}
use Rattle.block_cert.specs.BlockWalks.{heads_walk}
use Rattle.block_cert.proofs.heads.heads.Given as goal

-- what answers for the rest of the heads answers for all
abbrev pub invariant-loop-i : goal.invariant-loop-i
invariant-loop-i g l = record {
  rest : (B : Block) → extend [] B.params ≡ l.ctx → (r : Result (Unit {0}) WalkHalt) (t : Trail)
      → Retraces (heads_walk l.walk.verifier B (map family_of (drop l.i l.items)) (stand l.trail)) r l.trail t
      → Retraces (heads_walk l.walk.verifier B (map family_of l.items) (stand l.fn.trail)) r l.fn.trail t;
  counted : AreCountedFamilies l.walk.verifier.env.now (map head_of (map family_of (take l.i l.items)));
  after : IsAfter l.fn.trail.meter l.trail.meter;
}
