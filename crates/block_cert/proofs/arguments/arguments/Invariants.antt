use Rattle.std.proofs.Common.{◌≡◌, drop}
use Rattle.calculus_rules.specs.Context.{extend}
use Rattle.pc_rules.specs.Follows.{IsAfter}
use Rattle.type_infer.specs.Ready.{IsReady}
use Rattle.type_cert.specs.Retraces.{stand}
use Rattle.block_cert.specs.BlockWalks.{arguments_walk}
use Rattle.block_cert.proofs.InTurn.{Collects}
use Rattle.block_cert.proofs.arguments.arguments.Given as goal

-- what answers for the rest of the arguments, with the sorts of those before, answers for all
abbrev pub invariant-loop-i : goal.invariant-loop-i
invariant-loop-i g l = record {
  rest : Collects (arguments_walk l.walk.verifier l.family l.fn.ctx l.items (stand l.fn.trail)) l.sorts.items l.fn.trail
      (arguments_walk l.walk.verifier l.family l.ctx (drop l.i l.items) (stand l.trail)) l.trail;
  longer : extend l.fn.ctx l.items ≡ extend l.ctx (drop l.i l.items);
  ready : IsReady l.walk.verifier.env.now l.ctx;
  after : IsAfter l.fn.trail.meter l.trail.meter;
}
