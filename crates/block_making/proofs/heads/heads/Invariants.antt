use Rattle.std.proofs.Common.{◌≡◌, [], Result, drop, take, map}
use Rattle.calculus_rules.specs.declared.declaration.Block.{Block}
use Rattle.calculus_rules.specs.Context.{extend}
use Rattle.calculus_rules.specs.Environment.{head_of}
use Rattle.pc_rules.specs.declared.stop.Halt.{Halt}
use Rattle.pc_rules.specs.Follows.{IsAfter}
use Rattle.pc_rules.specs.WellCounted.{AreCountedFamilies}
use Rattle.inductive_check.specs.Given.{family_of}
use Rattle.script_making.specs.declared.draft.Draft.{Draft}
use Rattle.script_making.specs.Makes.{Makes}
use Rattle.block_making.specs.BlockMaking.{heads_making}
use Rattle.block_making.proofs.heads.heads.Given as goal

-- what is made of the rest of the heads is made of all
abbrev pub invariant-loop-i : goal.invariant-loop-i
invariant-loop-i g l = record {
  rest : (B : Block) → extend [] B.params ≡ l.ctx → (r : Result (Unit {0}) Halt) (n : Draft)
      → Makes (heads_making l.typer.maker.env.now l.typer.maker.room B (map family_of (drop l.i l.items)) l.draft.meter.account) r l.draft n
      → Makes (heads_making l.typer.maker.env.now l.typer.maker.room B (map family_of l.items) l.fn.draft.meter.account) r l.fn.draft n;
  counted : AreCountedFamilies l.typer.maker.env.now (map head_of (map family_of (take l.i l.items)));
  after : IsAfter l.fn.draft.meter l.draft.meter;
}
