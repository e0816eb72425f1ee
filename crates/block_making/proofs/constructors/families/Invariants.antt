use Rattle.std.proofs.Common.{◌≡◌, [], drop, map}
use Rattle.calculus_rules.specs.declared.declaration.Block.{Block}
use Rattle.calculus_rules.specs.Context.{extend}
use Rattle.calculus_rules.specs.Environment.{head_of}
use Rattle.pc_rules.specs.Follows.{IsAfter}
use Rattle.pc_rules.specs.WellCounted.{AreCountedFamilies}
use Rattle.inductive_check.specs.Given.{family_of}
use Rattle.block_making.specs.BlockMaking.{families_making}
use Rattle.block_making.proofs.InTurn.{Collects}
use Rattle.block_making.proofs.constructors.families.Given as goal

-- what is made of the rest of the families, with those before, is made of all
abbrev pub invariant-loop-i : goal.invariant-loop-i
invariant-loop-i g l = record {
  rest : (B : Block) → B.name ≡ l.block → extend [] B.params ≡ l.ctx →
      Collects (families_making l.typer.maker.env.now l.typer.maker.room B 0 (map family_of l.items) l.fn.draft.meter.account) l.out.items l.fn.draft
      (families_making l.typer.maker.env.now l.typer.maker.room B l.i (map family_of (drop l.i l.items)) l.draft.meter.account) l.draft;
  heads : AreCountedFamilies l.typer.maker.env.now (map head_of (map family_of (drop l.i l.items)));
  after : IsAfter l.fn.draft.meter l.draft.meter;
}
