use Rattle.std.proofs.Common.{◌≡◌, [], drop, map}
use Rattle.calculus_rules.specs.declared.declaration.Block.{Block}
use Rattle.calculus_rules.specs.Context.{extend}
use Rattle.pc_rules.specs.Follows.{IsAfter}
use Rattle.inductive_check.specs.Given.{ctor_of, family_of}
use Rattle.block_making.specs.BlockMaking.{ctors_making}
use Rattle.block_making.proofs.InTurn.{Collects}
use Rattle.block_making.proofs.constructors.constructors.Given as goal

-- what is made of the rest of the constructors, with those before, is made of all
abbrev pub invariant-loop-i : goal.invariant-loop-i
invariant-loop-i g l = record {
  rest : (B : Block) → B.name ≡ l.block → extend [] B.params ≡ l.ctx →
      Collects (ctors_making l.typer.maker.env.now l.typer.maker.room B (family_of l.family) l.place 0 (map ctor_of l.items) l.fn.draft.meter.account) l.out.items l.fn.draft
      (ctors_making l.typer.maker.env.now l.typer.maker.room B (family_of l.family) l.place l.i (map ctor_of (drop l.i l.items)) l.draft.meter.account) l.draft;
  after : IsAfter l.fn.draft.meter l.draft.meter;
}
