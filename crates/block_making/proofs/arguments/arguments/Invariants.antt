use Rattle.std.proofs.Common.{◌≡◌, drop}
use Rattle.calculus_rules.specs.Context.{extend}
use Rattle.pc_rules.specs.Follows.{IsAfter}
use Rattle.type_infer.specs.Ready.{IsReady}
use Rattle.block_making.specs.BlockMaking.{arguments_making}
use Rattle.block_making.proofs.InTurn.{Collects}
use Rattle.block_making.proofs.arguments.arguments.Given as goal

-- what is made of the rest of the arguments, with the sorts of those before, is made of all
abbrev pub invariant-loop-i : goal.invariant-loop-i
invariant-loop-i g l = record {
  rest : Collects (arguments_making l.typer.maker.env.now l.typer.maker.room l.block l.at.family l.at.ctor l.family l.fn.ctx l.items l.fn.draft.meter.account) l.sorts.items l.fn.draft
      (arguments_making l.typer.maker.env.now l.typer.maker.room l.block l.at.family l.at.ctor l.family l.ctx (drop l.i l.items) l.draft.meter.account) l.draft;
  longer : extend l.fn.ctx l.items ≡ extend l.ctx (drop l.i l.items);
  ready : IsReady l.typer.maker.env.now l.ctx;
  after : IsAfter l.fn.draft.meter l.draft.meter;
}
