use Rattle.block_making.proofs.Sorted.{sort_over}
use Rattle.block_making.proofs.sorts.sort_of.Goals as goal

pub returns-clause-over : goal.returns-clause-over
returns-clause-over g c =
    let v = c.args.typer.now.maker in
    sort_over v.env.now c.args.ctx.now c.args.t.now c.requires.ready c.view.ensures.formed v.room _ c.args.draft.now c.sort_of.new.draft c.sort_of.ensures.makes
