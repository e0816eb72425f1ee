use Rattle.block_cert.proofs.Sorted.{sort_over}
use Rattle.block_cert.proofs.sorts.sort_of.Goals as goal

pub returns-clause-over : goal.returns-clause-over
returns-clause-over g c =
    let v = c.args.walk.now.verifier in
    sort_over v.cert.now v.env.now c.args.ctx.now c.args.t.now c.requires.ready c.view.ensures.formed v.room _ c.args.trail.now c.sort_of.new.trail c.sort_of.ensures.retraces
