use Rattle.type_infer.proofs.Beginning.{ready_from, sort_from}
use Rattle.type_infer.proofs.inference.InferenceSiteTyper.sort_in.Goals as goal

pub returns-clause-typed : goal.returns-clause-typed
returns-clause-typed g c =
    sort_from _ _ _ (ready_from _ _ c.requires.env c.requires.ctx c.graph.ensures.consistent) c.room.result _ c.args.m.now c.sort_at.new.m c.sort_at.ensures.follows c.sort_at.ensures.counted
