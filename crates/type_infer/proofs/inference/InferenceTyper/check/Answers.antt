use Rattle.type_infer.proofs.Beginning.{ready_from, check_from}
use Rattle.type_infer.proofs.inference.InferenceTyper.check.Goals as goal

pub returns-clause-typed : goal.returns-clause-typed
returns-clause-typed g c =
    check_from _ _ _ _ (ready_from _ _ c.requires.env c.requires.ctx c.graph.ensures.consistent) c.room.result _ c.args.m.now c.check_at.new.m c.check_at.ensures.follows
    c.check_at.ensures.counted c.check_at.ensures.type_counted
