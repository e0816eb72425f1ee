use Rattle.std.proofs.Common.{◌≡◌}
use Rattle.type_infer.proofs.ClosedPendings.{pending_closed}
use Rattle.type_infer.proofs.pending.PendingType.and.Goals as goal

pub returns-then-loose-eq0-clause-ok : goal.returns-then-loose-eq0-clause-ok
returns-then-loose-eq0-clause-ok c =
    let n = rw c.loose.ensures.is at c.if-loose-eq0.true in
    pending_closed c.args.self.arguments c.args.argument.now c.args.codomain n
