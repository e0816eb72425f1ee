use Rattle.std.proofs.Common.{rules, ◌≡◌, length, ap, ◌∙◌}
use Rattle.closure_lift.proofs.Counted.{bounds_length}
use Rattle.closure_lift.proofs.program.LiftedOps.len.Goals as goal

pub returns : goal.returns
returns c = let n : c.len.result ≡ length c.self.inside.items.items = search rules in record { is = n ∙ bounds_length c.self.inside.items.items ∙ ap length c.self.view_is }
