use Rattle.std.proofs.Common.{rules, ◌≡◌, length, ap, ◌∙◌}
use Rattle.closure_lift.specs.Lifted.{branch_count}
use Rattle.closure_lift.proofs.Counted.{branches_many}
use Rattle.closure_lift.proofs.program.LiftedBranches.len.Goals as goal

pub returns : goal.returns
returns c = let n : c.len.result ≡ length c.self.inside.items.items = search rules in record { is = n ∙ branches_many c.self.inside.items.items ∙ ap branch_count c.self.view_is }
