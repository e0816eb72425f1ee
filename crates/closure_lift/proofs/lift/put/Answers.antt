use Rattle.std.proofs.Common.{rules, ◌≡◌, length, ap, ◌∙◌}
use Rattle.std.specs.Prelude.{slice_set}
use Rattle.closure_lift.specs.LiftedView.{functions_of}
use Rattle.closure_lift.proofs.Making.{functions_set}
use Rattle.closure_lift.proofs.lift.put.Goals as goal

pub returns-clause-put : goal.returns-clause-put
returns-clause-put c =
    let fs = c.args.functions.now.items in
    let n : c.in_ok-captured.captured ≡ length c.args.words.now = search rules in
    functions_set fs c.args.at (record { captured = c.in_ok-captured.captured; body = c.args.body }) ∙ ap (λ k. slice_set (functions_of fs) c.args.at (record { captured = k; body = c.args.body })) n
