use Rattle.std.proofs.Common.{rules, ◌≡◌, length, reverse, sym, ap, ◌∙◌}
use Rattle.std.proofs.lemmas.List.{length-reverse}
use Rattle.closure_lift.proofs.Placing.{slots_length}
use Rattle.closure_lift.proofs.frame.Frame.len.Goals as goal

pub returns : goal.returns
returns c =
    let items = c.self.inside.held.items in
    let n : c.len.result ≡ length items = search rules in
    record { is = n ∙ sym (length-reverse items) ∙ sym (slots_length (reverse items)) ∙ ap length c.self.view_is }
