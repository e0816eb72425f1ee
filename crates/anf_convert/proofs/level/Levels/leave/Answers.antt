use Rattle.std.proofs.Common.{◌≡◌, reverse, take, drop, length, ◌-◌, ap, ◌∙◌, arith}
use Rattle.anf_convert.proofs.LevelLists.{left_are}
use Rattle.anf_convert.proofs.level.Levels.leave.Goals as goal

pub returns : goal.returns
returns c =
    let xs = c.self.inside.items.items in
    let left : c.saturating_sub-left.result ≡ length xs - c.args.n = omega (arith, c.saturating_sub-left.ensures, c.len.ensures, c.self.inside.items.ok.0) in
    record { is = ap reverse (c.truncate.ensures.items ∙ ap (λ k. take k xs) left) ∙ left_are c.args.n xs ∙ ap (drop c.args.n) c.self.view_is }
