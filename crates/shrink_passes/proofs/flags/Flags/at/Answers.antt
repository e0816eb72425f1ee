use Rattle.std.proofs.Common.{rules, arith, ap, ◌∙◌, sym}
use Rattle.shrink_passes.specs.DeadPlaces.{flag_at}
use Rattle.shrink_passes.proofs.Flagging.{flag_there, flag_past}
use Rattle.shrink_passes.proofs.flags.Flags.at.Goals as goal

pub returns-then-p-n : goal.returns-then-p-n
returns-then-p-n c =
    let there = flag_there c.self.inside.items.items c.args.p c.index.result.now (omega (arith, c.if-p-n.true, c.len-n.ensures)) in
    let is = there ∙ ap (flag_at c.args.p) c.self.view_is in
    search (rules, is)

pub returns-else-p-n : goal.returns-else-p-n
returns-else-p-n c = record { is = sym (flag_past c.self.inside.items.items c.args.p (omega (arith, c.if-p-n.false, c.len-n.ensures))) ∙ ap (flag_at c.args.p) c.self.view_is }
