use Rattle.std.proofs.Common.{arith, ap, ◌∙◌, sym}
use Rattle.shrink_passes.specs.DeadPlaces.{flag_at}
use Rattle.shrink_passes.proofs.Flagging.{flag_past}
use Rattle.shrink_passes.proofs.flags.Flags.end.Goals as goal

pub loop-n-init : goal.loop-n-init
loop-n-init c = λ p l. ap (flag_at p) (sym c.self.view_is) ∙ flag_past c.self.inside.items.items p (omega (arith, l, c.len-n.ensures))
