use Rattle.std.proofs.Common.{◌&&◌, ap, ◌∙◌, sym}
use Rattle.shrink_passes.specs.DeadPlaces.{flag_at, is_below, keeps}
use Rattle.shrink_passes.proofs.Flagging.{flag_taken}
use Rattle.shrink_passes.proofs.flags.Flags.lose.Goals as goal

pub returns-in-From : goal.returns-in-From
returns-in-From c = record {
  is = λ p.
      ap (flag_at p) c.truncate.ensures.items ∙ flag_taken c.in-From.n c.self.inside.items.items p ∙ ap (λ xs. flag_at p xs && is_below p c.in-From.n) c.self.view_is
      ∙ ap (λ l. flag_at p c.args.self.now && keeps l p) (sym c.in-From.is);
}
