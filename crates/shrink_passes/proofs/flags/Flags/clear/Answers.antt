use Rattle.std.proofs.Common.{◌&&◌, true, false, arith, ap, ◌∙◌, sym}
use Rattle.std.specs.Prelude.{nat_eq, if◌then◌else◌}
use Rattle.shrink_passes.specs.DeadPlaces.{flag_at}
use Rattle.shrink_passes.proofs.Flagging.{flag_cleared, flag_not_cleared}
use Rattle.shrink_passes.proofs.flags.Flags.clear.Goals as goal

pub returns-then-i-len-clause-is : goal.returns-then-i-len-clause-is
returns-then-i-len-clause-is c = λ p. flag_cleared c.self.inside.items.items c.args.i p ∙ ap (λ xs. flag_at p xs && (if nat_eq c.args.i p then false else true)) c.self.view_is

pub returns-else-i-len-clause-is : goal.returns-else-i-len-clause-is
returns-else-i-len-clause-is c = λ p.
    ap (flag_at p) (sym c.self.view_is) ∙ flag_not_cleared c.self.inside.items.items c.args.i p (omega (arith, c.if-i-len.false, c.len.ensures))
    ∙ ap (λ xs. flag_at p xs && (if nat_eq c.args.i p then false else true)) c.self.view_is
