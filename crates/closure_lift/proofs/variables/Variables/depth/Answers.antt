use Rattle.std.proofs.Common.{reverse, sym, ap, ◌∙◌}
use Rattle.anf_convert.specs.Captured.{depth}
use Rattle.closure_lift.proofs.Scoped.{numbered_depth}
use Rattle.closure_lift.proofs.variables.Variables.depth.Goals as goal

pub returns : goal.returns
returns c = record { is = sym (numbered_depth c.self.inside.depth (reverse c.self.inside.entries.items) c.self.invariant) ∙ ap (λ v. depth v.0) c.self.view_is }
