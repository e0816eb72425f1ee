use Rattle.std.proofs.Common.{◌≡◌}
use Rattle.pc_terms.specs.Syntax.{Term}
use Rattle.calculus_rules.specs.Context.{values}
use Rattle.calculus_rules.specs.WeakHead.{WeakSteps}
use Rattle.pc_rules.specs.Follows.{IsAfter}
use Rattle.cert_rules.specs.WalkSteps.{walk_steps}
use Rattle.type_cert.specs.Retraces.{stand}
use Rattle.type_cert.specs.WalkLeads.{WalkLeads}
use Rattle.type_cert.proofs.numbers.one_by_one.Given as goal

-- the whole walk has come to the steps that are left
abbrev pub invariant-steps : goal.invariant-steps
invariant-steps l = record {
  leads : WalkLeads (walk_steps l.env (values l.ctx) l.item l.n l.fn.t (stand l.fn.trail)) (walk_steps l.env (values l.ctx) l.item l.left l.term (stand l.trail));
  after : IsAfter l.fn.trail.meter l.trail.meter;
  at : l.trail.at ≡ l.fn.trail.at;
  reached : (W : Term) → WeakSteps l.env (values l.ctx) l.term W → WeakSteps l.env (values l.ctx) l.fn.t W;
}

abbrev pub decreases-steps : goal.decreases-steps
decreases-steps l = l.left
