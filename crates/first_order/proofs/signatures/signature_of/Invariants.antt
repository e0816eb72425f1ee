use Rattle.std.proofs.Common.{◌≤◌, ◌-◌, length}
use Rattle.pc_rules.specs.Follows.{IsAfter}
use Rattle.pc_rules.specs.Leads.{Leads}
use Rattle.first_order.specs.DirectedSignature.{signature_within, before_arguments, sets_of, AreAllNamed}
use Rattle.first_order.proofs.Searches.{then_done}
use Rattle.first_order.proofs.Signing.{signing}
use Rattle.first_order.proofs.signatures.signature_of.Given as goal

abbrev pub invariant-arguments : goal.invariant-arguments
invariant-arguments g l = record {
  leads : Leads (signature_within l.env 255 l.fn.whnf l.fn.m.account) (then_done (signing l.env (length l.args.items) l.ty l.m.account) (before_arguments (sets_of l.args.items)));
  after : IsAfter l.fn.m l.m;
  few : length l.args.items ≤ 255;
  named : AreAllNamed l.env l.args.items;
}

abbrev pub decreases-arguments : goal.decreases-arguments
decreases-arguments g l = 255 - length l.args.items
