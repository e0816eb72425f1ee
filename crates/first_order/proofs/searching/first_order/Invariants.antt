use Rattle.std.proofs.Common.{◌≤◌, ◌-◌, length}
use Rattle.pc_rules.specs.DirectedFirstOrder.{first_order_search}
use Rattle.pc_rules.specs.Follows.{IsAfter}
use Rattle.pc_rules.specs.Leads.{Leads}
use Rattle.first_order.specs.Searching.{members, AreNamed}
use Rattle.first_order.proofs.Searches.{then_done}
use Rattle.first_order.proofs.Working.{appended, working}
use Rattle.first_order.proofs.searching.first_order.Given as goal

abbrev pub invariant-types : goal.invariant-types
invariant-types g l = record {
  leads : Leads (first_order_search l.env l.ty l.fn.m.account) (then_done (working l.env l.types.items (length l.shapes.items) l.m.account) (appended (members l.shapes.items)));
  after : IsAfter l.fn.m l.m;
  few : length l.types.items ≤ 1024;
  named : AreNamed l.env l.shapes.items;
}

abbrev pub decreases-types : goal.decreases-types
decreases-types g l = 1024 - length l.shapes.items
