use Rattle.std.proofs.Common.{◌≤◌, drop, length}
use Rattle.pc_rules.specs.DirectedFirstOrder.{put_arguments}
use Rattle.pc_rules.specs.Follows.{IsAfter}
use Rattle.pc_rules.specs.Leads.{Leads}
use Rattle.first_order.proofs.Searches.{then_done}
use Rattle.first_order.proofs.Working.{results}
use Rattle.first_order.proofs.searching.put_arguments.Given as goal

abbrev pub invariant-loop-ty : goal.invariant-loop-ty
invariant-loop-ty g l = record {
  leads : Leads (put_arguments l.env 1024 l.fn.types.items l.args l.fn.m.account) (then_done (put_arguments l.env 1024 l.types.items (drop l.ty-index l.args) l.m.account) (results l.places.items));
  after : IsAfter l.fn.m l.m;
  few : length l.types.items ≤ 1024;
}
