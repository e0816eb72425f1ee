use Rattle.std.proofs.Common.{◌≡◌, ◌≤◌, drop, take, length, map}
use Rattle.pc_rules.specs.DirectedFirstOrder.{put_constructors}
use Rattle.pc_rules.specs.Follows.{IsAfter}
use Rattle.pc_rules.specs.Leads.{Leads}
use Rattle.first_order.specs.Searching.{types_in, name_in, ctor_name, places}
use Rattle.first_order.proofs.Searches.{then_done}
use Rattle.first_order.proofs.Working.{results}
use Rattle.first_order.proofs.searching.put_constructors.Given as goal

abbrev pub invariant-loop-ctor : goal.invariant-loop-ctor
invariant-loop-ctor g l = record {
  leads : Leads (put_constructors l.env 1024 l.fn.types.items (map types_in l.ctors) l.fn.m.account)
      (then_done (put_constructors l.env 1024 l.types.items (map types_in (drop l.ctor-index l.ctors)) l.m.account) (results (map places l.out.items)));
  after : IsAfter l.fn.m l.m;
  few : length l.types.items ≤ 1024;
  named : map ctor_name l.out.items ≡ map name_in (take l.ctor-index l.ctors);
}
