use Rattle.std.proofs.Common.{◌≡◌, drop, take, map}
use Rattle.pc_rules.specs.declared.meter.Account.{Account}
use Rattle.pc_rules.specs.DirectedFirstOrder.{argument_types}
use Rattle.pc_rules.specs.Leads.{Leads}
use Rattle.first_order.specs.Searching.{types_in, name_in, constructor_name}
use Rattle.first_order.proofs.Searches.{then_done}
use Rattle.first_order.proofs.Working.{appended}
use Rattle.first_order.proofs.arguments.argument_types.Given as goal

abbrev pub invariant-loop-ctor : goal.invariant-loop-ctor
invariant-loop-ctor l = record {
  leads : (u : Account) → Leads (argument_types l.ty l.params l.ctors u) (then_done (argument_types l.ty l.params (drop l.ctor-index l.ctors) u) (appended (map types_in l.out.items)));
  named : map name_in l.out.items ≡ map constructor_name (take l.ctor-index l.ctors);
}
