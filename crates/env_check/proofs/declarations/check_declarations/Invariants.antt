use Rattle.std.proofs.Common.{◌-◌, map}
use Rattle.pc_rules.specs.Follows.{IsAfter}
use Rattle.pc_rules.specs.DirectedRun.{most_nested}
use Rattle.inductive_check.specs.Given.{given_of}
use Rattle.env_check.specs.Steps.{HasChecked}
use Rattle.env_check.proofs.declarations.check_declarations.Given as goal

abbrev pub invariant-loop-i : goal.invariant-loop-i
invariant-loop-i g l = record {
  checked : HasChecked l.fn.env (most_nested - l.fn.m.nest) (map given_of l.decls) l.fn.m.account l.i l.env l.m.account;
  after : IsAfter l.fn.m l.m;
}
