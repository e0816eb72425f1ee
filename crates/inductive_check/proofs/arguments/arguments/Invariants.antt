use Rattle.std.proofs.Common.{◌≡◌, ◌++◌, drop}
use Rattle.calculus_rules.specs.Context.{extend}
use Rattle.pc_rules.specs.DirectedRun.{done, bind}
use Rattle.pc_rules.specs.Follows.{IsAfter}
use Rattle.pc_rules.specs.Leads.{Leads}
use Rattle.pc_rules.specs.WellCounted.{IsCountedContext}
use Rattle.inductive_check.specs.Arguments.{arguments_within}
use Rattle.inductive_check.proofs.arguments.arguments.Given as goal

abbrev pub invariant-loop-ty : goal.invariant-loop-ty
invariant-loop-ty g l = record {
  leads : Leads (arguments_within l.setting.env.now l.setting.room l.setting.block l.at.family l.at.ctor l.family l.initial.ctx l.args l.initial.m.account)
      (bind (arguments_within l.setting.env.now l.setting.room l.setting.block l.at.family l.at.ctor l.family l.ctx (drop l.ty-index l.args) l.m.account)
      (λ ss w. done (l.sorts.items ++ ss) w));
  after : IsAfter l.initial.m l.m;
  longer : extend l.initial.ctx l.args ≡ extend l.ctx (drop l.ty-index l.args);
  counted : IsCountedContext l.setting.env.now l.ctx;
}
