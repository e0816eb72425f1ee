use Rattle.std.proofs.Common.{◌≡◌, ◌+◌, drop, take}
use Rattle.pc_terms.specs.Syntax.{Rel, put_all}
use Rattle.pc_rules.specs.Follows.{IsAfter}
use Rattle.pc_rules.specs.Leads.{Leads}
use Rattle.pc_rules.specs.WellCounted.{AreCounted}
use Rattle.inductive_check.specs.Arguments.{results_within}
use Rattle.inductive_check.proofs.results.check_results.Given as goal

abbrev pub invariant-loop-i : goal.invariant-loop-i
invariant-loop-i g l = record {
  leads : Leads (results_within l.setting.env.now l.setting.room l.ctx (λ i. Rel (l.args + i)) l.result_terms l.indices l.initial.m.account)
      (results_within l.setting.env.now l.setting.room l.ctx (put_all l.before (λ i. Rel (l.args + i)))
      (drop l.i l.result_terms) (drop l.i l.indices) l.m.account);
  after : IsAfter l.initial.m l.m;
  before : l.before ≡ take l.i l.result_terms;
  counted : AreCounted l.setting.env.now l.before;
}
