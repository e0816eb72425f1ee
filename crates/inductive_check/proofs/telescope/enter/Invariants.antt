use Rattle.std.proofs.Common.{◌≡◌, drop}
use Rattle.calculus_rules.specs.Context.{extend}
use Rattle.pc_rules.specs.DirectedTyping.{infer}
use Rattle.pc_rules.specs.Entailment.{test_of}
use Rattle.pc_rules.specs.Follows.{IsAfter}
use Rattle.pc_rules.specs.Leads.{Leads}
use Rattle.pc_rules.specs.WellCounted.{IsCountedContext}
use Rattle.inductive_check.specs.Arguments.{entries_rule}
use Rattle.inductive_check.proofs.telescope.enter.Given as goal

abbrev pub invariant-loop-ty : goal.invariant-loop-ty
invariant-loop-ty g l = record {
  leads : Leads (entries_rule l.env (infer l.env (test_of l.env) l.room) l.initial.ctx l.telescope l.initial.m.account)
      (entries_rule l.env (infer l.env (test_of l.env) l.room) l.ctx (drop l.ty-index l.telescope) l.m.account);
  after : IsAfter l.initial.m l.m;
  longer : extend l.initial.ctx l.telescope ≡ extend l.ctx (drop l.ty-index l.telescope);
  counted : IsCountedContext l.env l.ctx;
}
