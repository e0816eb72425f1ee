use Rattle.std.proofs.Common.{◌≡◌, [], take, drop, map}
use Rattle.calculus_rules.specs.declared.declaration.Block.{Block}
use Rattle.calculus_rules.specs.Context.{extend}
use Rattle.calculus_rules.specs.Environment.{head_of}
use Rattle.pc_rules.specs.DirectedTyping.{infer}
use Rattle.pc_rules.specs.DirectedDeclarations.{family_heads}
use Rattle.pc_rules.specs.Entailment.{test_of}
use Rattle.pc_rules.specs.Follows.{IsAfter}
use Rattle.pc_rules.specs.Leads.{Leads}
use Rattle.pc_rules.specs.WellCounted.{AreCountedFamilies}
use Rattle.inductive_check.specs.Given.{family_of}
use Rattle.inductive_check.proofs.heads.check_heads.Given as goal

abbrev pub invariant-loop-family : goal.invariant-loop-family
invariant-loop-family g l = record {
  leads : (B : Block) → extend [] B.params ≡ l.ctx → Leads (family_heads l.env (infer l.env (test_of l.env) l.room) B (map family_of l.families) l.initial.m.account)
      (family_heads l.env (infer l.env (test_of l.env) l.room) B (map family_of (drop l.family-index l.families)) l.m.account);
  after : IsAfter l.initial.m l.m;
  counted : AreCountedFamilies l.env (map head_of (map family_of (take l.family-index l.families)));
}
