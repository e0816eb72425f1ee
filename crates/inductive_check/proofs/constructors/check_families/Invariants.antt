use Rattle.std.proofs.Common.{◌≡◌, ◌++◌, [], take, drop, map}
use Rattle.calculus_rules.specs.declared.declaration.Block.{Block}
use Rattle.calculus_rules.specs.Context.{extend}
use Rattle.calculus_rules.specs.Environment.{head_of}
use Rattle.pc_rules.specs.DirectedRun.{bind, done}
use Rattle.pc_rules.specs.Follows.{IsAfter}
use Rattle.pc_rules.specs.Leads.{Leads}
use Rattle.pc_rules.specs.WellCounted.{AreCountedFamilies}
use Rattle.rule_laws.specs.Declarations.{FamiliesFormed}
use Rattle.inductive_check.specs.Arguments.{families_within}
use Rattle.inductive_check.specs.Given.{family_of}
use Rattle.inductive_check.proofs.constructors.check_families.Given as goal

abbrev pub invariant-loop-f : goal.invariant-loop-f
invariant-loop-f g l = record {
  leads : (B : Block) → B.name ≡ l.setting.block → extend [] B.params ≡ l.ctx →
      Leads (families_within l.setting.env.now l.setting.room B 0 (map family_of l.families) l.initial.m.account)
      (bind (families_within l.setting.env.now l.setting.room B l.f (map family_of (drop l.f l.families)) l.m.account)
      (λ Gs w. done (l.out.items ++ Gs) w));
  after : IsAfter l.initial.m l.m;
  heads : AreCountedFamilies l.setting.env.now (map head_of (map family_of (drop l.f l.families)));
  formed : FamiliesFormed (map family_of (take l.f l.families));
}
