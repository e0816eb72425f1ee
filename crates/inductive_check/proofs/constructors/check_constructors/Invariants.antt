use Rattle.std.proofs.Common.{◌≡◌, ◌++◌, [], take, drop, map}
use Rattle.calculus_rules.specs.declared.declaration.Block.{Block}
use Rattle.calculus_rules.specs.Context.{extend}
use Rattle.pc_rules.specs.DirectedRun.{bind, done}
use Rattle.pc_rules.specs.Follows.{IsAfter}
use Rattle.pc_rules.specs.Leads.{Leads}
use Rattle.rule_laws.specs.Declarations.{ConstructorsFormed}
use Rattle.inductive_check.specs.Arguments.{constructors_within}
use Rattle.inductive_check.specs.Given.{ctor_of, family_of}
use Rattle.inductive_check.proofs.constructors.check_constructors.Given as goal

abbrev pub invariant-loop-n : goal.invariant-loop-n
invariant-loop-n g l = record {
  leads : (B : Block) → B.name ≡ l.setting.block → extend [] B.params ≡ l.ctx →
      Leads (constructors_within l.setting.env.now l.setting.room B (family_of l.family) l.place 0
      (map ctor_of l.family.ctors) l.initial.m.account)
      (bind (constructors_within l.setting.env.now l.setting.room B (family_of l.family) l.place l.n
      (map ctor_of (drop l.n l.family.ctors)) l.m.account) (λ Ds w. done (l.out.items ++ Ds) w));
  after : IsAfter l.initial.m l.m;
  formed : ConstructorsFormed (map ctor_of (take l.n l.family.ctors));
}
