-- What the directed rules infer is a type.
use Rattle.std.proofs.Common.{◌≡◌, ℕ, zero, suc}
use Rattle.pc_terms.specs.Syntax.{Term, Rel, SortT, Prod, Lambda, LetIn, App, Const, Ind, Construct, Case, Fix}
use Rattle.pc_terms.specs.Formed.{IsFormed}
use Rattle.pc_rules.specs.declared.meter.Account.{Account}
use Rattle.calculus_rules.specs.Environment.{Env}
use Rattle.calculus_rules.specs.Context.{Context}
use Rattle.pc_rules.specs.DirectedRun as run
use Rattle.pc_rules.specs.DirectedRun.{too_nested, noted, ticked}
use Rattle.pc_rules.specs.DirectedComparison.{Test, IsTest, Comparison, compare}
use Rattle.pc_rules.specs.DirectedTyping.{Typing, rule, rule_number, infer}
use Rattle.pc_rules.specs.WellCounted.{HasCountedDeclarations, IsCountedContext}
use Rattle.rule_laws.specs.Inference.{IsInferred}
use Rattle.rule_laws.proofs.Runs.{ticking_done, nested_done}
use Rattle.rule_laws.proofs.Comparing.{IsSound, compare_sound}
use Rattle.rule_laws.proofs.SimpleRules.{Infers, variable_rule_sound, sort_rule_sound, prod_rule_sound, lambda_rule_sound, let_rule_sound, app_rule_sound, const_rule_sound, ind_rule_sound, construct_rule_sound}
use Rattle.rule_laws.proofs.MatchRule.{case_rule_sound}
use Rattle.rule_laws.proofs.FixRule.{fix_rule_sound}

module _ (E : Env) (w : HasCountedDeclarations E) where
  rule_sound : (inf : Typing) → Infers E inf → (cmp : Comparison) → IsSound E cmp → (c : Context) (t T : Term) (u v : Account) → IsCountedContext E c → IsFormed t →
      (rule E inf cmp c t u).end ≡ run.Done T v → IsInferred E c t T
  rule_sound inf si cmp sc c (Rel i) T u v k f h = variable_rule_sound E w c k i T u v h
  rule_sound inf si cmp sc c (SortT s) T u v k f h = sort_rule_sound E w c k s T u v h
  rule_sound inf si cmp sc c (Prod A B) T u v k f h = prod_rule_sound E w inf si c A B T u v k f.1.0 f.1.1.0 h
  rule_sound inf si cmp sc c (Lambda A b) T u v k f h = lambda_rule_sound E w inf si c A b T u v k f.1.0 f.1.1.0 h
  rule_sound inf si cmp sc c (LetIn b B t) T u v k f h = let_rule_sound E w inf si cmp sc c b B t T u v k f.1.0 f.1.1.0 f.1.1.1.0 h
  rule_sound inf si cmp sc c (App g a) T u v k f h = app_rule_sound E w inf si cmp sc c g a T u v k f.1.0 f.1.1.0 h
  rule_sound inf si cmp sc c (Const l) T u v k f h = const_rule_sound E w c k l T u v h
  rule_sound inf si cmp sc c (Ind g) T u v k f h = ind_rule_sound E w c k g T u v h
  rule_sound inf si cmp sc c (Construct g n) T u v k f h = construct_rule_sound E w c k g n T u v h
  rule_sound inf si cmp sc c (Case g ps n ret t bs) T u v k f h = case_rule_sound E w inf si cmp sc c g ps n ret t bs T u v k f h
  rule_sound inf si cmp sc c (Fix i rargs types bodies) T u v k f h = fix_rule_sound E w inf si cmp sc c i rargs types bodies T u v k f h

  module _ (q : Test) (test : IsTest E.levels E.constraints q) where
    pub infer_sound : (n : ℕ) → Infers E (infer E q n)
    unfolding infer
    infer_sound zero c t T u v k f h = absurd (nested_done (ticking_done u (λ v. too_nested) T v h))
    infer_sound (suc n) c t T u v k f h =
        rule_sound (infer E q n) (infer_sound n) (compare E q n) (compare_sound E q test w n) c t T (noted (rule_number t) (ticked u)) v k f
        (ticking_done u (λ v. rule E (infer E q n) (compare E q n) c t (noted (rule_number t) v)) T v h)
