-- What the certified walk comes to is a type.
use Rattle.std.proofs.Common.{◌≡◌, ℕ, zero, suc}
use Rattle.pc_terms.specs.Syntax.{Term, Rel, SortT, Const, Case, Prod, Lambda, LetIn, App, Ind, Construct, Fix}
use Rattle.pc_terms.specs.Formed.{IsFormed}
use Rattle.calculus_rules.specs.Environment.{Env}
use Rattle.calculus_rules.specs.Context.{Context, type_at}
use Rattle.calculus_rules.specs.Lookups.{kept_at}
use Rattle.pc_rules.specs.DirectedComparison.{Test, IsTest}
use Rattle.pc_rules.specs.DirectedTyping.{rel_rule, sort_rule, const_rule, ind_rule, construct_rule}
use Rattle.pc_rules.specs.WellCounted.{HasCountedDeclarations, IsCountedContext}
use Rattle.rule_laws.specs.Inference.{IsInferred}
use Rattle.rule_laws.proofs.SimpleRules.{variable_rule_sound, sort_rule_sound, const_rule_sound, ind_rule_sound, construct_rule_sound}
use Rattle.cert_rules.specs.Walk.{Items, WalkState, Passed, crowded, tick}
use Rattle.cert_rules.specs.Scripts.{Script, script}
use Rattle.cert_rules.specs.WalkTyping.{Walking, walk_rule, walk_infer}
use Rattle.cert_rules.proofs.PassedWalks.{rules_passed, ticking_passed, crowded_passed}
use Rattle.cert_rules.proofs.SoundScripts.{Shows, script_sound}
use Rattle.cert_rules.proofs.SoundSimple.{Infers, prod_rule_sound, lambda_rule_sound, let_rule_sound, app_rule_sound}
use Rattle.cert_rules.proofs.SoundMatch.{case_rule_sound}
use Rattle.cert_rules.proofs.SoundFix.{fix_rule_sound}

module _ (cert : Items) (E : Env) (w : HasCountedDeclarations E) where
  rule_sound : (inf : Walking) → Infers E inf → (cmp : Script) → Shows E cmp → (c : Context) (t T : Term) (u v : WalkState) → IsCountedContext E c → IsFormed t →
      (walk_rule cert E inf cmp c t u).end ≡ Passed T v → IsInferred E c t T
  rule_sound inf si cmp sc c (Rel i) T u v k f h =
      let r = rules_passed (rel_rule c i (type_at c i)) u T v h in variable_rule_sound E w c k i T u.account r.0 r.1
  rule_sound inf si cmp sc c (SortT s) T u v k f h = let r = rules_passed (sort_rule E s) u T v h in sort_rule_sound E w c k s T u.account r.0 r.1
  rule_sound inf si cmp sc c (Prod A B) T u v k f h = prod_rule_sound cert E w inf si c A B T u v k f.1.0 f.1.1.0 h
  rule_sound inf si cmp sc c (Lambda A b) T u v k f h = lambda_rule_sound cert E w inf si c A b T u v k f.1.0 f.1.1.0 h
  rule_sound inf si cmp sc c (LetIn b B t) T u v k f h = let_rule_sound cert E w inf si cmp sc c b B t T u v k f.1.0 f.1.1.0 f.1.1.1.0 h
  rule_sound inf si cmp sc c (App g a) T u v k f h = app_rule_sound cert E w inf si cmp sc c g a T u v k f.1.0 f.1.1.0 h
  rule_sound inf si cmp sc c (Const l) T u v k f h =
      let r = rules_passed (const_rule l (kept_at E.declarations l)) u T v h in const_rule_sound E w c k l T u.account r.0 r.1
  rule_sound inf si cmp sc c (Ind g) T u v k f h = let r = rules_passed (ind_rule E g) u T v h in ind_rule_sound E w c k g T u.account r.0 r.1
  rule_sound inf si cmp sc c (Construct g n) T u v k f h =
      let r = rules_passed (construct_rule E g n) u T v h in construct_rule_sound E w c k g n T u.account r.0 r.1
  rule_sound inf si cmp sc c (Case g ps n ret t bs) T u v k f h = case_rule_sound cert E w inf si cmp sc c g ps n ret t bs T u v k f h
  rule_sound inf si cmp sc c (Fix i rargs types bodies) T u v k f h = fix_rule_sound cert E w inf si cmp sc c i rargs types bodies T u v k f h

  module _ (q : Test) (test : IsTest E.levels E.constraints q) where
    pub infer_sound : (n : ℕ) → Infers E (walk_infer cert E q n)
    unfolding walk_infer
    infer_sound zero c t T u v k f h = absurd (crowded_passed (ticking_passed u (λ v. crowded) T v h))
    infer_sound (suc n) c t T u v k f h =
        rule_sound (walk_infer cert E q n) (infer_sound n) (script cert E q n) (script_sound E q test cert n) c t T (tick u) v k f
        (ticking_passed u (λ v. walk_rule cert E (walk_infer cert E q n) (script cert E q n) c t v) T v h)
