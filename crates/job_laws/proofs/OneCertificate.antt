-- The certificates that the directed rules write of an environment with the same units are one.
use Rattle.std.proofs.Common.{◌≡◌, ◌∙◌, ℕ, List, [], length, Option, Some, None, sym, ap, subst}
use Rattle.universe_levels.specs.declared.level.Level.{Level}
use Rattle.pc_terms.specs.Syntax.{Term}
use Rattle.calculus_rules.specs.Environment.{Env}
use Rattle.pc_rules.specs.declared.meter.Account.{Account}
use Rattle.pc_rules.specs.DirectedPlaces.{Outcome, Gives}
use Rattle.pc_rules.specs.DirectedDeclarations.{first_repeated, first_undeclared_end}
use Rattle.pc_rules.specs.Entailment.{entailed_by}
use Rattle.pc_rules.specs.DirectedRun.{most_nested}
use Rattle.cert_rules.specs.Walk.{Items}
use Rattle.cert_rules.specs.Writing.{Wrote, wrote}
use Rattle.cert_rules.specs.MakingDeclarations.{Made, make_constraints, make_declarations, make_graph, make_levels}
use Rattle.dump_reader.specs.declared.environment.RawEnv.{RawEnv}
use Rattle.env_check.specs.Rules.{givens}
use Rattle.driver.specs.Judged.{start}
use Rattle.certified_texts.specs.ReadBack.{certified_text}
use Rattle.driver.specs.CertEnds.{IsCertified, IsMakingOf, making_with}

-- the rules accept with no cycle alone
no_cycle_makes : (o p : Option (ℕ × Level)) (q : List ℕ) (go : Made) (u w : Account) (r : Wrote (Env × Term)) → (make_levels o (make_constraints p (make_graph (Some q) go u) u) u).outcome ≡ Gives r w → ⊥
no_cycle_makes None None q go u w r e = absurd cc
no_cycle_makes None (Some p) q go u w r e = absurd cc
no_cycle_makes (Some o) p q go u w r e = absurd cc

-- the items of a result
abbrev items_in : Items → Outcome (Wrote (Env × Term)) → Items
items_in is (Gives r u) = r.items
items_in is o = is

module _ (turns : ℕ) (e : RawEnv) where
  abbrev plain_outcome : Outcome (Wrote (Env × Term))
  plain_outcome = (making_with turns e None).outcome

  makes_plainly : (cycle : Option (List ℕ)) (r : Wrote (Env × Term)) (u : Account) → (making_with turns e cycle).outcome ≡ Gives r u → plain_outcome ≡ Gives r u
  makes_plainly None r u h = h
  makes_plainly (Some q) r u h =
      absurd (no_cycle_makes (first_repeated 0 [] e.levels) (first_undeclared_end (length e.levels) 0 e.constraints) q
      (make_declarations (length e.levels) e.constraints (entailed_by (length e.levels) e.constraints) most_nested 0 [] (givens e) e.main (start turns)) (start turns) u r h)

  plainly : (items : Items) (u : Account) (m : IsMakingOf turns e items u) → plain_outcome ≡ Gives (wrote items (m.kept, m.type)) u
  plainly items u m = makes_plainly m.cycle (wrote items (m.kept, m.type)) u m.makes

  one_certificate : (is js : Items) (u v : Account) → IsMakingOf turns e is u → IsMakingOf turns e js v → is ≡ js
  one_certificate is js u v a b = ap (items_in is) (sym (plainly is u a) ∙ plainly js v b)

-- and so are the texts that `cert` writes of it
pub certified_text_is_one : (turns : ℕ) (e f : RawEnv) (is js : Items) → e ≡ f → IsCertified turns e is → IsCertified turns f js → certified_text e is ≡ certified_text f js
certified_text_is_one turns e f is js same x =
    subst (λ z. IsCertified turns z js → certified_text e is ≡ certified_text z js) same (λ y. ap (certified_text e) (one_certificate turns e is js x.left y.left x.made.making y.made.making))
