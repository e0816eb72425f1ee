-- A certificate that is made, and what it is good for: the directed rules of the check give the same answer, and the certified walk accepts it.
use Rattle.std.proofs.Common.{◌≡◌, ◌∙◌, inl, inr, ℕ, ◌+◌, ◌-◌, ◌≤◌, refl, sym, ap, subst, List, [], length, Option, Some, None, Result, Ok, Err, IfOk, arith}
use Rattle.universe_levels.specs.declared.level.Level.{Level}
use Rattle.universe_levels.specs.declared.constraint.Constraint.{Constraint}
use Rattle.universe_levels.specs.Consistency.{IsConsistent}
use Rattle.pc_terms.specs.Syntax.{Term}
use Rattle.dump_reader.specs.declared.environment.RawEnv.{RawEnv}
use Rattle.dump_reader.specs.Spelled.{IsSpelled}
use Rattle.calculus_rules.specs.Environment.{Env}
use Rattle.pc_rules.specs.declared.meter.Account.{Account}
use Rattle.pc_rules.specs.declared.meter.Meter.{Meter}
use Rattle.pc_rules.specs.DirectedDeclarations.{Checked, IsCycle, first_repeated, first_undeclared_end, declarations_rule, graph_rule, constraints_rule, levels_rule}
use Rattle.pc_rules.specs.Entailment.{entailed_by}
use Rattle.pc_rules.proofs.Entailing.{entailed_decides}
use Rattle.pc_rules.specs.DirectedRun.{most_nested}
use Rattle.rule_laws.proofs.Environments.{are_over}
use Rattle.env_check.specs.Rules.{givens, rules_of, IsFound}
use Rattle.env_check.proofs.Cycles.{no_cycle}
use Rattle.env_check.proofs.ReadFormed.{read_formed}
use Rattle.env_check.proofs.Deriving.{accepted_levels, accepted_checked}
use Rattle.cert_rules.specs.Walk.{Items, WalkState, Walk, WalkEnd, Passed, Barred, Unpaid, Crowded}
use Rattle.cert_rules.specs.Writing.{wrote}
use Rattle.cert_rules.specs.MakingDeclarations.{Made, make_declarations, make_graph, make_constraints, make_levels, outcome_forgotten, placed_forgotten}
use Rattle.cert_rules.specs.MadeLaws.{Accepts as AcceptsWithin}
use Rattle.cert_rules.proofs.TraceEnvironments.{environment_forgets, environment_accepted}
use Rattle.env_cert.specs.declared.refusal.VerifyRefusal.TheVariants as verify
use Rattle.env_cert.specs.Verified.{walk_of, IsVerified}
use Rattle.env_making.specs.declared.refusal.CertRefusal.{CertRefusal}
use Rattle.env_making.specs.declared.refusal.CertRefusal.TheVariants.{Broken, Spent, TooDeep, Memory}
use Rattle.env_making.specs.Certified.{making_of, CertAnswers, MakesCert, DirectedAnswers, FollowsDirected, IsCertificateOf}

abbrev ends : WalkEnd (Env × Term) → WalkEnd (Env × Term)
ends e = e

crowded_barred : {i : ℕ} {v : Account} → ends Crowded ≡ Barred i v → ⊥
crowded_barred e = cc

passed_barred : {x : Env × Term} {s : WalkState} {i : ℕ} {v : Account} → ends (Passed x s) ≡ Barred i v → ⊥
passed_barred e = cc

crowded_unpaid : ends Crowded ≡ Unpaid → ⊥
crowded_unpaid e = cc

passed_unpaid : {x : Env × Term} {s : WalkState} → ends (Passed x s) ≡ Unpaid → ⊥
passed_unpaid e = cc

-- but for what is written

levels_both : (o : Option (ℕ × Level)) (g : Made) (d : Checked) (u : Account) → (o ≡ None → placed_forgotten g ≡ d) → placed_forgotten (make_levels o g u) ≡ levels_rule o d u
levels_both None g d u h = h refl
levels_both (Some p) g d u h = refl

constraints_both : (o : Option (ℕ × Level)) (g : Made) (d : Checked) (u : Account) → (o ≡ None → placed_forgotten g ≡ d) → placed_forgotten (make_constraints o g u) ≡ constraints_rule o d u
constraints_both None g d u h = h refl
constraints_both (Some p) g d u h = refl

graph_both : (o : Option (List ℕ)) (g : Made) (d : Checked) (u : Account) → (o ≡ None → placed_forgotten g ≡ d) → placed_forgotten (make_graph o g u) ≡ graph_rule o d u
graph_both None g d u h = h refl
graph_both (Some is) g d u h = refl

module _ (raw : RawEnv) (spelled : IsSpelled raw) where
  abbrev k : ℕ
  k = length raw.levels

  abbrev cs : List Constraint
  cs = raw.constraints

  module _ (n : ℕ) (u : Account) where
    abbrev made_rest : Made
    made_rest = make_declarations k cs (entailed_by k cs) n 0 [] (givens raw) raw.main u

    abbrev rules_rest : Checked
    rules_rest = declarations_rule k cs (entailed_by k cs) n 0 [] (givens raw) raw.main u

    rest_forgets : first_repeated 0 [] raw.levels ≡ None → first_undeclared_end k 0 cs ≡ None → IsConsistent k cs → placed_forgotten made_rest ≡ rules_rest
    rest_forgets once declared consistent =
        let formed = read_formed raw spelled in
        let e = environment_forgets raw.levels cs None (entailed_by k cs) (entailed_decides k cs consistent (are_over k 0 cs declared)) n (givens raw) raw.main u formed.0 formed.1 in
        let e1 = subst (λ o. placed_forgotten (make_levels o (make_constraints (first_undeclared_end k 0 cs) made_rest u) u) ≡ levels_rule o (constraints_rule (first_undeclared_end k 0 cs) rules_rest u) u) once e in
        subst (λ o. placed_forgotten (make_constraints o made_rest u) ≡ constraints_rule o rules_rest u) declared e1

    making_forgets : (cycle : Option (List ℕ)) → IsFound raw cycle → placed_forgotten (making_of raw cycle n u) ≡ rules_of raw cycle n u
    making_forgets cycle found =
        let g2 : Made = make_graph cycle made_rest u in
        let d2 : Checked = graph_rule cycle rules_rest u in
        let g1 : Made = make_constraints (first_undeclared_end k 0 cs) g2 u in
        let d1 : Checked = constraints_rule (first_undeclared_end k 0 cs) d2 u in
        levels_both (first_repeated 0 [] raw.levels) g1 d1 u
        (λ once. constraints_both (first_undeclared_end k 0 cs) g2 d2 u
        (λ declared. graph_both cycle made_rest rules_rest u
        (λ none. rest_forgets once declared (subst (IsCycle k cs) none (found once declared)))))

  answers_directed : (g : Made) (r : Result Items CertRefusal) (v : Account) → CertAnswers g r v → DirectedAnswers (placed_forgotten g) r v
  answers_directed g (Ok cert) v h = (h.0, h.1, ap (λ o. outcome_forgotten o) h.2)
  answers_directed g (Err (Broken p b)) v h = ap (λ o. outcome_forgotten o) h
  answers_directed g (Err Spent) v h = (ap (λ o. outcome_forgotten o) h.0, h.1)
  answers_directed g (Err TooDeep) v h = h
  answers_directed g (Err Memory) v h = tt

  answers_rules : (cycle : Option (List ℕ)) → IsFound raw cycle → (n : ℕ) (u : Account) (r : Result Items CertRefusal) (v : Account) → CertAnswers (making_of raw cycle n u) r v →
      DirectedAnswers (rules_of raw cycle n u) r v
  answers_rules cycle found n u r v h = subst (λ d. DirectedAnswers d r v) (making_forgets n u cycle found) (answers_directed (making_of raw cycle n u) r v h)

  -- the answer is the one of the check
  pub follows_directed : (r : Result Items CertRefusal) (old new : Meter) → MakesCert raw r old new → FollowsDirected raw r old new
  follows_directed (Ok cert) old new h =
      record { cycle = h.cycle; found = h.found; answers = answers_rules h.cycle h.found (most_nested - old.nest) old.account (Ok cert) new.account h.answers }
  follows_directed (Err (Broken p b)) old new h =
      record { cycle = h.cycle; found = h.found; answers = answers_rules h.cycle h.found (most_nested - old.nest) old.account (Err (Broken p b)) new.account h.answers }
  follows_directed (Err Spent) old new h =
      record { cycle = h.cycle; found = h.found; answers = answers_rules h.cycle h.found (most_nested - old.nest) old.account (Err Spent) new.account h.answers }
  follows_directed (Err TooDeep) old new h =
      record { cycle = h.cycle; found = h.found; answers = answers_rules h.cycle h.found (most_nested - old.nest) old.account (Err TooDeep) new.account h.answers }
  follows_directed (Err Memory) old new h = tt

  -- what has a certificate is well formed
  pub certified_well : (r : Result Items CertRefusal) (old new : Meter) → MakesCert raw r old new → IfOk r (λ _. IsVerified raw)
  certified_well (Err e) old new h = tt
  certified_well (Ok cert) old new h =
      let a = answers_rules h.cycle h.found (most_nested - old.nest) old.account (Ok cert) new.account h.answers in
      (a.0, a.1, accepted_checked raw h.cycle h.found (most_nested - old.nest) old.account a.0 a.1 new.account a.2 spelled)

  -- a walk that accepts is neither refused nor without units

  not_barred : (w : Walk (Env × Term)) (x : Env × Term) (a b i : ℕ) (v : Account) → AcceptsWithin w x a b → w.end ≡ Barred i v → ⊥
  not_barred w x a b i v (inl c) e = crowded_barred (sym c ∙ e)
  not_barred w x a b i v (inr s) e = passed_barred (sym s.1 ∙ e)

  not_unpaid : (w : Walk (Env × Term)) (x : Env × Term) (a b : ℕ) → AcceptsWithin w x a b → w.end ≡ Unpaid → ⊥
  not_unpaid w x a b (inl c) e = crowded_unpaid (sym c ∙ e)
  not_unpaid w x a b (inr s) e = passed_unpaid (sym s.1 ∙ e)

  no_cycle_found : (o : Option (List ℕ)) → IsCycle k cs o → IsConsistent k cs → o ≡ None
  no_cycle_found None h consistent = refl
  no_cycle_found (Some places) h consistent = absurd (no_cycle k cs places consistent h)

  module _ (cert : Items) (m0 m1 : Meter) (h : MakesCert raw (Ok cert) m0 m1) where
    taken_walk : (cycle : Option (List ℕ)) → IsFound raw cycle → (n : ℕ) (w : Account) → m0.account.left - m1.account.left ≤ w.left →
        (x : Env × Term) × AcceptsWithin (walk_of cert raw cycle n w) x (w.left + m1.account.left) m0.account.left
    taken_walk cycle found n w few =
        let a = answers_rules h.cycle h.found (most_nested - m0.nest) m0.account (Ok cert) m1.account h.answers in
        let l = accepted_levels raw h.cycle h.found (most_nested - m0.nest) m0.account a.0 a.1 m1.account a.2 in
        let none : cycle ≡ h.cycle = no_cycle_found cycle (found l.0.once l.0.declared) l.0.consistent ∙ sym l.1 in
        let formed = read_formed raw spelled in
        let units : m0.account.left ≤ w.left + m1.account.left = omega arith in
        let E = h.answers.0 in
        let T = h.answers.1 in
        let p = environment_accepted raw.levels cs h.cycle (entailed_by k cs) (entailed_decides k cs l.0.consistent l.0.over) (most_nested - m0.nest) (givens raw) raw.main m0.account m1.account
        (wrote cert (E, T)) formed.0 formed.1 h.answers.2 n w units in
        ((E, T), subst (λ o. AcceptsWithin (walk_of cert raw o n w) (E, T) (w.left + m1.account.left) m0.account.left) (sym none) p)

    certificate_taken : IsCertificateOf raw cert (m0.account.left - m1.account.left)
    certificate_taken (Ok a) old new few v = tt
    certificate_taken (Err (verify.Bad i)) old new few v =
        let t = taken_walk v.cycle v.found (most_nested - old.nest) old.account few in
        not_barred (walk_of cert raw v.cycle (most_nested - old.nest) old.account) t.0 (old.account.left + m1.account.left) m0.account.left i new.account t.1 v.answers
    certificate_taken (Err verify.Spent) old new few v =
        let t = taken_walk v.cycle v.found (most_nested - old.nest) old.account few in
        not_unpaid (walk_of cert raw v.cycle (most_nested - old.nest) old.account) t.0 (old.account.left + m1.account.left) m0.account.left t.1 v.answers.0
    certificate_taken (Err verify.TooDeep) old new few v = tt
    certificate_taken (Err verify.Memory) old new few v = tt

  -- and its certificate is taken
  pub certified_taken : (r : Result Items CertRefusal) (old new : Meter) → MakesCert raw r old new → IfOk r (λ cert. IsCertificateOf raw cert (old.account.left - new.account.left))
  certified_taken (Ok cert) old new h = certificate_taken cert old new h
  certified_taken (Err e) old new h = tt
