-- The steps of the check one after the other.
use Rattle.std.proofs.Common.{◌≡◌, ◌∙◌, ℕ, ◌-◌, refl, sym, ap, subst, List, [], map, length, Option, Some, None, Result, Ok, Err, IfOk, IfErr, IsErrAnd}
use Rattle.std.proofs.lemmas.List.{length-map}
use Rattle.universe_levels.specs.declared.level.Level.{Level}
use Rattle.universe_levels.specs.Consistency.{IsConsistent}
use Rattle.universe_graph.specs.Listed.{Clashes}
use Rattle.pc_terms.specs.Syntax.{Term}
use Rattle.dump_reader.specs.declared.declaration.RawDecl.{RawDecl}
use Rattle.dump_reader.specs.declared.environment.RawEnv.{RawEnv}
use Rattle.pc_rules.specs.declared.accepted.Accepted.{Accepted}
use Rattle.pc_rules.specs.declared.broken.Broken.TheVariants.{UniverseCycle}
use Rattle.pc_rules.specs.declared.meter.Account.{Account}
use Rattle.pc_rules.specs.declared.meter.Meter.{Meter}
use Rattle.calculus_rules.specs.Environment.{Env}
use Rattle.calculus_rules.specs.Accepted.{empty, IsAccepted}
use Rattle.calculus_rules.specs.Typing.{Types, guarded}
use Rattle.pc_rules.specs.Entailment.{entailed_by, test_of}
use Rattle.pc_rules.specs.Follows.{IsAfter}
use Rattle.pc_rules.specs.DirectedDeclarations.{Given, Checked, first_repeated, first_undeclared_end, place_of, main_rule, declarations_rule, graph_rule, constraints_rule, levels_rule}
use Rattle.pc_rules.specs.DirectedRun.{most_nested}
use Rattle.rule_laws.specs.Declarations.{IsCheckedEnvironment}
use Rattle.inductive_check.specs.Given.{given_of}
use Rattle.env_check.specs.declared.refusal.Refusal.{Refusal}
use Rattle.env_check.specs.declared.refusal.Refusal.TheVariants.{Broken, Spent, TooDeep, Memory}
use Rattle.env_check.specs.declared.refusal.BareRefusal.{BareRefusal}
use Rattle.env_check.specs.declared.refusal.BareRefusal.TheVariants as bare_refusals
use Rattle.env_check.specs.Rules.{givens, rules_of}
use Rattle.env_check.specs.Answers.{CheckAnswers, AnswersFound, FollowsRules}
use Rattle.env_check.specs.Steps.{HasChecked}
use Rattle.env_check.specs.Beginning.{HasSoundLevels, Refuses, level_refusal, end_refusal, RefusesGraph, IsRefusedFirst, at_levels, at_constraints, at_graph, refused_bare}
use Rattle.env_check.specs.Places.{StandsAt, StandsInMain, bare}
use Rattle.env_check.proofs.Steps.{leads_is, leads_answers, place_in_main}
use Rattle.env_check.proofs.Declaring.{checked_all, checked_whole}
use Rattle.pc_rules.proofs.WeakNext.{none_some}

follows_found : (raw : RawEnv) (r : Result Accepted Refusal) (old new : Meter) → AnswersFound raw (most_nested - old.nest) old.account r new.account → FollowsRules raw r old new
follows_found raw (Ok a) old new h = h
follows_found raw (Err (Broken p b)) old new h = h
follows_found raw (Err (Spent p v)) old new h = h
follows_found raw (Err (TooDeep p)) old new h = h
follows_found raw (Err Memory) old new h = tt

-- what the rules of levels and of constraints let pass

levels_pass : (o : Option (ℕ × Level)) (go : Checked) (u : Account) → o ≡ None → levels_rule o go u ≡ go
levels_pass o go u e = ap (λ x. levels_rule x go u) e

constraints_pass : (o : Option (ℕ × Level)) (go : Checked) (u : Account) → o ≡ None → constraints_rule o go u ≡ go
constraints_pass o go u e = ap (λ x. constraints_rule x go u) e

module _ (raw : RawEnv) where
  abbrev from_declarations : ℕ → Account → Checked
  from_declarations n u = declarations_rule (length raw.levels) raw.constraints (entailed_by (length raw.levels) raw.constraints) n 0 [] (givens raw) raw.main u

  abbrev from_graph : Option (List ℕ) → ℕ → Account → Checked
  from_graph cycle n u = graph_rule cycle (from_declarations n u) u

  abbrev from_constraints : Option (List ℕ) → ℕ → Account → Checked
  from_constraints cycle n u = constraints_rule (first_undeclared_end (length raw.levels) 0 raw.constraints) (from_graph cycle n u) u

  -- the place of a refusal, over the environment that keeps nothing
  bare_is : (E : Env) → E.levels ≡ length raw.levels → E.constraints ≡ raw.constraints → E.declarations ≡ [] → E ≡ bare raw
  bare_is E el ec none = λ i. record { levels = el i; constraints = ec i; declarations = none i }

  pub bare_placed : (E : Env) (r : Result Accepted Refusal) (n : ℕ) (u : Account) → E.levels ≡ length raw.levels → E.constraints ≡ raw.constraints → E.declarations ≡ [] →
      IfErr r (StandsAt E n (givens raw) raw.main u) → IfErr r (StandsAt (bare raw) n (givens raw) raw.main u)
  bare_placed E r n u el ec none h = subst (λ X. IfErr r (StandsAt X n (givens raw) raw.main u)) (bare_is E el ec none) h

  pub declarations_placed : (E : Env) (xs : List RawDecl) (e : Refusal) (n : ℕ) (u : Account) → xs ≡ raw.decls → E.levels ≡ length raw.levels → E.constraints ≡ raw.constraints →
      E.declarations ≡ [] → StandsAt E n (map given_of xs) raw.main u e → StandsAt (bare raw) n (givens raw) raw.main u e
  declarations_placed E xs e n u is el ec none h =
      subst (λ X. StandsAt X n (givens raw) raw.main u e) (bare_is E el ec none) (subst (λ ys. StandsAt E n (map given_of ys) raw.main u e) is h)

  -- levels

  level_answer : (o : Option (ℕ × Level)) (go : Checked) (u : Account) (e : BareRefusal) (a : ℕ × Level) → o ≡ Some a → e ≡ level_refusal a → CheckAnswers (levels_rule o go u) (Err (refused_bare e)) u
  level_answer o go u e a there is =
      let here : CheckAnswers (levels_rule o go u) (Err (refused_bare (level_refusal a))) u = subst (λ x. CheckAnswers (levels_rule x go u) (Err (refused_bare (level_refusal a))) u) (sym there) refl in
      subst (λ x. CheckAnswers (levels_rule o go u) (Err (refused_bare x)) u) (sym is) here

  level_found : (e : BareRefusal) (m : Meter) (a : ℕ × Level) → first_repeated 0 [] raw.levels ≡ Some a → e ≡ level_refusal a → FollowsRules raw (Err (refused_bare e)) m m
  level_found e m a there is =
      follows_found raw (Err (refused_bare e)) m m (record {
        cycle = None;
        found = λ once. absurd (none_some (sym once ∙ there));
        answers = level_answer (first_repeated 0 [] raw.levels) (from_constraints None (most_nested - m.nest) m.account) m.account e a there is;
      })

  levels_refused : (e : BareRefusal) (m : Meter) → Refuses (first_repeated 0 [] raw.levels) level_refusal e → FollowsRules raw (Err (refused_bare e)) m m
  levels_refused (bare_refusals.Broken p b) m h = level_found (bare_refusals.Broken p b) m h.0 h.1 h.2
  levels_refused bare_refusals.Memory m h = tt

  module _ (once : first_repeated 0 [] raw.levels ≡ None) where
    -- constraints

    end_answer : (o : Option (ℕ × Level)) (go : Checked) (u : Account) (e : BareRefusal) (a : ℕ × Level) → o ≡ Some a → e ≡ end_refusal a → CheckAnswers (constraints_rule o go u) (Err (refused_bare e)) u
    end_answer o go u e a there is =
        let here : CheckAnswers (constraints_rule o go u) (Err (refused_bare (end_refusal a))) u = subst (λ x. CheckAnswers (constraints_rule x go u) (Err (refused_bare (end_refusal a))) u) (sym there) refl in
        subst (λ x. CheckAnswers (constraints_rule o go u) (Err (refused_bare x)) u) (sym is) here

    end_found : (e : BareRefusal) (m : Meter) (a : ℕ × Level) → first_undeclared_end (length raw.levels) 0 raw.constraints ≡ Some a → e ≡ end_refusal a → FollowsRules raw (Err (refused_bare e)) m m
    end_found e m a there is =
        let go = from_graph None (most_nested - m.nest) m.account in
        let pass : rules_of raw None (most_nested - m.nest) m.account ≡ from_constraints None (most_nested - m.nest) m.account = levels_pass (first_repeated 0 [] raw.levels) (from_constraints None (most_nested - m.nest) m.account) m.account once in
        follows_found raw (Err (refused_bare e)) m m (record {
          cycle = None;
          found = λ _ declared. absurd (none_some (sym declared ∙ there));
          answers = leads_answers _ _ (Err (refused_bare e)) m.account (leads_is _ _ pass) (end_answer (first_undeclared_end (length raw.levels) 0 raw.constraints) go m.account e a there is);
        })

    constraints_refused : (e : BareRefusal) (m : Meter) → Refuses (first_undeclared_end (length raw.levels) 0 raw.constraints) end_refusal e → FollowsRules raw (Err (refused_bare e)) m m
    constraints_refused (bare_refusals.Broken p b) m h = end_found (bare_refusals.Broken p b) m h.0 h.1 h.2
    constraints_refused bare_refusals.Memory m h = tt

    module _ (declared : first_undeclared_end (length raw.levels) 0 raw.constraints ≡ None) where
      passes : (cycle : Option (List ℕ)) (n : ℕ) (u : Account) → rules_of raw cycle n u ≡ from_graph cycle n u
      passes cycle n u =
          levels_pass (first_repeated 0 [] raw.levels) (from_constraints cycle n u) u once
          ∙ constraints_pass (first_undeclared_end (length raw.levels) 0 raw.constraints) (from_graph cycle n u) u declared

      -- the graph

      cycle_found : (e : BareRefusal) (m : Meter) (places : List ℕ) → Clashes (length raw.levels) raw.constraints places → e ≡ bare_refusals.Broken (place_of places) (UniverseCycle places) → FollowsRules raw (Err (refused_bare e)) m m
      cycle_found e m places clash is =
          let here : CheckAnswers (from_graph (Some places) (most_nested - m.nest) m.account) (Err (refused_bare e)) m.account = subst (λ x. CheckAnswers (from_graph (Some places) (most_nested - m.nest) m.account) (Err (refused_bare x)) m.account) (sym is) refl in
          follows_found raw (Err (refused_bare e)) m m (record {
            cycle = Some places;
            found = λ _ _. clash;
            answers = leads_answers _ _ (Err (refused_bare e)) m.account (leads_is _ _ (passes (Some places) (most_nested - m.nest) m.account)) here;
          })

      graph_refused : (e : BareRefusal) (m : Meter) → RefusesGraph (length raw.levels) raw.constraints e → FollowsRules raw (Err (refused_bare e)) m m
      graph_refused (bare_refusals.Broken p b) m h = cycle_found (bare_refusals.Broken p b) m h.0 h.1 h.2
      graph_refused bare_refusals.Memory m h = tt

      -- what comes after, over an environment without declarations

      same_rules : (E : Env) (n : ℕ) (u : Account) → E.levels ≡ length raw.levels → E.constraints ≡ raw.constraints →
          declarations_rule E.levels E.constraints (test_of E) n 0 [] (givens raw) raw.main u ≡ from_declarations n u
      same_rules E n u el ec =
          ap (λ l. declarations_rule l E.constraints (entailed_by l E.constraints) n 0 [] (givens raw) raw.main u) el
          ∙ ap (λ cs. declarations_rule (length raw.levels) cs (entailed_by (length raw.levels) cs) n 0 [] (givens raw) raw.main u) ec

      declarations_answer : (E : Env) (r : Result Accepted Refusal) (old new : Meter) → E.levels ≡ length raw.levels → E.constraints ≡ raw.constraints → IsConsistent (length raw.levels) raw.constraints →
          CheckAnswers (declarations_rule E.levels E.constraints (test_of E) (most_nested - old.nest) 0 [] (givens raw) raw.main old.account) r new.account → FollowsRules raw r old new
      declarations_answer E r old new el ec consistent h =
          let n = most_nested - old.nest in
          follows_found raw r old new (record {
            cycle = None;
            found = λ _ _. consistent;
            answers = leads_answers _ _ r new.account (leads_is _ _ (passes None n old.account ∙ sym (same_rules E n old.account el ec))) h;
          })

      pub declarations_refused : (E : Env) (xs : List RawDecl) (e : Refusal) (old new : Meter) → xs ≡ raw.decls → E.levels ≡ length raw.levels → E.constraints ≡ raw.constraints →
          IsConsistent (length raw.levels) raw.constraints →
          CheckAnswers (declarations_rule E.levels E.constraints (test_of E) (most_nested - old.nest) 0 [] (map given_of xs) raw.main old.account) (Err e) new.account → FollowsRules raw (Err e) old new
      declarations_refused E xs e old new is el ec consistent h =
          declarations_answer E (Err e) old new el ec consistent
          (subst (λ ys. CheckAnswers (declarations_rule E.levels E.constraints (test_of E) (most_nested - old.nest) 0 [] (map given_of ys) raw.main old.account) (Err e) new.account) is h)

      module _ (E : Env) (xs : List RawDecl) (is : xs ≡ raw.decls) (el : E.levels ≡ length raw.levels) (ec : E.constraints ≡ raw.constraints) (m0 m1 : Meter) (H : Env)
          (after : IsAfter m0 m1) (c : HasChecked E (most_nested - m0.nest) (map given_of xs) m0.account (length xs) H m1.account) where
        givens_checked : HasChecked E (most_nested - m0.nest) (givens raw) m0.account (length (givens raw)) H m1.account
        givens_checked =
            subst (λ ys. HasChecked E (most_nested - m0.nest) (map given_of ys) m0.account (length (map given_of ys)) H m1.account) is
            (subst (λ k. HasChecked E (most_nested - m0.nest) (map given_of xs) m0.account k H m1.account) (sym (length-map xs given_of)) c)

        pub main_follows : (r : Result Accepted Refusal) (m2 : Meter) → IsConsistent (length raw.levels) raw.constraints →
            CheckAnswers (main_rule H (test_of H) (most_nested - m1.nest) raw.main m1.account) r m2.account → FollowsRules raw r m0 m2
        main_follows r m2 consistent h =
            let n = most_nested - m0.nest in
            let k = subst (λ x. CheckAnswers (main_rule H (test_of H) (most_nested - x) raw.main m1.account) r m2.account) after.nest h in
            declarations_answer E r m0 m2 el ec consistent
            (leads_answers _ _ r m2.account (checked_all E n (givens raw) m0.account H m1.account givens_checked raw.main) k)

        -- the places of refusals

        pub main_placed : (r : Result Accepted Refusal) → IfErr r (StandsInMain H (most_nested - m1.nest) raw.main m1.account) → IfErr r (StandsAt E (most_nested - m0.nest) (givens raw) raw.main m0.account)
        main_placed (Ok a) h = tt
        main_placed (Err x) h =
            let k = subst (λ n. StandsInMain H (most_nested - n) raw.main m1.account x) after.nest h in
            place_in_main E (most_nested - m0.nest) (givens raw) m0.account H m1.account raw.main x givens_checked.comes k

        pub main_well_formed : (r : Result Accepted Refusal) → IfOk r (λ a. a.env ≡ H) → IfOk r (λ a. Types guarded H [] raw.main a.main_type) →
            IfOk r (λ a. IsCheckedEnvironment raw.levels raw.constraints (givens raw) raw.main a.env a.main_type)
        main_well_formed (Ok a) e t =
            subst (λ X. IsCheckedEnvironment raw.levels raw.constraints (givens raw) raw.main X a.main_type) (sym e)
            (checked_whole E (most_nested - m0.nest) (givens raw) m0.account H m1.account givens_checked raw.levels raw.constraints raw.main a.main_type once el ec t)
        main_well_formed (Err x) e t = tt

-- what is refused before the declarations

module _ (raw : RawEnv) where
  pub first_refused : (m : Meter) (e : BareRefusal) → IsRefusedFirst raw e → FollowsRules raw (Err (refused_bare e)) m m
  first_refused m e (at_levels h) = levels_refused raw e m h
  first_refused m e (at_constraints once h) = constraints_refused raw once e m h
  first_refused m e (at_graph once declared h) = graph_refused raw once declared e m h

pub first_placed : (E : Env) (n : ℕ) (ds : List Given) (main : Term) (u : Account) (e : BareRefusal) → StandsAt E n ds main u (refused_bare e)
first_placed E n ds main u (bare_refusals.Broken p b) = tt
first_placed E n ds main u bare_refusals.Memory = tt

-- what a `?` gives on is the refusal of its call
pub given_on : {A : Type 0} (P : Refusal → Type 0) (r : Result A Refusal) (e : Refusal) → IsErrAnd r (λ x. x ≡ e) → P e → IfErr r P
given_on P (Ok a) e is h = absurd is
given_on P (Err x) e is h = subst P (sym is) h

pub follows_on : (raw : RawEnv) (m : Meter) (r : Result Accepted Refusal) (e : Refusal) → IsErrAnd r (λ x. x ≡ e) → FollowsRules raw (Err e) m m → FollowsRules raw r m m
follows_on raw m (Ok a) e is h = absurd is
follows_on raw m (Err x) e is h = subst (λ y. FollowsRules raw (Err y) m m) (sym is) h

-- the environment of sound levels that keeps nothing
pub bare_accepted : (raw : RawEnv) → HasSoundLevels raw → IsAccepted (bare raw)
bare_accepted raw h = record { over = h.over; consistent = h.consistent; declarations = empty }
