-- The making of a whole environment: what is refused first, the declarations and main.
use Rattle.std.proofs.Common.{◌≡◌, ◌∙◌, ◌⊎◌, inl, inr, ℕ, ◌-◌, sym, ap, subst, List, [], ◌++◌, length, Option, Some, None, map, Result, Ok, Err, IsErrAnd, IsTrue}
use Rattle.universe_levels.specs.declared.level.Level.{Level}
use Rattle.pc_terms.specs.Syntax.{Term}
use Rattle.dump_reader.specs.declared.declaration.RawDecl.{RawDecl}
use Rattle.dump_reader.specs.declared.environment.RawEnv.{RawEnv}
use Rattle.calculus_rules.specs.Environment.{Env}
use Rattle.pc_rules.specs.declared.meter.Account.{Account}
use Rattle.pc_rules.specs.declared.meter.Meter.{Meter}
use Rattle.pc_rules.specs.DirectedPlaces.{Gives, Breaks}
use Rattle.pc_rules.specs.DirectedDeclarations.{first_repeated, first_undeclared_end}
use Rattle.pc_rules.proofs.Meters.{after-refl}
use Rattle.pc_rules.specs.DirectedRun.{most_nested}
use Rattle.pc_rules.proofs.WeakNext.{none_some}
use Rattle.inductive_check.specs.Given.{given_of}
use Rattle.env_check.specs.declared.refusal.BareRefusal.{BareRefusal}
use Rattle.env_check.specs.declared.refusal.BareRefusal.TheVariants as refusals
use Rattle.env_check.specs.Places.{bare}
use Rattle.env_check.specs.Rules.{givens}
use Rattle.env_check.specs.Beginning.{HasSoundLevels, Refuses, level_refusal, end_refusal, RefusesGraph, IsRefusedFirst, at_levels, at_constraints, at_graph}
use Rattle.cert_rules.specs.Walk.{Items}
use Rattle.cert_rules.specs.Writing.{wrote}
use Rattle.cert_rules.specs.MakingDeclarations.{Made, make_graph, make_constraints, make_levels}
use Rattle.script_making.specs.declared.draft.Draft.{Draft}
use Rattle.env_making.specs.declared.refusal.CertRefusal.{CertRefusal}
use Rattle.env_making.specs.declared.refusal.CertRefusal.TheVariants.{Broken, Spent, TooDeep, Memory}
use Rattle.env_making.specs.Refusals.{refused_first, certified, IsCertified}
use Rattle.env_making.specs.Placing.{PlacedWrites, MakesPlaced}
use Rattle.env_making.specs.Certified.{making_of, CertAnswers, MakesCert}
use Rattle.env_making.specs.EnvMaking.{declarations_making, LeadsMaking, EndsMaking, DraftsFound, DraftsAlong}

levels_pass : (o : Option (ℕ × Level)) (go : Made) (u : Account) → o ≡ None → make_levels o go u ≡ go
levels_pass o go u e = ap (λ x. make_levels x go u) e

constraints_pass : (o : Option (ℕ × Level)) (go : Made) (u : Account) → o ≡ None → make_constraints o go u ≡ go
constraints_pass o go u e = ap (λ x. make_constraints x go u) e

module _ (raw : RawEnv) where
  drafts_found : (r : Result (Env × Term) CertRefusal) (old new : Draft) → DraftsFound raw (most_nested - old.meter.nest) r old new → DraftsAlong raw r old new
  drafts_found (Ok p) old new h = h
  drafts_found (Err (Broken p b)) old new h = h
  drafts_found (Err Spent) old new h = h
  drafts_found (Err TooDeep) old new h = h
  drafts_found (Err Memory) old new h = tt

  abbrev from_declarations : ℕ → Account → Made
  from_declarations n u = declarations_making n (bare raw) 0 (givens raw) raw.main u

  abbrev from_graph : Option (List ℕ) → ℕ → Account → Made
  from_graph cycle n u = make_graph cycle (from_declarations n u) u

  abbrev from_constraints : Option (List ℕ) → ℕ → Account → Made
  from_constraints cycle n u = make_constraints (first_undeclared_end (length raw.levels) 0 raw.constraints) (from_graph cycle n u) u

  -- levels

  level_found : (t : Draft) (e : BareRefusal) (a : ℕ × Level) → first_repeated 0 [] raw.levels ≡ Some a → e ≡ level_refusal a → DraftsAlong raw (Err (refused_first e)) t t
  level_found t e a there is =
      subst (λ x. DraftsAlong raw (Err (refused_first x)) t t) (sym is) (record {
        cycle = None;
        found = λ once. absurd (none_some (sym once ∙ there));
        makes = record { answer = ap (λ o. (make_levels o (from_constraints None (most_nested - t.meter.nest) t.meter.account) t.meter.account).outcome) there; after = after-refl t.meter };
      })

  levels_refused : (t : Draft) (e : BareRefusal) → Refuses (first_repeated 0 [] raw.levels) level_refusal e → DraftsAlong raw (Err (refused_first e)) t t
  levels_refused t (refusals.Broken p b) h = level_found t (refusals.Broken p b) h.0 h.1 h.2
  levels_refused t refusals.Memory h = tt

  module _ (once : first_repeated 0 [] raw.levels ≡ None) where
    -- constraints

    end_found : (t : Draft) (e : BareRefusal) (a : ℕ × Level) → first_undeclared_end (length raw.levels) 0 raw.constraints ≡ Some a → e ≡ end_refusal a → DraftsAlong raw (Err (refused_first e)) t t
    end_found t e a there is =
        let n = most_nested - t.meter.nest in
        let u = t.meter.account in
        subst (λ x. DraftsAlong raw (Err (refused_first x)) t t) (sym is) (record {
          cycle = None;
          found = λ _ declared. absurd (none_some (sym declared ∙ there));
          makes = record {
            answer = ap (λ g. g.outcome) (levels_pass (first_repeated 0 [] raw.levels) (from_constraints None n u) u once) ∙ ap (λ o. (make_constraints o (from_graph None n u) u).outcome) there;
            after = after-refl t.meter;
          };
        })

    constraints_refused : (t : Draft) (e : BareRefusal) → Refuses (first_undeclared_end (length raw.levels) 0 raw.constraints) end_refusal e → DraftsAlong raw (Err (refused_first e)) t t
    constraints_refused t (refusals.Broken p b) h = end_found t (refusals.Broken p b) h.0 h.1 h.2
    constraints_refused t refusals.Memory h = tt

    module _ (declared : first_undeclared_end (length raw.levels) 0 raw.constraints ≡ None) where
      passes : (cycle : Option (List ℕ)) (n : ℕ) (u : Account) → making_of raw cycle n u ≡ from_graph cycle n u
      passes cycle n u =
          levels_pass (first_repeated 0 [] raw.levels) (from_constraints cycle n u) u once
          ∙ constraints_pass (first_undeclared_end (length raw.levels) 0 raw.constraints) (from_graph cycle n u) u declared

      -- the graph
      graph_refused : (t : Draft) (e : BareRefusal) → RefusesGraph (length raw.levels) raw.constraints e → DraftsAlong raw (Err (refused_first e)) t t
      graph_refused t (refusals.Broken p b) h =
          subst (λ x. DraftsAlong raw (Err (refused_first x)) t t) (sym h.2) (record {
            cycle = Some h.0;
            found = λ _ _. h.1;
            makes = record { answer = ap (λ g. g.outcome) (passes (Some h.0) (most_nested - t.meter.nest) t.meter.account); after = after-refl t.meter };
          })
      graph_refused t refusals.Memory h = tt

  -- what is refused before the declarations
  pub first_refused : (t : Draft) (e : BareRefusal) → IsRefusedFirst raw e → DraftsAlong raw (Err (refused_first e)) t t
  first_refused t e (at_levels h) = levels_refused t e h
  first_refused t e (at_constraints once h) = constraints_refused once t e h
  first_refused t e (at_graph once declared h) = graph_refused once declared t e h

  -- what is made of the declarations and main is made of the whole
  whole_along : HasSoundLevels raw → (r : Result (Env × Term) CertRefusal) (t0 t : Draft) → MakesPlaced (from_declarations (most_nested - t0.meter.nest) t0.meter.account) r t0 t → DraftsAlong raw r t0 t
  whole_along sound r t0 t p =
      drafts_found r t0 t (record {
        cycle = None;
        found = λ _ _. sound.consistent;
        makes = subst (λ g. MakesPlaced g r t0 t) (sym (passes sound.once sound.declared None (most_nested - t0.meter.nest) t0.meter.account)) p;
      })

  -- the same over what the calls have found: so many rules may stand in one another, the environment that keeps nothing, and the declarations
  module _ (sound : HasSoundLevels raw) (t0 : Draft) (room : ℕ) (E : Env) (xs : List RawDecl) (er : room ≡ most_nested - t0.meter.nest) (eE : E ≡ bare raw) (ex : xs ≡ raw.decls) where
    from_bare : (r : Result (Env × Term) CertRefusal) (t : Draft) → MakesPlaced (declarations_making room E 0 (map given_of xs) raw.main t0.meter.account) r t0 t → DraftsAlong raw r t0 t
    from_bare r t p =
        whole_along sound r t0 t
        (subst (λ m. MakesPlaced (declarations_making m (bare raw) 0 (givens raw) raw.main t0.meter.account) r t0 t) er
        (subst (λ X. MakesPlaced (declarations_making room X 0 (givens raw) raw.main t0.meter.account) r t0 t) eE
        (subst (λ ys. MakesPlaced (declarations_making room E 0 (map given_of ys) raw.main t0.meter.account) r t0 t) ex p)))

    pub declarations_along : (e : CertRefusal) (t : Draft) → EndsMaking room E 0 (map given_of xs) t0 e t → DraftsAlong raw (Err e) t0 t
    declarations_along e t p = from_bare (Err e) t (p raw.main)

    pub main_along : (H : Env) (j : ℕ) (t1 : Draft) → LeadsMaking room E 0 (map given_of xs) t0 H j [] t1 → (r : Result (Env × Term) CertRefusal) (t : Draft) →
        MakesPlaced (declarations_making room H j [] raw.main t1.meter.account) r t1 t → DraftsAlong raw r t0 t
    main_along H j t1 go r t p = from_bare r t (go raw.main r t p)

-- what a `?` gives on is the refusal of its call
pub along_passed : (raw : RawEnv) (t0 t1 : Draft) (r : Result (Env × Term) CertRefusal) (e : CertRefusal) → IsErrAnd r (λ x. x ≡ e) → DraftsAlong raw (Err e) t0 t1 → DraftsAlong raw r t0 t1
along_passed raw t0 t1 (Ok p) e is w = absurd is
along_passed raw t0 t1 (Err y) e is w = subst (λ x. DraftsAlong raw (Err x) t0 t1) (sym is) w

-- an answer on a draft, as the answer of the call, whose meters have the draft's accounts, and which has written nothing before
module _ (raw : RawEnv) (t0 t1 : Draft) (m0 m1 : Meter) (account : t0.meter.account ≡ m0.account) (nest : t0.meter.nest ≡ m0.nest) (none : t0.written.items ≡ [])
    (end : t1.meter.account ≡ m1.account) where
  abbrev made_from : Option (List ℕ) → Made
  made_from cycle = making_of raw cycle (most_nested - m0.nest) m0.account

  begins : (cycle : Option (List ℕ)) → making_of raw cycle (most_nested - t0.meter.nest) t0.meter.account ≡ made_from cycle
  begins cycle = λ i. making_of raw cycle (most_nested - nest i) (account i)

  answers : (cycle : Option (List ℕ)) (r : Result (Env × Term) CertRefusal) → PlacedWrites (making_of raw cycle (most_nested - t0.meter.nest) t0.meter.account) r t0 t1 →
      CertAnswers (made_from cycle) (certified t1.written.items r) m1.account
  answers cycle (Ok p) h =
      let e : t1.written.items ≡ h.0 = h.2 ∙ ap (λ xs. xs ++ h.0) none in
      (p.0, p.1, sym (ap (λ g. g.outcome) (begins cycle)) ∙ h.1 ∙ (λ i. Gives (wrote (sym e i) p) (end i)))
  answers cycle (Err (Broken q b)) h = sym (ap (λ g. g.outcome) (begins cycle)) ∙ h ∙ ap (λ u. Breaks q b u) end
  answers cycle (Err Spent) h = (sym (ap (λ g. g.outcome) (begins cycle)) ∙ h.0, sym (ap (λ u. u.left) end) ∙ h.1)
  answers cycle (Err TooDeep) h = subst (λ g. IsTrue g.deep) (begins cycle) h
  answers cycle (Err Memory) h = tt

  pub makes_cert : (r : Result (Env × Term) CertRefusal) → DraftsAlong raw r t0 t1 → MakesCert raw (certified t1.written.items r) m0 m1
  makes_cert (Ok p) h = record { cycle = h.cycle; found = h.found; answers = answers h.cycle (Ok p) h.makes.answer }
  makes_cert (Err (Broken q b)) h = record { cycle = h.cycle; found = h.found; answers = answers h.cycle (Err (Broken q b)) h.makes.answer }
  makes_cert (Err Spent) h = record { cycle = h.cycle; found = h.found; answers = answers h.cycle (Err Spent) h.makes.answer }
  makes_cert (Err TooDeep) h = record { cycle = h.cycle; found = h.found; answers = answers h.cycle (Err TooDeep) h.makes.answer }
  makes_cert (Err Memory) h = tt

  pub makes_certified : (r : Result (Env × Term) CertRefusal) (q : Result Items CertRefusal) → DraftsAlong raw r t0 t1 → IsCertified t1.written.items r q → MakesCert raw q m0 m1
  makes_certified r q h (inl e) = subst (λ x. MakesCert raw x m0 m1) (sym e) (makes_cert r h)
  makes_certified r q h (inr e) = subst (λ x. MakesCert raw x m0 m1) (sym e) tt
