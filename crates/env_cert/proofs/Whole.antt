-- The walk of a whole environment, and what its end means.
use Rattle.std.proofs.Common.{◌≡◌, ℕ, ◌-◌, ◌==◌, false, eq-eqb, sym, subst, List, [], length, Option, None, map, Result, Ok, Err, IfOk, IsErrAnd}
use Rattle.pc_terms.specs.Syntax.{Term}
use Rattle.pc_terms.specs.Formed.{IsFormed}
use Rattle.dump_reader.specs.declared.declaration.RawDecl.{RawDecl}
use Rattle.dump_reader.specs.declared.environment.RawEnv.{RawEnv}
use Rattle.calculus_rules.specs.Environment.{Env}
use Rattle.pc_rules.specs.declared.meter.Meter.{Meter}
use Rattle.pc_rules.specs.declared.stop.Stop.TheVariants as stops
use Rattle.pc_rules.specs.Entailment.{entailed_by, test_of}
use Rattle.pc_rules.proofs.Entailing.{entailed_decides}
use Rattle.pc_rules.specs.DirectedRun.{most_nested}
use Rattle.rule_laws.specs.Declarations.{AllGivenFormed, IsCheckedEnvironment}
use Rattle.env_check.specs.Places.{bare}
use Rattle.env_check.specs.Beginning.{HasSoundLevels}
use Rattle.env_check.specs.Rules.{givens}
use Rattle.cert_rules.specs.Walk.{Items, WalkState, Walk, Passed, pass, bar}
use Rattle.inductive_check.specs.Given.{given_of}
use Rattle.cert_rules.specs.WalkDeclarations.{walk_end, walk_main, walk_declarations, start}
use Rattle.cert_rules.proofs.SoundEnvironments.{environment_sound}
use Rattle.type_cert.specs.declared.halt.WalkHalt.{WalkHalt}
use Rattle.type_cert.specs.declared.halt.WalkHalt.TheVariants as walks
use Rattle.type_cert.specs.declared.trail.Trail.{Trail}
use Rattle.type_cert.specs.Retraces.{stand, Retraces, WalkAnswers}
use Rattle.type_cert.proofs.Retracing.{retraces_pass, retraces_bar, retraces_then, retraces_else}
use Rattle.env_cert.specs.EnvWalks.{in_env, declarations_walk, LeadsOn, StopsAmong}
use Rattle.env_cert.specs.Verified.{walk_from, walk_of, WalksFound, WalksAlong, Verifies, IsVerified, verified}
use Rattle.env_cert.proofs.Begun.{along_found, comes_to_declarations}

-- behind main

module _ (cert : Items) (E : Env) (T : Term) (t : Trail) where
  pub all_used : t.at ≡ length cert → Retraces (walk_end cert E T (stand t)) (Ok (E, T)) t t
  all_used e = retraces_then (t.at == length cert) (pass (E, T) (stand t)) (bar t.at (stand t)) (Ok (E, T)) t t (eq-eqb t.at (length cert) e) (retraces_pass (E, T) t)

  pub some_left : (t.at == length cert) ≡ false → Retraces (walk_end cert E T (stand t)) (Err (walks.Barred t.at)) t t
  some_left e = retraces_else (t.at == length cert) (pass (E, T) (stand t)) (bar t.at (stand t)) (Err (walks.Barred t.at)) t t e (retraces_bar t.at t)

-- the whole

module _ (raw : RawEnv) (sound : HasSoundLevels raw) (cert : Items) (t0 : Trail) where
  abbrev n : ℕ
  n = most_nested - t0.meter.nest

  -- what answers for the declarations and main answers for the whole
  pub whole_found : (r : Result (Env × Term) WalkHalt) (t : Trail) → Retraces (declarations_walk cert n (bare raw) (givens raw) raw.main (stand t0)) r t0 t → WalksFound raw cert n r t0 t
  whole_found r t p = record {
    cycle = None;
    found = λ _ _. sound.consistent;
    retraces = subst (λ w. Retraces w r t0 t) (sym (comes_to_declarations raw sound cert n (stand t0))) p;
  }

  pub whole_along : (r : Result (Env × Term) WalkHalt) (t : Trail) → Retraces (declarations_walk cert n (bare raw) (givens raw) raw.main (stand t0)) r t0 t → WalksAlong raw cert r t0 t
  whole_along r t p = along_found raw cert r t0 t (whole_found r t p)

  -- what is accepted is well formed
  accepted_well_formed : (cycle : Option (List ℕ)) → AllGivenFormed (givens raw) → IsFormed raw.main → (E : Env) (T : Term) (s s' : WalkState) → (walk_from cert raw cycle n s).end ≡ Passed (E, T) s' →
      IsCheckedEnvironment raw.levels raw.constraints (givens raw) raw.main E T
  accepted_well_formed cycle fs fm E T s s' e =
      environment_sound cert raw.levels raw.constraints cycle (entailed_by (length raw.levels) raw.constraints) (entailed_decides (length raw.levels) raw.constraints sound.consistent sound.over)
      (λ _. sound.consistent) n (givens raw) raw.main T E s s' fs fm e

  pub whole_well_formed : AllGivenFormed (givens raw) → IsFormed raw.main → (r : Result (Env × Term) WalkHalt) (t : Trail) →
      Retraces (declarations_walk cert n (bare raw) (givens raw) raw.main (stand t0)) r t0 t → IfOk r (λ p. IsCheckedEnvironment raw.levels raw.constraints (givens raw) raw.main p.0 p.1)
  whole_well_formed fs fm (Ok p) t q =
      let e : Retraces (walk_from cert raw None n (stand t0)) (Ok p) t0 t = subst (λ w. Retraces w (Ok p) t0 t) (sym (comes_to_declarations raw sound cert n (stand t0))) q in
      accepted_well_formed None fs fm p.0 p.1 (stand t0) (stand t) e.answer
  whole_well_formed fs fm (Err h) t q = tt

-- the same over what the calls have found: so many rules may stand in one another, the environment that keeps nothing, and the declarations
module _ (raw : RawEnv) (sound : HasSoundLevels raw) (cert : Items) (t0 : Trail) (room : ℕ) (E : Env) (xs : List RawDecl) (er : room ≡ most_nested - t0.meter.nest) (eE : E ≡ bare raw)
    (ex : xs ≡ raw.decls) where
  abbrev found_walk : WalkState → Walk (Env × Term)
  found_walk s = declarations_walk cert room E (map given_of xs) raw.main s

  from_bare : (r : Result (Env × Term) WalkHalt) (t : Trail) → Retraces (found_walk (stand t0)) r t0 t →
      Retraces (declarations_walk cert (most_nested - t0.meter.nest) (bare raw) (givens raw) raw.main (stand t0)) r t0 t
  from_bare r t p =
      subst (λ m. Retraces (declarations_walk cert m (bare raw) (givens raw) raw.main (stand t0)) r t0 t) er
      (subst (λ X. Retraces (declarations_walk cert room X (givens raw) raw.main (stand t0)) r t0 t) eE
      (subst (λ ys. Retraces (declarations_walk cert room E (map given_of ys) raw.main (stand t0)) r t0 t) ex p))

  pub declarations_along : (h : WalkHalt) (t : Trail) → StopsAmong cert room E (map given_of xs) t0 h t → WalksAlong raw cert (Err h) t0 t
  declarations_along h t p = whole_along raw sound cert t0 (Err h) t (from_bare (Err h) t (p raw.main))

  module _ (H : Env) (t1 : Trail) (go : LeadsOn cert room E (map given_of xs) t0 H [] t1) where
    -- main comes last, over the environment to which the declarations lead
    main_last : (r : Result (Env × Term) WalkHalt) (t : Trail) → Retraces (walk_main cert H (test_of H) room raw.main (stand t1)) r t1 t → Retraces (found_walk (stand t0)) r t0 t
    unfolding walk_declarations
    main_last r t p = go raw.main r t p

    pub main_along : (r : Result (Env × Term) WalkHalt) (t : Trail) → Retraces (walk_main cert H (test_of H) room raw.main (stand t1)) r t1 t → WalksAlong raw cert r t0 t
    main_along r t p = whole_along raw sound cert t0 r t (from_bare r t (main_last r t p))

    pub main_well_formed : AllGivenFormed (map given_of xs) → IsFormed raw.main → (r : Result (Env × Term) WalkHalt) (t : Trail) →
        Retraces (walk_main cert H (test_of H) room raw.main (stand t1)) r t1 t → IfOk r (λ p. IsCheckedEnvironment raw.levels raw.constraints (givens raw) raw.main p.0 p.1)
    main_well_formed fs fm r t p =
        whole_well_formed raw sound cert t0 (subst (λ ys. AllGivenFormed (map given_of ys)) ex fs) fm r t (from_bare r t (main_last r t p))

-- what a `?` gives on is the halt of its call
pub along_halted : (raw : RawEnv) (cert : Items) (t0 t1 : Trail) (r : Result (Env × Term) WalkHalt) (h : WalkHalt) → IsErrAnd r (λ e. e ≡ h) → WalksAlong raw cert (Err h) t0 t1 →
    WalksAlong raw cert r t0 t1
along_halted raw cert t0 t1 (Ok p) h e w = absurd e
along_halted raw cert t0 t1 (Err y) h e w = subst (λ k. WalksAlong raw cert (Err k) t0 t1) (sym e) w

pub main_halted : (E : Env) (r : Result Term WalkHalt) {d : Walk (Env × Term)} {h : WalkHalt} {t0 t1 : Trail} → IsErrAnd r (λ e. e ≡ h) → Retraces d (Err h) t0 t1 → Retraces d (in_env E r) t0 t1
main_halted E (Ok T) e f = absurd e
main_halted E (Err y) {d = d} {t0 = t0} {t1 = t1} e f = subst (λ k. Retraces d (Err k) t0 t1) (sym e) f

-- an answer on a trail, as the answer of the call, whose meters have the trail's accounts
module _ (raw : RawEnv) (cert : Items) (t0 t1 : Trail) (m0 m1 : Meter) (account : t0.meter.account ≡ m0.account) (nest : t0.meter.nest ≡ m0.nest) (at : t0.at ≡ 0)
    (end : t1.meter.account ≡ m1.account) where
  begins : stand t0 ≡ start m0.account
  begins = λ i. record { account = account i; at = at i }

  answers : (cycle : Option (List ℕ)) (r : Result (Env × Term) WalkHalt) → WalkAnswers (walk_from cert raw cycle (most_nested - t0.meter.nest) (stand t0)) r (stand t1) →
      WalkAnswers (walk_of cert raw cycle (most_nested - m0.nest) m0.account) r (record { account = m1.account; at = t1.at })
  answers cycle r a =
      let b = subst (λ n. WalkAnswers (walk_from cert raw cycle (most_nested - n) (stand t0)) r (stand t1)) nest a in
      let c = subst (λ s. WalkAnswers (walk_from cert raw cycle (most_nested - m0.nest) s) r (stand t1)) begins b in
      subst (λ u. WalkAnswers (walk_of cert raw cycle (most_nested - m0.nest) m0.account) r (record { account = u; at = t1.at })) end c

  pub verifies : (r : Result (Env × Term) WalkHalt) → WalksAlong raw cert r t0 t1 → Verifies raw cert (verified r) m0 m1
  verifies (Ok p) h = record { cycle = h.cycle; found = h.found; answers = (p, t1.at, answers h.cycle (Ok p) h.retraces.answer) }
  verifies (Err (walks.Stop stops.Spent)) h = record { cycle = h.cycle; found = h.found; answers = answers h.cycle (Err (walks.Stop stops.Spent)) h.retraces.answer }
  verifies (Err (walks.Stop stops.TooDeep)) h = record { cycle = h.cycle; found = h.found; answers = answers h.cycle (Err (walks.Stop stops.TooDeep)) h.retraces.answer }
  verifies (Err (walks.Stop stops.Memory)) h = tt
  verifies (Err (walks.Barred j)) h = record { cycle = h.cycle; found = h.found; answers = answers h.cycle (Err (walks.Barred j)) h.retraces.answer }

pub verified_well_formed : (raw : RawEnv) (r : Result (Env × Term) WalkHalt) → IfOk r (λ p. IsCheckedEnvironment raw.levels raw.constraints (givens raw) raw.main p.0 p.1) →
    IfOk (verified r) (λ _. IsVerified raw)
verified_well_formed raw (Ok p) h = (p.0, p.1, h)
verified_well_formed raw (Err x) h = tt
