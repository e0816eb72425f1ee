-- The parts of the test of erasable terms follow the directed test.
use Rattle.std.proofs.Common.{◌≡◌, ℕ, ◌-◌, Bool, true, false, IsTrue, if◌then◌else◌, List, [], ◌∷◌, Option, Some, None, Result, Ok, Err, IfOk, refl, sym, ap, ◌∙◌, subst}
use Rattle.universe_levels.specs.declared.sort.Sort.{Sort}
use Rattle.pc_terms.specs.declared.leaf.FamilyId.{FamilyId}
use Rattle.pc_terms.specs.declared.term.MakeFault.{MakeFault}
use Rattle.pc_terms.specs.declared.term.MakeFault.TheVariants.{TooDeep as DeepTerm, Memory as NoTerm}
use Rattle.pc_terms.specs.Syntax.{Term, Terms, Case, terms_of}
use Rattle.pc_terms.specs.Formed.{EachTerm}
use Rattle.pc_rules.specs.declared.meter.Account.{Account}
use Rattle.pc_rules.specs.declared.meter.Meter.{Meter}
use Rattle.pc_rules.specs.declared.stop.Halt.{Halt}
use Rattle.pc_rules.specs.declared.stop.Halt.TheVariants.{Stop}
use Rattle.calculus_rules.specs.Environment.{Env, FamilyDecl}
use Rattle.calculus_rules.specs.Context.{Context, extend}
use Rattle.calculus_rules.specs.Instances.{predicate_entries}
use Rattle.calculus_rules.specs.declared.evidence.Evidence.{Evidence}
use Rattle.calculus_rules.specs.declared.evidence.Evidence.TheVariants.{Arity, Proof, PropMatch}
use Rattle.pc_rules.specs.Stops.{stop_of}
use Rattle.pc_rules.specs.Follows.{Follows}
use Rattle.pc_rules.specs.DirectedRun.{Run, done, passing, any_beyond, bind, most_nested}
use Rattle.calculus_rules.specs.Lookups.{family_of}
use Rattle.pc_rules.specs.DirectedComparison.{Test}
use Rattle.pc_rules.specs.DirectedTyping.{infer, sort_of}
use Rattle.pc_rules.specs.DirectedErasable.{ends_in_sort, proof_found, arity_found, type_test, match_sort, match_test, erasable_test}
use Rattle.calculus_rules.specs.PropSorts.{is_prop}
use Rattle.pc_rules.specs.WellCounted.{IsCountedNode, IsCounted, AreCounted, HasCountedDeclarations, IsCountedContext}
use Rattle.pc_rules.proofs.Following.{follows_bind, follows_err, follows_done, follows_memory, follows_deep, follows_passing}
use Rattle.pc_rules.proofs.Fair.{same_left}
use Rattle.pc_rules.proofs.Leaving.{leaving}
use Rattle.pc_rules.proofs.WeakNext.{family_found}
use Rattle.rule_laws.proofs.KeepCounts.{kept_counted}
use Rattle.rule_laws.proofs.CountedParts.{predicate_entries_counted, context_extended}
use Rattle.universe_levels.specs.Consistency.{IsConsistent}
use Rattle.pc_rules.specs.DirectedRun as run
use Rattle.pc_rules.specs.Entailment.{test_of}
use Rattle.pc_rules.specs.WellCounted.{IsCountedEnv}
use Rattle.pc_rules.proofs.Entailing.{entailed_decides}
use Rattle.rule_laws.specs.Erasability.{HasEvidence}
use Rattle.rule_laws.proofs.Inferring.{infer_sound}
use Rattle.rule_laws.proofs.Evidence.{evidence_sound}
use Rattle.calculus_rules.proofs.Listing.{listed}

-- the terms of a list that is well counted are
pub are_counted : (E : Env) (ps : List Term) → EachTerm (IsCountedNode E) (terms_of ps) → AreCounted E ps
are_counted E [] h = tt
are_counted E (p ∷ ps) h = (h.0, are_counted E ps h.1)

-- the context of a well-counted match's predicate is well counted
pub inner_counted : (E : Env) → HasCountedDeclarations E → (c : Context) (f : FamilyId) (F : FamilyDecl) (ps : List Term) (n : ℕ) (ret s : Term) (bs : Terms) → IsCountedContext E c →
    IsCounted E (Case f (terms_of ps) n ret s bs) → family_of E f ≡ Some F → IsCountedContext E (extend c (predicate_entries f F ps))
inner_counted E w c f F ps n ret s bs kc wt e =
    context_extended E c (predicate_entries f F ps) kc
    (predicate_entries_counted E f F ps (kept_counted E f F w (family_found E f F e)) (are_counted E ps wt.1.0))

module _ (E : Env) (q : Test) (c : Context) (t : Term) where
  -- the test by the type, with the meter that it starts from
  abbrev pub by_type : Meter → Run (Option Evidence)
  by_type m = type_test E (infer E q (most_nested - m.nest)) c t m.account

  ends_then : Meter → Term → Account → Run (Option Evidence)
  ends_then m T v = bind (ends_in_sort E v.left c T v) (λ b w. arity_found E (infer E q (most_nested - m.nest)) c T b w)

  pub type_err : (h : Halt) (m0 m1 : Meter) → Follows (infer E q (most_nested - m0.nest) c t m0.account) (Err h) m0 m1 → Follows (by_type m0) (Err h) m0 m1
  unfolding ends_then
  type_err h m0 m1 f = follows_err (infer E q (most_nested - m0.nest) c t m0.account) (ends_then m0) h m0 m1 f (search leaving)

  module _ (T : Term) (m0 m1 : Meter) (f : Follows (infer E q (most_nested - m0.nest) c t m0.account) (Ok T) m0 m1) where
    type_goes : (r : Result (Option Evidence) Halt) (m2 : Meter) → Follows (ends_then m0 T m1.account) r m1 m2 → Follows (by_type m0) r m0 m2
    unfolding ends_then
    type_goes r m2 g = follows_bind (infer E q (most_nested - m0.nest) c t m0.account) (ends_then m0) T r m0 m1 m2 f g

    pub arity_err : (h : Halt) (m2 : Meter) → Follows (ends_in_sort E m1.account.left c T m1.account) (Err h) m1 m2 → Follows (by_type m0) (Err h) m0 m2
    unfolding ends_then
    arity_err h m2 g =
        type_goes (Err h) m2 (follows_err (ends_in_sort E m1.account.left c T m1.account) (λ b w. arity_found E (infer E q (most_nested - m0.nest)) c T b w) h m1 m2 g (search leaving))

    arity_goes : (b : Bool) (r : Result (Option Evidence) Halt) (m2 m3 : Meter) → Follows (ends_in_sort E m1.account.left c T m1.account) (Ok b) m1 m2 →
        Follows (arity_found E (infer E q (most_nested - m0.nest)) c T b m2.account) r m2 m3 → Follows (by_type m0) r m0 m3
    unfolding ends_then
    arity_goes b r m2 m3 g h =
        type_goes r m3 (follows_bind (ends_in_sort E m1.account.left c T m1.account) (λ b w. arity_found E (infer E q (most_nested - m0.nest)) c T b w) b r m1 m2 m3 g h)

    pub arity_is : (b : Bool) (m2 : Meter) → b ≡ true → Follows (ends_in_sort E m1.account.left c T m1.account) (Ok b) m1 m2 → Follows (by_type m0) (Ok (Some Arity)) m0 m2
    arity_is b m2 e g =
        arity_goes b (Ok (Some Arity)) m2 m2 g
        (subst (λ b. Follows (arity_found E (infer E q (most_nested - m0.nest)) c T b m2.account) (Ok (Some Arity)) m2 m2) (sym e) (follows_done (Some Arity) m2))

    -- where the type doesn't end in a sort
    module _ (b : Bool) (m2 : Meter) (e : b ≡ false) (g : Follows (ends_in_sort E m1.account.left c T m1.account) (Ok b) m1 m2) where
      sorted : (r : Result (Option Evidence) Halt) (m3 : Meter) → Follows (bind (sort_of E (infer E q (most_nested - m2.nest)) c T m2.account) (λ s v. proof_found s v)) r m2 m3 → Follows (by_type m0) r m0 m3
      sorted r m3 h =
          arity_goes b r m2 m3 g
          (subst (λ b. Follows (arity_found E (infer E q (most_nested - m0.nest)) c T b m2.account) r m2 m3) (sym e)
          (subst (λ k. Follows (bind (sort_of E (infer E q (most_nested - k)) c T m2.account) (λ s v. proof_found s v)) r m2 m3) (g.after.nest ∙ f.after.nest) h))

      pub sort_err : (h : Halt) (m3 : Meter) → Follows (sort_of E (infer E q (most_nested - m2.nest)) c T m2.account) (Err h) m2 m3 → Follows (by_type m0) (Err h) m0 m3
      sort_err h m3 k = sorted (Err h) m3 (follows_err (sort_of E (infer E q (most_nested - m2.nest)) c T m2.account) (λ s v. proof_found s v) h m2 m3 k (search leaving))

      sort_goes : (s : Sort) (o : Option Evidence) (m3 : Meter) → (if is_prop s then Some Proof else None) ≡ o → Follows (sort_of E (infer E q (most_nested - m2.nest)) c T m2.account) (Ok s) m2 m3 →
          Follows (by_type m0) (Ok o) m0 m3
      sort_goes s o m3 p k =
          sorted (Ok o) m3
          (follows_bind (sort_of E (infer E q (most_nested - m2.nest)) c T m2.account) (λ s v. proof_found s v) s (Ok o) m2 m3 m3 k
          (subst (λ o. Follows (proof_found s m3.account) (Ok o) m3 m3) p (follows_done (if is_prop s then Some Proof else None) m3)))

      pub proof_is : (s : Sort) (m3 : Meter) → is_prop s ≡ true → Follows (sort_of E (infer E q (most_nested - m2.nest)) c T m2.account) (Ok s) m2 m3 → Follows (by_type m0) (Ok (Some Proof)) m0 m3
      proof_is s m3 p k = sort_goes s (Some Proof) m3 (ap (λ b. if b then Some Proof else None) p) k

      pub nothing_is : (s : Sort) (m3 : Meter) → is_prop s ≡ false → Follows (sort_of E (infer E q (most_nested - m2.nest)) c T m2.account) (Ok s) m2 m3 → Follows (by_type m0) (Ok None) m0 m3
      nothing_is s m3 p k = sort_goes s None m3 (ap (λ b. if b then Some Proof else None) p) k

  -- matches
  module _ (f : FamilyId) (ps : List Term) (ret : Term) where
    abbrev pub by_match : Meter → Run (Option Evidence)
    by_match m = match_test E (infer E q (most_nested - m.nest)) c t f ps ret (family_of E f) m.account

    module _ (F : FamilyDecl) (e : family_of E f ≡ Some F) where
      inner : Context
      inner = extend c (predicate_entries f F ps)

      sort_then : Meter → Unit {0} → Account → Run (Option Evidence)
      sort_then m _ v = bind (sort_of E (infer E q (most_nested - m.nest)) (extend c (predicate_entries f F ps)) ret v) (λ s w. match_sort E (infer E q (most_nested - m.nest)) c t s w)

      match_at : (r : Result (Option Evidence) Halt) (m0 m1 : Meter) → Follows (bind (passing (any_beyond (predicate_entries f F ps)) m0.account) (sort_then m0)) r m0 m1 → Follows (by_match m0) r m0 m1
      unfolding sort_then
      match_at r m0 m1 h = subst (λ o. Follows (match_test E (infer E q (most_nested - m0.nest)) c t f ps ret o m0.account) r m0 m1) (sym e) h

      fault : (x : MakeFault) (m : Meter) → (x ≡ DeepTerm → IsTrue (any_beyond (predicate_entries f F ps))) →
          Follows (passing (any_beyond (predicate_entries f F ps)) m.account) (Err (Stop (stop_of x))) m m
      fault DeepTerm m h = follows_deep (passing (any_beyond (predicate_entries f F ps)) m.account) m (h refl) (same_left m.account)
      fault NoTerm m h = follows_memory (passing (any_beyond (predicate_entries f F ps)) m.account) m (same_left m.account)

      pub entries_err : (x : MakeFault) (m : Meter) → (x ≡ DeepTerm → IsTrue (any_beyond (predicate_entries f F ps))) → Follows (by_match m) (Err (Stop (stop_of x))) m m
      unfolding sort_then
      entries_err x m h =
          match_at (Err (Stop (stop_of x))) m m
          (follows_err (passing (any_beyond (predicate_entries f F ps)) m.account) (sort_then m) (Stop (stop_of x)) m m (fault x m h) (search leaving depth 8))

      entered_goes : (r : Result (Option Evidence) Halt) (m0 m1 : Meter) → Follows (sort_then m0 tt m0.account) r m0 m1 → Follows (by_match m0) r m0 m1
      entered_goes r m0 m1 h =
          match_at r m0 m1 (follows_bind (passing (any_beyond (predicate_entries f F ps)) m0.account) (sort_then m0) tt r m0 m0 m1 (follows_passing (any_beyond (predicate_entries f F ps)) m0) h)

      pub predicate_err : (h : Halt) (m0 m1 : Meter) → Follows (sort_of E (infer E q (most_nested - m0.nest)) (extend c (predicate_entries f F ps)) ret m0.account) (Err h) m0 m1 →
          Follows (by_match m0) (Err h) m0 m1
      unfolding sort_then
      predicate_err h m0 m1 k =
          entered_goes (Err h) m0 m1
          (follows_err (sort_of E (infer E q (most_nested - m0.nest)) (extend c (predicate_entries f F ps)) ret m0.account) (λ s w. match_sort E (infer E q (most_nested - m0.nest)) c t s w) h m0 m1 k (search leaving depth 8))

      predicate_goes : (s : Sort) (r : Result (Option Evidence) Halt) (m0 m1 m2 : Meter) →
          Follows (sort_of E (infer E q (most_nested - m0.nest)) (extend c (predicate_entries f F ps)) ret m0.account) (Ok s) m0 m1 →
          Follows (match_sort E (infer E q (most_nested - m0.nest)) c t s m1.account) r m1 m2 → Follows (by_match m0) r m0 m2
      unfolding sort_then
      predicate_goes s r m0 m1 m2 k h =
          entered_goes r m0 m2
          (follows_bind (sort_of E (infer E q (most_nested - m0.nest)) (extend c (predicate_entries f F ps)) ret m0.account) (λ s w. match_sort E (infer E q (most_nested - m0.nest)) c t s w) s r m0 m1 m2 k h)

      pub match_is : (s : Sort) (m0 m1 : Meter) → is_prop s ≡ true → Follows (sort_of E (infer E q (most_nested - m0.nest)) (extend c (predicate_entries f F ps)) ret m0.account) (Ok s) m0 m1 →
          Follows (by_match m0) (Ok (Some PropMatch)) m0 m1
      match_is s m0 m1 p k =
          predicate_goes s (Ok (Some PropMatch)) m0 m1 m1 k
          (subst (λ b. Follows (if b then done (Some PropMatch) m1.account else type_test E (infer E q (most_nested - m0.nest)) c t m1.account) (Ok (Some PropMatch)) m1 m1) (sym p)
          (follows_done (Some PropMatch) m1))

      pub match_by_type : (s : Sort) (r : Result (Option Evidence) Halt) (m0 m1 m2 : Meter) → is_prop s ≡ false →
          Follows (sort_of E (infer E q (most_nested - m0.nest)) (extend c (predicate_entries f F ps)) ret m0.account) (Ok s) m0 m1 → Follows (by_type m1) r m1 m2 → Follows (by_match m0) r m0 m2
      match_by_type s r m0 m1 m2 p k h =
          predicate_goes s r m0 m1 m2 k
          (subst (λ b. Follows (if b then done (Some PropMatch) m1.account else type_test E (infer E q (most_nested - m0.nest)) c t m1.account) r m1 m2) (sym p)
          (subst (λ n. Follows (type_test E (infer E q (most_nested - n)) c t m1.account) r m1 m2) k.after.nest h))

-- a match is tested as one
pub match_tested : (E : Env) (q : Test) (c : Context) (t : Term) (f : FamilyId) (ps : List Term) (n : ℕ) (ret s : Term) (bs : Terms) (r : Result (Option Evidence) Halt) (m0 m1 : Meter) →
    Case f (terms_of ps) n ret s bs ≡ t → Follows (by_match E q c t f ps ret m0) r m0 m1 → Follows (erasable_test E (infer E q (most_nested - m0.nest)) c t m0.account) r m0 m1
match_tested E q c t f ps n ret s bs r m0 m1 e =
    subst (λ t. Follows (match_test E (infer E q (most_nested - m0.nest)) c t f ps ret (family_of E f) m0.account) r m0 m1
    → Follows (erasable_test E (infer E q (most_nested - m0.nest)) c t m0.account) r m0 m1) e
    (λ h. subst (λ qs. Follows (match_test E (infer E q (most_nested - m0.nest)) c (Case f (terms_of ps) n ret s bs) f qs ret (family_of E f) m0.account) r m0 m1) (sym (listed ps)) h)

-- the evidence that is found is there
pub evidence_from : (E : Env) (c : Context) (t : Term) → IsCountedEnv E → IsConsistent E.levels E.constraints → IsCountedContext E c → IsCounted E t → (n : ℕ) (r : Result (Option Evidence) Halt) (m0 m1 : Meter) →
    Follows (erasable_test E (infer E (test_of E) n) c t m0.account) (r) m0 m1 → IfOk r (λ o. (e : Evidence) → o ≡ Some e → HasEvidence E c t e)
evidence_from E c t w l kc wt n (Ok o) m0 m1 f = λ e p.
    let test = entailed_decides E.levels E.constraints l w.constraints in
    evidence_sound E w.declarations (infer E (test_of E) n) (infer_sound E w.declarations (test_of E) test n) c t e m0.account m1.account kc wt (f.answer ∙ ap (λ o. run.Done o m1.account) p)
evidence_from E c t w l kc wt n (Err h) m0 m1 f = tt
