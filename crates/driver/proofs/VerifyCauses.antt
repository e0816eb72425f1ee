-- The walk along the certificate of an input is one, whichever cycle is found of the graph, so `verify` comes to one status where the walk passes no limit.
use Rattle.std.proofs.Common.{◌≡◌, ℕ, List, [], length, Option, Some, None, false, inl, inr, refl, sym, ap, ◌∙◌}
use Rattle.universe_levels.specs.declared.constraint.Constraint.{Constraint}
use Rattle.pc_terms.specs.Syntax.{Term}
use Rattle.calculus_rules.specs.Environment.{Env}
use Rattle.pc_rules.specs.DirectedDeclarations.{IsCycle, first_repeated, first_undeclared_end}
use Rattle.cert_rules.specs.Walk.{Items, WalkState, Walk}
use Rattle.cert_rules.specs.WalkDeclarations.{walk_unless}
use Rattle.cert_text.specs.CertReading.{CertRead, Read}
use Rattle.env_check.specs.Rules.{IsFound}
use Rattle.dump_reader.specs.declared.environment.RawEnv.{RawEnv}
use Rattle.driver.specs.declared.refusal.Refusal.{Refusal}
use Rattle.driver.specs.declared.refusal.Refusal.TheVariants as refusals
use Rattle.driver.specs.declared.refusal.CertificateFault.TheVariants as certificates
use Rattle.driver.specs.Lines.{status_of}
use Rattle.driver.specs.VerifyEnds.{IsCertificateCause, IsWalked, IsWalkRefused, VerifyEndsWith, WalkIsShallow, WalkShows, certificate_read, reading_status, walk_along, walk_status}
use Rattle.driver.proofs.CheckCauses.{deep_or_not, not_zero}
use Rattle.env_check.proofs.Cycles.{no_cycle}

-- ---- one walk

unless_same : {A : Type 0} (o : Option A) (v w : Walk (Env × Term)) (s : WalkState) → (o ≡ None → v ≡ w) → walk_unless o v s ≡ walk_unless o w s
unless_same None v w s h = h refl
unless_same (Some a) v w s h = refl

-- the constraints have a cycle or none
cycle_same : (levels : ℕ) (cs : List Constraint) (a b : Option (List ℕ)) (go : Walk (Env × Term)) (s : WalkState) → IsCycle levels cs a → IsCycle levels cs b → walk_unless a go s ≡ walk_unless b go s
cycle_same levels cs None None go s h k = refl
cycle_same levels cs None (Some q) go s h k = absurd (no_cycle levels cs q h k)
cycle_same levels cs (Some p) None go s h k = absurd (no_cycle levels cs p k h)
cycle_same levels cs (Some p) (Some q) go s h k = refl

pub one_walk : (turns : ℕ) (e : RawEnv) (items : Items) (a b : Option (List ℕ)) → IsFound e a → IsFound e b → walk_along turns e items a ≡ walk_along turns e items b
one_walk turns e items a b h k =
    unless_same (first_repeated 0 [] e.levels) _ _ _ (λ once.
    unless_same (first_undeclared_end (length e.levels) 0 e.constraints) _ _ _ (λ declared.
    cycle_same (length e.levels) e.constraints a b _ _ (h once declared) (k once declared)))

-- the items are those that are read
same_items : (x y : Items) → Read x ≡ Read y → x ≡ y
same_items x y e = cc

module _ (turns : ℕ) (e : RawEnv) (bytes : List ℕ) where
  walks_alike : (x y : Items) (a b : Option (List ℕ)) → certificate_read bytes ≡ Read x → certificate_read bytes ≡ Read y → IsFound e a → IsFound e b → walk_along turns e x a ≡ walk_along turns e y b
  walks_alike x y a b is is' h k = one_walk turns e x a b h k ∙ ap (λ z. walk_along turns e z b) (same_items x y (sym is ∙ is'))

  -- ---- the status of a walk

  -- the text is no certificate where reading it has a status of its own
  read_well : (items : Items) (status : ℕ) → certificate_read bytes ≡ Read items → (status ≡ reading_status (certificate_read bytes)) × (status ≡ 0 → ⊥) → ⊥
  read_well items status is (h, n) = n (h ∙ ap reading_status is)

  -- and no walk goes along it
  unread : (r : CertRead) (status : ℕ) → certificate_read bytes ≡ r → ((items : Items) → Read items ≡ r → ⊥) → VerifyEndsWith turns e bytes status → status ≡ reading_status r
  unread r status is none (inl h) = h.0 ∙ ap reading_status is
  unread r status is none (inr w) = absurd (none w.items (sym w.read ∙ is))

  shown_status : (w : Walk (Env × Term)) (r : Refusal) → WalkShows w r → w.deep ≡ false → walk_status w.end ≡ status_of r
  shown_status w (refusals.Certificate (certificates.Refused i)) h d = ap walk_status h.1
  shown_status w refusals.TurnsSpent h d = ap walk_status h
  shown_status w refusals.Depth h d = absurd (deep_or_not w.deep h d)
  shown_status w _ h d = absurd h

  refused_status : (r : Refusal) (status : ℕ) → IsWalkRefused turns e bytes r → VerifyEndsWith turns e bytes status → status ≡ status_of r
  refused_status r status c (inl h) = absurd (read_well c.items status c.read h)
  refused_status r status c (inr w) =
      let same = walks_alike w.items c.items w.cycle c.cycle w.read c.read w.found c.found in
      w.status_is ∙ ap (λ x. walk_status x.end) same ∙ shown_status (walk_along turns e c.items c.cycle) r c.shows (sym (ap (λ x. x.deep) same) ∙ w.within)

  pub certificate_status : (r : Refusal) (status : ℕ) → IsCertificateCause turns bytes r e → VerifyEndsWith turns e bytes status → status ≡ status_of r
  certificate_status (refusals.Certificate (certificates.Syntax o)) status c h = unread _ status c (λ items z. cc) h
  certificate_status (refusals.Certificate certificates.Number) status c h = unread _ status c.1 (λ items z. cc) h
  certificate_status r status c h = refused_status r status c h

  pub walked_status : (status : ℕ) → IsWalked turns e bytes → VerifyEndsWith turns e bytes status → status ≡ 0
  walked_status status a (inl h) = absurd (read_well a.items status a.read h)
  walked_status status a (inr w) =
      let same = walks_alike w.items a.items w.cycle a.cycle w.read a.read w.found a.found in
      w.status_is ∙ ap (λ x. walk_status x.end) same ∙ ap walk_status a.passes

  -- ---- where the walk passes no limit

  module _ (shallow : WalkIsShallow turns e bytes) where
    pub walked_ends : IsWalked turns e bytes → VerifyEndsWith turns e bytes 0
    walked_ends a = inr (record { items = a.items; read = a.read; cycle = a.cycle; found = a.found; within = shallow a.items a.cycle a.read a.found; status_is = sym (ap walk_status a.passes) })

    refused_ends : (r : Refusal) → IsWalkRefused turns e bytes r → VerifyEndsWith turns e bytes (status_of r)
    refused_ends r c =
        let within = shallow c.items c.cycle c.read c.found in
        inr (record { items = c.items; read = c.read; cycle = c.cycle; found = c.found; within = within; status_is = sym (shown_status (walk_along turns e c.items c.cycle) r c.shows within) })

    pub certificate_ends : (r : Refusal) → IsCertificateCause turns bytes r e → VerifyEndsWith turns e bytes (status_of r)
    certificate_ends (refusals.Certificate (certificates.Syntax o)) c = inl (sym (ap reading_status c), not_zero (refusals.Certificate (certificates.Syntax o)))
    certificate_ends (refusals.Certificate certificates.Number) c = inl (sym (ap reading_status c.1), not_zero (refusals.Certificate certificates.Number))
    certificate_ends r c = refused_ends r c
