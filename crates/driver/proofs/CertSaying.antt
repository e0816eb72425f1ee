-- What the stages of `cert` say, as what its end shows.
use Rattle.std.proofs.Common.{◌≡◌, ◌∙◌, ℕ, ◌<◌, ◌≤◌, ◌-◌, List, length, Option, Result, Ok, Err, refl, sym, ap, subst, arith}
use Rattle.std.specs.Prelude.{IfOk, IfErr, OnOk, replicate}
use Rattle.pc_terms.specs.Syntax.{Term}
use Rattle.calculus_rules.specs.Environment.{Env}
use Rattle.pc_rules.specs.DirectedRun.{most_nested}
use Rattle.reports.specs.Shown.{Shown}
use Rattle.module_run.specs.RunFacts.{AreTold}
use Rattle.pc_rules.specs.declared.broken.Broken.{Broken as Rule}
use Rattle.pc_rules.specs.declared.broken.Place.{Place}
use Rattle.pc_rules.specs.declared.broken.Place.TheVariants.{Declaration, Main}
use Rattle.pc_rules.specs.declared.meter.Account.{Account}
use Rattle.pc_rules.specs.declared.meter.Meter.{Meter}
use Rattle.cert_rules.specs.MakingDeclarations.{Made}
use Rattle.cert_rules.specs.Walk.{Items, WalkEnd, Passed, Barred, Unpaid, Crowded}
use Rattle.cert_text.specs.CertText.{AreSmall}
use Rattle.certified_texts.specs.ReadBack.{certified_text}
use Rattle.dump_reader.specs.declared.environment.RawEnv.{RawEnv}
use Rattle.env_check.specs.Rules.{IsFound}
use Rattle.env_cert.specs.declared.refusal.VerifyRefusal.TheVariants as verify
use Rattle.env_making.specs.Certified.{DirectedFound, FollowsDirected, IsCertificateOf, MakesCert, making_of}
use Rattle.env_making.specs.declared.refusal.CertRefusal.{CertRefusal}
use Rattle.env_making.specs.declared.refusal.CertRefusal.TheVariants.{Broken, Memory, Spent, TooDeep}
use Rattle.command_line.specs.declared.job.Job.TheVariants.{Cert}
use Rattle.command_line.specs.declared.line.Request.{Request}
use Rattle.driver.specs.declared.refusal.Refusal.{Refusal}
use Rattle.driver.specs.declared.refusal.Refusal.TheVariants as refusals
use Rattle.driver.specs.declared.refusal.Where.{Where}
use Rattle.driver.specs.declared.reporting.facts.Facts.{Facts}
use Rattle.driver.specs.CertEnds.{IsCertifiedWith, IsNotRefused, IsTakenWith, making_with}
use Rattle.driver.specs.CertSays.{MakingSays, WhySays}
use Rattle.driver.specs.CheckFacts.{facts_of_check}
use Rattle.driver.specs.JobFacts.{CheckIsTold}
use Rattle.driver.specs.Judged.{IsBrokenBy, IsSpentBy, IsTooDeepFor, PlaceIsTold, number_of, start}
use Rattle.driver.specs.ReportedFacts.{facts_of}
use Rattle.driver.specs.Serve.{IsWell, JobSays}
use Rattle.driver.specs.Texts.{SpellsWithin}
use Rattle.driver.specs.VerifyEnds.{walk_along}
use Rattle.driver.proofs.Checking.{accepted_with, broken_by, broken_within, spent_by, too_deep_for}

-- ---- a certificate that verifying takes: its walk, with enough units and whatever cycle is found, is refused at no item

module _ (e : RawEnv) (items : Items) (units : ℕ) (taken : IsCertificateOf e items units) (turns : ℕ) (enough : units ≤ turns) (cycle : Option (List ℕ)) (found : IsFound e cycle) where
  -- a meter at the start of a call, or at its end
  abbrev meter : Account → Meter
  meter u = record { account = u; nest = 0; nested = omega arith }

  abbrev spent : Account
  spent = record { left = 0; uses = replicate 12 0 }

  by_end : (x : WalkEnd (Env × Term)) → (walk_along turns e items cycle).end ≡ x → IsNotRefused x
  by_end (Passed r s) is = tt
  by_end (Barred i u) is = absurd (taken (Err (verify.Bad i)) (meter (start turns)) (meter u) enough (record { cycle = cycle; found = found; answers = is }))
  by_end Unpaid is = absurd (taken (Err verify.Spent) (meter (start turns)) (meter spent) enough (record { cycle = cycle; found = found; answers = (is, refl) }))
  by_end Crowded is = tt

  not_refused : IsNotRefused (walk_along turns e items cycle).end
  not_refused = by_end (walk_along turns e items cycle).end refl

taken_with : (e : RawEnv) (items : Items) (units : ℕ) → IsCertificateOf e items units → IsTakenWith units e items
taken_with e items units taken = λ turns enough cycle found. not_refused e items units taken turns enough cycle found

-- ---- what the making says, with a new meter

module _ (turns : ℕ) (e : RawEnv) (m m' : Meter) (none : m.nest ≡ 0) (fresh : m.account ≡ start turns) where
  its_making : (cycle : Option (List ℕ)) → making_of e cycle (most_nested - m.nest) m.account ≡ making_with turns e cycle
  its_making cycle = λ i. making_of e cycle (most_nested - none i) (fresh i)

  pub making_says : (items : Items) → MakesCert e (Ok items) m m' → FollowsDirected e (Ok items) m m' → IsCertificateOf e items (m.account.left - m'.account.left) → IsCertifiedWith turns e items m'.account
  making_says items h d v =
      let (E, T, makes) = h.answers in
      let (F, S, accepts) = d.answers in
      record {
        making = record { cycle = h.cycle; found = h.found; kept = E; type = T; makes = sym (ap (λ (r : Made). r.outcome) (its_making h.cycle)) ∙ makes };
        kept = F;
        type = S;
        accepted = accepted_with turns e m.nest m.account m'.account none fresh (record { env = F; main = e.main; main_type = S }) (record { cycle = d.cycle; found = d.found; answers = accepts });
        taken = taken_with e items (turns - m'.account.left) (subst (λ (u : Account). IsCertificateOf e items (u.left - m'.account.left)) fresh v);
      }

  pub making_why : (r : CertRefusal) → FollowsDirected e (Err r) m m' → WhySays turns e r
  making_why Memory d = tt
  making_why r d =
      (m'.account, subst (λ (u : Account). DirectedFound e most_nested u (Err r) m'.account) fresh (subst (λ (k : ℕ). DirectedFound e (most_nested - k) m.account (Err r) m'.account) none d))

-- ---- a refusal

module _ (turns : ℕ) (e : RawEnv) where
  pub why_spent : WhySays turns e Spent → IsSpentBy turns e
  why_spent (v, d) = spent_by turns e 0 (start turns) v refl refl Main (start turns) (record { cycle = d.cycle; found = d.found; answers = d.answers })

  pub why_deep : WhySays turns e TooDeep → IsTooDeepFor turns e
  why_deep (v, d) = too_deep_for turns e 0 (start turns) v refl refl Main (record { cycle = d.cycle; found = d.found; answers = d.answers })

  pub why_broken : (p : Place) (b : Rule) → WhySays turns e (Broken p b) → (number : ℕ) (told : Where) → number ≡ number_of b → PlaceIsTold e p told → IsBrokenBy turns e number told
  why_broken p b (v, d) number told is at = broken_by turns e 0 (start turns) v refl refl p b number told (record { cycle = d.cycle; found = d.found; answers = d.answers }) is at

  pub why_within : (p : Place) (b : Rule) → WhySays turns e (Broken p b) → (i : ℕ) → p ≡ Declaration i → i < length e.decls
  why_within p b (v, d) i is = broken_within turns e 0 (start turns) v refl refl p b i (record { cycle = d.cycle; found = d.found; answers = d.answers }) is

-- reports that are told its facts
pub making_told : {X : Type 0} (shown : X → Shown) (turns : ℕ) (e : RawEnv) (items : Items) (u : Account) (check : Facts) (old new : List X) → IsCertifiedWith turns e items u → check ≡ facts_of_check e u →
    AreTold shown (facts_of check) old new → CheckIsTold shown turns e old new
making_told shown turns e items u check old new made is told = (check, record { kept = made.kept; type = made.type; left = u; accepted = made.accepted; facts_are = is }, told)

-- ---- the answer

pub certified_says : {V : Type 0} (view : V → List ℕ) (x : Result V Refusal) (q : Request) (bytes : List ℕ) (e : RawEnv) (items : Items) → SpellsWithin bytes e → MakingSays q.turns (Ok items) e → IsWell e →
    IfOk x (λ v. view v ≡ certified_text e items) → OnOk x (AreSmall items) → IfErr x (λ r. r ≡ refusals.Memory) → JobSays Cert q view x bytes
certified_says view (Ok v) q bytes e items spelled (u, made) well text small memory =
    record { environment = e; spelled = spelled; items = items; certified = record { left = u; made = made; small = small }; well = well; text_is = text }
certified_says {V = V} view (Err r) q bytes e items spelled says well text small memory = subst (λ y. JobSays {V = V} Cert q view (Err y) bytes) (sym memory) tt
