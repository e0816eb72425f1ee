-- What the stages of `verify` say, as what its end shows.
use Rattle.std.proofs.Common.{◌≡◌, ◌∙◌, ℕ, ◌-◌, List, Option, Result, Ok, Err, sym, ap, subst}
use Rattle.std.specs.Prelude.{IfOk, IfErr, IsTrue, codes}
use Rattle.pc_rules.specs.declared.meter.Meter.{Meter}
use Rattle.pc_rules.specs.DirectedRun.{most_nested}
use Rattle.cert_rules.specs.Walk.{Items}
use Rattle.cert_text.specs.CertReading.{CertRead, Read, read_bytes}
use Rattle.env_cert.specs.Verified.{IsVerified, Verifies, walk_of}
use Rattle.env_cert.specs.declared.refusal.VerifyRefusal.TheVariants.{Bad, Spent, TooDeep}
use Rattle.dump_reader.specs.Front.{front_bytes, front_length}
use Rattle.dump_reader.specs.declared.environment.RawEnv.{RawEnv}
use Rattle.command_line.specs.declared.job.Job.TheVariants.{Verify}
use Rattle.command_line.specs.declared.line.Request.{Request}
use Rattle.driver.specs.declared.refusal.Refusal.{Refusal}
use Rattle.driver.specs.declared.refusal.Refusal.TheVariants as refusals
use Rattle.driver.specs.declared.refusal.CertificateFault.TheVariants as certificates
use Rattle.driver.specs.Judged.{start}
use Rattle.driver.specs.Serve.{IsWell, JobSays, RefusalSays}
use Rattle.driver.specs.Texts.{SpellsWithin}
use Rattle.driver.specs.VerifyEnds.{CertificateSays, WalkSays, certificate_read, walk_along}
use Rattle.driver.proofs.Answering.{says}

-- ---- what the stages' calls say

-- reading begins behind the environment
pub read_there : (bytes : List ℕ) (from : ℕ) (r : CertRead) → from ≡ front_length bytes → read_bytes bytes from ≡ r → certificate_read bytes ≡ r
read_there bytes from r is h = sym (ap (read_bytes bytes) is) ∙ h

-- the walk with a new meter
module _ (turns : ℕ) (e : RawEnv) (items : Items) (m m' : Meter) (none : m.nest ≡ 0) (fresh : m.account ≡ start turns) where
  its_walk : (cycle : Option (List ℕ)) → walk_of items e cycle (most_nested - m.nest) m.account ≡ walk_along turns e items cycle
  its_walk cycle = λ i. walk_of items e cycle (most_nested - none i) (fresh i)

  pub walk_passes : Verifies e items (Ok tt) m m' → WalkSays turns e items (Ok tt)
  walk_passes v = (v.cycle, v.answers.0, record { account = m'.account; at = v.answers.1 }, v.found, sym (ap (λ w. w.end) (its_walk v.cycle)) ∙ v.answers.2)

  pub walk_barred : (i : ℕ) → Verifies e items (Err (Bad i)) m m' → WalkSays turns e items (Err (refusals.Certificate (certificates.Refused i)))
  walk_barred i v = (v.cycle, v.found, (m'.account, sym (ap (λ w. w.end) (its_walk v.cycle)) ∙ v.answers))

  pub walk_unpaid : Verifies e items (Err Spent) m m' → WalkSays turns e items (Err refusals.TurnsSpent)
  walk_unpaid v = (v.cycle, v.found, sym (ap (λ w. w.end) (its_walk v.cycle)) ∙ v.answers.0)

  pub walk_deep : Verifies e items (Err TooDeep) m m' → WalkSays turns e items (Err refusals.Depth)
  walk_deep v = (v.cycle, v.found, subst IsTrue (ap (λ w. w.deep) (its_walk v.cycle)) v.answers)

pub verified_well : (e : RawEnv) → IsVerified e → IsWell e
verified_well e (E, T, checked) = record { kept = E; type = T; checked = checked }

-- ---- refusals

module _ (q : Request) (bytes : List ℕ) (e : RawEnv) (spelled : SpellsWithin (front_bytes bytes) e) where
  -- that of the text behind the environment
  pub certificate_refused : (r : Refusal) → CertificateSays bytes (Err r) → RefusalSays Verify q r bytes
  certificate_refused refusals.Memory h = tt
  certificate_refused (refusals.Certificate (certificates.Syntax o)) h = (e, spelled, h)
  certificate_refused (refusals.Certificate certificates.Number) h = (e, spelled, h)
  certificate_refused _ h = absurd h

  module _ (items : Items) (read : certificate_read bytes ≡ Read items) where
    -- that of the walk
    pub walk_refused : (r : Refusal) → WalkSays q.turns e items (Err r) → RefusalSays Verify q r bytes
    walk_refused refusals.Memory h = tt
    walk_refused (refusals.Certificate (certificates.Refused i)) (cycle, found, shows) = (e, spelled, record { items = items; read = read; cycle = cycle; found = found; shows = shows })
    walk_refused refusals.TurnsSpent (cycle, found, shows) = (e, spelled, record { items = items; read = read; cycle = cycle; found = found; shows = shows })
    walk_refused refusals.Depth (cycle, found, shows) = (e, spelled, record { items = items; read = read; cycle = cycle; found = found; shows = shows })
    walk_refused _ (cycle, found, shows) = absurd shows

    -- ---- the answer

    pub verified_says : {V : Type 0} (view : V → List ℕ) (x : Result V Refusal) → WalkSays q.turns e items (Ok tt) → IsWell e → IfOk x (λ v. view v ≡ codes "ok\n") → IfErr x (λ r. r ≡ refusals.Memory) →
        JobSays Verify q view x bytes
    verified_says view x (cycle, result, last, found, passes) well text memory =
        says view Verify q x bytes (codes "ok\n") (λ t is. record {
          environment = e;
          spelled = spelled;
          walked = record { items = items; read = read; cycle = cycle; found = found; result = result; last = last; passes = passes };
          well = well;
          text_is = is;
        }) text memory
