-- How `verify` ends: the front of the input spells an environment, the text behind it is read as a certificate, and the certified walk of the environment goes along that. No rule is broken by it: where
-- the walk doesn't accept it is refused at an item.
use Rattle.std.specs.Prelude.{ℕ, ◌≡◌, ◌≢◌, ◌⊎◌, List, length, Option, Result, Ok, Err, IsTrue, false}
use Rattle.pc_terms.specs.Syntax.{Term}
use Rattle.calculus_rules.specs.Environment.{Env}
use Rattle.pc_rules.specs.declared.meter.Account.{Account}
use Rattle.pc_rules.specs.Entailment.{entailed_by}
use Rattle.pc_rules.specs.DirectedRun.{most_nested}
use Rattle.cert_rules.specs.Walk.{Items, WalkState, Walk, WalkEnd, Passed, Barred, Unpaid, Crowded}
use Rattle.cert_rules.specs.WalkDeclarations.{walk_environment}
use Rattle.cert_text.specs.CertReading.{CertRead, Read, WrongToken, TooGreat, read_bytes}
use Rattle.env_check.specs.Rules.{IsFound, givens}
use Rattle.dump_reader.specs.Front.{front_bytes, front_length}
use Rattle.dump_reader.specs.declared.environment.RawEnv.{RawEnv}
use Rattle.driver.specs.declared.refusal.Refusal.{Refusal}
use Rattle.driver.specs.declared.refusal.Refusal.TheVariants as refusals
use Rattle.driver.specs.declared.refusal.CertificateFault.TheVariants as certificates
use Rattle.driver.specs.Judged.{start}
use Rattle.driver.specs.Texts.{SpellsWithin}

-- what the text behind the environment is read as
abbrev pub certificate_read : List ℕ → CertRead
certificate_read bytes = read_bytes bytes (front_length bytes)

-- the walk of an environment along a certificate, from its first item on, with the units of a job, and with this cycle of the graph, if one is found; 2,048 rules may stand in one another
abbrev pub walk_along : (turns : ℕ) → RawEnv → Items → Option (List ℕ) → Walk (Env × Term)
walk_along turns e items cycle =
    walk_environment items e.levels e.constraints cycle (entailed_by (length e.levels) e.constraints) most_nested (givens e) e.main (record { account = start turns; at = 0 })

-- the walk is refused at this item; it has no end within the units; it passes a limit
abbrev pub WalkShows : Walk (Env × Term) → Refusal → Type 0
WalkShows w (refusals.Certificate (certificates.Refused i)) = (u : Account) × (w.end ≡ Barred i u)
WalkShows w refusals.TurnsSpent = w.end ≡ Unpaid
WalkShows w refusals.Depth = IsTrue w.deep
WalkShows w _ = ⊥

-- ---- what each stage says

-- the text behind the environment is read, or refused at its first token that is no part of a certificate, or at a number that is too great
abbrev pub CertificateSays : List ℕ → Result Items Refusal → Type 0
CertificateSays bytes (Ok items) = certificate_read bytes ≡ Read items
CertificateSays bytes (Err (refusals.Certificate (certificates.Syntax o))) = certificate_read bytes ≡ WrongToken o
CertificateSays bytes (Err (refusals.Certificate certificates.Number)) = (o : ℕ) × (certificate_read bytes ≡ TooGreat o)
CertificateSays bytes (Err refusals.Memory) = Unit {0}
CertificateSays bytes (Err _) = ⊥

-- the walk comes to its end, or shows a refusal
abbrev pub WalkSays : (turns : ℕ) → RawEnv → Items → Result (Unit {0}) Refusal → Type 0
WalkSays turns e items (Ok a) = (cycle : Option (List ℕ)) × (r : Env × Term) × (s : WalkState) × IsFound e cycle × ((walk_along turns e items cycle).end ≡ Passed r s)
WalkSays turns e items (Err refusals.Memory) = Unit {0}
WalkSays turns e items (Err r) = (cycle : Option (List ℕ)) × IsFound e cycle × WalkShows (walk_along turns e items cycle) r

-- ---- the answer, and the refusals

-- the text behind the environment is a certificate, along which the walk of the environment is accepted with the units of a job: all items are used
pub record IsWalked (turns : ℕ) (e : RawEnv) (bytes : List ℕ) : Type 0 where
  pub items : Items
  pub read : certificate_read bytes ≡ Read items
  pub cycle : Option (List ℕ)
  pub found : IsFound e cycle
  pub result : Env × Term
  pub last : WalkState
  pub passes : (walk_along turns e items cycle).end ≡ Passed result last

-- it is one, and the walk along it shows the refusal
pub record IsWalkRefused (turns : ℕ) (e : RawEnv) (bytes : List ℕ) (r : Refusal) : Type 0 where
  pub items : Items
  pub read : certificate_read bytes ≡ Read items
  pub cycle : Option (List ℕ)
  pub found : IsFound e cycle
  pub shows : WalkShows (walk_along turns e items cycle) r

-- what shows a refusal behind the environment's text
abbrev pub IsCertificateCause : (turns : ℕ) → List ℕ → Refusal → RawEnv → Type 0
IsCertificateCause turns bytes (refusals.Certificate (certificates.Syntax o)) e = certificate_read bytes ≡ WrongToken o
IsCertificateCause turns bytes (refusals.Certificate certificates.Number) e = (o : ℕ) × (certificate_read bytes ≡ TooGreat o)
IsCertificateCause turns bytes r e = IsWalkRefused turns e bytes r

-- ---- to which status it comes

abbrev pub reading_status : CertRead → ℕ
reading_status (Read items) = 0
reading_status (WrongToken o) = 5
reading_status (TooGreat o) = 7

abbrev pub walk_status : WalkEnd (Env × Term) → ℕ
walk_status (Passed r s) = 0
walk_status (Barred i u) = 17
walk_status Unpaid = 8
walk_status Crowded = 7

-- the text behind the environment is a certificate, and the walk along it ends with this status, having passed no limit
pub record WalkEndsWith (turns : ℕ) (e : RawEnv) (bytes : List ℕ) (status : ℕ) : Type 0 where
  pub items : Items
  pub read : certificate_read bytes ≡ Read items
  pub cycle : Option (List ℕ)
  pub found : IsFound e cycle
  pub within : (walk_along turns e items cycle).deep ≡ false
  pub status_is : status ≡ walk_status (walk_along turns e items cycle).end

-- it is none, and this is the status of that; or it is one, and the walk ends so
abbrev pub VerifyEndsWith : (turns : ℕ) → RawEnv → List ℕ → ℕ → Type 0
VerifyEndsWith turns e bytes status = ((status ≡ reading_status (certificate_read bytes)) × (status ≢ 0)) ⊎ WalkEndsWith turns e bytes status

-- so of the environment that the front of the input spells
abbrev pub VerifyIsJudged : (turns status : ℕ) → List ℕ → Type 0
VerifyIsJudged turns status bytes = (e : RawEnv) × SpellsWithin (front_bytes bytes) e × VerifyEndsWith turns e bytes status

-- the walk passes no limit, whatever cycle is found
abbrev pub WalkIsShallow : (turns : ℕ) → RawEnv → List ℕ → Type 0
WalkIsShallow turns e bytes =
    (items : Items) (cycle : Option (List ℕ)) → certificate_read bytes ≡ Read items → IsFound e cycle → (walk_along turns e items cycle).deep ≡ false
