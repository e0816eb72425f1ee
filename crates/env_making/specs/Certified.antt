-- What the making of a certificate for an environment that is read answers: the outcome of the directed rules that write, or want of memory. Where
-- the rules have passed a limit, the answer may be that as well. And what a certificate is good for.
use Rattle.std.specs.Prelude.{◌≡◌, ℕ, ◌-◌, ◌≤◌, List, length, Option, Result, Ok, Err, IsTrue}
use Rattle.pc_terms.specs.Syntax.{Term}
use Rattle.dump_reader.specs.declared.environment.RawEnv.{RawEnv}
use Rattle.calculus_rules.specs.Environment.{Env}
use Rattle.pc_rules.specs.declared.meter.Account.{Account}
use Rattle.pc_rules.specs.declared.meter.Meter.{Meter}
use Rattle.pc_rules.specs.Entailment.{entailed_by}
use Rattle.pc_rules.specs.DirectedDeclarations.{Checked, Accepts, Gives, Breaks, Spends}
use Rattle.pc_rules.specs.DirectedRun.{most_nested}
use Rattle.env_check.specs.Rules.{givens, rules_of, IsFound}
use Rattle.cert_rules.specs.Walk.{Items}
use Rattle.cert_rules.specs.Writing.{wrote}
use Rattle.cert_rules.specs.MakingDeclarations.{Made, make_environment}
use Rattle.env_cert.specs.declared.refusal.VerifyRefusal.{VerifyRefusal}
use Rattle.env_cert.specs.declared.refusal.VerifyRefusal.TheVariants as verify
use Rattle.env_cert.specs.Verified.{Verifies}
use Rattle.env_making.specs.declared.refusal.CertRefusal.{CertRefusal}
use Rattle.env_making.specs.declared.refusal.CertRefusal.TheVariants.{Broken, Spent, TooDeep, Memory}

-- the directed rules that write, of an environment that is read, where the graph has this cycle, if one; n rules may stand in one another
abbrev pub making_of : RawEnv → Option (List ℕ) → ℕ → Account → Made
making_of raw cycle n u = make_environment raw.levels raw.constraints cycle (entailed_by (length raw.levels) raw.constraints) n (givens raw) raw.main u

-- a certificate is what is written where the rules accept, and refusals, with their places and what they keep, are those of the rules, with the
-- units that are left and the uses of rules; no unit is left exactly as the rules find it; a limit is passed only where the rules pass one; want of
-- memory may come at any time
abbrev pub CertAnswers : Made → Result Items CertRefusal → Account → Type 0
CertAnswers d (Ok cert) u = (E : Env) × (T : Term) × (d.outcome ≡ Gives (wrote cert (E, T)) u)
CertAnswers d (Err (Broken p b)) u = d.outcome ≡ Breaks p b u
CertAnswers d (Err Spent) u = (d.outcome ≡ Spends) × (u.left ≡ 0)
CertAnswers d (Err TooDeep) u = IsTrue d.deep
CertAnswers d (Err Memory) u = Unit {0}

-- with some cycle that is found of the graph
pub record MakesFound (raw : RawEnv) (n : ℕ) (u : Account) (r : Result Items CertRefusal) (v : Account) : Type 0 where
  pub cycle : Option (List ℕ)
  pub found : IsFound raw cycle
  pub answers : CertAnswers (making_of raw cycle n u) r v

-- the answer of a call that begins and ends with these meters; where there is no memory nothing need be found
abbrev pub MakesCert : RawEnv → Result Items CertRefusal → Meter → Meter → Type 0
MakesCert raw (Err Memory) old new = Unit {0}
MakesCert raw r old new = MakesFound raw (most_nested - old.nest) old.account r new.account

-- the same answer by the directed rules of the check, which write nothing

abbrev pub DirectedAnswers : Checked → Result Items CertRefusal → Account → Type 0
DirectedAnswers d (Ok cert) u = (E : Env) × (T : Term) × (d.outcome ≡ Accepts E T u)
DirectedAnswers d (Err (Broken p b)) u = d.outcome ≡ Breaks p b u
DirectedAnswers d (Err Spent) u = (d.outcome ≡ Spends) × (u.left ≡ 0)
DirectedAnswers d (Err TooDeep) u = IsTrue d.deep
DirectedAnswers d (Err Memory) u = Unit {0}

pub record DirectedFound (raw : RawEnv) (n : ℕ) (u : Account) (r : Result Items CertRefusal) (v : Account) : Type 0 where
  pub cycle : Option (List ℕ)
  pub found : IsFound raw cycle
  pub answers : DirectedAnswers (rules_of raw cycle n u) r v

abbrev pub FollowsDirected : RawEnv → Result Items CertRefusal → Meter → Meter → Type 0
FollowsDirected raw (Err Memory) old new = Unit {0}
FollowsDirected raw r old new = DirectedFound raw (most_nested - old.nest) old.account r new.account

-- what verifying an environment with its certificate may answer: acceptance, a passed limit, or want of memory
abbrev pub IsTaken : Result (Unit {0}) VerifyRefusal → Type 0
IsTaken (Ok a) = Unit {0}
IsTaken (Err (verify.Bad i)) = ⊥
IsTaken (Err verify.Spent) = ⊥
IsTaken (Err verify.TooDeep) = Unit {0}
IsTaken (Err verify.Memory) = Unit {0}

-- each answer of the call that verifies, with at least so many units, is one of these
abbrev pub IsCertificateOf : RawEnv → Items → ℕ → Type 0
IsCertificateOf raw cert units = (r : Result (Unit {0}) VerifyRefusal) (old new : Meter) → units ≤ old.account.left → Verifies raw cert r old new → IsTaken r
