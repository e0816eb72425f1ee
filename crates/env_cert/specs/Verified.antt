-- What verifying an environment with a certificate answers: the end of the certified walk, or want of memory. Where the walk has passed a
-- limit, the answer may be that as well.
use Rattle.std.specs.Prelude.{◌≡◌, ℕ, ◌-◌, List, length, Option, Result, Ok, Err, IsTrue}
use Rattle.pc_terms.specs.Syntax.{Term}
use Rattle.dump_reader.specs.declared.environment.RawEnv.{RawEnv}
use Rattle.calculus_rules.specs.Environment.{Env}
use Rattle.pc_rules.specs.declared.meter.Account.{Account}
use Rattle.pc_rules.specs.declared.meter.Meter.{Meter}
use Rattle.pc_rules.specs.declared.stop.Stop.TheVariants as stops
use Rattle.pc_rules.specs.Entailment.{entailed_by}
use Rattle.pc_rules.specs.DirectedRun.{most_nested}
use Rattle.rule_laws.specs.Declarations.{IsCheckedEnvironment}
use Rattle.env_check.specs.Rules.{givens, IsFound}
use Rattle.cert_rules.specs.Walk.{Items, WalkState, Walk, Passed, Barred, Unpaid}
use Rattle.cert_rules.specs.WalkDeclarations.{walk_environment, start}
use Rattle.type_cert.specs.declared.halt.WalkHalt.{WalkHalt}
use Rattle.type_cert.specs.declared.halt.WalkHalt.TheVariants as walks
use Rattle.type_cert.specs.declared.trail.Trail.{Trail}
use Rattle.type_cert.specs.Retraces.{Retraces, stand}
use Rattle.env_cert.specs.declared.refusal.VerifyRefusal.{VerifyRefusal}
use Rattle.env_cert.specs.declared.refusal.VerifyRefusal.TheVariants.{Bad, Spent, TooDeep, Memory}

-- the walk of an environment that is read, where the graph has this cycle, if one; n rules may stand in one another
abbrev pub walk_from : Items → RawEnv → Option (List ℕ) → ℕ → WalkState → Walk (Env × Term)
walk_from cert raw cycle n s = walk_environment cert raw.levels raw.constraints cycle (entailed_by (length raw.levels) raw.constraints) n (givens raw) raw.main s

-- from the first item on
abbrev pub walk_of : Items → RawEnv → Option (List ℕ) → ℕ → Account → Walk (Env × Term)
walk_of cert raw cycle n u = walk_from cert raw cycle n (start u)

-- acceptance, and a refusal with its item, are those of the walk, with the units that are left; no unit is left exactly as the walk finds it;
-- a limit is passed only where the walk passes one; want of memory may come at any time
abbrev pub VerifyAnswers : Walk (Env × Term) → Result (Unit {0}) VerifyRefusal → Account → Type 0
VerifyAnswers w (Ok a) u = (r : Env × Term) × (i : ℕ) × (w.end ≡ Passed r (record { account = u; at = i }))
VerifyAnswers w (Err (Bad i)) u = w.end ≡ Barred i u
VerifyAnswers w (Err Spent) u = (w.end ≡ Unpaid) × (u.left ≡ 0)
VerifyAnswers w (Err TooDeep) u = IsTrue w.deep
VerifyAnswers w (Err Memory) u = Unit {0}

-- with some cycle that is found of the graph
pub record VerifiesFound (raw : RawEnv) (cert : Items) (n : ℕ) (u : Account) (r : Result (Unit {0}) VerifyRefusal) (v : Account) : Type 0 where
  pub cycle : Option (List ℕ)
  pub found : IsFound raw cycle
  pub answers : VerifyAnswers (walk_of cert raw cycle n u) r v

-- the answer of a call that begins and ends with these meters; where there is no memory nothing need be found
abbrev pub Verifies : RawEnv → Items → Result (Unit {0}) VerifyRefusal → Meter → Meter → Type 0
Verifies raw cert (Err Memory) old new = Unit {0}
Verifies raw cert r old new = VerifiesFound raw cert (most_nested - old.nest) old.account r new.account

-- some environment with the levels, constraints and declarations that are read is well formed, and main has a type there
abbrev pub IsVerified : RawEnv → Type 0
IsVerified raw = (E : Env) × (T : Term) × IsCheckedEnvironment raw.levels raw.constraints (givens raw) raw.main E T

-- the same of a call that goes along the walk on a trail

pub record WalksFound (raw : RawEnv) (cert : Items) (n : ℕ) (r : Result (Env × Term) WalkHalt) (old new : Trail) : Type 0 where
  pub cycle : Option (List ℕ)
  pub found : IsFound raw cycle
  pub retraces : Retraces (walk_from cert raw cycle n (stand old)) r old new

abbrev pub WalksAlong : RawEnv → Items → Result (Env × Term) WalkHalt → Trail → Trail → Type 0
WalksAlong raw cert (Err (walks.Stop stops.Memory)) old new = Unit {0}
WalksAlong raw cert r old new = WalksFound raw cert (most_nested - old.meter.nest) r old new

-- how a walk ends without a result, as a refusal
abbrev pub verify_refusal : WalkHalt → VerifyRefusal
verify_refusal (walks.Stop stops.Spent) = Spent
verify_refusal (walks.Stop stops.TooDeep) = TooDeep
verify_refusal (walks.Stop stops.Memory) = Memory
verify_refusal (walks.Barred i) = Bad i

-- and its answer without the result
abbrev pub verified : {A : Type 0} → Result A WalkHalt → Result (Unit {0}) VerifyRefusal
verified (Ok a) = Ok tt
verified (Err h) = Err (verify_refusal h)
