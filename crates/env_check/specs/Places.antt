-- Where the directed rules of an environment spend their last unit, and where they pass a limit: at a declaration to which they come, or at main.
use Rattle.std.specs.Prelude.{◌≡◌, ℕ, suc, List, [], length, Some, slice_get, IsTrue}
use Rattle.dump_reader.specs.declared.environment.RawEnv.{RawEnv}
use Rattle.pc_terms.specs.Syntax.{Term}
use Rattle.calculus_rules.specs.declared.declaration.Kept.{Kept}
use Rattle.calculus_rules.specs.Environment.{Env}
use Rattle.calculus_rules.specs.Accepted.{env}
use Rattle.pc_rules.specs.declared.broken.Place.{Place}
use Rattle.pc_rules.specs.declared.broken.Place.TheVariants.{Declaration as AtDeclaration, Main as AtMain}
use Rattle.pc_rules.specs.declared.meter.Account.{Account}
use Rattle.pc_rules.specs.Lookup.{with_kept}
use Rattle.pc_rules.specs.Entailment.{test_of}
use Rattle.pc_rules.specs.DirectedRun as run
use Rattle.pc_rules.specs.DirectedTyping.{infer}
use Rattle.pc_rules.specs.DirectedDeclarations.{Given, declaration_rule}
use Rattle.env_check.specs.declared.refusal.Refusal.{Refusal}
use Rattle.env_check.specs.declared.refusal.Refusal.TheVariants.{Spent, TooDeep}

-- from environment E with account u on, the rules come to declaration number i of those that are given, or behind the last: those before it
-- are accepted, H keeps them, and v is the account there; n rules may stand in one another
pub data ComesTo (E : Env) (n : ℕ) (ds : List Given) (u : Account) : ℕ → Env → Account → Type 0 where
  first : ComesTo E n ds u 0 E u
  next : {i : ℕ} {H : Env} {v w : Account} {d : Given} {k : Kept} → ComesTo E n ds u i H v → slice_get ds i ≡ Some d →
      (declaration_rule H (test_of H) n d v).end ≡ run.Done k w → ComesTo E n ds u (suc i) (with_kept H k) w

-- the rules come to a place with an account, and there no unit is left for them
pub data IsSpentAt (E : Env) (n : ℕ) (ds : List Given) (main : Term) (u : Account) : Place → Account → Type 0 where
  spent_in : {i : ℕ} {H : Env} {v : Account} {d : Given} → ComesTo E n ds u i H v → slice_get ds i ≡ Some d →
      (declaration_rule H (test_of H) n d v).end ≡ run.NoUnit → IsSpentAt E n ds main u (AtDeclaration i) v
  spent_in_main : {H : Env} {v : Account} → ComesTo E n ds u (length ds) H v → (infer H (test_of H) n [] main v).end ≡ run.NoUnit → IsSpentAt E n ds main u AtMain v

-- the rules come to a place, and pass a limit there
pub data IsDeepAt (E : Env) (n : ℕ) (ds : List Given) (main : Term) (u : Account) : Place → Type 0 where
  deep_in : {i : ℕ} {H : Env} {v : Account} {d : Given} → ComesTo E n ds u i H v → slice_get ds i ≡ Some d →
      IsTrue (declaration_rule H (test_of H) n d v).deep → IsDeepAt E n ds main u (AtDeclaration i)
  deep_in_main : {H : Env} {v : Account} → ComesTo E n ds u (length ds) H v → IsTrue (infer H (test_of H) n [] main v).deep → IsDeepAt E n ds main u AtMain

-- a refusal tells the place where it came
abbrev pub StandsAt : Env → ℕ → List Given → Term → Account → Refusal → Type 0
StandsAt E n ds main u (Spent p v) = IsSpentAt E n ds main u p v
StandsAt E n ds main u (TooDeep p) = IsDeepAt E n ds main u p
StandsAt E n ds main u _ = Unit {0}

-- no unit is left for main's rule, or it passes a limit
abbrev pub StandsInMain : Env → ℕ → Term → Account → Refusal → Type 0
StandsInMain H n main v (Spent p w) = (p ≡ AtMain) × (w ≡ v) × ((infer H (test_of H) n [] main v).end ≡ run.NoUnit)
StandsInMain H n main v (TooDeep p) = (p ≡ AtMain) × IsTrue (infer H (test_of H) n [] main v).deep
StandsInMain H n main v _ = Unit {0}

-- the environment of an environment's levels and constraints that keeps nothing
abbrev pub bare : RawEnv → Env
bare raw = env (length raw.levels) raw.constraints []
