-- How `cert` ends: the directed rules that write certificates accept the environment and have written one, or they refuse it as those of the check do. What is written
-- (`certified_text`) is the environment's canonical text and the certificate's.
use Rattle.std.specs.Prelude.{ℕ, ◌≡◌, ◌≤◌, ◌-◌, List, length, Option}
use Rattle.pc_terms.specs.Syntax.{Term}
use Rattle.calculus_rules.specs.Environment.{Env}
use Rattle.pc_rules.specs.declared.meter.Account.{Account}
use Rattle.pc_rules.specs.DirectedPlaces.{Gives}
use Rattle.pc_rules.specs.Entailment.{entailed_by}
use Rattle.pc_rules.specs.DirectedRun.{most_nested}
use Rattle.cert_rules.specs.MakingDeclarations.{Made, make_environment}
use Rattle.cert_rules.specs.Walk.{Items, WalkEnd, Passed, Crowded}
use Rattle.cert_rules.specs.Writing.{wrote}
use Rattle.cert_text.specs.CertText.{AreSmall}
use Rattle.dump_reader.specs.declared.environment.RawEnv.{RawEnv}
use Rattle.env_check.specs.Rules.{IsFound, givens}
use Rattle.driver.specs.Judged.{start}
use Rattle.driver.specs.SourceEnds.{IsAcceptedWith}
use Rattle.driver.specs.VerifyEnds.{walk_along}

-- the directed rules that write, of an environment, with the units of a job, and with this cycle of the graph, if one is found; 2,048 rules may stand in one another
abbrev pub making_with : (turns : ℕ) → RawEnv → Option (List ℕ) → Made
making_with turns e cycle = make_environment e.levels e.constraints cycle (entailed_by (length e.levels) e.constraints) most_nested (givens e) e.main (start turns)

-- they accept the environment, and these items are what they wrote; so many units are left
pub record IsMakingOf (turns : ℕ) (e : RawEnv) (items : Items) (u : Account) : Type 0 where
  pub cycle : Option (List ℕ)
  pub found : IsFound e cycle
  pub kept : Env
  pub type : Term
  pub makes : (making_with turns e cycle).outcome ≡ Gives (wrote items (kept, type)) u

-- the walk comes to its end, or more than 2,048 inferences and scripts stand in one another
abbrev pub IsNotRefused : WalkEnd (Env × Term) → Type 0
IsNotRefused (Passed r s) = Unit {0}
IsNotRefused Crowded = Unit {0}
IsNotRefused _ = ⊥

-- with at least so many units, the walk of the environment along the certificate is refused at no item and doesn't run out of units, whatever cycle is found
abbrev pub IsTakenWith : (units : ℕ) → RawEnv → Items → Type 0
IsTakenWith units e items = (turns : ℕ) → units ≤ turns → (cycle : Option (List ℕ)) → IsFound e cycle → IsNotRefused (walk_along turns e items cycle).end

-- The rules of the check accept the environment too, with as many units left; and `verify` takes the certificate with as many as making took.
pub record IsCertifiedWith (turns : ℕ) (e : RawEnv) (items : Items) (u : Account) : Type 0 where
  pub making : IsMakingOf turns e items u
  pub kept : Env
  pub type : Term
  pub accepted : IsAcceptedWith turns e kept type u
  pub taken : IsTakenWith (turns - u.left) e items

-- such a certificate, whose numbers can be held, so that its text is read back
pub record IsCertified (turns : ℕ) (e : RawEnv) (items : Items) : Type 0 where
  pub left : Account
  pub made : IsCertifiedWith turns e items left
  pub small : AreSmall items
