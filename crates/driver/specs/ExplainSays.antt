-- What the stages of `explain` say.
use Rattle.std.specs.Prelude.{ℕ, ◌≡◌, ◌⊎◌, List, [], codes}
use Rattle.reports.specs.declared.fact.Fact.{Fact}
use Rattle.reports.specs.Shown.{Shown}
use Rattle.module_run.specs.RunFacts.{AreTold}
use Rattle.dump_reader.specs.declared.environment.RawEnv.{RawEnv}
use Rattle.env_check.specs.declared.refusal.Refusal.{Refusal as Fault}
use Rattle.env_check.specs.declared.refusal.Refusal.TheVariants as faults
use Rattle.driver.specs.declared.reporting.facts.Facts.{Facts}
use Rattle.driver.specs.CheckFacts.{HasCheckFacts}
use Rattle.driver.specs.Judged.{IsAcceptedBy}
use Rattle.driver.specs.Explained.{IsExplanation, IsRefusedAs}
use Rattle.driver.specs.ReportedFacts.{facts_of}
use Rattle.driver.specs.Serve.{IsWell}

-- a refusal of the check; want of memory says nothing
abbrev pub FaultSays : (turns : ℕ) → RawEnv → Fault → Type 0
FaultSays turns e faults.Memory = Unit {0}
FaultSays turns e r = IsRefusedAs turns e r

-- the check accepts the environment, with these facts
pub record IsAcceptance (turns : ℕ) (e : RawEnv) (text : List ℕ) (facts : List Fact) : Type 0 where
  pub accepted : IsAcceptedBy turns e
  pub well : IsWell e
  pub text_is : text ≡ codes "ok\n"
  pub check : Facts
  pub checked : HasCheckFacts turns e check
  pub facts_are : facts ≡ facts_of check

-- or it refuses it, and there are no facts
abbrev pub ExplainSays : (turns : ℕ) → RawEnv → (text : List ℕ) → List Fact → Type 0
ExplainSays turns e text facts = IsAcceptance turns e text facts ⊎ (IsExplanation turns e text × (facts ≡ []))

-- and each report is told them
abbrev pub ExplainIsTold : {X : Type 0} → (X → Shown) → (turns : ℕ) → RawEnv → (text : List ℕ) → (old new : List X) → Type 0
ExplainIsTold shown turns e text old new = (facts : List Fact) × ExplainSays turns e text facts × AreTold shown facts old new
