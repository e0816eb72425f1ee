-- No limit of depth is passed by the directed rules of a job on an environment.
use Rattle.std.specs.Prelude.{◌≡◌, ℕ, List, false}
use Rattle.pc_rules.specs.DirectedDeclarations.{Checked}
use Rattle.pc_rules.specs.DirectedFirstOrder.{first_order_search}
use Rattle.pc_rules.specs.DirectedRun.{Run as RuleRun}
use Rattle.dump_reader.specs.Front.{front_bytes}
use Rattle.dump_reader.specs.declared.environment.RawEnv.{RawEnv}
use Rattle.command_line.specs.declared.job.Job.{Job}
use Rattle.command_line.specs.declared.job.Job.TheVariants.{Check, Eval, Run, Explain, Export, Call, Verify, Cert}
use Rattle.driver.specs.Exported.{CallRulesAreWithin}
use Rattle.driver.specs.ExecEnds.{Accepting, Searching, erasure_of}
use Rattle.driver.specs.Judged.{IsJudged}
use Rattle.driver.specs.SourceEnds.{Ended, IsSourceRun}
use Rattle.driver.specs.Texts.{SpellsWithin}
use Rattle.driver.specs.VerifyEnds.{WalkIsShallow}

-- by those of the check, `cert` has no others; and of what comes after it by `eval`, by the jobs that make main's module, and by `export` and `call`; `explain` answers whatever they come to

abbrev pub CheckIsShallow : (turns : ℕ) → RawEnv → Type 0
CheckIsShallow turns e = (rules : Checked) → IsJudged turns e rules → rules.deep ≡ false

pub record EvalIsShallow (turns : ℕ) (e : RawEnv) : Type 0 where
  pub check : CheckIsShallow turns e
  pub run : (r : RuleRun Ended) → IsSourceRun turns e r → r.deep ≡ false

pub record ModuleIsShallow (turns : ℕ) (e : RawEnv) : Type 0 where
  pub check : CheckIsShallow turns e
  pub search : (x : Accepting turns e) → (first_order_search x.kept x.type x.left).deep ≡ false
  pub erasure : (x : Searching turns e) → (erasure_of x.before.kept e.main x.left).deep ≡ false

pub record CallIsShallow (turns : ℕ) (e : RawEnv) : Type 0 where
  pub check : CheckIsShallow turns e
  pub rules : CallRulesAreWithin turns e

abbrev pub IsShallow : Job → (turns : ℕ) → RawEnv → Type 0
IsShallow Check turns e = CheckIsShallow turns e
IsShallow Eval turns e = EvalIsShallow turns e
IsShallow Run turns e = Unit {0}
IsShallow Explain turns e = Unit {0}
IsShallow Export turns e = CallIsShallow turns e
IsShallow Call turns e = CallIsShallow turns e
IsShallow Verify turns e = Unit {0}
IsShallow Cert turns e = CheckIsShallow turns e
IsShallow _ turns e = ModuleIsShallow turns e

-- so of the environment that a text spells
abbrev pub IsShallowFor : Job → (turns : ℕ) → List ℕ → Type 0
IsShallowFor job turns text = (e : RawEnv) → SpellsWithin text e → IsShallow job turns e

-- so of that of a job's input, which by `call` and `verify` its front spells; by `verify` the walk along the certificate behind it passes none
abbrev pub IsShallowOn : Job → (turns : ℕ) → List ℕ → Type 0
IsShallowOn Call turns bytes = IsShallowFor Call turns (front_bytes bytes)
IsShallowOn Verify turns bytes = (e : RawEnv) → SpellsWithin (front_bytes bytes) e → WalkIsShallow turns e bytes
IsShallowOn job turns bytes = IsShallowFor job turns bytes
