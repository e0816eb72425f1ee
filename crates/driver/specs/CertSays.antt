-- What the stages of `cert` say.
use Rattle.std.specs.Prelude.{ℕ, Result, Ok, Err}
use Rattle.pc_rules.specs.declared.meter.Account.{Account}
use Rattle.pc_rules.specs.DirectedRun.{most_nested}
use Rattle.cert_rules.specs.Walk.{Items}
use Rattle.dump_reader.specs.declared.environment.RawEnv.{RawEnv}
use Rattle.env_making.specs.Certified.{DirectedFound}
use Rattle.env_making.specs.declared.refusal.CertRefusal.{CertRefusal}
use Rattle.env_making.specs.declared.refusal.CertRefusal.TheVariants.{Memory}
use Rattle.driver.specs.declared.refusal.Refusal.{Refusal}
use Rattle.driver.specs.CertEnds.{IsCertifiedWith}
use Rattle.driver.specs.Judged.{start}
use Rattle.driver.specs.Serve.{CheckSays}

-- the directed rules that write accept the environment, or they refuse it as those of the check do
abbrev pub MakingSays : (turns : ℕ) → Result Items Refusal → RawEnv → Type 0
MakingSays turns (Ok items) e = (u : Account) × IsCertifiedWith turns e items u
MakingSays turns (Err r) e = CheckSays turns (Err r) e

-- the directed rules refuse the environment so; want of memory says nothing
abbrev pub WhySays : (turns : ℕ) → RawEnv → CertRefusal → Type 0
WhySays turns e Memory = Unit {0}
WhySays turns e r = (u : Account) × DirectedFound e most_nested (start turns) (Err r) u
