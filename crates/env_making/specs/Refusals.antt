-- What halts the making of a certificate, as its refusal, and its end as a certificate.
use Rattle.std.specs.Prelude.{◌≡◌, ◌⊎◌, Result, Ok, Err}
use Rattle.pc_terms.specs.Syntax.{Term}
use Rattle.calculus_rules.specs.Environment.{Env}
use Rattle.pc_rules.specs.declared.broken.Place.{Place}
use Rattle.pc_rules.specs.declared.stop.Stop.TheVariants as stops
use Rattle.pc_rules.specs.declared.stop.Halt.{Halt}
use Rattle.pc_rules.specs.declared.stop.Halt.TheVariants as halts
use Rattle.env_check.specs.declared.refusal.BareRefusal.{BareRefusal}
use Rattle.env_check.specs.declared.refusal.BareRefusal.TheVariants as refusals
use Rattle.cert_rules.specs.Walk.{Items}
use Rattle.env_making.specs.declared.refusal.CertRefusal.{CertRefusal}
use Rattle.env_making.specs.declared.refusal.CertRefusal.TheVariants.{Broken, Spent, TooDeep, Memory}

-- what halts a step, at its place
abbrev pub halted_at : Place → Halt → CertRefusal
halted_at p (halts.Stop stops.Spent) = Spent
halted_at p (halts.Stop stops.TooDeep) = TooDeep
halted_at p (halts.Stop stops.Memory) = Memory
halted_at p (halts.Broken b) = Broken p b

-- what is refused before the declarations
abbrev pub refused_first : BareRefusal → CertRefusal
refused_first (refusals.Broken p b) = Broken p b
refused_first refusals.Memory = Memory

-- an end, with what was written
abbrev pub certified : Items → Result (Env × Term) CertRefusal → Result Items CertRefusal
certified written (Ok p) = Ok written
certified written (Err e) = Err e

-- or there was no memory for the certificate
abbrev pub IsCertified : Items → Result (Env × Term) CertRefusal → Result Items CertRefusal → Type 0
IsCertified written answer result = (result ≡ certified written answer) ⊎ (result ≡ Err Memory)
