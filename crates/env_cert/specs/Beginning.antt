-- What is found before the declarations, as a walk's answer.
use Rattle.std.specs.Prelude.{◌≡◌, ℕ, Result, Ok, Err}
use Rattle.dump_reader.specs.declared.environment.RawEnv.{RawEnv}
use Rattle.pc_rules.specs.declared.stop.Stop.TheVariants as stops
use Rattle.env_check.specs.declared.refusal.BareRefusal.{BareRefusal}
use Rattle.env_check.specs.declared.refusal.BareRefusal.TheVariants as refusals
use Rattle.cert_rules.specs.Walk.{Items}
use Rattle.type_cert.specs.declared.halt.WalkHalt.{WalkHalt}
use Rattle.type_cert.specs.declared.halt.WalkHalt.TheVariants.{Stop, Barred}
use Rattle.type_cert.specs.declared.trail.Trail.{Trail}
use Rattle.env_cert.specs.Verified.{WalksAlong}

-- how a walk halts before the declarations: where a rule is broken it is refused at item i
abbrev pub first_halt : ℕ → BareRefusal → WalkHalt
first_halt i (refusals.Broken p b) = Barred i
first_halt i refusals.Memory = Stop stops.Memory

abbrev pub barred_first : {A : Type 0} → ℕ → Result A BareRefusal → Result A WalkHalt
barred_first i (Ok a) = Ok a
barred_first i (Err e) = Err (first_halt i e)

-- the walk halts before the declarations, with each certificate, where it stands at item i
abbrev pub HaltsFirst : RawEnv → ℕ → WalkHalt → Type 0
HaltsFirst raw i h = (cert : Items) (t : Trail) → t.at ≡ i → WalksAlong raw cert (Err h) t t
