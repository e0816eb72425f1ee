-- What passes between two items is done by the directed rules.
use Rattle.std.proofs.Common.{◌≡◌, ℕ, Result, Ok, Err, IfOk}
use Rattle.pc_rules.specs.declared.meter.Account.{Account}
use Rattle.pc_rules.specs.declared.stop.Halt.{Halt}
use Rattle.pc_rules.specs.DirectedRun.{Run, Done}
use Rattle.pc_rules.specs.Follows.{Answers}
use Rattle.type_cert.specs.Retraces.{barred_at}
use Rattle.type_cert.proofs.Retracing.{told_of}

answered : {A : Type 0} (d : Run A) (r : Result A Halt) (u : Account) → Answers d r u → IfOk r (λ a. d.end ≡ Done a u)
answered d (Ok a) u h = h
answered d (Err h) u k = tt

pub condition_holds : {A : Type 0} (d : Run A) (i : ℕ) (r : Result A Halt) (a : A) (u : Account) → Ok a ≡ barred_at i r → Answers d r u → d.end ≡ Done a u
condition_holds d i r a u e h = told_of (λ a. d.end ≡ Done a u) i r a e (answered d r u h)
