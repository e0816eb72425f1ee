-- What is promised of a call that answers a type of which arguments are still to be put in, along the certified walk.
use Rattle.std.specs.Prelude.{◌≡◌, ◌⊎◌, Result, Err}
use Rattle.pc_terms.specs.Syntax.{Term}
use Rattle.pc_terms.specs.declared.term.MakeFault.{MakeFault}
use Rattle.pc_rules.specs.Stops.{stop_of}
use Rattle.pc_rules.specs.Follows.{IsAfter}
use Rattle.calculus_rules.specs.Context.{Context, values}
use Rattle.cert_rules.specs.Walk.{WalkState, Walk, walk_on}
use Rattle.cert_rules.specs.WalkSteps.{reduced}
use Rattle.cert_rules.specs.WalkTyping.{walk_app_found}
use Rattle.type_infer.specs.declared.pending.PendingType.{PendingType}
use Rattle.type_infer.specs.Pending.{Pends, IsMaking}
use Rattle.type_cert.specs.declared.halt.WalkHalt.{WalkHalt}
use Rattle.type_cert.specs.declared.halt.WalkHalt.TheVariants as walks
use Rattle.type_cert.specs.declared.trail.Trail.{Trail}
use Rattle.type_cert.specs.declared.verifier.Verifier.{Verifier}
use Rattle.type_cert.specs.Retraces.{Retraces}
use Rattle.type_cert.specs.Going.{going, inferring}

-- the halt of a fault
abbrev pub walk_halt_of : MakeFault → WalkHalt
walk_halt_of f = walks.Stop (stop_of f)

-- the call and the making of its type go along the walk
pub record RetracesPending (d : Walk Term) (r : Result PendingType WalkHalt) (old new : Trail) : Type 0 where
  pub pends : Pends walk_halt_of (λ q. Retraces d q old new) r
  pub after : IsAfter old.meter new.meter

-- a call halts along the walk; or the term that is asked for can't be made, with no unit won till then
abbrev pub HaltsMaking : {A : Type 0} → Term → Walk A → WalkHalt → Trail → Trail → Type 0
HaltsMaking T d h old new = Retraces d (Err h) old new ⊎ ((f : MakeFault) × (h ≡ walk_halt_of f) × IsMaking T (Err f) × IsAfter old.meter new.meter)

-- the walk of applications, from the type of the function on
abbrev pub reduced_walk : Verifier → Context → Term → Term → WalkState → Walk Term
reduced_walk v c a T s =
    walk_on (reduced v.cert.now v.env.now (values c) T s) (λ r w. walk_app_found v.cert.now v.env.now (inferring v) (going v) c a r.item r.count r.term w)
