-- Types of which arguments are still to be put in, and what is promised of a call that answers one: whatever the making of the type then answers,
-- both together answer as the rules say.
use Rattle.std.specs.Prelude.{◌≡◌, Result, Ok, Err, IfOk, IfErr}
use Rattle.trees.specs.Measures.{IsBeyond}
use Rattle.pc_terms.specs.Syntax.{Term, subst_list}
use Rattle.pc_terms.specs.declared.term.MakeFault.{MakeFault}
use Rattle.pc_terms.specs.declared.term.MakeFault.TheVariants.{TooDeep}
use Rattle.pc_rules.specs.declared.meter.Meter.{Meter}
use Rattle.pc_rules.specs.declared.stop.Halt.{Halt}
use Rattle.pc_rules.specs.declared.stop.Halt.TheVariants.{Stop}
use Rattle.pc_rules.specs.Stops.{stop_of}
use Rattle.pc_rules.specs.declared.meter.Account.{Account}
use Rattle.calculus_rules.specs.Environment.{Env}
use Rattle.calculus_rules.specs.Context.{Context, values}
use Rattle.pc_rules.specs.DirectedRun.{Run, bind}
use Rattle.pc_rules.specs.DirectedComparison.{Comparison}
use Rattle.pc_rules.specs.DirectedWeakHead.{whnf}
use Rattle.pc_rules.specs.DirectedTyping.{Typing, app_found}
use Rattle.pc_rules.specs.Follows.{Follows, IsAfter}
use Rattle.type_infer.specs.declared.pending.PendingType.{PendingType}

-- the type: the base with the arguments in the place of its innermost variables, the last in that of variable 0
abbrev pub standing : PendingType → Term
standing p = subst_list 0 p.arguments p.base

-- a term is made, or there is a fault
abbrev pub IsMaking : Term → Result Term MakeFault → Type 0
IsMaking t r = IfOk r (λ u. u ≡ t) × IfErr r (λ e. e ≡ TooDeep → IsBeyond t)

-- the answer of which a making is the end
abbrev pub ended : {H : Type 0} → (MakeFault → H) → Result Term MakeFault → Result Term H
ended halt (Ok t) = Ok t
ended halt (Err f) = Err (halt f)

-- what is promised of an answer holds of each that the making of the type may end in, or the call halts
abbrev pub Pends : {H : Type 0} → (MakeFault → H) → (Result Term H → Type 0) → Result PendingType H → Type 0
Pends halt P (Ok p) = (r : Result Term MakeFault) → IsMaking (standing p) r → P (ended halt r)
Pends halt P (Err h) = P (Err h)

-- the halt of a fault
abbrev pub halt_of : MakeFault → Halt
halt_of f = Stop (stop_of f)

-- the call and the making of its type follow directed rules
pub record FollowsPending (d : Run Term) (r : Result PendingType Halt) (old new : Meter) : Type 0 where
  pub pends : Pends halt_of (λ q. Follows d q old new) r
  pub after : IsAfter old new

-- the rule of applications, from the type of the function on
abbrev pub reduced_rule : Env → Typing → Comparison → Context → Term → Term → Account → Run Term
reduced_rule E inf cmp c a T u = bind (whnf E (values c) T u) (λ W w. app_found E inf cmp c a T W w)
