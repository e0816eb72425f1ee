-- How answers of rules that need no meter follow rules that are done one after the other.
use Rattle.std.proofs.Common.{◌≡◌, ◌∙◌, refl, Result, Ok, Err, None, lit≤}
use Rattle.pc_terms.specs.Syntax.{Term}
use Rattle.calculus_rules.specs.Environment.{Env}
use Rattle.calculus_rules.specs.Context.{Values}
use Rattle.pc_rules.specs.DirectedWeakHead.{weak_next, whnf}
use Rattle.pc_rules.specs.declared.meter.Account.{Account}
use Rattle.pc_rules.specs.declared.meter.Meter.{Meter}
use Rattle.pc_rules.specs.declared.stop.Stop.TheVariants.{Spent, TooDeep, Memory}
use Rattle.pc_rules.specs.declared.stop.Halt.{Halt}
use Rattle.pc_rules.specs.declared.stop.Halt.TheVariants.{Stop, Broken as Refusal}
use Rattle.pc_rules.specs.DirectedRun.{Run, bind}
use Rattle.pc_rules.specs.Follows.{Answers}
use Rattle.pc_rules.proofs.Following.{bind_end, bind_deep, follows_whnf_stays}

-- a meter of an account, in which no rule stands
abbrev meter_of : Account → Meter
meter_of u = record { account = u; nest = 0; nested = lit≤ tt }

pub answers_bind : {A B : Type 0} (d : Run A) (k : A → Account → Run B) (a : A) (u : Account) (r : Result B Halt) → Answers d (Ok a) u → Answers (k a u) r u → Answers (bind d k) r u
answers_bind d k a u (Ok b) p q = bind_end d k a u p ∙ q
answers_bind d k a u (Err (Stop Spent)) p q = (bind_end d k a u p ∙ q.0, q.1)
answers_bind d k a u (Err (Stop TooDeep)) p q = bind_deep d k a u p q
answers_bind d k a u (Err (Stop Memory)) p q = tt
answers_bind d k a u (Err (Refusal b)) p q = bind_end d k a u p ∙ q

-- a term without a step is its own weak-head normal form
pub answers_stays : (E : Env) (V : Values) (t : Term) (u : Account) → weak_next E V t ≡ None → Answers (whnf E V t u) (Ok t) u
answers_stays E V t u e = (follows_whnf_stays E V t t (meter_of u) e refl).answer
