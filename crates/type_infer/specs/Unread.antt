-- The sort of a term by its type, and what is promised of a call that tells whether there is a result and leaves the result out.
use Rattle.std.specs.Prelude.{Result, Ok, Err}
use Rattle.universe_levels.specs.declared.sort.Sort.{Sort}
use Rattle.pc_terms.specs.Syntax.{Term}
use Rattle.calculus_rules.specs.Environment.{Env}
use Rattle.calculus_rules.specs.Context.{Context, values}
use Rattle.pc_rules.specs.declared.meter.Account.{Account}
use Rattle.pc_rules.specs.declared.meter.Meter.{Meter}
use Rattle.pc_rules.specs.declared.stop.Halt.{Halt}
use Rattle.pc_rules.specs.DirectedRun.{Run, bind}
use Rattle.pc_rules.specs.DirectedTyping.{Typing, sort_found}
use Rattle.pc_rules.specs.DirectedWeakHead.{whnf}
use Rattle.pc_rules.specs.Follows.{Follows, IsAfter}

-- the sort of a term from its type on
abbrev pub sort_of_type : Env → Typing → Context → Term → Account → Run Sort
sort_of_type E inf c T u = bind (whnf E (values c) T u) (λ W w. sort_found inf c T W w)

-- what is promised of an answer holds of one with some result, or the call halts
abbrev pub Unread : {A : Type 0} → (Result A Halt → Type 0) → Result (Unit {0}) Halt → Type 0
Unread {A = A} P (Ok x) = (a : A) × P (Ok a)
Unread P (Err h) = P (Err h)

-- the call follows directed rules, and leaves their result out
pub record FollowsUnread {A : Type 0} (d : Run A) (r : Result (Unit {0}) Halt) (old new : Meter) : Type 0 where
  pub unread : Unread {A = A} (λ q. Follows d q old new) r
  pub after : IsAfter old new

-- an answer with the result that was left out
abbrev pub with_result : {A : Type 0} → A → Result (Unit {0}) Halt → Result A Halt
with_result a (Ok x) = Ok a
with_result a (Err h) = Err h
