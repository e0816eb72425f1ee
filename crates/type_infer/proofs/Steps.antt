-- The steps of a rule, one after the other, by what the calls that take them promise.
use Rattle.std.proofs.Common.{◌≡◌, Result, Ok, Err, IsErrAnd}
use Rattle.std.proofs.lemmas.Result.{err_from_is_err_and}
use Rattle.pc_rules.specs.declared.meter.Account.{Account}
use Rattle.pc_rules.specs.declared.meter.Meter.{Meter}
use Rattle.pc_rules.specs.declared.stop.Halt.{Halt}
use Rattle.pc_rules.specs.DirectedRun.{Run, bind, Leaves}
use Rattle.pc_rules.specs.Follows.{Follows, Answers}
use Rattle.pc_rules.proofs.Following.{follows_bind, follows_err, follows_still}
use Rattle.type_infer.specs.Ready.{done_with}
use Rattle.type_infer.specs.Unread.{FollowsUnread}

-- a step is done, and the rest follows
pub and_then : {A B : Type 0} {d : Run A} {a : A} {r : Result B Halt} {m0 m1 m2 : Meter} (k : A → Account → Run B) →
    Follows d (Ok a) m0 m1 → Follows (k a m1.account) r m1 m2 → Follows (bind d k) r m0 m2
and_then k f g = follows_bind _ k _ _ _ _ _ f g

-- a step is refused or stops, and what would come then never goes back on units
pub halts : {A B : Type 0} {d : Run A} {h : Halt} {m0 m1 : Meter} (k : A → Account → Run B) → Follows d (Err h) m0 m1 → ((a : A) (u : Account) → Leaves (k a u).end u.left) →
    Follows (bind d k) (Err h) m0 m1
halts k f q = follows_err _ k _ _ _ f q

-- a step does nothing with the meter
pub still : {A : Type 0} {d : Run A} {r : Result A Halt} {m : Meter} → Answers d r m.account → Leaves d.end m.account.left → Follows d r m m
still h l = follows_still _ _ _ h l

-- what a `?` gives on is the halt of its call, also where only the answer without its result is told of
pub passed_on : {A : Type 0} {d : Run A} {r : Result A Halt} {h : Halt} {m0 m1 : Meter} → IsErrAnd r (λ e. e ≡ h) → Follows d (Err h) m0 m1 → Follows d r m0 m1
passed_on {r = r} e f =
    let p = err_from_is_err_and r e in
    rw (p.1, p.2) f

pub passed_with : {A : Type 0} (r : Result A Halt) {d : Run (Unit {0})} {h : Halt} {m0 m1 : Meter} → IsErrAnd r (λ e. e ≡ h) → Follows d (Err h) m0 m1 → Follows d (done_with r) m0 m1
passed_with r e f =
    let p = err_from_is_err_and r e in
    rw (p.1, p.2) f

-- a call that leaves its result out
pub unread_done : {A : Type 0} {d : Run A} {a : A} {m0 m1 : Meter} → Follows d (Ok a) m0 m1 → FollowsUnread d (Ok tt) m0 m1
unread_done {a = a} f = record { unread = (a, f); after = f.after }

pub unread_halts : {A : Type 0} {d : Run A} {h : Halt} {m0 m1 : Meter} → Follows d (Err h) m0 m1 → FollowsUnread d (Err h) m0 m1
unread_halts f = record { unread = f; after = f.after }

pub unread_passed : {A : Type 0} {d : Run A} {r : Result (Unit {0}) Halt} {h : Halt} {m0 m1 : Meter} → IsErrAnd r (λ e. e ≡ h) → Follows d (Err h) m0 m1 → FollowsUnread d r m0 m1
unread_passed {r = r} e f =
    let p = err_from_is_err_and r e in
    rw (p.1, p.2) (unread_halts f)
