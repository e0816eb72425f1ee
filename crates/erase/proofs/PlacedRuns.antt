-- How answers follow rules that are done one after the other at places.
use Rattle.std.proofs.Common.{◌≡◌, ◌∙◌, ap, sym, subst, Result, Ok, Err, IsTrue, refl}
use Rattle.pc_rules.specs.declared.broken.Place.{Place}
use Rattle.pc_rules.specs.declared.meter.Account.{Account}
use Rattle.pc_rules.specs.declared.meter.Meter.{Meter}
use Rattle.pc_rules.specs.declared.stop.Stop.TheVariants.{Spent, TooDeep, Memory}
use Rattle.pc_rules.specs.declared.stop.Halt.{Halt}
use Rattle.pc_rules.specs.declared.stop.Halt.TheVariants.{Stop, Broken as Refusal}
use Rattle.pc_rules.specs.DirectedRun.{Run}
use Rattle.pc_rules.specs.DirectedPlaces.{Placed, Gives, gives, outcome_at, at_place, outcome_then, and_then}
use Rattle.pc_rules.specs.Follows.{Follows, IsAfter}
use Rattle.pc_rules.proofs.Following.{or_left, or_right}
use Rattle.pc_rules.proofs.Meters.{after-refl, after-trans}
use Rattle.erase.specs.declared.refusal.HaltAt.{HaltAt}
use Rattle.erase.specs.AtPlaces.{HaltsAt, AnswersAt, FollowsAt}

-- a run at a place

pub at_done : {A : Type 0} (p : Place) (d : Run A) (a : A) (m0 m1 : Meter) → Follows d (Ok a) m0 m1 → FollowsAt (at_place p d) (Ok a) m0 m1
at_done p d a m0 m1 f = record { answer = ap (outcome_at p) f.answer; after = f.after }

pub at_halted : {A : Type 0} (p : Place) (d : Run A) (h : Halt) (m0 m1 : Meter) → Follows d (Err h) m0 m1 → FollowsAt (at_place p d) (Err (record { place = p; halt = h })) m0 m1
at_halted p d (Stop Spent) m0 m1 f = record { answer = (ap (outcome_at p) f.answer.0, f.answer.1); after = f.after }
at_halted p d (Stop TooDeep) m0 m1 f = record { answer = f.answer; after = f.after }
at_halted p d (Stop Memory) m0 m1 f = record { answer = tt; after = f.after }
at_halted p d (Refusal b) m0 m1 f = record { answer = ap (outcome_at p) f.answer; after = f.after }

-- a result, and want of memory

pub given : {A : Type 0} (a : A) (m : Meter) → FollowsAt (gives a m.account) (Ok a) m m
given a m = record { answer = refl; after = after-refl m }

pub no_room : {A : Type 0} (d : Placed A) (p : Place) (m0 m1 : Meter) → IsAfter m0 m1 → FollowsAt d (Err (record { place = p; halt = Stop Memory })) m0 m1
no_room d p m0 m1 a = record { answer = tt; after = a }

-- one after the other

module _ {A B : Type 0} (d : Placed A) (k : A → Account → Placed B) where
  rest_outcome : (a : A) (u : Account) → d.outcome ≡ Gives a u → (and_then d k).outcome ≡ (k a u).outcome
  unfolding and_then
  rest_outcome a u e = ap (λ o. outcome_then o (λ a u. (k a u).outcome)) e

  rest_deep : (a : A) (u : Account) → d.outcome ≡ Gives a u → IsTrue (k a u).deep → IsTrue (and_then d k).deep
  unfolding and_then
  rest_deep a u e h = or_right d.deep _ (rw e h)

  halts_more : (a : A) (u w : Account) (p : Place) (h : Halt) → d.outcome ≡ Gives a u → HaltsAt (k a u) p h w → HaltsAt (and_then d k) p h w
  halts_more a u w p (Stop Spent) e h = (rest_outcome a u e ∙ h.0, h.1)
  halts_more a u w p (Stop TooDeep) e h = rest_deep a u e h
  halts_more a u w p (Stop Memory) e h = tt
  halts_more a u w p (Refusal b) e h = rest_outcome a u e ∙ h

  answers_more : (a : A) (u w : Account) (r : Result B HaltAt) → d.outcome ≡ Gives a u → AnswersAt (k a u) r w → AnswersAt (and_then d k) r w
  answers_more a u w (Ok b) e h = rest_outcome a u e ∙ h
  answers_more a u w (Err x) e h = halts_more a u w x.place x.halt e h

  first_halts : (p : Place) (h : Halt) (w : Account) → HaltsAt d p h w → HaltsAt (and_then d k) p h w
  unfolding and_then
  first_halts p (Stop Spent) w h = (ap (λ o. outcome_then o (λ a u. (k a u).outcome)) h.0, h.1)
  first_halts p (Stop TooDeep) w h = or_left d.deep _ h
  first_halts p (Stop Memory) w h = tt
  first_halts p (Refusal b) w h = ap (λ o. outcome_then o (λ a u. (k a u).outcome)) h

  -- the first part answered, and the rest follows from there
  pub then_goes : (a : A) (r : Result B HaltAt) (m0 m1 m2 : Meter) → FollowsAt d (Ok a) m0 m1 → FollowsAt (k a m1.account) r m1 m2 → FollowsAt (and_then d k) r m0 m2
  then_goes a r m0 m1 m2 f g =
      record { answer = answers_more a m1.account m2.account r f.answer g.answer; after = after-trans m0 m1 m2 f.after g.after }

  -- the first part is refused or stops
  pub then_halts : (x : HaltAt) (m0 m1 : Meter) → FollowsAt d (Err x) m0 m1 → FollowsAt (and_then d k) (Err x) m0 m1
  then_halts x m0 m1 f = record { answer = first_halts x.place x.halt m1.account f.answer; after = f.after }

-- a halt that names its place, and want of memory wherever it is said to stand

pub at_halted_by : {A : Type 0} (p : Place) (d : Run A) (x : HaltAt) (m0 m1 : Meter) → x.place ≡ p → Follows d (Err x.halt) m0 m1 → FollowsAt (at_place p d) (Err x) m0 m1
at_halted_by p d x m0 m1 e f =
    subst (λ q. FollowsAt (at_place p d) (Err (record { place = q; halt = x.halt })) m0 m1) (sym e) (at_halted p d x.halt m0 m1 f)

pub no_room_by : {A : Type 0} (d : Placed A) (x : HaltAt) (m0 m1 : Meter) → x.halt ≡ Stop Memory → IsAfter m0 m1 → FollowsAt d (Err x) m0 m1
no_room_by d x m0 m1 e a =
    subst (λ h. FollowsAt d (Err (record { place = x.place; halt = h })) m0 m1) (sym e) (no_room d x.place m0 m1 a)
