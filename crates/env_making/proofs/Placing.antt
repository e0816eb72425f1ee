-- How answers come from runs that write at places of an environment, one after the other.
use Rattle.std.proofs.Common.{◌≡◌, ◌∙◌, sym, ap, refl, [], ◌++◌, IsTrue, Result, Ok, Err}
use Rattle.std.proofs.lemmas.List.{append_assoc, append-nil}
use Rattle.pc_terms.specs.Syntax.{Term}
use Rattle.calculus_rules.specs.Environment.{Env}
use Rattle.pc_rules.specs.declared.broken.Place.{Place}
use Rattle.pc_rules.specs.declared.meter.Account.{Account}
use Rattle.pc_rules.specs.declared.stop.Stop.TheVariants as stops
use Rattle.pc_rules.specs.declared.stop.Halt.{Halt}
use Rattle.pc_rules.specs.declared.stop.Halt.TheVariants as halts
use Rattle.pc_rules.specs.DirectedRun.{Run, Done}
use Rattle.pc_rules.specs.DirectedPlaces.{Placed, outcome_at, outcome_then}
use Rattle.pc_rules.specs.Follows.{Halts, IsAfter}
use Rattle.pc_rules.proofs.Following.{or_left, or_right}
use Rattle.pc_rules.proofs.Meters.{after-refl, after-trans}
use Rattle.cert_rules.specs.Walk.{Items}
use Rattle.cert_rules.specs.Writing.{Wrote, wrote}
use Rattle.cert_rules.specs.MakingDeclarations.{outcome_before, write_placed, gives_made}
use Rattle.script_making.specs.declared.draft.Draft.{Draft}
use Rattle.script_making.specs.Makes.{Makes}
use Rattle.env_making.specs.declared.refusal.CertRefusal.{CertRefusal}
use Rattle.env_making.specs.declared.refusal.CertRefusal.TheVariants.{Broken, Spent, TooDeep, Memory}
use Rattle.env_making.specs.Refusals.{halted_at}
use Rattle.env_making.specs.Placing.{PlacedWrites, MakesPlaced}

module _ {A B : Type 0} (p : Place) (d : Run (Wrote A)) (k : A → Account → Placed (Wrote B)) where
  -- the outcome of a part that is done and of the rest, and whether they have passed a limit
  on_outcome : (w : Wrote A) (u : Account) → d.end ≡ Done w u → (write_placed p d k).outcome ≡ outcome_before w.items (k w.value u).outcome
  unfolding write_placed
  on_outcome w u e = ap (λ x. outcome_then (outcome_at p x) (λ w u. outcome_before w.items (k w.value u).outcome)) e

  on_deep : (w : Wrote A) (u : Account) → d.end ≡ Done w u → IsTrue (k w.value u).deep → IsTrue (write_placed p d k).deep
  unfolding write_placed
  on_deep w u e h = or_right d.deep _ (rw e h)

  writes_more : (is : Items) (a : A) (t0 t1 t2 : Draft) (r : Result B CertRefusal) → d.end ≡ Done (wrote is a) t1.meter.account → t1.written.items ≡ t0.written.items ++ is →
      PlacedWrites (k a t1.meter.account) r t1 t2 → PlacedWrites (write_placed p d k) r t0 t2
  writes_more is a t0 t1 t2 (Ok b) e w h = (
    is ++ h.0,
    on_outcome (wrote is a) t1.meter.account e ∙ ap (λ x. outcome_before is x) h.1,
    h.2 ∙ ap (λ xs. xs ++ h.0) w ∙ append_assoc t0.written.items is h.0,
  )
  writes_more is a t0 t1 t2 (Err (Broken q b)) e w h = on_outcome (wrote is a) t1.meter.account e ∙ ap (λ x. outcome_before is x) h
  writes_more is a t0 t1 t2 (Err Spent) e w h = (on_outcome (wrote is a) t1.meter.account e ∙ ap (λ x. outcome_before is x) h.0, h.1)
  writes_more is a t0 t1 t2 (Err TooDeep) e w h = on_deep (wrote is a) t1.meter.account e h
  writes_more is a t0 t1 t2 (Err Memory) e w h = tt

  -- the part is made, and the rest is made from there
  pub placed_on : {a : A} {r : Result B CertRefusal} {t0 t1 t2 : Draft} → Makes d (Ok a) t0 t1 → MakesPlaced (k a t1.meter.account) r t1 t2 → MakesPlaced (write_placed p d k) r t0 t2
  placed_on {a = a} {r = r} {t0 = t0} {t1 = t1} {t2 = t2} m q =
      record { answer = writes_more m.answer.0 a t0 t1 t2 r m.answer.1 m.answer.2 q.answer; after = after-trans t0.meter t1.meter t2.meter m.after q.after }

  writes_halt : (h : Halt) (t0 t1 : Draft) → Halts d h t1.meter.account → PlacedWrites (write_placed p d k) (Err (halted_at p h)) t0 t1
  unfolding write_placed
  writes_halt (halts.Stop stops.Spent) t0 t1 h = (ap (λ x. outcome_then (outcome_at p x) (λ w u. outcome_before w.items (k w.value u).outcome)) h.0, h.1)
  writes_halt (halts.Stop stops.TooDeep) t0 t1 h = or_left d.deep _ h
  writes_halt (halts.Stop stops.Memory) t0 t1 h = tt
  writes_halt (halts.Broken b) t0 t1 h = ap (λ x. outcome_then (outcome_at p x) (λ w u. outcome_before w.items (k w.value u).outcome)) h

  -- it is refused or stops
  pub placed_halts : {h : Halt} {t0 t1 : Draft} → Makes d (Err h) t0 t1 → MakesPlaced (write_placed p d k) (Err (halted_at p h)) t0 t1
  placed_halts {h = h} {t0 = t0} {t1 = t1} m = record { answer = writes_halt h t0 t1 m.answer; after = m.after }

pub placed_memory : {A : Type 0} (d : Placed (Wrote A)) (t0 t1 : Draft) → IsAfter t0.meter t1.meter → MakesPlaced d (Err Memory) t0 t1
placed_memory d t0 t1 f = record { answer = tt; after = f }

pub placed_given : (E : Env) (T : Term) (t : Draft) → MakesPlaced (gives_made E T t.meter.account) (Ok (E, T)) t t
placed_given E T t = record { answer = ([], refl, sym (append-nil t.written.items)); after = after-refl t.meter }
