-- Runs that write, one after the other, are the same however they are grouped.
use Rattle.std.proofs.Common.{◌≡◌, ◌∙◌, ap, refl, subst, ◌||◌, Result, Ok, Err, Bool, false, [], ◌++◌}
use Rattle.std.proofs.Math.Bool.{or_assoc, or-false}
use Rattle.std.proofs.lemmas.List.{append_assoc}
use Rattle.pc_rules.specs.declared.meter.Account.{Account}
use Rattle.pc_rules.specs.declared.stop.Halt.{Halt}
use Rattle.pc_rules.specs.DirectedRun.{Run, End, Done, Refused, NoUnit, Nested, done, end_then, deep_then}
use Rattle.cert_rules.specs.Walk.{Items}
use Rattle.cert_rules.specs.Writing.{Wrote, wrote, writing_steps, silent, end_before, write_on}
use Rattle.script_making.specs.declared.draft.Draft.{Draft}
use Rattle.script_making.specs.Makes.{Makes}
use Rattle.script_making.proofs.Making.{makes_on, makes_err}

nothing_before : {A : Type 0} (e : End (Wrote A)) → end_before [] e ≡ e
nothing_before (Done w u) = refl
nothing_before (Refused b u) = refl
nothing_before NoUnit = refl
nothing_before Nested = refl

both_before : {A : Type 0} (is js : Items) (e : End (Wrote A)) → end_before (is ++ js) e ≡ end_before is (end_before js e)
both_before is js (Done w u) = ap (λ xs. Done (wrote xs w.value) u) (append_assoc is js w.items)
both_before is js (Refused b u) = refl
both_before is js NoUnit = refl
both_before is js Nested = refl

deep_before : {A : Type 0} (is : Items) (e : End (Wrote A)) (g : A → Account → Bool) → deep_then (end_before is e) (λ x v. g x.value v) ≡ deep_then e (λ x v. g x.value v)
deep_before is (Done w u) g = refl
deep_before is (Refused b u) g = refl
deep_before is NoUnit g = refl
deep_before is Nested g = refl

module _ {A B : Type 0} (is : Items) (g : A → Account → Run (Wrote B)) where
  then_before : (e : End (Wrote A)) →
      end_then (end_before is e) (λ x v. end_before x.items (g x.value v).end) ≡ end_before is (end_then e (λ x v. end_before x.items (g x.value v).end))
  then_before (Done w u) = both_before is w.items (g w.value u).end
  then_before (Refused b u) = refl
  then_before NoUnit = refl
  then_before Nested = refl

module _ {A B C : Type 0} (f : A → Account → Run (Wrote B)) (g : B → Account → Run (Wrote C)) where
  assoc_at : (e : End (Wrote A)) (b : Bool) → write_on (write_on (record { end = e; deep = b }) f) g ≡ write_on (record { end = e; deep = b }) (λ a u. write_on (f a u) g)
  unfolding write_on
  assoc_at (Done w u) b = λ i. record {
    end = then_before w.items g (f w.value u).end i;
    deep = (ap (λ x. (b || (f w.value u).deep) || x) (deep_before w.items (f w.value u).end (λ y v. (g y v).deep)) ∙ or_assoc b (f w.value u).deep (deep_then (f w.value u).end (λ x v. (g x.value v).deep))) i;
  }
  assoc_at (Refused x u) b = λ i. record { end = Refused x u; deep = or-false (b || false) i }
  assoc_at NoUnit b = λ i. record { end = NoUnit; deep = or-false (b || false) i }
  assoc_at Nested b = λ i. record { end = Nested; deep = or-false (b || false) i }

  pub write_assoc : (d : Run (Wrote A)) → write_on (write_on d f) g ≡ write_on d (λ a u. write_on (f a u) g)
  write_assoc d = assoc_at d.end d.deep

pub done_on : {A B : Type 0} (a : A) (u : Account) (k : A → Account → Run (Wrote B)) → write_on (silent (done a) u) k ≡ k a u
unfolding write_on writing_steps
done_on a u k = λ i. record { end = nothing_before (k a u).end i; deep = (k a u).deep }

-- what asks nothing of a result comes from what forgets it

module _ {A B : Type 0} (k : Account → Run (Wrote B)) where
  abbrev without_result : Run (Wrote A) → Run (Wrote (Unit {0}))
  without_result d = write_on d (λ _ w. silent (done tt) w)

  goes_on : (d : Run (Wrote A)) → write_on (without_result d) (λ _ w. k w) ≡ write_on d (λ _ w. k w)
  goes_on d = write_assoc (λ _ w. silent (done tt) w) (λ _ w. k w) d ∙ (λ i. write_on d (λ _ w. done_on tt w (λ _ x. k x) i))

  pub makes_after : (d : Run (Wrote A)) {r : Result B Halt} {t0 t1 t2 : Draft} → Makes (without_result d) (Ok tt) t0 t1 → Makes (k t1.meter.account) r t1 t2 → Makes (write_on d (λ _ w. k w)) r t0 t2
  makes_after d {r = r} {t0 = t0} {t2 = t2} p q = subst (λ w. Makes w r t0 t2) (goes_on d) (makes_on (λ _ w. k w) p q)

  pub makes_before : (d : Run (Wrote A)) {h : Halt} {t0 t1 : Draft} → Makes (without_result d) (Err h) t0 t1 → Makes (write_on d (λ _ w. k w)) (Err h) t0 t1
  makes_before d {h = h} {t0 = t0} {t1 = t1} p = subst (λ w. Makes w (Err h) t0 t1) (goes_on d) (makes_err (λ _ w. k w) p)
