-- Runs that have come to another one, and what follows them.
use Rattle.std.proofs.Common.{◌≡◌, ◌∙◌, sym, refl, subst, ◌||◌, Bool, false, Result, Ok, Err}
use Rattle.std.proofs.Math.Bool.{or_assoc, or-false}
use Rattle.pc_rules.specs.declared.meter.Account.{Account}
use Rattle.pc_rules.specs.declared.meter.Meter.{Meter}
use Rattle.pc_rules.specs.declared.stop.Stop.TheVariants.{Spent, TooDeep, Memory}
use Rattle.pc_rules.specs.declared.stop.Halt.{Halt}
use Rattle.pc_rules.specs.declared.stop.Halt.TheVariants.{Stop, Broken as Refusal}
use Rattle.pc_rules.specs.DirectedRun.{Run, End, Done, Refused, NoUnit, Nested, done, bind, end_then, deep_then}
use Rattle.pc_rules.specs.Follows.{Follows, IsAfter, Answers}
use Rattle.pc_rules.specs.Leads.{Leads}
use Rattle.pc_rules.proofs.Meters.{after-trans}
use Rattle.pc_rules.proofs.Following.{leads_leave}

end_unit : {A : Type 0} (e : End A) → e ≡ end_then e (λ a u. Done a u)
end_unit (Done a u) = refl
end_unit (Refused b u) = refl
end_unit NoUnit = refl
end_unit Nested = refl

deep_unit : {A : Type 0} (x : Bool) (e : End A) → x ≡ (x || deep_then e (λ a u. false))
deep_unit x (Done a u) = sym (or-false x)
deep_unit x (Refused b u) = sym (or-false x)
deep_unit x NoUnit = sym (or-false x)
deep_unit x Nested = sym (or-false x)

-- a run, and then its result
pub bind_unit : {A : Type 0} (d : Run A) → d ≡ bind d (λ a u. done a u)
unfolding bind
bind_unit d = λ i. record { end = end_unit d.end i; deep = deep_unit d.deep d.end i }

end_assoc : {A B C : Type 0} (e : End A) (f : A → Account → End B) (g : B → Account → End C) →
    end_then (end_then e f) g ≡ end_then e (λ a u. end_then (f a u) g)
end_assoc (Done a u) f g = refl
end_assoc (Refused b u) f g = refl
end_assoc NoUnit f g = refl
end_assoc Nested f g = refl

deep_assoc : {A B C : Type 0} (x : Bool) (e : End A) (f : A → Account → Run B) (g : B → Account → Run C) →
    ((x || deep_then e (λ a u. (f a u).deep)) || deep_then (end_then e (λ a u. (f a u).end)) (λ b v. (g b v).deep)) ≡
    (x || deep_then e (λ a u. (f a u).deep || deep_then (f a u).end (λ b v. (g b v).deep)))
deep_assoc x (Done a u) f g = or_assoc x (f a u).deep (deep_then (f a u).end (λ b v. (g b v).deep))
deep_assoc x (Refused b u) f g = or-false (x || false)
deep_assoc x NoUnit f g = or-false (x || false)
deep_assoc x Nested f g = or-false (x || false)

-- one after the other is the same however they are grouped
pub bind_assoc : {A B C : Type 0} (d : Run A) (f : A → Account → Run B) (g : B → Account → Run C) → bind (bind d f) g ≡ bind d (λ a u. bind (f a u) g)
unfolding bind
bind_assoc d f g = λ i. record {
  end = end_assoc d.end (λ a u. (f a u).end) (λ b v. (g b v).end) i;
  deep = deep_assoc d.deep d.end f g i;
}

pub leads_start : {A : Type 0} (d e : Run A) → d ≡ e → Leads d e
leads_start d e p = subst (λ x. Leads d x) p (record { end = refl; deep = λ h. h })

pub leads_along : {A : Type 0} (whole d e : Run A) → d ≡ e → Leads whole d → Leads whole e
leads_along whole d e p l = subst (λ x. Leads whole x) p l

-- what follows the rest follows the whole

answers_leads : {A : Type 0} (whole rest : Run A) (r : Result A Halt) (u : Account) → Leads whole rest → Answers rest r u → Answers whole r u
answers_leads whole rest (Ok a) u l h = l.end ∙ h
answers_leads whole rest (Err (Stop Spent)) u l h = (l.end ∙ h.0, h.1)
answers_leads whole rest (Err (Stop TooDeep)) u l h = l.deep h
answers_leads whole rest (Err (Stop Memory)) u l h = tt
answers_leads whole rest (Err (Refusal b)) u l h = l.end ∙ h

pub follows_leads : {A : Type 0} (whole rest : Run A) (r : Result A Halt) (m0 m1 m2 : Meter) → Leads whole rest → IsAfter m0 m1 → Follows rest r m1 m2 → Follows whole r m0 m2
follows_leads whole rest r m0 m1 m2 l after f =
    record { answer = answers_leads whole rest r m2.account l f.answer; after = after-trans m0 m1 m2 after f.after; leaves = leads_leave whole rest m2.account.left l f.leaves }
