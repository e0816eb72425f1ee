-- How the answers of the steps follow the rules of a whole environment.
use Rattle.std.proofs.Common.{◌≡◌, ◌∙◌, ℕ, suc, refl, sym, ap, subst, List, [], ◌∷◌, length, Some, slice_get, Result, Ok, Err}
use Rattle.universe_levels.specs.declared.constraint.Constraint.{Constraint}
use Rattle.pc_terms.specs.Syntax.{Term}
use Rattle.pc_rules.specs.declared.accepted.Accepted.{Accepted}
use Rattle.calculus_rules.specs.declared.declaration.Kept.{Kept}
use Rattle.pc_rules.specs.declared.meter.Account.{Account}
use Rattle.pc_rules.specs.declared.broken.Place.{Place}
use Rattle.pc_rules.specs.declared.broken.Place.TheVariants.{Declaration as AtDeclaration, Main as AtMain}
use Rattle.pc_rules.specs.declared.stop.Stop.TheVariants as stops
use Rattle.pc_rules.specs.declared.stop.Halt.{Halt}
use Rattle.pc_rules.specs.declared.stop.Halt.TheVariants as halts
use Rattle.calculus_rules.specs.Environment.{Env}
use Rattle.calculus_rules.specs.Accepted.{env}
use Rattle.pc_rules.specs.Follows.{Halts}
use Rattle.pc_rules.specs.DirectedRun as run
use Rattle.pc_rules.specs.DirectedRun.{Run}
use Rattle.pc_rules.specs.DirectedComparison.{Test}
use Rattle.pc_rules.specs.Entailment.{test_of}
use Rattle.pc_rules.specs.DirectedTyping.{infer}
use Rattle.pc_rules.specs.DirectedPlaces.{and_then}
use Rattle.pc_rules.specs.DirectedDeclarations.{Given, declaration_rule, Accepts, accepts, Checked, placed_end, placed, main_rule, declarations_rule}
use Rattle.pc_rules.proofs.Following.{or_left, or_right}
use Rattle.env_check.specs.declared.refusal.Refusal.{Refusal}
use Rattle.env_check.specs.declared.refusal.Refusal.TheVariants.{Broken, Spent, TooDeep, Memory}
use Rattle.env_check.specs.Answers.{CheckAnswers}
use Rattle.env_check.specs.Places.{ComesTo, IsSpentAt, spent_in, spent_in_main, IsDeepAt, deep_in, deep_in_main, StandsAt, StandsInMain}
use Rattle.env_check.specs.Steps.{refusal_at, LeadsTo}

-- checks that lead to others

pub leads_refl : (c : Checked) → LeadsTo c c
leads_refl c = record { outcome = refl; deep = λ h. h }

pub leads_trans : (a b c : Checked) → LeadsTo a b → LeadsTo b c → LeadsTo a c
leads_trans a b c p q = record { outcome = p.outcome ∙ q.outcome; deep = λ h. p.deep (q.deep h) }

pub leads_is : (a b : Checked) → a ≡ b → LeadsTo a b
leads_is a b e = subst (λ c. LeadsTo a c) e (leads_refl a)

pub leads_answers : (whole rest : Checked) (r : Result Accepted Refusal) (u : Account) → LeadsTo whole rest → CheckAnswers rest r u → CheckAnswers whole r u
leads_answers whole rest (Ok a) u l h = l.outcome ∙ h
leads_answers whole rest (Err (Broken p b)) u l h = l.outcome ∙ h
leads_answers whole rest (Err (Spent p v)) u l h = (l.outcome ∙ h.0, h.1)
leads_answers whole rest (Err (TooDeep p)) u l h = l.deep h
leads_answers whole rest (Err Memory) u l h = tt

-- what is done at a place

pub placed_done : {A : Type 0} (p : Place) (d : Run A) (k : A → Account → Checked) (a : A) (u : Account) → d.end ≡ run.Done a u → LeadsTo (placed p d k) (k a u)
unfolding and_then
placed_done p d k a u e =
    record { outcome = ap (λ x. placed_end p x (λ a u. (k a u).outcome)) e; deep = λ h. or_right d.deep _ (rw e h) }

pub placed_halted : {A : Type 0} (p : Place) (d : Run A) (k : A → Account → Checked) (h : Halt) (u before : Account) → Halts d h u → CheckAnswers (placed p d k) (Err (refusal_at p before h)) u
unfolding and_then
placed_halted p d k (halts.Stop stops.Spent) u before h = (ap (λ x. placed_end p x (λ a u. (k a u).outcome)) h.0, h.1)
placed_halted p d k (halts.Stop stops.TooDeep) u before h = or_left d.deep _ h
placed_halted p d k (halts.Stop stops.Memory) u before h = tt
placed_halted p d k (halts.Broken b) u before h = ap (λ x. placed_end p x (λ a u. (k a u).outcome)) h

-- declarations

pub declarations_next : (levels : ℕ) (cs : List Constraint) (q : Test) (n i : ℕ) (ds : List Kept) (d : Given) (rest : List Given) (main : Term) (u v : Account) (k : Kept) →
    (declaration_rule (env levels cs ds) q n d u).end ≡ run.Done k v →
    LeadsTo (declarations_rule levels cs q n i ds (d ∷ rest) main u) (declarations_rule levels cs q n (suc i) (k ∷ ds) rest main v)
unfolding declarations_rule
declarations_next levels cs q n i ds d rest main u v k e =
    placed_done (AtDeclaration i) (declaration_rule (env levels cs ds) q n d u) (λ k v. declarations_rule levels cs q n (suc i) (k ∷ ds) rest main v) k v e

pub declarations_halted : (levels : ℕ) (cs : List Constraint) (q : Test) (n i : ℕ) (ds : List Kept) (d : Given) (rest : List Given) (main : Term) (u v : Account) (h : Halt) →
    Halts (declaration_rule (env levels cs ds) q n d u) h v →
    CheckAnswers (declarations_rule levels cs q n i ds (d ∷ rest) main u) (Err (refusal_at (AtDeclaration i) u h)) v
unfolding declarations_rule
declarations_halted levels cs q n i ds d rest main u v h e =
    placed_halted (AtDeclaration i) (declaration_rule (env levels cs ds) q n d u) (λ k v. declarations_rule levels cs q n (suc i) (k ∷ ds) rest main v) h v u e

pub declarations_end : (levels : ℕ) (cs : List Constraint) (q : Test) (n i : ℕ) (ds : List Kept) (main : Term) (u : Account) →
    LeadsTo (declarations_rule levels cs q n i ds [] main u) (main_rule (env levels cs ds) q n main u)
unfolding declarations_rule
declarations_end levels cs q n i ds main u = leads_refl (main_rule (env levels cs ds) q n main u)

-- main

pub main_done : (E : Env) (q : Test) (n : ℕ) (main T : Term) (u v : Account) → (infer E q n [] main u).end ≡ run.Done T v → (main_rule E q n main u).outcome ≡ Accepts E T v
main_done E q n main T u v e =
    let k : Term → Account → Checked = λ T v. accepts E T v in
    (placed_done AtMain (infer E q n [] main u) k T v e).outcome

pub main_halted : (E : Env) (q : Test) (n : ℕ) (main : Term) (u v : Account) (h : Halt) → Halts (infer E q n [] main u) h v → CheckAnswers (main_rule E q n main u) (Err (refusal_at AtMain u h)) v
main_halted E q n main u v h e =
    let k : Term → Account → Checked = λ T v. accepts E T v in
    placed_halted AtMain (infer E q n [] main u) k h v u e

-- the places of refusals

pub main_place : (E : Env) (n : ℕ) (main : Term) (u v : Account) (h : Halt) → Halts (infer E (test_of E) n [] main u) h v → StandsInMain E n main u (refusal_at AtMain u h)
main_place E n main u v (halts.Stop stops.Spent) e = (refl, refl, e.0)
main_place E n main u v (halts.Stop stops.TooDeep) e = (refl, e)
main_place E n main u v (halts.Stop stops.Memory) e = tt
main_place E n main u v (halts.Broken b) e = tt

module _ (E : Env) (n : ℕ) (ds : List Given) (u : Account) where
  pub declaration_place : (i : ℕ) (H : Env) (v w : Account) (d : Given) (main : Term) (h : Halt) → ComesTo E n ds u i H v → slice_get ds i ≡ Some d →
      Halts (declaration_rule H (test_of H) n d v) h w → StandsAt E n ds main u (refusal_at (AtDeclaration i) v h)
  declaration_place i H v w d main (halts.Stop stops.Spent) c at e = spent_in c at e.0
  declaration_place i H v w d main (halts.Stop stops.TooDeep) c at e = deep_in c at e
  declaration_place i H v w d main (halts.Stop stops.Memory) c at e = tt
  declaration_place i H v w d main (halts.Broken b) c at e = tt

  pub place_in_main : (H : Env) (v : Account) (main : Term) (r : Refusal) → ComesTo E n ds u (length ds) H v → StandsInMain H n main v r → StandsAt E n ds main u r
  place_in_main H v main (Spent p w) c e =
      subst (λ p. IsSpentAt E n ds main u p w) (sym e.0) (subst (λ w. IsSpentAt E n ds main u AtMain w) (sym e.1) (spent_in_main c e.2))
  place_in_main H v main (TooDeep p) c e = subst (λ p. IsDeepAt E n ds main u p) (sym e.0) (deep_in_main c e.1)
  place_in_main H v main (Broken p b) c e = tt
  place_in_main H v main Memory c e = tt
