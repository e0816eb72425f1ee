-- What the answers of an evaluation mean by the relation, over an accepted environment.
use Rattle.std.proofs.Common.{◌≡◌, ℕ, zero, suc, ◌+◌, ◌-◌, ◌<◌, ◌≤◌, ◌⊎◌, inl, inr, false, Result, Ok, Err, sym, ap, ◌∙◌, arith}
use Rattle.std.proofs.lemmas.Bool.{false≢true}
use Rattle.pc_terms.specs.Syntax.{Term}
use Rattle.pc_rules.specs.declared.meter.Account.{Account}
use Rattle.calculus_rules.specs.Environment.{Env}
use Rattle.calculus_rules.specs.Accepted.{IsAccepted}
use Rattle.calculus_rules.specs.Evaluation.{Evaluates}
use Rattle.pc_rules.specs.Follows.{Answers}
use Rattle.pc_rules.specs.DirectedRun.{End, Done, NoUnit}
use Rattle.pc_rules.specs.DirectedEvaluation.{Evaluated, Value, Stuck, evaluation}
use Rattle.pc_rules.specs.DirectedLaws.{more}
use Rattle.pc_rules.proofs.EvaluationReached.{reached}
use Rattle.source_eval.specs.declared.evaluation.EvalStop.{EvalStop}
use Rattle.source_eval.specs.declared.evaluation.EvalStop.TheVariants.{Spent as NoUnits, TooDeep as Deep, Stuck as Without, Memory as NoMemory}
use Rattle.source_eval.specs.Evaluated.{evaluated, SpentIsTooMany, IsValueOr, GivesTheValue}
use Rattle.source_eval.specs.StaysWithin.{StaysWithin}
use Rattle.source_eval.proofs.Shallow.{runs}

-- an account with a unit for each of n nodes
abbrev pub less : ℕ → Account → Account
less n u = record u { left = u.left - n }

with_nodes : (n : ℕ) (u : Account) → n ≤ u.left → u ≡ more n (less n u)
with_nodes n u h = let e : u.left ≡ u.left - n + n = omega (arith, h) in λ i. record { left = e i; uses = u.uses }

-- with so many units the run ends with the value
pub ends_with : (E : Env) → IsAccepted E → (t v : Term) (n : ℕ) → Evaluates E t v n → (u : Account) → n ≤ u.left → (evaluation E t u).end ≡ Done (Value v) (less n u)
ends_with E a t v n e u h =
    ap (λ w. (evaluation E t w).end) (with_nodes n u h) ∙ reached E a (u.left - n + n) t v n e (omega arith) (less n u)

pub passes_none : (E : Env) → IsAccepted E → (t v : Term) (n : ℕ) (e : Evaluates E t v n) → StaysWithin e → (u : Account) → n ≤ u.left → (evaluation E t u).deep ≡ false
passes_none E a t v n e s u h = ap (λ w. (evaluation E t w).deep) (with_nodes n u h) ∙ ap (λ r. r.deep) (runs E a t v n e s (less n u))

value_or : Evaluated → Term → Term
value_or (Value v) w = v
value_or (Stuck t) w = w

ended_with : End Evaluated → Term → Term
ended_with (Done x u) w = value_or x w
ended_with x w = w

one_value : (x : End Evaluated) (v w : Term) (u z : Account) → x ≡ Done (Value v) u → x ≡ Done (Value w) z → v ≡ w
unfolding value_or ended_with
one_value x v w u z e f = ap (λ y. ended_with y w) (sym e ∙ f)

not_spent : (x : End Evaluated) (v : Term) (u : Account) → x ≡ Done (Value v) u → x ≡ NoUnit → ⊥
not_spent x v u e f = let z : Done (Value v) u ≡ NoUnit = sym e ∙ f in absurd cc

not_stuck : (x : End Evaluated) (v t : Term) (u w : Account) → x ≡ Done (Value v) u → x ≡ Done (Stuck t) w → ⊥
not_stuck x v t u w e f = let z : Done (Value v) u ≡ Done (Stuck t) w = sym e ∙ f in absurd cc

-- by the answers of the directed rules

value_given : (E : Env) (t : Term) (u w : Account) → IsAccepted E → (v : Term) (n : ℕ) (e : Evaluates E t v n) → n ≤ u.left → StaysWithin e →
    (r : Result Term EvalStop) → Answers (evaluation E t u) (evaluated r) w → IsValueOr v r
value_given E t u w a v n e l s (Ok x) h = one_value (evaluation E t u).end x v w (less n u) h (ends_with E a t v n e u l)
value_given E t u w a v n e l s (Err NoUnits) h = absurd (not_spent (evaluation E t u).end v (less n u) (ends_with E a t v n e u l) h.0)
value_given E t u w a v n e l s (Err Deep) h = absurd (false≢true (sym (passes_none E a t v n e s u l) ∙ h))
value_given E t u w a v n e l s (Err (Without x)) h = absurd (not_stuck (evaluation E t u).end v x (less n u) w (ends_with E a t v n e u l) h)
value_given E t u w a v n e l s (Err NoMemory) h = tt

pub gives_the_value : (E : Env) (t : Term) (u w : Account) (r : Result Term EvalStop) → Answers (evaluation E t u) (evaluated r) w → GivesTheValue E t u.left r
gives_the_value E t u w r h a v n e l s = value_given E t u w a v n e l s r h

le_or : (n m : ℕ) → (n ≤ m) ⊎ (m < n)
le_or zero m = inl (omega arith)
le_or (suc n) zero = inr (omega arith)
le_or (suc n) (suc m) = elim (le_or n m) [ inl h ↦ inl (omega (arith, h)) | inr h ↦ inr (omega (arith, h)) ]

spent_nodes : (E : Env) (t : Term) (u : Account) → (evaluation E t u).end ≡ NoUnit → IsAccepted E → (v : Term) (n : ℕ) → Evaluates E t v n → u.left < n
spent_nodes E t u h a v n e =
    elim (le_or n u.left) [ inl l ↦ absurd (not_spent (evaluation E t u).end v (less n u) (ends_with E a t v n e u l) h) | inr l ↦ l ]

pub spent_is_too_many : (E : Env) (t : Term) (u w : Account) (r : Result Term EvalStop) → Answers (evaluation E t u) (evaluated r) w → SpentIsTooMany E t u.left r
spent_is_too_many E t u w (Ok v) h = tt
spent_is_too_many E t u w (Err NoUnits) h = spent_nodes E t u h.0
spent_is_too_many E t u w (Err Deep) h = tt
spent_is_too_many E t u w (Err (Without s)) h = tt
spent_is_too_many E t u w (Err NoMemory) h = tt
