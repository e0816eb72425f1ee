-- The directed evaluation, without a bound on its nodes: within the units that are left such a bound is never met.
use Rattle.std.proofs.Common.{◌≡◌, ℕ, zero, suc, ◌+◌, ◌-◌, length, Option, Some, None, refl, sym, ap, ◌∙◌, subst, arith}
use Rattle.pc_terms.specs.Syntax.{Term, Rel, Lambda, LetIn, App, Const, Case, put, substitute, head, args}
use Rattle.pc_rules.specs.declared.meter.Account.{Account}
use Rattle.calculus_rules.specs.Environment.{Env}
use Rattle.pc_rules.specs.DirectedRun.{Run, no_unit, make, ticked, paid, ticking, Leaves}
use Rattle.calculus_rules.specs.Lookups.{kept_at, body_of}
use Rattle.pc_rules.specs.DirectedWeakHead.{built, branch_of}
use Rattle.pc_rules.specs.DirectedEvaluation.{Evaluated, Value, Stuck, Evaluating, on_value, with_value, contracted, contracts, takes_more, unfolding_at, applied, node, evaluate, evaluation}
use Rattle.pc_rules.proofs.SameWithin.{Agrees, agrees_done, agrees_if, agrees_bind, agrees_ticking}
use Rattle.pc_rules.proofs.Following.{paid-none}

agrees_make : (n : ℕ) (t : Term) → Agrees n (λ u. make t u) (λ u. make t u)
agrees_make n t = record { same = λ u l. refl; falls = λ u l. omega arith }

-- evaluations that are the same wherever they are asked, where fewer than n units are left
record AreSame (n : ℕ) (go go' : Evaluating) : Type 0 where
  at : (t : Term) → Agrees n (λ u. go t u) (λ u. go' t u)

same_on_value : {n : ℕ} (e : Evaluated) (g g' : Term → Account → Run Evaluated) → ((v : Term) → Agrees n (λ u. g v u) (λ u. g' v u)) →
    Agrees n (λ u. on_value e u g) (λ u. on_value e u g')
same_on_value (Value v) g g' h = h v
same_on_value {n} (Stuck t) g g' h = agrees_done n (Stuck t)

same_with_value : {n : ℕ} (f f' : Account → Run Evaluated) (g g' : Term → Account → Run Evaluated) → Agrees n f f' →
    ((v : Term) → Agrees n (λ u. g v u) (λ u. g' v u)) → Agrees n (λ u. with_value (f u) g) (λ u. with_value (f' u) g')
same_with_value {n} f f' g g' p h = agrees_bind n f f' (λ e u. on_value e u g) (λ e u. on_value e u g') p (λ e. same_on_value e g g' h)

same_contracted : {n : ℕ} (go go' : Evaluating) → AreSame n go go' → (t : Term) → Agrees n (λ u. contracted go t u) (λ u. contracted go' t u)
same_contracted {n} go go' h t = agrees_bind n _ _ go go' (agrees_make n t) h.at

same_contracts : {n : ℕ} (go go' : Evaluating) → AreSame n go go' → (t : Term) (o : Option Term) →
    Agrees n (λ u. contracts go t o u) (λ u. contracts go' t o u)
same_contracts {n} go go' h t None = agrees_done n (Stuck t)
same_contracts go go' h t (Some c) = same_contracted go go' h c

same_applied : {n : ℕ} (E : Env) (go go' : Evaluating) → AreSame n go go' → (t g v : Term) →
    Agrees n (λ u. applied E go t g v u) (λ u. applied E go' t g v u)
same_applied E go go' h t (Lambda A b) v = same_contracted go go' h (substitute (put v) b)
same_applied {n} E go go' h t g v =
    agrees_if (takes_more E (head g) (length (args g))) _ _ _ _ (agrees_bind n _ _ _ _ (agrees_make n (App g v)) (λ t. agrees_done n (Value t)))
    (same_contracts go go' h t (unfolding_at (head g) (args g) v))

same_node : {n : ℕ} (E : Env) (go go' : Evaluating) → AreSame n go go' → (t : Term) → Agrees n (λ u. node E go t u) (λ u. node E go' t u)
same_node {n} E go go' h (Rel i) = agrees_done n (Stuck (Rel i))
same_node E go go' h (Const k) = same_contracts go go' h (Const k) (body_of (kept_at E.declarations k))
same_node E go go' h (LetIn b B t) = same_with_value _ _ _ _ (h.at b) (λ v. same_contracted go go' h (substitute (put v) t))
same_node E go go' h (App f a) =
    same_with_value _ _ _ _ (h.at f) (λ g. same_with_value _ _ _ _ (h.at a) (λ v. same_applied E go go' h (App f a) g v))
same_node E go go' h (Case f ps k ret s bs) =
    same_with_value _ _ _ _ (h.at s) (λ v. same_contracts go go' h (Case f ps k ret s bs) (branch_of bs f (built E v)))
same_node {n} E go go' h t = agrees_done n (Value t)

-- where no unit is left

none_left : (E : Env) (k : ℕ) (t : Term) (u : Account) → u.left ≡ 0 → evaluate E k t u ≡ no_unit
unfolding evaluate ticking
none_left E zero t u e = refl
none_left E (suc k) t u e = paid-none u.left (node E (evaluate E k) t (ticked u)) e

agrees_empty : {A : Type 0} (f g : Account → Run A) → ((u : Account) → u.left ≡ 0 → f u ≡ no_unit) → ((u : Account) → u.left ≡ 0 → g u ≡ no_unit) →
    Agrees 1 f g
agrees_empty f g p q = record {
  same = λ u l. (let e : u.left ≡ 0 = omega arith in p u e ∙ sym (q u e));
  falls = λ u l. (let e : u.left ≡ 0 = omega arith in subst (λ r. Leaves r.end u.left) (sym (p u e)) tt);
}

-- with a bound, and with a greater one

same_evaluate : (E : Env) (k n : ℕ) (t : Term) → Agrees (suc n) (λ u. evaluate E n t u) (λ u. evaluate E (n + k) t u)
unfolding evaluate
same_evaluate E k zero t = agrees_empty (λ u. evaluate E zero t u) (λ u. evaluate E (zero + k) t u) (λ u e. none_left E zero t u e) (λ u e. none_left E (zero + k) t u e)
same_evaluate E k (suc n) t =
    let longer : suc (n + k) ≡ suc n + k = omega arith in
    subst (λ m. Agrees (suc (suc n)) (λ u. evaluate E (suc n) t u) (λ u. evaluate E m t u)) longer
    (agrees_ticking (suc n) (λ v. node E (evaluate E n) t v) (λ v. node E (evaluate E (n + k)) t v)
    (same_node E (evaluate E n) (evaluate E (n + k)) (record { at = same_evaluate E k n }) t))

bounded : (E : Env) (n : ℕ) → AreSame (suc n) (evaluate E n) (evaluation E)
bounded E n = record {
  at = λ t. record {
    same = λ u l.
        let s = (same_evaluate E (n - u.left) u.left t).same u (omega arith) in
        let e : u.left + (n - u.left) ≡ n = omega arith in
        sym (s ∙ ap (λ m. evaluate E m t u) e);
    falls = (same_evaluate E 0 n t).falls;
  };
}

next_at : (E : Env) (n : ℕ) (t : Term) (u : Account) → u.left ≡ n → evaluate E n t u ≡ ticking u (λ v. node E (evaluation E) t v)
unfolding evaluate ticking
next_at E zero t u e = sym (paid-none u.left (node E (evaluation E) t (ticked u)) e)
next_at E (suc n) t u e = ap (paid u.left) ((same_node E (evaluate E n) (evaluation E) (bounded E n) t).same (ticked u) (omega arith))

-- a node takes a unit, and its parts are evaluated within the units that are left then
pub evaluation_next : (E : Env) (t : Term) (u : Account) → evaluation E t u ≡ ticking u (λ v. node E (evaluation E) t v)
evaluation_next E t u = next_at E u.left t u refl
