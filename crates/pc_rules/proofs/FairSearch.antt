-- Evaluation and the first-order search never go back on units, and more units change no result.
use Rattle.std.proofs.Common.{◌≡◌, ℕ, zero, suc, ◌+◌, ◌==◌, List, [], ◌∷◌, ◌++◌, length, Option, Some, None, slice_get, subst, arith}
use Rattle.pc_terms.specs.Syntax.{Term, Rel, Lambda, LetIn, App, Const, Case, put, substitute, head, args}
use Rattle.calculus_rules.specs.declared.declaration.Constructor.{Constructor}
use Rattle.pc_rules.specs.declared.meter.Account.{Account}
use Rattle.calculus_rules.specs.Environment.{Env}
use Rattle.calculus_rules.specs.Instances.{branch_entries}
use Rattle.pc_rules.specs.DirectedRun.{Run, is_beyond, any_beyond, Leaves}
use Rattle.calculus_rules.specs.Lookups.{kept_at, body_of}
use Rattle.pc_rules.specs.DirectedWeakHead.{built, branch_of}
use Rattle.pc_rules.specs.DirectedEvaluation.{Evaluated, Value, Stuck, Evaluating, on_value, with_value, contracted, contracts, takes_more, unfolding_at, applied, node, evaluate, evaluation}
use Rattle.pc_rules.specs.DirectedFirstOrder.{Searched, Found, NotFirstOrder, TooManyTypes, on_found, with_found, place_in, put_in_at, put_in, put_arguments, put_constructors, independent, member_of, or_not_first_order, argument_types, shape, work_type, work_on, search_within}
use Rattle.pc_rules.specs.DirectedLaws.{IsSteady}
use Rattle.pc_rules.proofs.Fair.{IsFair, steady, fair_done, fair_spent, fair_made, fair_passing, fair_if, fair_bind, fair_ticking, fair_ticking_less, same_left}
use Rattle.pc_rules.proofs.FairReduction.{fair_whnf}

-- an evaluation that is fair wherever it is asked
record FairEvaluating (n k : ℕ) (go go' : Evaluating) : Type 0 where
  pub at : (t : Term) → IsFair n k (λ u. go t u) (λ u. go' t u)

fair_on_value : {n k : ℕ} (e : Evaluated) (g g' : Term → Account → Run Evaluated) → ((v : Term) → IsFair n k (λ u. g v u) (λ u. g' v u)) →
    IsFair n k (λ u. on_value e u g) (λ u. on_value e u g')
fair_on_value (Value v) g g' h = h v
fair_on_value (Stuck t) g g' h = fair_done (Stuck t)

fair_with_value : {n k : ℕ} (f f' : Account → Run Evaluated) (g g' : Term → Account → Run Evaluated) → IsFair n k f f' →
    ((v : Term) → IsFair n k (λ u. g v u) (λ u. g' v u)) → IsFair n k (λ u. with_value (f u) g) (λ u. with_value (f' u) g')
fair_with_value f f' g g' p h = fair_bind f f' (λ e u. on_value e u g) (λ e u. on_value e u g') p (λ e. fair_on_value e g g' h)

fair_contracted : {n k : ℕ} (go go' : Evaluating) → FairEvaluating n k go go' → (t : Term) →
    IsFair n k (λ u. contracted go t u) (λ u. contracted go' t u)
fair_contracted go go' h t = fair_bind _ _ go go' (fair_made (is_beyond t) t) h.at

fair_contracts : {n k : ℕ} (go go' : Evaluating) → FairEvaluating n k go go' → (t : Term) (o : Option Term) →
    IsFair n k (λ u. contracts go t o u) (λ u. contracts go' t o u)
fair_contracts go go' h t None = fair_done (Stuck t)
fair_contracts go go' h t (Some c) = fair_contracted go go' h c

fair_applied : {n k : ℕ} (E : Env) (go go' : Evaluating) → FairEvaluating n k go go' → (t g v : Term) →
    IsFair n k (λ u. applied E go t g v u) (λ u. applied E go' t g v u)
fair_applied E go go' h t (Lambda A b) v = fair_contracted go go' h (substitute (put v) b)
fair_applied E go go' h t g v =
    fair_if (takes_more E (head g) (length (args g))) _ _ _ _
    (fair_bind _ _ _ _ (fair_made (is_beyond (App g v)) (App g v)) (λ t. fair_done (Value t)))
    (fair_contracts go go' h t (unfolding_at (head g) (args g) v))

fair_node : {n k : ℕ} (E : Env) (go go' : Evaluating) → FairEvaluating n k go go' → (t : Term) → IsFair n k (λ u. node E go t u) (λ u. node E go' t u)
fair_node E go go' h (Rel i) = fair_done (Stuck (Rel i))
fair_node E go go' h (Const k) = fair_contracts go go' h (Const k) (body_of (kept_at E.declarations k))
fair_node E go go' h (LetIn b B t) = fair_with_value _ _ _ _ (h.at b) (λ v. fair_contracted go go' h (substitute (put v) t))
fair_node E go go' h (App f a) =
    fair_with_value _ _ _ _ (h.at f) (λ g. fair_with_value _ _ _ _ (h.at a) (λ v. fair_applied E go go' h (App f a) g v))
fair_node E go go' h (Case f ps n ret s bs) =
    fair_with_value _ _ _ _ (h.at s) (λ v. fair_contracts go go' h (Case f ps n ret s bs) (branch_of bs f (built E v)))
fair_node E go go' h t = fair_done (Value t)

fair_evaluate : (E : Env) (k n : ℕ) (t : Term) → IsFair n k (λ u. evaluate E n t u) (λ u. evaluate E (n + k) t u)
unfolding evaluate
fair_evaluate E k zero t = fair_spent (λ u. evaluate E (zero + k) t u)
fair_evaluate E k (suc n) t =
    let longer : suc (n + k) ≡ suc n + k = omega arith in
    subst (λ m. IsFair (suc n) k (λ u. evaluate E (suc n) t u) (λ u. evaluate E m t u)) longer
    (fair_ticking_less (λ v. node E (evaluate E n) t v) (λ v. node E (evaluate E (n + k)) t v)
    (fair_node E (evaluate E n) (evaluate E (n + k)) (record { at = fair_evaluate E k n }) t))

pub steady_evaluation : (E : Env) (t : Term) → IsSteady (evaluation E t)
steady_evaluation E t = record {
  falls = λ u. (fair_evaluate E 0 u.left t).falls u;
  stays = λ k u. (fair_evaluate E k u.left t).stays u (omega arith);
}

-- the search

fair_on_found : {A B : Type 0} {n k : ℕ} (s : Searched A) (g : A → Account → Run (Searched B)) → ((a : A) → IsFair n k (λ u. g a u) (λ u. g a u)) →
    IsFair n k (λ u. on_found s u g) (λ u. on_found s u g)
fair_on_found (Found a) g h = h a
fair_on_found (NotFirstOrder T) g h = fair_done (NotFirstOrder T)
fair_on_found TooManyTypes g h = fair_done TooManyTypes

fair_with_found : {A B : Type 0} {n k : ℕ} (f : Account → Run (Searched A)) (g : A → Account → Run (Searched B)) → IsFair n k f f →
    ((a : A) → IsFair n k (λ u. g a u) (λ u. g a u)) → IsFair n k (λ u. with_found (f u) g) (λ u. with_found (f u) g)
fair_with_found f g p h = fair_bind f f (λ s u. on_found s u g) (λ s u. on_found s u g) p (λ s. fair_on_found s g h)

fair_put_at : {n k : ℕ} (limit : ℕ) (Ts : List Term) (W : Term) (o : Option ℕ) → IsFair n k (λ u. put_in_at limit Ts W o u) (λ u. put_in_at limit Ts W o u)
fair_put_at limit Ts W (Some j) = fair_done (Found (Ts, j))
fair_put_at limit Ts W None =
    fair_if (length Ts == limit) _ _ _ _ (fair_done TooManyTypes) (fair_ticking _ _ (fair_done (Found (Ts ++ (W ∷ []), length Ts))))

fair_put_in : {n k : ℕ} (E : Env) (limit : ℕ) (Ts : List Term) (T : Term) → IsFair n k (λ u. put_in E limit Ts T u) (λ u. put_in E limit Ts T u)
fair_put_in E limit Ts T = fair_bind _ _ _ _ (fair_whnf E [] T) (λ W. fair_put_at limit Ts W (place_in W Ts))

fair_arguments : {n k : ℕ} (E : Env) (limit : ℕ) (Ts As : List Term) → IsFair n k (λ u. put_arguments E limit Ts As u) (λ u. put_arguments E limit Ts As u)
unfolding put_arguments
fair_arguments E limit Ts [] = fair_done (Found (Ts, []))
fair_arguments E limit Ts (A ∷ As) =
    fair_with_found _ _ (fair_put_in E limit Ts A) (λ p.
    fair_with_found _ _ (fair_arguments E limit p.0 As) (λ q. fair_done (Found (q.0, p.1 ∷ q.1))))

fair_constructors : {n k : ℕ} (E : Env) (limit : ℕ) (Ts : List Term) (Ass : List (List Term)) →
    IsFair n k (λ u. put_constructors E limit Ts Ass u) (λ u. put_constructors E limit Ts Ass u)
unfolding put_constructors
fair_constructors E limit Ts [] = fair_done (Found (Ts, []))
fair_constructors E limit Ts (As ∷ Ass) =
    fair_with_found _ _ (fair_arguments E limit Ts As) (λ p.
    fair_with_found _ _ (fair_constructors E limit p.0 Ass) (λ q. fair_done (Found (q.0, p.1 ∷ q.1))))

fair_or_not : {A : Type 0} {n k : ℕ} (W : Term) (o : Option A) → IsFair n k (λ u. or_not_first_order W o u) (λ u. or_not_first_order W o u)
fair_or_not W None = fair_done (NotFirstOrder W)
fair_or_not W (Some a) = fair_done (Found a)

fair_argument_types : {n k : ℕ} (W : Term) (ps : List Term) (Cs : List Constructor) → IsFair n k (λ u. argument_types W ps Cs u) (λ u. argument_types W ps Cs u)
unfolding argument_types
fair_argument_types W ps [] = fair_done (Found [])
fair_argument_types W ps (C ∷ Cs) =
    fair_bind _ _ _ _ (fair_passing (any_beyond (branch_entries C ps))) (λ x.
    fair_with_found _ _ (fair_or_not W (independent 0 (branch_entries C ps))) (λ As.
    fair_with_found _ _ (fair_argument_types W ps Cs) (λ Ass. fair_done (Found (As ∷ Ass)))))

fair_work_type : {n k : ℕ} (E : Env) (limit : ℕ) (Ts : List Term) (W : Term) → IsFair n k (λ u. work_type E limit Ts W u) (λ u. work_type E limit Ts W u)
fair_work_type E limit Ts W =
    fair_with_found _ _ (fair_or_not W (member_of E (head W) (length (args W)))) (λ m.
    fair_with_found _ _ (fair_argument_types W (args W) (m.1).constructors) (λ Ass.
    fair_with_found _ _ (fair_constructors E limit Ts Ass) (λ q. fair_done (Found (q.0, shape m.0 (args W) q.1)))))

fair_work_on : {n k : ℕ} (E : Env) (limit m i : ℕ) (Ts : List Term) (o : Option Term) → IsFair n k (λ u. work_on E limit m i Ts o u) (λ u. work_on E limit m i Ts o u)
unfolding work_on
fair_work_on E limit m i Ts None = fair_done (Found [])
fair_work_on E limit zero i Ts (Some W) = fair_done TooManyTypes
fair_work_on E limit (suc m) i Ts (Some W) =
    fair_with_found _ _ (fair_work_type E limit Ts W) (λ p.
    fair_with_found _ _ (fair_work_on E limit m (suc i) p.0 (slice_get p.0 (suc i))) (λ hs. fair_done (Found (p.1 ∷ hs))))

pub steady_search : (E : Env) (limit : ℕ) (T : Term) → IsSteady (search_within E limit T)
steady_search E limit T = steady (search_within E limit T) (λ n k.
    fair_with_found _ _ (fair_put_in E limit [] T) (λ p. fair_work_on E limit limit 0 p.0 (slice_get p.0 0)))

-- what runs leave, from one account

pub put_at_leaves : (limit : ℕ) (Ts : List Term) (W : Term) (o : Option ℕ) (u : Account) → Leaves (put_in_at limit Ts W o u).end u.left
put_at_leaves limit Ts W o u = (fair_put_at {n = 0} {k = 0} limit Ts W o).falls u

pub put_arguments_leave : (E : Env) (limit : ℕ) (Ts As : List Term) (u : Account) → Leaves (put_arguments E limit Ts As u).end u.left
put_arguments_leave E limit Ts As u = (fair_arguments {n = 0} {k = 0} E limit Ts As).falls u

pub put_constructors_leave : (E : Env) (limit : ℕ) (Ts : List Term) (Ass : List (List Term)) (u : Account) → Leaves (put_constructors E limit Ts Ass u).end u.left
put_constructors_leave E limit Ts Ass u = (fair_constructors {n = 0} {k = 0} E limit Ts Ass).falls u

pub argument_types_leave : (W : Term) (ps : List Term) (Cs : List Constructor) (u : Account) → Leaves (argument_types W ps Cs u).end u.left
argument_types_leave W ps Cs u = (fair_argument_types {n = 0} {k = 0} W ps Cs).falls u

pub work_type_leaves : (E : Env) (limit : ℕ) (Ts : List Term) (W : Term) (u : Account) → Leaves (work_type E limit Ts W u).end u.left
work_type_leaves E limit Ts W u = (fair_work_type {n = 0} {k = 0} E limit Ts W).falls u

pub work_on_leaves : (E : Env) (limit m i : ℕ) (Ts : List Term) (o : Option Term) (u : Account) → Leaves (work_on E limit m i Ts o u).end u.left
work_on_leaves E limit m i Ts o u = (fair_work_on {n = 0} {k = 0} E limit m i Ts o).falls u

pub or_not_leaves : {A : Type 0} (W : Term) (o : Option A) (u : Account) → Leaves (or_not_first_order W o u).end u.left
or_not_leaves W None u = same_left u
or_not_leaves W (Some a) u = same_left u

pub on_found_leaves : {A B : Type 0} (s : Searched A) (u : Account) (g : A → Account → Run (Searched B)) → ((a : A) (v : Account) → Leaves (g a v).end v.left) →
    Leaves (on_found s u g).end u.left
on_found_leaves (Found a) u g h = h a u
on_found_leaves (NotFirstOrder T) u g h = same_left u
on_found_leaves TooManyTypes u g h = same_left u

pub on_value_leaves : (e : Evaluated) (u : Account) (g : Term → Account → Run Evaluated) → ((v : Term) (w : Account) → Leaves (g v w).end w.left) → Leaves (on_value e u g).end u.left
on_value_leaves (Value v) u g h = h v u
on_value_leaves (Stuck t) u g h = same_left u

pub evaluate_leaves : (E : Env) (m : ℕ) (t : Term) (u : Account) → Leaves (evaluate E m t u).end u.left
evaluate_leaves E m t u = (fair_evaluate E 0 m t).falls u

-- of an evaluation of nodes one inside the other, so many at most

pub contracts_leave : (E : Env) (m : ℕ) (t : Term) (o : Option Term) (u : Account) → Leaves (contracts (evaluate E m) t o u).end u.left
contracts_leave E m t o u = (fair_contracts {n = m} {k = 0} (evaluate E m) (evaluate E (m + 0)) (record { at = fair_evaluate E 0 m }) t o).falls u

pub applied_leaves : (E : Env) (m : ℕ) (t g v : Term) (u : Account) → Leaves (applied E (evaluate E m) t g v u).end u.left
applied_leaves E m t g v u = (fair_applied {n = m} {k = 0} E (evaluate E m) (evaluate E (m + 0)) (record { at = fair_evaluate E 0 m }) t g v).falls u

pub node_leaves : (E : Env) (m : ℕ) (t : Term) (u : Account) → Leaves (node E (evaluate E m) t u).end u.left
node_leaves E m t u = (fair_node {n = m} {k = 0} E (evaluate E m) (evaluate E (m + 0)) (record { at = fair_evaluate E 0 m }) t).falls u

pub ruleset leaving_search = (put_at_leaves, put_arguments_leave, put_constructors_leave, argument_types_leave, work_type_leaves, work_on_leaves, or_not_leaves, on_found_leaves, on_value_leaves, evaluate_leaves, contracts_leave, applied_leaves, node_leaves)
