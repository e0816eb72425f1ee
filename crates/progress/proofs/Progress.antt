-- Progress, by recursion on the units: where the parts' evaluations progress, so does a node's.
use Rattle.std.proofs.Common.{◌≡◌, ℕ, zero, suc, ◌+◌, if◌then◌else◌, List, [], ◌++◌, Option, Some, None, length, refl, sym, ap, ◌∙◌, subst}
use Rattle.pc_terms.specs.declared.leaf.Name.{Name}
use Rattle.pc_terms.specs.declared.leaf.FamilyId.{FamilyId}
use Rattle.pc_terms.specs.Syntax.{Term, Terms, Rel, SortT, Prod, Lambda, LetIn, App, Const, Ind, Construct, Case, Fix, put, substitute, head, args}
use Rattle.pc_rules.specs.declared.meter.Account.{Account}
use Rattle.calculus_rules.specs.Environment.{Env, KeepsConstant}
use Rattle.calculus_rules.specs.Step.{IsConstructor}
use Rattle.calculus_rules.specs.Typing.{bare, Types}
use Rattle.calculus_rules.specs.Accepted.{IsAccepted}
use Rattle.calculus_rules.specs.Evaluation.{sort_is, prod_is, lambda_is, ind_is, construct_is, fix_is, Evaluates, value, let_in, beta, extend, unfold_fix, enter}
use Rattle.pc_rules.specs.DirectedRun.{Run, End, Done, ticked, paid, ticking, end_then, bind}
use Rattle.calculus_rules.specs.Lookups.{kept_at, body_of}
use Rattle.pc_rules.specs.DirectedWeakHead.{built, branch_of}
use Rattle.pc_rules.specs.DirectedEvaluation.{Evaluated, Stuck, Evaluating, on_value, with_value, contracted, contracts, takes_more, unfolding_at, extended, applied, node, evaluate}
use Rattle.pc_rules.proofs.WeakNext.{none_some, body_found}
use Rattle.pc_rules.proofs.EvaluationReached.{kept_there, branch_there}
use Rattle.typing_laws.proofs.Generating.{of_rel, of_let_in, of_app, of_const, of_case}
use Rattle.type_laws.specs.Contexts.{IsContext}
use Rattle.type_laws.proofs.RootsKeep.{constant_keeps}
use Rattle.type_laws.proofs.Results.{result}
use Rattle.type_laws.proofs.Canonical.{values_are_constructors}
use Rattle.type_laws.proofs.EvaluationKeeps.{evaluation_keeps, let_contracts, beta_contracts, unfold_contracts, enter_contracts}
use Rattle.progress.specs.Ends.{Progresses, gives, spends, meets}
use Rattle.progress.specs.Laws.{EvaluationProgresses}
use Rattle.progress.proofs.Tests.{GoesOn, grows, turns}
use Rattle.progress.proofs.Continuing.{goes_on}
use Rattle.progress.proofs.Entering.{has_branch}

-- each evaluation of a typed closed term progresses
abbrev Going : Env → Evaluating → Type 0
Going E go = (t T : Term) → Types bare E [] t T → (u : Account) → Progresses E t T (go t u).end

-- a part is evaluated, and the rest goes on with its value
after : {E : Env} {s S t T : Term} (e : End Evaluated) (k : Term → Account → Run Evaluated) → Progresses E s S e →
    ((v : Term) (x : Account) (n : ℕ) → Evaluates E s v n → Progresses E t T (k v x).end) → Progresses E t T (end_then e (λ a u. (on_value a u k).end))
after e k (gives {v = v} {n = n} {u = u} ev d) h = h v u n ev
after e k spends h = spends
after e k (meets q) h = meets q

after_part : {E : Env} {s S t T : Term} (r : Run Evaluated) (k : Term → Account → Run Evaluated) → Progresses E s S r.end →
    ((v : Term) (x : Account) (n : ℕ) → Evaluates E s v n → Progresses E t T (k v x).end) → Progresses E t T (with_value r k).end
unfolding bind
after_part r k p h = after r.end k p h

-- a term goes on as its contractum
passed : {E : Env} {c t T : Term} {e : End Evaluated} → ((v : Term) (n : ℕ) → Evaluates E c v n → (m : ℕ) × Evaluates E t v m) → Progresses E c T e → Progresses E t T e
passed f (gives {v = v} {n = n} ev d) = gives (f v n ev).1 d
passed f spends = spends
passed f (meets q) = meets q

contractum : {E : Env} {c t T : Term} (go : Evaluating) (u : Account) → Going E go → Types bare E [] c T →
    ((v : Term) (n : ℕ) → Evaluates E c v n → (m : ℕ) × Evaluates E t v m) → Progresses E t T (contracted go c u).end
unfolding bind
contractum {c = c} {T = T} go u s d f = passed f (s c T d u)

-- constants

axiom_met : (E : Env) → IsAccepted E → (k : Name) (T U : Term) (u : Account) (b : Option Term) → KeepsConstant E k U b → body_of (kept_at E.declarations k) ≡ None →
    Progresses E (Const k) T (Done (Stuck (Const k)) u)
axiom_met E h k T U u None q e = meets (U, q)
axiom_met E h k T U u (Some b) q e = absurd (none_some (sym e ∙ ap body_of (kept_there h.declarations q k refl)))

constant_progresses : (E : Env) → IsAccepted E → (go : Evaluating) → Going E go → (k : Name) (T : Term) → Types bare E [] (Const k) T → (u : Account) (o : Option Term) →
    body_of (kept_at E.declarations k) ≡ o → Progresses E (Const k) T (contracts go (Const k) o u).end
constant_progresses E h go s k T d u None e = let r = of_const d in axiom_met E h k T r.kept_type u r.body r.kept e
constant_progresses E h go s k T d u (Some b) e =
    let (U, q) = body_found E k (kept_at E.declarations k) b refl e in
    contractum go u s (constant_keeps E h [] k U b T IsContext.empty q d) (λ v n ev. (suc n, Evaluates.constant q ev))

-- applications

extended_progresses : (E : Env) → IsAccepted E → (f a g v T : Term) (n m : ℕ) (u : Account) → Types bare E [] (App f a) T → Evaluates E (App f a) (App g v) (suc (n + m)) →
    Progresses E (App f a) T (extended g v u).end
unfolding bind
extended_progresses E h f a g v T n m u d ev = gives ev (evaluation_keeps E h ev T d).typed

other_progresses : (E : Env) → IsAccepted E → (go : Evaluating) → Going E go → (f a g v T : Term) (n m : ℕ) (u : Account) → Types bare E [] (App f a) T → Evaluates E f g n → Evaluates E a v m →
    GoesOn E g v → Progresses E (App f a) T (if takes_more E (head g) (length (args g)) then extended g v u else contracts go (App f a) (unfolding_at (head g) (args g) v) u).end
other_progresses E h go s f a g v T n m u d ev ev' (grows t e) =
    subst (λ b. Progresses E (App f a) T (if b then extended g v u else contracts go (App f a) (unfolding_at (head g) (args g) v) u).end) (sym e)
    (extended_progresses E h f a g v T n m u d (extend ev ev' t))
other_progresses E h go s f a g v T n m u d ev ev' (turns {u = c} t e e') =
    subst (λ b. Progresses E (App f a) T (if b then extended g v u else contracts go (App f a) (unfolding_at (head g) (args g) v) u).end) (sym e)
    (subst (λ o. Progresses E (App f a) T (contracts go (App f a) o u).end) (sym e')
    (contractum go u s (unfold_contracts E h f a g v c (evaluation_keeps E h ev) (evaluation_keeps E h ev') t T d) (λ w k ev''. (suc (n + m + k), unfold_fix ev ev' t ev''))))

applied_progresses : (E : Env) → IsAccepted E → (go : Evaluating) → Going E go → (f a g v T : Term) (n m : ℕ) (u : Account) → Types bare E [] (App f a) T → Evaluates E f g n → Evaluates E a v m →
    Progresses E (App f a) T (applied E go (App f a) g v u).end
applied_progresses E h go s f a (Lambda A b) v T n m u d ev ev' =
    contractum go u s (beta_contracts E h f a A b v (evaluation_keeps E h ev) (evaluation_keeps E h ev') T d) (λ w k ev''. (suc (n + m + k), beta ev ev' ev''))
applied_progresses E h go s f a g v T n m u d ev ev' =
    let r = of_app d in
    other_progresses E h go s f a g v T n m u d ev ev' (goes_on E h v r.domain r.codomain (λ D b e. absurd (cc)) (result ev) (evaluation_keeps E h ev _ r.function).typed)

app_progresses : (E : Env) → IsAccepted E → (go : Evaluating) → Going E go → (f a T : Term) → Types bare E [] (App f a) T → (u : Account) →
    Progresses E (App f a) T (node E go (App f a) u).end
app_progresses E h go s f a T d u =
    let r = of_app d in
    after_part (go f u) (λ g w. with_value (go a w) (λ v x. applied E go (App f a) g v x)) (s f _ r.function u)
    (λ g w n ev. after_part (go a w) (λ v x. applied E go (App f a) g v x) (s a _ r.argument w)
    (λ v x m ev'. applied_progresses E h go s f a g v T n m x d ev ev'))

-- lets and matches

let_progresses : (E : Env) → IsAccepted E → (go : Evaluating) → Going E go → (b B t T : Term) → Types bare E [] (LetIn b B t) T → (u : Account) →
    Progresses E (LetIn b B t) T (node E go (LetIn b B t) u).end
let_progresses E h go s b B t T d u =
    after_part (go b u) (λ v w. contracted go (substitute (put v) t) w) (s b B (of_let_in d).value u)
    (λ v w n ev. contractum go w s (let_contracts E h b B t v (evaluation_keeps E h ev) T d) (λ x m ev'. (suc (n + m), let_in ev ev')))

entered_progresses : (E : Env) → IsAccepted E → (go : Evaluating) → Going E go → (f : FamilyId) (ps bs : Terms) (p c n : ℕ) (ret s v T : Term) (qs xs : List Term) (u : Account) →
    Types bare E [] (Case f ps p ret s bs) T → Evaluates E s v n → IsConstructor E f c v qs xs →
    Progresses E (Case f ps p ret s bs) T (contracts go (Case f ps p ret s bs) (branch_of bs f (built E v)) u).end
entered_progresses E h go g f ps bs p c n ret s v T qs xs u d ev i =
    let (body, b) = has_branch E h f c p ps bs ret s v T qs xs d i in
    subst (λ o. Progresses E (Case f ps p ret s bs) T (contracts go (Case f ps p ret s bs) o u).end) (sym (branch_there E h f c v bs qs xs body i b))
    (contractum go u g (enter_contracts E h f ps bs p c ret s v body qs xs (evaluation_keeps E h ev) i b T d) (λ w m ev'. (suc (n + m), enter ev i b ev')))

case_progresses : (E : Env) → IsAccepted E → (go : Evaluating) → Going E go → (f : FamilyId) (ps bs : Terms) (p : ℕ) (ret s T : Term) → Types bare E [] (Case f ps p ret s bs) T → (u : Account) →
    Progresses E (Case f ps p ret s bs) T (node E go (Case f ps p ret s bs) u).end
case_progresses E h go g f ps bs p ret s T d u =
    let r = of_case d in
    after_part (go s u) (λ v w. contracts go (Case f ps p ret s bs) (branch_of bs f (built E v)) w) (g s _ r.scrutinee u)
    (λ v w n ev.
    let (c, qs, xs, i) = values_are_constructors E h f (r.parameters ++ r.indices) s v n ev (evaluation_keeps E h ev _ r.scrutinee).typed in
    entered_progresses E h go g f ps bs p c n ret s v T qs xs w d ev i)

-- nodes

node_progresses : (E : Env) → IsAccepted E → (go : Evaluating) → Going E go → (t T : Term) → Types bare E [] t T → (u : Account) → Progresses E t T (node E go t u).end
node_progresses E h go s (Rel i) T d u = let e = (of_rel d).entry in absurd (cc)
node_progresses E h go s (Const k) T d u = constant_progresses E h go s k T d u (body_of (kept_at E.declarations k)) refl
node_progresses E h go s (LetIn b B t) T d u = let_progresses E h go s b B t T d u
node_progresses E h go s (App f a) T d u = app_progresses E h go s f a T d u
node_progresses E h go s (Case f ps n ret t bs) T d u = case_progresses E h go s f ps bs n ret t T d u
node_progresses E h go s (SortT r) T d u = gives (value sort_is) d
node_progresses E h go s (Prod A B) T d u = gives (value prod_is) d
node_progresses E h go s (Lambda A b) T d u = gives (value lambda_is) d
node_progresses E h go s (Ind f) T d u = gives (value ind_is) d
node_progresses E h go s (Construct f c) T d u = gives (value construct_is) d
node_progresses E h go s (Fix i rargs types bodies) T d u = gives (value fix_is) d

paid_progresses : {E : Env} {t T : Term} (n : ℕ) (r : Run Evaluated) → Progresses E t T r.end → Progresses E t T (paid n r).end
paid_progresses zero r p = spends
paid_progresses (suc n) r p = p

evaluate_progresses : (E : Env) → IsAccepted E → (n : ℕ) → Going E (evaluate E n)
unfolding evaluate ticking
evaluate_progresses E h zero t T d u = spends
evaluate_progresses E h (suc n) t T d u =
    paid_progresses u.left (node E (evaluate E n) t (ticked u)) (node_progresses E h (evaluate E n) (evaluate_progresses E h n) t T d (ticked u))

-- whatever the units

pub evaluation_progresses : EvaluationProgresses
evaluation_progresses E h t T d u = evaluate_progresses E h u.left t T d u
