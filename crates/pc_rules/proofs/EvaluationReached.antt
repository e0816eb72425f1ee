-- The directed evaluation ends with the value, where there is a unit for each node and the environment is accepted.
use Rattle.std.proofs.Common.{◌≡◌, ◌≢◌, ℕ, zero, suc, ◌+◌, ◌-◌, ◌<◌, ◌≤◌, ◌==◌, Bool, true, false, if◌then◌else◌, List, ◌∷◌, ◌++◌, length, drop, Option, Some, None, slice_get, option_map, refl, sym, ap, ◌∙◌, subst, arith, length-append}
use Rattle.std.proofs.lemmas.Bool.{eq-eqb, lt-ltb, le-ltb}
use Rattle.universe_levels.specs.declared.constraint.Constraint.{Constraint}
use Rattle.pc_terms.specs.declared.leaf.Name.{Name}
use Rattle.pc_terms.specs.declared.leaf.FamilyId.{FamilyId}
use Rattle.pc_terms.specs.Syntax.{Term, Terms, Rel, Lambda, App, Ind, Construct, Fix, put, put_all, substitute, apply, head, args, term_at}
use Rattle.calculus_rules.specs.declared.declaration.Constructor.{Constructor}
use Rattle.calculus_rules.specs.declared.declaration.Kept.{Kept}
use Rattle.calculus_rules.specs.declared.declaration.Kept.TheVariants.{Constant, Block as Whole}
use Rattle.pc_rules.specs.declared.meter.Account.{Account}
use Rattle.calculus_rules.specs.Environment.{Env, FamilyDecl, Has, here, there, name_of, family_at, KeepsConstant, KeepsFamily}
use Rattle.calculus_rules.specs.Accepted.{Accepted, empty, constant as constant_declared, block, IsAccepted}
use Rattle.calculus_rules.specs.Instances.{unfolded}
use Rattle.calculus_rules.specs.Step.{IsConstructor, is_constructor}
use Rattle.calculus_rules.specs.Evaluation.{IsValue, sort_is, prod_is, lambda_is, ind_is, construct_is, fix_is, TakesMore, family, constructor, fixpoint, Unfolds, unfolds, Evaluates, value, constant, let_in, beta, extend, unfold_fix, enter}
use Rattle.calculus_rules.specs.Same.{same_names}
use Rattle.pc_rules.specs.DirectedRun.{Run, Done, done, ticked, ticking, bind}
use Rattle.calculus_rules.specs.Lookups.{if_some, kept_at, body_of, whole_block, family_of}
use Rattle.pc_rules.specs.DirectedWeakHead.{arguments_at, built_arguments, built, branch_of, unfold_at}
use Rattle.pc_rules.specs.DirectedEvaluation.{Evaluated, Value, Evaluating, on_value, with_value, contracted, contracts, is_missing, lacks_arguments, is_below, takes_more, unfolding_at, extended, applied, node, evaluate}
use Rattle.pc_rules.specs.DirectedLaws.{more}
use Rattle.calculus_rules.proofs.Spines.{head-apply, args-apply, drop_past}
use Rattle.calculus_rules.proofs.Determined.{not_more, not_unfolds}
use Rattle.pc_rules.proofs.SameTrees.{one_family}
use Rattle.pc_rules.proofs.WeakNext.{same_names_is}
use Rattle.pc_rules.proofs.EvaluationRuns.{more_none, more_more}
use Rattle.pc_rules.proofs.Fair.{paid_is}
use Rattle.pc_rules.proofs.Following.{bind_end}

-- what is declared is found

first_is : (x : Kept) (ds : List Kept) (k : Name) → name_of x ≡ k → kept_at (x ∷ ds) k ≡ Some x
first_is x ds k e = ap (λ b. if b then Some x else kept_at ds k) (eq-eqb (name_of x).0 k.0 (ap (λ (l : Name). l.0) e))

rest_of : (x d : Kept) (ds : List Kept) (k : Name) → name_of d ≢ name_of x → name_of d ≡ k → kept_at ds k ≡ Some d →
    (b : Bool) → same_names (name_of x) k ≡ b → (if b then Some x else kept_at ds k) ≡ Some d
rest_of x d ds k f e h true p = absurd (f (e ∙ sym (same_names_is (name_of x) k p)))
rest_of x d ds k f e h false p = h

rest_is : (x d : Kept) (ds : List Kept) (k : Name) → name_of d ≢ name_of x → name_of d ≡ k → kept_at ds k ≡ Some d → kept_at (x ∷ ds) k ≡ Some d
rest_is x d ds k f e h = rest_of x d ds k f e h (same_names (name_of x) k) refl

pub kept_there : {n : ℕ} {cs : List Constraint} {ds : List Kept} {d : Kept} → Accepted n cs ds → Has ds d → (k : Name) → name_of d ≡ k → kept_at ds k ≡ Some d
kept_there empty h k e = elim h [ ]
kept_there (constant_declared {ds = ds} {k = l} {T = T} {b = b} a f p q) here k e = first_is (Constant l T b) ds k e
kept_there {d = d} (constant_declared {ds = ds} {k = l} {T = T} {b = b} a f p q) (there h) k e =
    rest_is (Constant l T b) d ds k (f d h) e (kept_there a h k e)
kept_there (block {ds = ds} {B = B} a f p) here k e = first_is (Whole B) ds k e
kept_there {d = d} (block {ds = ds} {B = B} a f p) (there h) k e = rest_is (Whole B) d ds k (f d h) e (kept_there a h k e)

pub body_there : (E : Env) → IsAccepted E → (k : Name) (T b : Term) → KeepsConstant E k T (Some b) → body_of (kept_at E.declarations k) ≡ Some b
body_there E a k T b h = ap body_of (kept_there a.declarations h k refl)

pub family_there : (E : Env) → IsAccepted E → (f : FamilyId) (F : FamilyDecl) → KeepsFamily E f F → family_of E f ≡ Some F
family_there E a f F h = ap (λ o. if_some (whole_block o) (λ B. family_at B f.family)) (kept_there a.declarations h.1 f.block h.2) ∙ h.3

-- a constructor with all its arguments is built

pub arguments_there : (F : FamilyDecl) (C : Constructor) (c : ℕ) (qs xs : List Term) → slice_get F.constructors c ≡ Some C → length qs ≡ length F.parameters →
    length xs ≡ length C.args → arguments_at F c (qs ++ xs) ≡ Some xs
arguments_there F C c qs xs i p l =
    ap (λ o. if_some o (λ (D : Constructor). if length (qs ++ xs) == length F.parameters + length D.args then Some (drop (length F.parameters) (qs ++ xs)) else None)) i
    ∙ ap (λ b. if b then Some (drop (length F.parameters) (qs ++ xs)) else None)
    (eq-eqb (length (qs ++ xs)) (length F.parameters + length C.args) (length-append qs xs ∙ (λ j. p j + l j)))
    ∙ ap Some (ap (λ n. drop n (qs ++ xs)) (sym p) ∙ drop_past qs xs)

pub built_there : (E : Env) → IsAccepted E → (f : FamilyId) (c : ℕ) (v : Term) (qs xs : List Term) → IsConstructor E f c v qs xs → built E v ≡ Some (f, c, xs)
built_there E a f c v qs xs (is_constructor {F = F} {C = C} k i p l e) =
    ap (built E) e ∙ (λ j. built_arguments E (head-apply (Construct f c) (qs ++ xs) j) (args-apply (Construct f c) (qs ++ xs) j))
    ∙ ap (λ o. if_some o (λ G. option_map (λ ys. (f, c, ys)) (arguments_at G c (qs ++ xs)))) (family_there E a f F k)
    ∙ ap (option_map (λ ys. (f, c, ys))) (arguments_there F C c qs xs i p l)

-- what the tests say

pub at_spine : (E : Env) (g h : Term) (xs : List Term) → g ≡ apply h xs → takes_more E (head g) (length (args g)) ≡ takes_more E (head h) (length (args h ++ xs))
at_spine E g h xs e =
    (λ j. takes_more E (head (e j)) (length (args (e j)))) ∙ (λ j. takes_more E (head-apply h xs j) (length (args-apply h xs j)))

pub more_there : (E : Env) → IsAccepted E → (g : Term) → TakesMore E g → takes_more E (head g) (length (args g)) ≡ true
more_there E a g (family f xs e) = at_spine E g (Ind f) xs e
more_there E a g (constructor f c xs {F = F} {C = C} k i l e) =
    at_spine E g (Construct f c) xs e ∙ ap (lacks_arguments (length xs) c) (family_there E a f F k)
    ∙ ap (is_missing (length xs) F) i ∙ lt-ltb (length xs) (length F.parameters + length C.args) l
more_there E a g (fixpoint i rargs types bodies xs {rarg = rarg} r l e) =
    at_spine E g (Fix i rargs types bodies) xs e ∙ ap (is_below (length xs)) r ∙ lt-ltb (length xs) rarg l

pub no_more : (E : Env) (g v u : Term) → Unfolds g v u → takes_more E (head g) (length (args g)) ≡ false
no_more E g v u (unfolds i rargs types bodies xs {rarg = rarg} r l b e) =
    let enough : rarg ≤ length xs = omega arith in
    at_spine E g (Fix i rargs types bodies) xs e ∙ ap (is_below (length xs)) r ∙ le-ltb (length xs) rarg enough

pub unfolding_there : (g v u : Term) → Unfolds g v u → unfolding_at (head g) (args g) v ≡ Some u
unfolding_there g v u (unfolds i rargs types bodies xs {rarg = rarg} {body = body} r l b e) =
    (λ j. unfolding_at (head (e j)) (args (e j)) v)
    ∙ (λ j. unfolding_at (head-apply (Fix i rargs types bodies) xs j) (args-apply (Fix i rargs types bodies) xs j) v)
    ∙ ap (λ o. if_some o (λ n. if length xs == n then unfold_at i rargs types bodies xs v else None)) r
    ∙ ap (λ z. if z then unfold_at i rargs types bodies xs v else None) (eq-eqb (length xs) rarg l)
    ∙ ap (λ o. if_some o (λ (p : ℕ × Term). if p.0 == length rargs then Some (App (apply (unfolded rargs types bodies p.1) xs) v) else None)) b
    ∙ ap (λ z. if z then Some (App (apply (unfolded rargs types bodies body) xs) v) else None) (eq-eqb (length rargs) (length rargs) refl)

pub branch_there : (E : Env) → IsAccepted E → (f : FamilyId) (c : ℕ) (s : Term) (bs : Terms) (qs xs : List Term) (body : Term) → IsConstructor E f c s qs xs →
    term_at bs c ≡ Some (length xs, body) → branch_of bs f (built E s) ≡ Some (substitute (put_all xs Rel) body)
branch_there E a f c s bs qs xs body h b =
    ap (branch_of bs f) (built_there E a f c s qs xs h)
    ∙ ap (λ z. if z then if_some (term_at bs c) (λ p. if p.0 == length xs then Some (substitute (put_all xs Rel) p.1) else None) else None) (one_family f)
    ∙ ap (λ o. if_some o (λ (p : ℕ × Term). if p.0 == length xs then Some (substitute (put_all xs Rel) p.1) else None)) b
    ∙ ap (λ z. if z then Some (substitute (put_all xs Rel) body) else None) (eq-eqb (length xs) (length xs) refl)

-- how runs go on

with_value_goes : (r : Run Evaluated) (k : Term → Account → Run Evaluated) (v : Term) (u : Account) → r.end ≡ Done (Value v) u → (with_value r k).end ≡ (k v u).end
with_value_goes r k v u e = bind_end r (λ e u. on_value e u k) (Value v) u e

contracted_goes : (go : Evaluating) (c : Term) (u : Account) → (contracted go c u).end ≡ (go c u).end
unfolding bind
contracted_goes go c u = refl

contracts_goes : (go : Evaluating) (t : Term) (o : Option Term) (c : Term) (u : Account) → o ≡ Some c → (contracts go t o u).end ≡ (go c u).end
contracts_goes go t o c u e = ap (λ o. (contracts go t o u).end) e ∙ contracted_goes go c u

node_entered : (E : Env) (m : ℕ) (t : Term) (n : ℕ) (v : Term) (w : Account) → (node E (evaluate E m) t (more n w)).end ≡ Done (Value v) w →
    (evaluate E (suc m) t (more (suc n) w)).end ≡ Done (Value v) w
unfolding evaluate ticking
node_entered E m t n v w h =
    let less : w.left + suc n - 1 ≡ w.left + n = omega arith in
    let same : ticked (more (suc n) w) ≡ more n w = λ i. record { left = less i; uses = w.uses } in
    ap (λ r. r.end) (paid_is (w.left + suc n) (node E (evaluate E m) t (ticked (more (suc n) w))) (omega arith)) ∙ ap (λ u. (node E (evaluate E m) t u).end) same ∙ h

applied_other : (E : Env) (go : Evaluating) (t g v : Term) (u : Account) → ((A b : Term) → g ≡ Lambda A b → ⊥) →
    applied E go t g v u ≡ (if takes_more E (head g) (length (args g)) then extended g v u else contracts go t (unfolding_at (head g) (args g) v) u)
applied_other E go t (Lambda A b) v u f = absurd (f A b refl)
applied_other E go t g v u f = refl

extended_goes : (E : Env) → IsAccepted E → (go : Evaluating) (t g v : Term) (u : Account) → TakesMore E g → (applied E go t g v u).end ≡ Done (Value (App g v)) u
unfolding bind
extended_goes E a go t g v u h =
    ap (λ r. r.end) (applied_other E go t g v u (λ A b e. not_more (subst (λ x. TakesMore E x) e h)))
    ∙ ap (λ b. (if b then extended g v u else contracts go t (unfolding_at (head g) (args g) v) u).end) (more_there E a g h)

unfolded_goes : (E : Env) (go : Evaluating) (t g v c : Term) (u : Account) → Unfolds g v c → (applied E go t g v u).end ≡ (go c u).end
unfolded_goes E go t g v c u h =
    ap (λ r. r.end) (applied_other E go t g v u (λ A b e. not_unfolds (subst (λ x. Unfolds x v c) e h)))
    ∙ ap (λ b. (if b then extended g v u else contracts go t (unfolding_at (head g) (args g) v) u).end) (no_more E g v c h)
    ∙ contracts_goes go t (unfolding_at (head g) (args g) v) c u (unfolding_there g v c h)

value_stays : (E : Env) (go : Evaluating) (t : Term) (u : Account) → IsValue t → node E go t u ≡ done (Value t) u
value_stays E go t u sort_is = refl
value_stays E go t u prod_is = refl
value_stays E go t u lambda_is = refl
value_stays E go t u ind_is = refl
value_stays E go t u construct_is = refl
value_stays E go t u fix_is = refl

pub more_two : (n m : ℕ) (w : Account) → more (n + m) w ≡ more n (more m w)
more_two n m w = sym (more_more n m w)

pub more_three : (n m k : ℕ) (w : Account) → more (n + m + k) w ≡ more n (more m (more k w))
more_three n m k w = more_two (n + m) k w ∙ more_two n m (more k w)

some_nodes : {E : Env} {t v : Term} {n : ℕ} → Evaluates E t v n → 0 < n
some_nodes (value i) = omega arith
some_nodes (constant k e) = omega arith
some_nodes (let_in e e') = omega arith
some_nodes (beta e e' e'') = omega arith
some_nodes (extend e e' h) = omega arith
some_nodes (unfold_fix e e' h e'') = omega arith
some_nodes (enter e h b e') = omega arith

-- an application, of which the function's and the argument's runs are known
app_goes : (E : Env) (go : Evaluating) (f a g v y : Term) (u x z w : Account) → (go f u).end ≡ Done (Value g) x → (go a x).end ≡ Done (Value v) z →
    (applied E go (App f a) g v z).end ≡ Done (Value y) w → (node E go (App f a) u).end ≡ Done (Value y) w
app_goes E go f a g v y u x z w e e' h =
    with_value_goes (go f u) (λ g w. with_value (go a w) (λ v x. applied E go (App f a) g v x)) g x e
    ∙ with_value_goes (go a x) (λ v x. applied E go (App f a) g v x) v z e' ∙ h

pub reached : (E : Env) → IsAccepted E → (m : ℕ) (t v : Term) (n : ℕ) → Evaluates E t v n → n ≤ m → (w : Account) →
    (evaluate E m t (more n w)).end ≡ Done (Value v) w
reached E a zero t v n e l w = let some = some_nodes e in absurd (omega arith)
reached E a (suc m) t v n (value i) l w =
    node_entered E m t 0 t w (ap (λ r. r.end) (value_stays E (evaluate E m) t (more 0 w) i) ∙ ap (Done (Value t)) (sym (more_none w)))
reached E a (suc m) t v n (constant {k = k} {n = j} {T = T} {b = b} h e) l w =
    node_entered E m t j v w
    (contracts_goes (evaluate E m) t (body_of (kept_at E.declarations k)) b (more j w) (body_there E a k T b h) ∙ reached E a m b v j e (omega arith) w)
reached E a (suc m) t y n (let_in {b = b} {t = body} {v = v} {n = i} {m = j} e e') l w =
    node_entered E m t (i + j) y w
    (ap (λ u. (node E (evaluate E m) t u).end) (more_two i j w)
    ∙ with_value_goes (evaluate E m b (more i (more j w))) (λ v w. contracted (evaluate E m) (substitute (put v) body) w) v (more j w) (reached E a m b v i e (omega arith) (more j w))
    ∙ contracted_goes (evaluate E m) (substitute (put v) body) (more j w) ∙ reached E a m (substitute (put v) body) y j e' (omega arith) w)
reached E a (suc m) t y n (beta {f = f} {a = arg} {A = A} {b = b} {v = v} {n = i} {m = j} {k = k} e e' e'') l w =
    node_entered E m t (i + j + k) y w
    (ap (λ u. (node E (evaluate E m) t u).end) (more_three i j k w)
    ∙ app_goes E (evaluate E m) f arg (Lambda A b) v y (more i (more j (more k w))) (more j (more k w)) (more k w) w
    (reached E a m f (Lambda A b) i e (omega arith) (more j (more k w))) (reached E a m arg v j e' (omega arith) (more k w))
    (contracted_goes (evaluate E m) (substitute (put v) b) (more k w) ∙ reached E a m (substitute (put v) b) y k e'' (omega arith) w))
reached E a (suc m) t y n (extend {f = f} {a = arg} {g = g} {v = v} {n = i} {m = j} e e' h) l w =
    node_entered E m t (i + j) y w
    (ap (λ u. (node E (evaluate E m) t u).end) (more_two i j w)
    ∙ app_goes E (evaluate E m) f arg g v y (more i (more j w)) (more j w) w w
    (reached E a m f g i e (omega arith) (more j w)) (reached E a m arg v j e' (omega arith) w) (extended_goes E a (evaluate E m) t g v w h))
reached E a (suc m) t y n (unfold_fix {f = f} {a = arg} {g = g} {v = v} {u = c} {n = i} {m = j} {k = k} e e' h e'') l w =
    node_entered E m t (i + j + k) y w
    (ap (λ u. (node E (evaluate E m) t u).end) (more_three i j k w)
    ∙ app_goes E (evaluate E m) f arg g v y (more i (more j (more k w))) (more j (more k w)) (more k w) w
    (reached E a m f g i e (omega arith) (more j (more k w))) (reached E a m arg v j e' (omega arith) (more k w))
    (unfolded_goes E (evaluate E m) t g v c (more k w) h ∙ reached E a m c y k e'' (omega arith) w))
reached E a (suc m) t y n (enter {f = f} {bs = bs} {c = c} {n = i} {m = j} {s = s} {v = v} {body = body} {qs = qs} {xs = xs} e h b e') l w =
    node_entered E m t (i + j) y w
    (ap (λ u. (node E (evaluate E m) t u).end) (more_two i j w)
    ∙ with_value_goes (evaluate E m s (more i (more j w))) (λ v w. contracts (evaluate E m) t (branch_of bs f (built E v)) w) v (more j w)
    (reached E a m s v i e (omega arith) (more j w))
    ∙ contracts_goes (evaluate E m) t (branch_of bs f (built E v)) (substitute (put_all xs Rel) body) (more j w) (branch_there E a f c v bs qs xs body h b)
    ∙ reached E a m (substitute (put_all xs Rel) body) y j e' (omega arith) w)
