-- What a directed evaluation ends with is the value, with one unit taken for each node.
use Rattle.std.proofs.Common.{◌≡◌, ℕ, zero, suc, ◌+◌, ◌<◌, ◌==◌, Bool, true, false, if◌then◌else◌, List, length, Option, Some, None, slice_get, refl, sym, ap, ◌∙◌, subst, arith}
use Rattle.std.proofs.lemmas.Bool.{eqb-true, ltb-true}
use Rattle.pc_terms.specs.declared.leaf.FamilyId.{FamilyId}
use Rattle.pc_terms.specs.Syntax.{Term, Terms, Rel, SortT, Prod, Lambda, LetIn, App, Const, Ind, Construct, Case, Fix, put, put_all, substitute, apply, head, args, term_at}
use Rattle.calculus_rules.specs.declared.declaration.Constructor.{Constructor}
use Rattle.pc_rules.specs.declared.meter.Account.{Account}
use Rattle.calculus_rules.specs.Environment.{Env, FamilyDecl, KeepsFamily}
use Rattle.calculus_rules.specs.Instances.{unfolded}
use Rattle.calculus_rules.specs.Step.{IsConstructor}
use Rattle.calculus_rules.specs.Evaluation.{IsValue, sort_is, prod_is, lambda_is, ind_is, construct_is, fix_is, TakesMore, family, constructor, fixpoint, Unfolds, unfolds, Evaluates, value, constant, let_in, beta, extend, unfold_fix, enter}
use Rattle.calculus_rules.specs.Same.{same_families}
use Rattle.pc_rules.specs.DirectedRun.{Run, End, Done, Refused, NoUnit, Nested, ticked, paid, ticking, end_then, bind}
use Rattle.calculus_rules.specs.Lookups.{if_some, kept_at, body_of, family_of}
use Rattle.pc_rules.specs.DirectedWeakHead.{built, branch_of, unfold_at}
use Rattle.pc_rules.specs.DirectedEvaluation.{Evaluated, Value, Stuck, Evaluating, on_value, with_value, contracted, contracts, is_missing, lacks_arguments, is_below, takes_more, unfolding_at, extended, applied, node, evaluate}
use Rattle.pc_rules.specs.DirectedLaws.{more}
use Rattle.calculus_rules.proofs.Spines.{one_item}
use Rattle.pc_rules.proofs.WeakNext.{none_some, if_some_is, if_is, body_found, family_found, built_found, same_families_is}
use Rattle.calculus_rules.proofs.Spines.{spine_is}

-- where runs come from

end_came : {A B : Type 0} (e : End A) (k : A → Account → End B) {b : B} {w : Account} → end_then e k ≡ Done b w →
    (a : A) × (v : Account) × (e ≡ Done a v) × (k a v ≡ Done b w)
end_came (Done a v) k h = (a, v, refl, h)
end_came (Refused x v) k h = absurd (cc)
end_came NoUnit k h = absurd (cc)
end_came Nested k h = absurd (cc)

pub bind_came : {A B : Type 0} (r : Run A) (k : A → Account → Run B) {b : B} {w : Account} → (bind r k).end ≡ Done b w →
    (a : A) × (v : Account) × (r.end ≡ Done a v) × ((k a v).end ≡ Done b w)
unfolding bind
bind_came r k h = end_came r.end (λ a u. (k a u).end) h

paid_came : {A : Type 0} (m : ℕ) (r : Run A) {b : A} {w : Account} → (paid m r).end ≡ Done b w → (0 < m) × (r.end ≡ Done b w)
paid_came zero r h = absurd (cc)
paid_came (suc m) r h = (omega arith, h)

pub ticking_came : {A : Type 0} (u : Account) (go : Account → Run A) {b : A} {w : Account} → (ticking u go).end ≡ Done b w →
    (0 < u.left) × ((go (ticked u)).end ≡ Done b w)
unfolding ticking
ticking_came u go h = paid_came u.left (go (ticked u)) h

value_came : (e : Evaluated) (u : Account) (k : Term → Account → Run Evaluated) {v : Term} {w : Account} → (on_value e u k).end ≡ Done (Value v) w →
    (x : Term) × (e ≡ Value x) × ((k x u).end ≡ Done (Value v) w)
value_came (Value x) u k h = (x, refl, h)
value_came (Stuck t) u k h = absurd (cc)

with_value_came : (r : Run Evaluated) (k : Term → Account → Run Evaluated) {v : Term} {w : Account} → (with_value r k).end ≡ Done (Value v) w →
    (x : Term) × (y : Account) × (r.end ≡ Done (Value x) y) × ((k x y).end ≡ Done (Value v) w)
with_value_came r k h =
    let b = bind_came r (λ e u. on_value e u k) h in
    let c = value_came b.0 b.1 k b.3 in
    (c.0, b.1, b.2 ∙ ap (λ e. Done e b.1) c.1, c.2)

contracted_came : (go : Evaluating) (c : Term) (u : Account) {v : Term} {w : Account} → (contracted go c u).end ≡ Done (Value v) w →
    (go c u).end ≡ Done (Value v) w
unfolding bind
contracted_came go c u h = h

contracts_came : (go : Evaluating) (t : Term) (o : Option Term) (u : Account) {v : Term} {w : Account} → (contracts go t o u).end ≡ Done (Value v) w →
    (c : Term) × (o ≡ Some c) × ((go c u).end ≡ Done (Value v) w)
contracts_came go t None u h = absurd (cc)
contracts_came go t (Some c) u h = (c, refl, contracted_came go c u h)

-- units

pub more_none : (w : Account) → w ≡ more 0 w
more_none w = let e : w.left ≡ w.left + 0 = omega arith in λ i. record { left = e i; uses = w.uses }

pub more_more : (n m : ℕ) (w : Account) → more n (more m w) ≡ more (n + m) w
more_more n m w = let e : w.left + m + n ≡ w.left + (n + m) = omega arith in λ i. record { left = e i; uses = w.uses }

ticked_is : (n : ℕ) (u w : Account) → 0 < u.left → ticked u ≡ more n w → u ≡ more (suc n) w
ticked_is n u w l p =
    let q = ap (λ (a : Account). a.left) p in let e : u.left ≡ w.left + suc n = omega arith in
    λ i. record { left = e i; uses = (p i).uses }

after_both : (n m : ℕ) (u x w : Account) → u ≡ more n x → x ≡ more m w → u ≡ more (n + m) w
after_both n m u x w p q = p ∙ ap (more n) q ∙ more_more n m w

-- what the tests say

missing_is : (E : Env) (f : FamilyId) (c : ℕ) (xs : List Term) (g : Term) → g ≡ apply (Construct f c) xs → (F : FamilyDecl) → KeepsFamily E f F →
    (o : Option Constructor) → slice_get F.constructors c ≡ o → is_missing (length xs) F o ≡ true → TakesMore E g
missing_is E f c xs g e F k None p h = absurd (cc)
missing_is E f c xs g e F k (Some C) p h = constructor f c xs k p (ltb-true (length xs) (length F.parameters + length C.args) h) e

lacks_is : (E : Env) (f : FamilyId) (c : ℕ) (xs : List Term) (g : Term) → g ≡ apply (Construct f c) xs → (o : Option FamilyDecl) → family_of E f ≡ o →
    lacks_arguments (length xs) c o ≡ true → TakesMore E g
lacks_is E f c xs g e None p h = absurd (cc)
lacks_is E f c xs g e (Some F) p h = missing_is E f c xs g e F (family_found E f F p) (slice_get F.constructors c) refl h

fewer_is : (E : Env) (i : ℕ) (rargs : List ℕ) (types bodies : Terms) (xs : List Term) (g : Term) → g ≡ apply (Fix i rargs types bodies) xs →
    (o : Option ℕ) → slice_get rargs i ≡ o → is_below (length xs) o ≡ true → TakesMore E g
fewer_is E i rargs types bodies xs g e None p h = absurd (cc)
fewer_is E i rargs types bodies xs g e (Some rarg) p h = fixpoint i rargs types bodies xs p (ltb-true (length xs) rarg h) e

takes_more_is : (E : Env) (h : Term) (xs : List Term) (g : Term) → g ≡ apply h xs → takes_more E h (length xs) ≡ true → TakesMore E g
takes_more_is E (Ind f) xs g e p = family f xs e
takes_more_is E (Construct f c) xs g e p = lacks_is E f c xs g e (family_of E f) refl p
takes_more_is E (Fix i rargs types bodies) xs g e p = fewer_is E i rargs types bodies xs g e (slice_get rargs i) refl p
takes_more_is E h xs g e p = absurd (cc)

unfolding_is : (h : Term) (xs : List Term) (v g c : Term) → g ≡ apply h xs → unfolding_at h xs v ≡ Some c → Unfolds g v c
unfolding_is (Fix i rargs types bodies) xs v g c e p =
    let r = if_some_is (slice_get rargs i) (λ rarg. if length xs == rarg then unfold_at i rargs types bodies xs v else None) p in
    let q = if_is (length xs == r.0) (unfold_at i rargs types bodies xs v) r.2 in
    let t = if_some_is (term_at bodies i) (λ b. if b.0 == length rargs then Some (App (apply (unfolded rargs types bodies b.1) xs) v) else None) q.1 in
    let b : ℕ × Term = t.0 in
    let s = if_is (b.0 == length rargs) (Some (App (apply (unfolded rargs types bodies b.1) xs) v)) t.2 in
    let at : term_at bodies i ≡ Some (length rargs, b.1) = t.1 ∙ (λ j. Some (eqb-true b.0 (length rargs) s.0 j, b.1)) in
    subst (λ x. Unfolds g v x) (one_item s.1) (unfolds i rargs types bodies xs r.1 (eqb-true (length xs) r.0 q.0) at e)
unfolding_is h xs v g c e p = absurd (none_some p)

branch_is : (E : Env) (f : FamilyId) (s : Term) (bs : Terms) (o : Option (FamilyId × ℕ × List Term)) (c : Term) → built E s ≡ o → branch_of bs f o ≡ Some c →
    (k : ℕ) × (qs : List Term) × (xs : List Term) × (body : Term) × IsConstructor E f k s qs xs × (term_at bs k ≡ Some (length xs, body)) × (substitute (put_all xs Rel) body ≡ c)
branch_is E f s bs None c e h = absurd (none_some h)
branch_is E f s bs (Some p) c e h =
    let r = if_is (same_families f p.0) (if_some (term_at bs p.1) (λ b. if b.0 == length p.2 then Some (substitute (put_all p.2 Rel) b.1) else None)) h in
    let t = if_some_is (term_at bs p.1) (λ b. if b.0 == length p.2 then Some (substitute (put_all p.2 Rel) b.1) else None) r.1 in
    let b : ℕ × Term = t.0 in
    let q = if_is (b.0 == length p.2) (Some (substitute (put_all p.2 Rel) b.1)) t.2 in
    let k = built_found E s p e in
    let at : term_at bs p.1 ≡ Some (length p.2, b.1) = t.1 ∙ (λ j. Some (eqb-true b.0 (length p.2) q.0 j, b.1)) in
    (p.1, k.0, p.2, b.1, subst (λ g. IsConstructor E g p.1 s k.0 p.2) (sym (same_families_is f p.0 r.0)) k.1, at, one_item q.1)

-- evaluations that end with values

abbrev Sound : Env → Evaluating → Type 0
Sound E go = (t v : Term) (u w : Account) → (go t u).end ≡ Done (Value v) w → (n : ℕ) × Evaluates E t v n × (u ≡ more n w)

-- an application with n nodes in its function and m in its argument
abbrev AppliedTo : Env → Term → Term → ℕ → ℕ → Account → Account → Type 0
AppliedTo E t y n m u w = (j : ℕ) × Evaluates E t y (suc (n + m + j)) × (u ≡ more j w)

value_in : End Evaluated → Term → Term
value_in (Done (Value v) u) o = v
value_in e o = o

account_in : End Evaluated → Account → Account
account_in (Done v u) o = u
account_in e o = o

value_end : {x y : Term} {u w : Account} → Done (Value x) u ≡ Done (Value y) w → (x ≡ y) × (u ≡ w)
unfolding value_in account_in
value_end {x} {y} {u} {w} e = (ap (λ r. value_in r x) e, ap (λ r. account_in r u) e)

extended_sound : (E : Env) (f a g v y : Term) (n m : ℕ) (u w : Account) → Evaluates E f g n → Evaluates E a v m → TakesMore E g →
    (extended g v u).end ≡ Done (Value y) w → AppliedTo E (App f a) y n m u w
unfolding bind
extended_sound E f a g v y n m u w e e' more h =
    let p = value_end h in let count : suc (n + m) ≡ suc (n + m + 0) = omega arith in
    (0, subst (λ k. Evaluates E (App f a) y k) count (subst (λ x. Evaluates E (App f a) x (suc (n + m))) p.0 (extend e e' more)), p.1 ∙ more_none w)

unfolded_sound : (E : Env) (go : Evaluating) → Sound E go → (f a g v y : Term) (n m : ℕ) (u w : Account) → Evaluates E f g n → Evaluates E a v m →
    (contracts go (App f a) (unfolding_at (head g) (args g) v) u).end ≡ Done (Value y) w → AppliedTo E (App f a) y n m u w
unfolded_sound E go s f a g v y n m u w e e' h =
    let c = contracts_came go (App f a) (unfolding_at (head g) (args g) v) u h in
    let r = s c.0 y u w c.2 in
    (r.0, unfold_fix e e' (unfolding_is (head g) (args g) v g c.0 (spine_is g) c.1) r.1, r.2)

either_sound : (E : Env) (go : Evaluating) → Sound E go → (f a g v y : Term) (n m : ℕ) (u w : Account) → Evaluates E f g n → Evaluates E a v m →
    (b : Bool) → takes_more E (head g) (length (args g)) ≡ b →
    (if b then extended g v u else contracts go (App f a) (unfolding_at (head g) (args g) v) u).end ≡ Done (Value y) w → AppliedTo E (App f a) y n m u w
either_sound E go s f a g v y n m u w e e' true p h =
    extended_sound E f a g v y n m u w e e' (takes_more_is E (head g) (args g) g (spine_is g) p) h
either_sound E go s f a g v y n m u w e e' false p h = unfolded_sound E go s f a g v y n m u w e e' h

applied_sound : (E : Env) (go : Evaluating) → Sound E go → (f a g v y : Term) (n m : ℕ) (u w : Account) → Evaluates E f g n → Evaluates E a v m →
    (applied E go (App f a) g v u).end ≡ Done (Value y) w → AppliedTo E (App f a) y n m u w
applied_sound E go s f a (Lambda A b) v y n m u w e e' h =
    let r = s (substitute (put v) b) y u w (contracted_came go (substitute (put v) b) u h) in (r.0, beta e e' r.1, r.2)
applied_sound E go s f a g v y n m u w e e' h =
    either_sound E go s f a g v y n m u w e e' (takes_more E (head g) (length (args g))) refl h

-- a node, whose unit is taken already
abbrev NodeOf : Env → Term → Term → Account → Account → Type 0
NodeOf E t v u w = (n : ℕ) × Evaluates E t v (suc n) × (u ≡ more n w)

value_sound : (E : Env) (t v : Term) (u w : Account) → IsValue t → Done (Value t) u ≡ Done (Value v) w → NodeOf E t v u w
value_sound E t v u w i h = let p = value_end h in (0, subst (λ x. Evaluates E t x 1) p.0 (value i), p.1 ∙ more_none w)

app_sound : (E : Env) (go : Evaluating) → Sound E go → (f a v : Term) (u w : Account) → (node E go (App f a) u).end ≡ Done (Value v) w → NodeOf E (App f a) v u w
app_sound E go s f a v u w h =
    let p = with_value_came (go f u) (λ g x. with_value (go a x) (λ v y. applied E go (App f a) g v y)) h in
    let q = with_value_came (go a p.1) (λ v y. applied E go (App f a) p.0 v y) p.3 in
    let r = s f p.0 u p.1 p.2 in let r' = s a q.0 p.1 q.1 q.2 in
    let z = applied_sound E go s f a p.0 q.0 v r.0 r'.0 q.1 w r.1 r'.1 q.3 in
    (r.0 + r'.0 + z.0, z.1, after_both (r.0 + r'.0) z.0 u q.1 w (after_both r.0 r'.0 u p.1 q.1 r.2 r'.2) z.2)

entered_sound : (E : Env) (f : FamilyId) (ps : Terms) (n : ℕ) (ret t x c v : Term) (bs : Terms) (i j : ℕ) → Evaluates E t x i →
    (k : ℕ) × (qs : List Term) × (xs : List Term) × (body : Term) × IsConstructor E f k x qs xs × (term_at bs k ≡ Some (length xs, body)) × (substitute (put_all xs Rel) body ≡ c) →
    Evaluates E c v j → Evaluates E (Case f ps n ret t bs) v (suc (i + j))
entered_sound E f ps n ret t x c v bs i j e (k, qs, xs, body, h, b, same) e' = enter e h b (subst (λ x. Evaluates E x v j) (sym same) e')

case_sound : (E : Env) (go : Evaluating) → Sound E go → (f : FamilyId) (ps : Terms) (n : ℕ) (ret t : Term) (bs : Terms) (v : Term) (u w : Account) →
    (node E go (Case f ps n ret t bs) u).end ≡ Done (Value v) w → NodeOf E (Case f ps n ret t bs) v u w
case_sound E go s f ps n ret t bs v u w h =
    let p = with_value_came (go t u) (λ x y. contracts go (Case f ps n ret t bs) (branch_of bs f (built E x)) y) h in
    let c = contracts_came go (Case f ps n ret t bs) (branch_of bs f (built E p.0)) p.1 p.3 in
    let r = s t p.0 u p.1 p.2 in let r' = s c.0 v p.1 w c.2 in (
      r.0 + r'.0,
      entered_sound E f ps n ret t p.0 c.0 v bs r.0 r'.0 r.1 (branch_is E f p.0 bs (built E p.0) c.0 refl c.1) r'.1,
      after_both r.0 r'.0 u p.1 w r.2 r'.2,
    )

let_sound : (E : Env) (go : Evaluating) → Sound E go → (b B t v : Term) (u w : Account) → (node E go (LetIn b B t) u).end ≡ Done (Value v) w → NodeOf E (LetIn b B t) v u w
let_sound E go s b B t v u w h =
    let p = with_value_came (go b u) (λ x y. contracted go (substitute (put x) t) y) h in
    let r = s b p.0 u p.1 p.2 in let r' = s (substitute (put p.0) t) v p.1 w (contracted_came go (substitute (put p.0) t) p.1 p.3) in
    (r.0 + r'.0, let_in r.1 r'.1, after_both r.0 r'.0 u p.1 w r.2 r'.2)

node_sound : (E : Env) (go : Evaluating) → Sound E go → (t v : Term) (u w : Account) → (node E go t u).end ≡ Done (Value v) w → NodeOf E t v u w
node_sound E go s (Rel i) v u w h = absurd (cc)
node_sound E go s (Const k) v u w h =
    let c = contracts_came go (Const k) (body_of (kept_at E.declarations k)) u h in let r = s c.0 v u w c.2 in
    (r.0, constant (body_found E k (kept_at E.declarations k) c.0 refl c.1).1 r.1, r.2)
node_sound E go s (LetIn b B t) v u w h = let_sound E go s b B t v u w h
node_sound E go s (App f a) v u w h = app_sound E go s f a v u w h
node_sound E go s (Case f ps n ret t bs) v u w h = case_sound E go s f ps n ret t bs v u w h
node_sound E go s (SortT r) v u w h = value_sound E (SortT r) v u w sort_is h
node_sound E go s (Prod A B) v u w h = value_sound E (Prod A B) v u w prod_is h
node_sound E go s (Lambda A b) v u w h = value_sound E (Lambda A b) v u w lambda_is h
node_sound E go s (Ind f) v u w h = value_sound E (Ind f) v u w ind_is h
node_sound E go s (Construct f c) v u w h = value_sound E (Construct f c) v u w construct_is h
node_sound E go s (Fix i rargs types bodies) v u w h = value_sound E (Fix i rargs types bodies) v u w fix_is h

pub evaluate_sound : (E : Env) (m : ℕ) → Sound E (evaluate E m)
unfolding evaluate
evaluate_sound E zero t v u w h = absurd (cc)
evaluate_sound E (suc m) t v u w h =
    let p = ticking_came u (λ x. node E (evaluate E m) t x) h in
    let r = node_sound E (evaluate E m) (evaluate_sound E m) t v (ticked u) w p.1 in
    (suc r.0, r.1, ticked_is r.0 u w p.0 r.2)
