-- Weak-head reduction and comparison never go back on units, and more units change no result.
use Rattle.std.proofs.Common.{◌≡◌, ℕ, zero, suc, ◌+◌, ◌-◌, ◌==◌, ◌&&◌, Bool, true, List, [], ◌∷◌, length, Option, Some, None, refl, sym, ap, ◌∙◌, subst, arith}
use Rattle.pc_terms.specs.declared.leaf.FamilyId.{FamilyId}
use Rattle.pc_terms.specs.Syntax.{Term, Terms, SortT, Prod, Lambda, Case, Fix, head, args, list_of}
use Rattle.calculus_rules.specs.declared.declaration.Constructor.{Constructor}
use Rattle.calculus_rules.specs.declared.entry.Entry.TheVariants.{Assumed}
use Rattle.pc_rules.specs.declared.broken.Broken.TheVariants.{NotBelow, UnknownName}
use Rattle.pc_rules.specs.declared.broken.Clash.TheVariants.{Terms as ClashOfTerms, Sorts as ClashOfSorts}
use Rattle.pc_rules.specs.declared.meter.Account.{Account}
use Rattle.calculus_rules.specs.Environment.{Env, FamilyDecl}
use Rattle.calculus_rules.specs.Context.{Context, Values, extend, values}
use Rattle.calculus_rules.specs.Instances.{predicate_entries, branch_entries}
use Rattle.calculus_rules.specs.Same.{same}
use Rattle.calculus_rules.specs.WeakHead.{WeakSteps, no_step, then_step}
use Rattle.pc_rules.specs.DirectedRun.{Run, End, Done, Act, done, ticked, any_beyond, run_all, Leaves}
use Rattle.calculus_rules.specs.Lookups.{family_of}
use Rattle.pc_rules.specs.DirectedWeakHead.{weak_next, after_step, stuck_step, steps, whnf}
use Rattle.pc_rules.specs.DirectedComparison.{Test, Comparison, sorts_stand, alike, each_equal, entering, branches_equal, matches_equal, lifted_types, fixpoints_equal, heads_equal, spines_equal, pair, entered, compare}
use Rattle.pc_rules.specs.DirectedLaws.{more, Stays}
use Rattle.pc_rules.proofs.Fair.{IsFair, AreFair, no_act, an_act, fair_done, fair_refused, fair_passing, fair_nested, fair_if, fair_bind, fair_ticking, fair_all}
use Rattle.pc_rules.proofs.WeakNext.{weak_next_found}
use Rattle.pc_rules.proofs.Following.{steps_stop}

stuck_leaves : (o : Option Term) (t : Term) (u : Account) → Leaves (stuck_step o (done t u)).end u.left
stuck_leaves None t u = omega arith
stuck_leaves (Some x) t u = tt

leaves_ticked : (e : End Term) (u : Account) → Leaves e (ticked u).left → Leaves e u.left
leaves_ticked (Done a v) u h = omega arith
leaves_ticked (End.Refused b v) u h = omega arith
leaves_ticked End.NoUnit u h = tt
leaves_ticked End.Nested u h = tt

after_leaves : (o : Option Term) (t : Term) (u : Account) (go : Term → Run Term) → ((x : Term) → Leaves (go x).end u.left) →
    Leaves (after_step o (done t u) go).end u.left
after_leaves None t u go h = omega arith
after_leaves (Some x) t u go h = h x

pub steps_leaves : (E : Env) (V : Values) (m : ℕ) (t : Term) (u : Account) → Leaves (steps E V m t u).end u.left
unfolding steps
steps_leaves E V zero t u = stuck_leaves (weak_next E V t) t u
steps_leaves E V (suc m) t u =
    after_leaves (weak_next E V t) t u (λ x. steps E V m x (ticked u)) (λ x. leaves_ticked (steps E V m x (ticked u)).end u (steps_leaves E V m x (ticked u)))

-- where there is one, it goes on
steps_go : (E : Env) (V : Values) (m : ℕ) (t x : Term) (u : Account) → weak_next E V t ≡ Some x → (steps E V (suc m) t u).end ≡ (steps E V m x (ticked u)).end
unfolding steps
steps_go E V m t x u e = ap (λ o. (after_step o (done t u) (λ x. steps E V m x (ticked u))).end) e

ticked_more : (k m : ℕ) (u : Account) → u.left ≡ suc m → more k (ticked u) ≡ ticked (more k u)
ticked_more k m u l = let e : u.left - 1 + k ≡ u.left + k - 1 = omega arith in λ i. record { left = e i; uses = u.uses }

steps_stay : (E : Env) (V : Values) (k m : ℕ) (t : Term) (u : Account) → u.left ≡ m → (o : Option Term) → weak_next E V t ≡ o →
    ((x : Term) (v : Account) → (n : ℕ) → m ≡ suc n → v.left ≡ n → Stays k (steps E V n x v).end (steps E V (n + k) x (more k v)).end) →
    Stays k (steps E V m t u).end (steps E V (m + k) t (more k u)).end
unfolding steps
steps_stay E V k m t u l None e rec =
    subst (λ r. Stays k r.end (steps E V (m + k) t (more k u)).end) (sym (steps_stop E V m t u e)) (ap (λ r. r.end) (steps_stop E V (m + k) t (more k u) e))
steps_stay E V k zero t u l (Some x) e rec =
    subst (λ o. Stays k (stuck_step o (done t u)).end (steps E V (zero + k) t (more k u)).end) (sym e) tt
steps_stay E V k (suc m) t u l (Some x) e rec =
    let next = rec x (ticked u) m refl (omega arith) in
    let longer : suc m + k ≡ suc (m + k) = omega arith in
    let right : (steps E V (suc m + k) t (more k u)).end ≡ (steps E V (m + k) x (more k (ticked u))).end =
    ap (λ j. (steps E V j t (more k u)).end) longer ∙ steps_go E V (m + k) t x (more k u) e ∙ ap (λ v. (steps E V (m + k) x v).end) (sym (ticked_more k m u l)) in
    subst (λ y. Stays k y (steps E V (suc m + k) t (more k u)).end) (sym (steps_go E V m t x u e)) (subst (λ y. Stays k (steps E V m x (ticked u)).end y) (sym right) next)

pred_is : (n m : ℕ) → suc n ≡ suc m → m ≡ n
pred_is n m e = omega arith

steps_stays : (E : Env) (V : Values) (k m : ℕ) (t : Term) (u : Account) → u.left ≡ m → Stays k (steps E V m t u).end (steps E V (m + k) t (more k u)).end
steps_stays E V k zero t u l = steps_stay E V k zero t u l (weak_next E V t) refl (λ x v n e h. absurd (omega arith))
steps_stays E V k (suc m) t u l =
    steps_stay E V k (suc m) t u l (weak_next E V t) refl
    (λ x v n e h. subst (λ j. Stays k (steps E V j x v).end (steps E V (j + k) x (more k v)).end) (sym (pred_is m n e)) (steps_stays E V k m x v (h ∙ pred_is m n e)))

pub fair_whnf : {n k : ℕ} (E : Env) (V : Values) (t : Term) → IsFair n k (λ u. whnf E V t u) (λ u. whnf E V t u)
fair_whnf {k = k} E V t = record { falls = λ u. steps_leaves E V u.left t u; stays = λ u l. steps_stays E V k u.left t u refl }

-- what the steps lead to

result_of : End Term → Term → Term
result_of (Done a v) o = a
result_of _ o = o

pub done_is : {t w : Term} {u v : Account} → Done t u ≡ Done w v → t ≡ w
unfolding result_of
done_is {t} e = ap (λ r. result_of r t) e

not_done : {w : Term} {v : Account} → End.NoUnit ≡ Done w v → ⊥
not_done e = cc

steps_reach : (E : Env) (V : Values) (m : ℕ) (t w : Term) (u v : Account) → (o : Option Term) → weak_next E V t ≡ o →
    ((n : ℕ) (x : Term) → m ≡ suc n → (steps E V n x (ticked u)).end ≡ Done w v → WeakSteps E V x w) → (steps E V m t u).end ≡ Done w v → WeakSteps E V t w
unfolding steps
steps_reach E V m t w u v None e rec h =
    subst (λ x. WeakSteps E V t x) (done_is (sym (ap (λ r. r.end) (steps_stop E V m t u e)) ∙ h)) no_step
steps_reach E V zero t w u v (Some x) e rec h = absurd (not_done (sym (ap (λ o. (stuck_step o (done t u)).end) e) ∙ h))
steps_reach E V (suc m) t w u v (Some x) e rec h = then_step (weak_next_found E V t x e) (rec m x refl (sym (steps_go E V m t x u e) ∙ h))

pub steps_lead : (E : Env) (V : Values) (m : ℕ) (t w : Term) (u v : Account) → (steps E V m t u).end ≡ Done w v → WeakSteps E V t w
steps_lead E V zero t w u v h = steps_reach E V zero t w u v (weak_next E V t) refl (λ n x e. absurd (omega arith)) h
steps_lead E V (suc m) t w u v h =
    steps_reach E V (suc m) t w u v (weak_next E V t) refl
    (λ n x e h'. steps_lead E V m x w (ticked u) v (subst (λ j. (steps E V j x (ticked u)).end ≡ Done w v) (pred_is m n e) h')) h

fair_each : {n k : ℕ} (cmp : Comparison) → ((c : Context) (equal : Bool) (a b : Term) → IsFair n k (λ u. cmp c equal a b u) (λ u. cmp c equal a b u)) →
    (c : Context) (ts us : List Term) → AreFair n k (each_equal cmp c ts us) (each_equal cmp c ts us)
fair_each cmp h c [] us = no_act
fair_each cmp h c (t ∷ ts) [] = no_act
fair_each cmp h c (t ∷ ts) (u ∷ us) = an_act (h c true t u) (fair_each cmp h c ts us)

fair_entering : {n k : ℕ} (c : Context) (As : List Term) (go : Context → Act) → ((d : Context) → IsFair n k (go d) (go d)) →
    IsFair n k (λ u. entering c As go u) (λ u. entering c As go u)
fair_entering c As go h = fair_bind _ _ _ _ (fair_passing (any_beyond As)) (λ a. h (extend c As))

fair_branches : {n k : ℕ} (cmp : Comparison) → ((c : Context) (equal : Bool) (a b : Term) → IsFair n k (λ u. cmp c equal a b u) (λ u. cmp c equal a b u)) →
    (c : Context) (ps : List Term) (Cs : List Constructor) (bs bs' : List Term) → AreFair n k (branches_equal cmp c ps Cs bs bs') (branches_equal cmp c ps Cs bs bs')
fair_branches cmp h c ps [] bs bs' = no_act
fair_branches cmp h c ps (C ∷ Cs) [] bs' = no_act
fair_branches cmp h c ps (C ∷ Cs) (b ∷ bs) [] = no_act
fair_branches cmp h c ps (C ∷ Cs) (b ∷ bs) (b' ∷ bs') =
    an_act (fair_entering c (branch_entries C ps) (λ d. cmp d true b b') (λ d. h d true b b')) (fair_branches cmp h c ps Cs bs bs')

fair_matches : {n k : ℕ} (cmp : Comparison) → ((c : Context) (equal : Bool) (a b : Term) → IsFair n k (λ u. cmp c equal a b u) (λ u. cmp c equal a b u)) →
    (c : Context) (f : FamilyId) (o : Option FamilyDecl) (ps : Terms) (ret s : Term) (bs qs : Terms) (ret' s' : Term) (bs' : Terms) →
    IsFair n k (λ u. matches_equal cmp c f o ps ret s bs qs ret' s' bs' u) (λ u. matches_equal cmp c f o ps ret s bs qs ret' s' bs' u)
fair_matches cmp h c f None ps ret s bs qs ret' s' bs' = fair_refused (UnknownName f.block)
fair_matches cmp h c f (Some F) ps ret s bs qs ret' s' bs' =
    fair_bind _ _ _ _ (fair_all (fair_each cmp h c (list_of ps) (list_of qs)))
    (λ x. fair_bind _ _ _ _ (fair_entering c (predicate_entries f F (list_of ps)) (λ d. cmp d true ret ret') (λ d. h d true ret ret'))
    (λ y. fair_bind _ _ _ _ (h c true s s') (λ z. fair_all (fair_branches cmp h c (list_of ps) F.constructors (list_of bs) (list_of bs')))))

fair_fixpoints : {n k : ℕ} (cmp : Comparison) → ((c : Context) (equal : Bool) (a b : Term) → IsFair n k (λ u. cmp c equal a b u) (λ u. cmp c equal a b u)) →
    (c : Context) (types bodies types' bodies' : Terms) →
    IsFair n k (λ u. fixpoints_equal cmp c types bodies types' bodies' u) (λ u. fixpoints_equal cmp c types bodies types' bodies' u)
fair_fixpoints cmp h c types bodies types' bodies' =
    fair_bind _ _ _ _ (fair_all (fair_each cmp h c (list_of types) (list_of types')))
    (λ x. fair_entering c (lifted_types 0 (list_of types)) (λ d. run_all (each_equal cmp d (list_of bodies) (list_of bodies')))
    (λ d. fair_all (fair_each cmp h d (list_of bodies) (list_of bodies'))))

fair_heads : {n k : ℕ} (E : Env) (cmp : Comparison) → ((c : Context) (equal : Bool) (a b : Term) → IsFair n k (λ u. cmp c equal a b u) (λ u. cmp c equal a b u)) →
    (c : Context) (a b : Term) → IsFair n k (λ u. heads_equal E cmp c a b u) (λ u. heads_equal E cmp c a b u)
fair_heads E cmp h c (Case f ps n ret s bs) (Case g qs m ret' s' bs') = fair_matches cmp h c f (family_of E f) ps ret s bs qs ret' s' bs'
fair_heads E cmp h c (Fix i rargs types bodies) (Fix j rargs' types' bodies') = fair_fixpoints cmp h c types bodies types' bodies'
fair_heads E cmp h c a b = fair_done tt

fair_spines : {n k : ℕ} (E : Env) (cmp : Comparison) → ((c : Context) (equal : Bool) (a b : Term) → IsFair n k (λ u. cmp c equal a b u) (λ u. cmp c equal a b u)) →
    (c : Context) (a b : Term) → IsFair n k (λ u. spines_equal E cmp c a b u) (λ u. spines_equal E cmp c a b u)
fair_spines E cmp h c a b =
    fair_if ((length (args a) == length (args b)) && alike (head a) (head b)) _ _ _ _
    (fair_bind _ _ _ _ (fair_heads E cmp h c (head a) (head b)) (λ x. fair_all (fair_each cmp h c (args a) (args b))))
    (fair_refused (NotBelow (ClashOfTerms a b)))

fair_pair : {n k : ℕ} (E : Env) (q : Test) (cmp : Comparison) → ((c : Context) (equal : Bool) (a b : Term) → IsFair n k (λ u. cmp c equal a b u) (λ u. cmp c equal a b u)) →
    (c : Context) (equal : Bool) (a b : Term) → IsFair n k (λ u. pair E q cmp c equal a b u) (λ u. pair E q cmp c equal a b u)
fair_pair E q cmp h c equal (SortT s) (SortT s') = fair_if (sorts_stand q equal s s') _ _ _ _ (fair_done tt) (fair_refused (NotBelow (ClashOfSorts s s')))
fair_pair E q cmp h c equal (Prod A B) (Prod A' B') = fair_bind _ _ _ _ (h c true A A') (λ x. h (Assumed A ∷ c) equal B B')
fair_pair E q cmp h c equal (Lambda A b) (Lambda A' b') = fair_bind _ _ _ _ (h c true A A') (λ x. h (Assumed A ∷ c) true b b')
fair_pair E q cmp h c equal a b = fair_spines E cmp h c a b

fair_entered : {n k : ℕ} (E : Env) (q : Test) (cmp : Comparison) → ((c : Context) (equal : Bool) (a b : Term) → IsFair n k (λ u. cmp c equal a b u) (λ u. cmp c equal a b u)) →
    (c : Context) (equal : Bool) (a b : Term) → IsFair n k (λ u. entered E q cmp c equal a b u) (λ u. entered E q cmp c equal a b u)
fair_entered E q cmp h c equal a b =
    fair_if (same a b) _ _ _ _ (fair_done tt)
    (fair_bind _ _ _ _ (fair_whnf E (values c) a) (λ x. fair_bind _ _ _ _ (fair_whnf E (values c) b) (λ y. fair_pair E q cmp h c equal x y)))

pub fair_compare : {n k : ℕ} (E : Env) (q : Test) (m : ℕ) (c : Context) (equal : Bool) (a b : Term) →
    IsFair n k (λ u. compare E q m c equal a b u) (λ u. compare E q m c equal a b u)
unfolding compare
fair_compare E q zero c equal a b = fair_ticking _ _ fair_nested
fair_compare E q (suc m) c equal a b = fair_ticking _ _ (fair_entered E q (compare E q m) (fair_compare E q m) c equal a b)

-- a comparison that is fair wherever it is asked
pub record FairComparison (n k : ℕ) (cmp : Comparison) : Type 0 where
  pub at : (c : Context) (equal : Bool) (a b : Term) → IsFair n k (λ u. cmp c equal a b u) (λ u. cmp c equal a b u)

pub comparing_fair : {n k : ℕ} (E : Env) (q : Test) (m : ℕ) → FairComparison n k (compare E q m)
comparing_fair E q m = record { at = fair_compare E q m }

-- what runs leave, from one account

pub each_fair : (cmp : Comparison) → FairComparison 0 0 cmp → (c : Context) (ts us : List Term) → AreFair 0 0 (each_equal cmp c ts us) (each_equal cmp c ts us)
each_fair cmp g c ts us = fair_each cmp g.at c ts us

pub branches_fair : (cmp : Comparison) → FairComparison 0 0 cmp → (c : Context) (ps : List Term) (Cs : List Constructor) (bs bs' : List Term) → AreFair 0 0 (branches_equal cmp c ps Cs bs bs') (branches_equal cmp c ps Cs bs bs')
branches_fair cmp g c ps Cs bs bs' = fair_branches cmp g.at c ps Cs bs bs'

pub matches_leave : (cmp : Comparison) → FairComparison 0 0 cmp → (c : Context) (f : FamilyId) (o : Option FamilyDecl) (ps : Terms) (ret s : Term) (bs qs : Terms) (ret' s' : Term) (bs' : Terms) (u : Account) → Leaves (matches_equal cmp c f o ps ret s bs qs ret' s' bs' u).end u.left
matches_leave cmp g c f o ps ret s bs qs ret' s' bs' u = (fair_matches {n = 0} {k = 0} cmp g.at c f o ps ret s bs qs ret' s' bs').falls u

pub fixpoints_leave : (cmp : Comparison) → FairComparison 0 0 cmp → (c : Context) (types bodies types' bodies' : Terms) (u : Account) → Leaves (fixpoints_equal cmp c types bodies types' bodies' u).end u.left
fixpoints_leave cmp g c types bodies types' bodies' u = (fair_fixpoints {n = 0} {k = 0} cmp g.at c types bodies types' bodies').falls u

pub heads_leave : (E : Env) (cmp : Comparison) → FairComparison 0 0 cmp → (c : Context) (a b : Term) (u : Account) → Leaves (heads_equal E cmp c a b u).end u.left
heads_leave E cmp g c a b u = (fair_heads {n = 0} {k = 0} E cmp g.at c a b).falls u

pub spines_leave : (E : Env) (cmp : Comparison) → FairComparison 0 0 cmp → (c : Context) (a b : Term) (u : Account) → Leaves (spines_equal E cmp c a b u).end u.left
spines_leave E cmp g c a b u = (fair_spines {n = 0} {k = 0} E cmp g.at c a b).falls u

pub pair_leaves : (E : Env) (q : Test) (cmp : Comparison) → FairComparison 0 0 cmp → (c : Context) (equal : Bool) (a b : Term) (u : Account) → Leaves (pair E q cmp c equal a b u).end u.left
pair_leaves E q cmp g c equal a b u = (fair_pair {n = 0} {k = 0} E q cmp g.at c equal a b).falls u

pub entered_leaves : (E : Env) (q : Test) (cmp : Comparison) → FairComparison 0 0 cmp → (c : Context) (equal : Bool) (a b : Term) (u : Account) → Leaves (entered E q cmp c equal a b u).end u.left
entered_leaves E q cmp g c equal a b u = (fair_entered {n = 0} {k = 0} E q cmp g.at c equal a b).falls u

pub compare_leaves : (E : Env) (q : Test) (m : ℕ) (c : Context) (equal : Bool) (a b : Term) (u : Account) → Leaves (compare E q m c equal a b u).end u.left
compare_leaves E q m c equal a b u = (fair_compare {n = 0} {k = 0} E q m c equal a b).falls u

pub ruleset leaving_reduction = (each_fair, branches_fair, matches_leave, fixpoints_leave, heads_leave, spines_leave, pair_leaves, entered_leaves, compare_leaves, steps_leaves, comparing_fair, fair_compare)
