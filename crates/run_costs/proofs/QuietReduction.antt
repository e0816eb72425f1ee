-- What weak-head reduction and comparison take depends on no account.
use Rattle.std.proofs.Common.{◌≡◌, ◌<◌, ◌≤◌, arith, ℕ, zero, suc, ◌==◌, ◌&&◌, Bool, true, List, [], ◌∷◌, length, Option, Some, None, refl}
use Rattle.pc_terms.specs.declared.leaf.FamilyId.{FamilyId}
use Rattle.pc_terms.specs.Syntax.{Term, Terms, SortT, Prod, Lambda, Case, Fix, head, args, list_of}
use Rattle.calculus_rules.specs.declared.declaration.Constructor.{Constructor}
use Rattle.calculus_rules.specs.declared.entry.Entry.TheVariants.{Assumed}
use Rattle.pc_rules.specs.declared.broken.Broken.TheVariants.{NotBelow, UnknownName}
use Rattle.pc_rules.specs.declared.broken.Clash.TheVariants.{Terms as ClashOfTerms, Sorts as ClashOfSorts}
use Rattle.pc_rules.specs.declared.meter.Account.{Account}
use Rattle.calculus_rules.specs.Environment.{Env, FamilyDecl}
use Rattle.calculus_rules.specs.Context.{Context, Values, extend, values}
use Rattle.calculus_rules.specs.Instances.{predicate_entries, branch_entries}
use Rattle.calculus_rules.specs.Same.{same}
use Rattle.pc_rules.specs.DirectedRun.{Run, NoUnit, Act, done, ticked, any_beyond, run_all}
use Rattle.calculus_rules.specs.Lookups.{family_of}
use Rattle.pc_rules.specs.DirectedWeakHead.{weak_next, after_step, stuck_step, steps, whnf}
use Rattle.pc_rules.specs.DirectedComparison.{Test, Comparison, sorts_stand, alike, each_equal, entering, branches_equal, matches_equal, lifted_types, fixpoints_equal, heads_equal, spines_equal, pair, entered, compare}
use Rattle.run_costs.proofs.Quiet.{Falls, Again, IsQuiet, AreQuiet, no_act, an_act, quiet_done, quiet_refused, quiet_passing, quiet_nested, quiet_if, quiet_bind, quiet_ticking, quiet_all, falls_ticked, again_ticked}

-- whether there is a step or not
stuck_falls : (o : Option Term) (t : Term) (u : Account) → Falls (stuck_step o (done t u)).end u
stuck_falls None t u = (omega arith, refl)
stuck_falls (Some x) t u = tt

after_falls : (o : Option Term) (t : Term) (u : Account) (go : Term → Run Term) → ((x : Term) → Falls (go x).end (ticked u)) → Falls (after_step o (done t u) go).end u
after_falls None t u go h = (omega arith, refl)
after_falls (Some x) t u go h = falls_ticked (go x).end u (h x)

steps_fall : (E : Env) (V : Values) (m : ℕ) (t : Term) (u : Account) → Falls (steps E V m t u).end u
unfolding steps
steps_fall E V zero t u = stuck_falls (weak_next E V t) t u
steps_fall E V (suc m) t u = after_falls (weak_next E V t) t u (λ x. steps E V m x (ticked u)) (λ x. steps_fall E V m x (ticked u))

stuck_stuck : (o : Option Term) (t : Term) (u w : Account) → Again (stuck_step o (done t u)).end u w (stuck_step o (done t w)).end
stuck_stuck None t u w = (quiet_done {most = suc w.left} t).again u w (omega arith)
stuck_stuck (Some x) t u w = tt

stuck_after : (o : Option Term) (t : Term) (u w : Account) (go : Term → Run Term) → Again (stuck_step o (done t u)).end u w (after_step o (done t w) go).end
stuck_after None t u w go = (quiet_done {most = suc w.left} t).again u w (omega arith)
stuck_after (Some x) t u w go = tt

after_stuck : (o : Option Term) (t : Term) (u w : Account) → 0 < u.left → w.left ≡ 0 → (go : Term → Run Term) → ((x : Term) → Falls (go x).end (ticked u)) →
    Again (after_step o (done t u) go).end u w (stuck_step o (done t w)).end
after_stuck None t u w l z go f = (quiet_done {most = suc w.left} t).again u w (omega arith)
after_stuck (Some x) t u w l z go f = again_ticked u w l (go x).end NoUnit NoUnit (f x) (λ h. refl) (λ h. absurd (omega arith))

after_after : (o : Option Term) (t : Term) (u w : Account) → 0 < u.left → (go go' : Term → Run Term) → ((x : Term) → Falls (go x).end (ticked u)) →
    ((x : Term) → Again (go x).end (ticked u) (ticked w) (go' x).end) → Again (after_step o (done t u) go).end u w (after_step o (done t w) go').end
after_after None t u w l go go' f h = (quiet_done {most = suc w.left} t).again u w (omega arith)
after_after (Some x) t u w l go go' f h = again_ticked u w l (go x).end (go' x).end (go' x).end (f x) (λ k. refl) (λ k. h x)

steps_again : (E : Env) (V : Values) (m n : ℕ) (t : Term) (u w : Account) → u.left ≡ m → w.left ≡ n → Again (steps E V m t u).end u w (steps E V n t w).end
unfolding steps
steps_again E V zero zero t u w d e = stuck_stuck (weak_next E V t) t u w
steps_again E V zero (suc n) t u w d e = stuck_after (weak_next E V t) t u w (λ x. steps E V n x (ticked w))
steps_again E V (suc m) zero t u w d e = after_stuck (weak_next E V t) t u w (omega arith) e (λ x. steps E V m x (ticked u)) (λ x. steps_fall E V m x (ticked u))
steps_again E V (suc m) (suc n) t u w d e =
    after_after (weak_next E V t) t u w (omega arith) (λ x. steps E V m x (ticked u)) (λ x. steps E V n x (ticked w)) (λ x. steps_fall E V m x (ticked u))
    (λ x. steps_again E V m n x (ticked u) (ticked w) (omega arith) (omega arith))

pub quiet_whnf : {most : ℕ} (E : Env) (V : Values) (t : Term) → IsQuiet most (λ u. whnf E V t u) (λ u. whnf E V t u)
quiet_whnf E V t = record { falls = λ u. steps_fall E V u.left t u; again = λ u w l. steps_again E V u.left w.left t u w refl refl }

quiet_each : {most : ℕ} (cmp cmp' : Comparison) → ((c : Context) (equal : Bool) (a b : Term) → IsQuiet most (λ u. cmp c equal a b u) (λ u. cmp' c equal a b u)) →
    (c : Context) (ts us : List Term) → AreQuiet most (each_equal cmp c ts us) (each_equal cmp' c ts us)
quiet_each cmp cmp' h c [] us = no_act
quiet_each cmp cmp' h c (t ∷ ts) [] = no_act
quiet_each cmp cmp' h c (t ∷ ts) (u ∷ us) = an_act (h c true t u) (quiet_each cmp cmp' h c ts us)

quiet_entering : {most : ℕ} (c : Context) (As : List Term) (go go' : Context → Act) → ((d : Context) → IsQuiet most (go d) (go' d)) →
    IsQuiet most (λ u. entering c As go u) (λ u. entering c As go' u)
quiet_entering c As go go' h = quiet_bind _ _ _ _ (quiet_passing (any_beyond As)) (λ a. h (extend c As))

quiet_branches : {most : ℕ} (cmp cmp' : Comparison) → ((c : Context) (equal : Bool) (a b : Term) → IsQuiet most (λ u. cmp c equal a b u) (λ u. cmp' c equal a b u)) →
    (c : Context) (ps : List Term) (Cs : List Constructor) (bs bs' : List Term) → AreQuiet most (branches_equal cmp c ps Cs bs bs') (branches_equal cmp' c ps Cs bs bs')
quiet_branches cmp cmp' h c ps [] bs bs' = no_act
quiet_branches cmp cmp' h c ps (C ∷ Cs) [] bs' = no_act
quiet_branches cmp cmp' h c ps (C ∷ Cs) (b ∷ bs) [] = no_act
quiet_branches cmp cmp' h c ps (C ∷ Cs) (b ∷ bs) (b' ∷ bs') =
    an_act (quiet_entering c (branch_entries C ps) (λ d. cmp d true b b') (λ d. cmp' d true b b') (λ d. h d true b b')) (quiet_branches cmp cmp' h c ps Cs bs bs')

quiet_matches : {most : ℕ} (cmp cmp' : Comparison) → ((c : Context) (equal : Bool) (a b : Term) → IsQuiet most (λ u. cmp c equal a b u) (λ u. cmp' c equal a b u)) →
    (c : Context) (f : FamilyId) (o : Option FamilyDecl) (ps : Terms) (ret s : Term) (bs qs : Terms) (ret' s' : Term) (bs' : Terms) →
    IsQuiet most (λ u. matches_equal cmp c f o ps ret s bs qs ret' s' bs' u) (λ u. matches_equal cmp' c f o ps ret s bs qs ret' s' bs' u)
quiet_matches cmp cmp' h c f None ps ret s bs qs ret' s' bs' = quiet_refused (UnknownName f.block)
quiet_matches cmp cmp' h c f (Some F) ps ret s bs qs ret' s' bs' =
    quiet_bind _ _ _ _ (quiet_all (quiet_each cmp cmp' h c (list_of ps) (list_of qs)))
    (λ x. quiet_bind _ _ _ _ (quiet_entering c (predicate_entries f F (list_of ps)) (λ d. cmp d true ret ret') (λ d. cmp' d true ret ret') (λ d. h d true ret ret'))
    (λ y. quiet_bind _ _ _ _ (h c true s s') (λ z. quiet_all (quiet_branches cmp cmp' h c (list_of ps) F.constructors (list_of bs) (list_of bs')))))

quiet_fixpoints : {most : ℕ} (cmp cmp' : Comparison) → ((c : Context) (equal : Bool) (a b : Term) → IsQuiet most (λ u. cmp c equal a b u) (λ u. cmp' c equal a b u)) →
    (c : Context) (types bodies types' bodies' : Terms) →
    IsQuiet most (λ u. fixpoints_equal cmp c types bodies types' bodies' u) (λ u. fixpoints_equal cmp' c types bodies types' bodies' u)
quiet_fixpoints cmp cmp' h c types bodies types' bodies' =
    quiet_bind _ _ _ _ (quiet_all (quiet_each cmp cmp' h c (list_of types) (list_of types')))
    (λ x. quiet_entering c (lifted_types 0 (list_of types)) (λ d. run_all (each_equal cmp d (list_of bodies) (list_of bodies'))) (λ d. run_all (each_equal cmp' d (list_of bodies) (list_of bodies')))
    (λ d. quiet_all (quiet_each cmp cmp' h d (list_of bodies) (list_of bodies'))))

quiet_heads : {most : ℕ} (E : Env) (cmp cmp' : Comparison) → ((c : Context) (equal : Bool) (a b : Term) → IsQuiet most (λ u. cmp c equal a b u) (λ u. cmp' c equal a b u)) →
    (c : Context) (a b : Term) → IsQuiet most (λ u. heads_equal E cmp c a b u) (λ u. heads_equal E cmp' c a b u)
quiet_heads E cmp cmp' h c (Case f ps n ret s bs) (Case g qs m ret' s' bs') = quiet_matches cmp cmp' h c f (family_of E f) ps ret s bs qs ret' s' bs'
quiet_heads E cmp cmp' h c (Fix i rargs types bodies) (Fix j rargs' types' bodies') = quiet_fixpoints cmp cmp' h c types bodies types' bodies'
quiet_heads E cmp cmp' h c a b = quiet_done tt

quiet_spines : {most : ℕ} (E : Env) (cmp cmp' : Comparison) → ((c : Context) (equal : Bool) (a b : Term) → IsQuiet most (λ u. cmp c equal a b u) (λ u. cmp' c equal a b u)) →
    (c : Context) (a b : Term) → IsQuiet most (λ u. spines_equal E cmp c a b u) (λ u. spines_equal E cmp' c a b u)
quiet_spines E cmp cmp' h c a b =
    quiet_if ((length (args a) == length (args b)) && alike (head a) (head b)) _ _ _ _
    (quiet_bind _ _ _ _ (quiet_heads E cmp cmp' h c (head a) (head b)) (λ x. quiet_all (quiet_each cmp cmp' h c (args a) (args b))))
    (quiet_refused (NotBelow (ClashOfTerms a b)))

quiet_pair : {most : ℕ} (E : Env) (q : Test) (cmp cmp' : Comparison) → ((c : Context) (equal : Bool) (a b : Term) → IsQuiet most (λ u. cmp c equal a b u) (λ u. cmp' c equal a b u)) →
    (c : Context) (equal : Bool) (a b : Term) → IsQuiet most (λ u. pair E q cmp c equal a b u) (λ u. pair E q cmp' c equal a b u)
quiet_pair E q cmp cmp' h c equal (SortT s) (SortT s') = quiet_if (sorts_stand q equal s s') _ _ _ _ (quiet_done tt) (quiet_refused (NotBelow (ClashOfSorts s s')))
quiet_pair E q cmp cmp' h c equal (Prod A B) (Prod A' B') = quiet_bind _ _ _ _ (h c true A A') (λ x. h (Assumed A ∷ c) equal B B')
quiet_pair E q cmp cmp' h c equal (Lambda A b) (Lambda A' b') = quiet_bind _ _ _ _ (h c true A A') (λ x. h (Assumed A ∷ c) true b b')
quiet_pair E q cmp cmp' h c equal a b = quiet_spines E cmp cmp' h c a b

quiet_entered : {most : ℕ} (E : Env) (q : Test) (cmp cmp' : Comparison) → ((c : Context) (equal : Bool) (a b : Term) → IsQuiet most (λ u. cmp c equal a b u) (λ u. cmp' c equal a b u)) →
    (c : Context) (equal : Bool) (a b : Term) → IsQuiet most (λ u. entered E q cmp c equal a b u) (λ u. entered E q cmp' c equal a b u)
quiet_entered E q cmp cmp' h c equal a b =
    quiet_if (same a b) _ _ _ _ (quiet_done tt)
    (quiet_bind _ _ _ _ (quiet_whnf E (values c) a) (λ x. quiet_bind _ _ _ _ (quiet_whnf E (values c) b) (λ y. quiet_pair E q cmp cmp' h c equal x y)))

pub quiet_compare : {most : ℕ} (E : Env) (q : Test) (m n : ℕ) → m ≤ n → (c : Context) (equal : Bool) (a b : Term) →
    IsQuiet most (λ u. compare E q m c equal a b u) (λ u. compare E q n c equal a b u)
unfolding compare
quiet_compare E q zero zero l c equal a b = quiet_ticking _ _ (quiet_nested _)
quiet_compare E q zero (suc n) l c equal a b = quiet_ticking _ _ (quiet_nested _)
quiet_compare E q (suc m) zero l c equal a b = absurd (omega arith)
quiet_compare E q (suc m) (suc n) l c equal a b = quiet_ticking _ _ (quiet_entered E q (compare E q m) (compare E q n) (quiet_compare E q m n (omega arith)) c equal a b)
