-- What the directed guard lets pass is guarded.
use Rattle.std.proofs.Common.{◌≡◌, ℕ, zero, suc, Bool, true, false, if◌then◌else◌, List, [], ◌∷◌, ◌++◌, length, Option, Some, None, refl, sym, ap, ◌∙◌, subst, arith, slice_get}
use Rattle.pc_terms.specs.declared.leaf.Name.{Name}
use Rattle.pc_terms.specs.declared.leaf.FamilyId.{FamilyId}
use Rattle.pc_terms.specs.Syntax.{Term, Terms, End, Child, Done, Next, Rel, SortT, Prod, Lambda, LetIn, App, Const, Ind, Construct, Case, Fix, apply, head}
use Rattle.pc_terms.specs.Formed.{binders_of, EachTerm}
use Rattle.calculus_rules.specs.declared.declaration.Constructor.{Constructor}
use Rattle.pc_rules.specs.declared.meter.Account.{Account}
use Rattle.calculus_rules.specs.Environment.{Env, FamilyDecl, KeepsFamily}
use Rattle.calculus_rules.specs.Context.{Values, under}
use Rattle.calculus_rules.specs.Conversion.{Equal, same, chain}
use Rattle.calculus_rules.specs.WeakHead.{WeakStep, then_step, no_step}
use Rattle.calculus_rules.specs.Guardedness.{Mark, Recursive, Argument, Smaller, Other, Marks, Ending, ending, others, IsCalled, branch_marks, IsSmaller, at_variable, at_match, Opens, smaller, argument, AreSmaller, no_branch, a_branch, IsGuardedIn, variable, call, inside, let_in, opened, passed, AreGuarded, no_argument, an_argument, no_child, a_child, a_group, AreGuardedTerms, no_term, a_term, AreGuardedBranches, no_guarded_branch, a_guarded_branch, IsGuardedUnder, last, more, head_block, RecursesIn, block_here, block_later, IsGuardedBody, recursing, definition_marks, AreGuardedBodies, no_bodies, a_body, IsGuarded}
use Rattle.pc_rules.specs.DirectedRun as run
use Rattle.pc_rules.specs.DirectedRun.{Run, Act, done, no_unit, passing, is_beyond, bind, ticked, run_all}
use Rattle.calculus_rules.specs.Lookups.{family_of}
use Rattle.pc_rules.specs.DirectedWeakHead.{weak_next, whnf}
use Rattle.pc_rules.specs.DirectedGuard.{Finding, found_at, applied, opens, constructors_of, step_on, if_smaller, if_opened, later, look, look_branches, find, normal_found, smaller_argument, call_argument, call_rule, interleaved, passed_argument, argument_found, if_passed, walk, walk_children, walk_terms, walk_branches, walk_passed, walk_under, recursive_block, body_guard, bodies_guard, fix_guard}
use Rattle.pc_rules.proofs.WeakNext.{weak_next_found, family_found, none_some}
use Rattle.calculus_rules.proofs.Spines.{apply_one_more}
use Rattle.calculus_rules.proofs.WeakHead.{weak_equal}
use Rattle.calculus_rules.proofs.Congruence.{equal_applications}
use Rattle.pc_rules.specs.FixConditions.{BeginsWith, HaveLambdas}
use Rattle.pc_rules.specs.WellCounted.{IsCountedNode, arities, IsCounted, AreCounted, HasCountedDeclarations, AreCountedValues}
use Rattle.rule_laws.proofs.Runs.{bind_both, ticking_done, refused_done, unit_done, done_value, pass_then, run_both}
use Rattle.rule_laws.proofs.KeepCounts.{under_counted, steps_counted}
use Rattle.calculus_rules.proofs.Listing.{first_same, rest_same}
use Rattle.rule_laws.proofs.Comparing.{whnf_equal, whnf_counted, no_cons}

-- all acts of a list are done
abbrev EachDone : List Act → Type 0
EachDone [] = Unit {0}
EachDone (act ∷ acts) = ((u : Account) × (v : Account) × ((act u).end ≡ run.Done tt v)) × EachDone acts

each_done : (acts : List Act) (u v : Account) → (run_all acts u).end ≡ run.Done tt v → EachDone acts
each_done [] u v h = tt
each_done (act ∷ acts) u v h = let p = run_both act acts u v h in ((u, p.0, p.1), each_done acts p.0 v p.2)

appended_done : (xs ys : List Act) → EachDone (xs ++ ys) → EachDone xs × EachDone ys
appended_done [] ys h = (tt, h)
appended_done (x ∷ xs) ys h = let r = appended_done xs ys h.1 in ((h.0, r.0), r.1)

interleaved_done : (xs ys : List Act) → EachDone (interleaved xs ys) → EachDone xs × EachDone ys
interleaved_done [] ys h = (tt, h)
interleaved_done (x ∷ xs) [] h = (h, tt)
interleaved_done (x ∷ xs) (y ∷ ys) h = let r = interleaved_done xs ys h.1.1 in ((h.0, r.0), (h.1.0, r.1))

module _ (E : Env) (w : HasCountedDeclarations E) (r : Option Name) where
  -- what a mark says of a term
  abbrev Means : Values → Marks → Term → Mark → Type 0
  Means V M t Smaller = IsSmaller E r V M t
  Means V M t Argument = (i : ℕ) × Equal E V t (Rel i) × (slice_get M i ≡ Some Argument)
  Means V M t m = Unit {0}

  -- and of the branches of a match
  abbrev BranchesMean : Values → Marks → Ending → List Constructor → Terms → Mark → Type 0
  BranchesMean V M k Cs bs Smaller = AreSmaller E r V M k Cs bs
  BranchesMean V M k Cs bs Argument = ⊥
  BranchesMean V M k Cs bs m = Unit {0}

  smaller_before : {V : Values} {M : Marks} {t x : Term} → Equal E V t x → IsSmaller E r V M x → IsSmaller E r V M t
  smaller_before e (at_variable i xs p s) = at_variable i xs (chain e p) s
  smaller_before e (at_match f ps n ret s bs xs p k o b) = at_match f ps n ret s bs xs (chain e p) k o b

  means_before : (V : Values) (M : Marks) (t x : Term) (m : Mark) → Equal E V t x → Means V M x m → Means V M t m
  means_before V M t x Smaller e h = smaller_before e h
  means_before V M t x Argument e h = (h.0, chain e h.1, h.2)
  means_before V M t x (Recursive n) e h = tt
  means_before V M t x Other e h = tt

  smaller_applied : {V : Values} {M : Marks} {f : Term} (a : Term) → IsSmaller E r V M f → IsSmaller E r V M (App f a)
  smaller_applied {V} {M} {f} a (at_variable i xs p s) =
      at_variable i (xs ++ (a ∷ [])) (subst (λ x. Equal E V (App f a) x) (sym (apply_one_more (Rel i) a xs)) (equal_applications E V f (apply (Rel i) xs) a a p same)) s
  smaller_applied {V} {M} {f} a (at_match g ps n ret s bs xs p k o b) =
      at_match g ps n ret s bs (xs ++ (a ∷ []))
      (subst (λ x. Equal E V (App f a) x) (sym (apply_one_more (Case g ps n ret s bs) a xs)) (equal_applications E V f (apply (Case g ps n ret s bs) xs) a a p same)) k o b

  applied_means : (V : Values) (M : Marks) (f a : Term) (m : Mark) → Means V M f m → Means V M (App f a) (applied m)
  applied_means V M f a Smaller h = smaller_applied a h
  applied_means V M f a Argument h = tt
  applied_means V M f a (Recursive n) h = tt
  applied_means V M f a Other h = tt

  variable_means : (V : Values) (M : Marks) (i : ℕ) (o : Option Mark) → slice_get M i ≡ o → Means V M (Rel i) (found_at o)
  variable_means V M i (Some Argument) e = (i, same, e)
  variable_means V M i (Some Smaller) e = at_variable i [] same e
  variable_means V M i (Some (Recursive n)) e = tt
  variable_means V M i (Some Other) e = tt
  variable_means V M i None e = tt

  opens_from : (V : Values) (M : Marks) (t : Term) (m : Mark) → opens m ≡ true → Means V M t m → Opens E r V M t
  opens_from V M t Smaller e h = smaller h
  opens_from V M t Argument e h = argument h.0 h.1 h.2
  opens_from V M t (Recursive n) e h = absurd (cc)
  opens_from V M t Other e h = absurd (cc)

  match_means : (V : Values) (M : Marks) (f : FamilyId) (F : FamilyDecl) (ps : Terms) (n : ℕ) (ret s : Term) (bs : Terms) (m : Mark) → KeepsFamily E f F →
      Opens E r V M s → BranchesMean V M (ending E r f ps) F.constructors bs m → Means V M (Case f ps n ret s bs) m
  match_means V M f F ps n ret s bs Smaller k o h = at_match f ps n ret s bs [] same k o h
  match_means V M f F ps n ret s bs Argument k o h = absurd h
  match_means V M f F ps n ret s bs (Recursive d) k o h = tt
  match_means V M f F ps n ret s bs Other k o h = tt

  -- a finding that has been found sound
  abbrev Finds : Finding → Type 0
  Finds go = (V : Values) (M : Marks) (t : Term) (m : Mark) (u v : Account) → AreCountedValues E V → IsCounted E t → (go V M t u).end ≡ run.Done m v → Means V M t m

  step_means : (V : Values) (M : Marks) (t : Term) (m : Mark) (o : Option Term) (stay : Run Mark) (go : Term → Account → Run Mark) (u v : Account) → AreCountedValues E V →
      IsCounted E t → weak_next E V t ≡ o → (stay.end ≡ run.Done m v → Means V M t m) →
      ((x : Term) (y : Account) → IsCounted E x → (go x y).end ≡ run.Done m v → Means V M x m) → (step_on o stay go u).end ≡ run.Done m v → Means V M t m
  step_means V M t m None stay go u v vs k e f g h = f h
  step_means V M t m (Some x) stay go u v vs k e f g h =
      let p : WeakStep E V t x = weak_next_found E V t x e in
      let h1 = ticking_done u (λ v. bind (passing (is_beyond x) v) (λ _ w. go x w)) m v h in
      let h2 = pass_then (is_beyond x) (ticked u) (λ _ w. go x w) h1 in
      means_before V M t x m (weak_equal (then_step p no_step)) (g x (ticked u) (steps_counted E w vs (then_step p no_step) k) h2)

  opened_means : (V : Values) (M : Marks) (f : FamilyId) (F : FamilyDecl) (ps : Terms) (n : ℕ) (ret s : Term) (bs : Terms) (o m : Mark) (b : Bool) (go : Run Mark) (u v : Account) →
      opens o ≡ b → KeepsFamily E f F → Means V M s o → (go.end ≡ run.Done m v → BranchesMean V M (ending E r f ps) F.constructors bs m) →
      (if b then go else done Other u).end ≡ run.Done m v → Means V M (Case f ps n ret s bs) m
  opened_means V M f F ps n ret s bs o m true go u v e k h g d = match_means V M f F ps n ret s bs m k (opens_from V M s o e h) (g d)
  opened_means V M f F ps n ret s bs o m false go u v e k h g d = subst (λ m. Means V M (Case f ps n ret s bs) m) (done_value d) tt

  rest_mean : (V : Values) (M : Marks) (q : Ending) (C : Constructor) (Cs : List Constructor) (n : ℕ) (body : Term) (bs : Terms) (m' : Mark) → n ≡ length C.args →
      IsSmaller E r (under n V) (branch_marks q 0 C.args M) body → BranchesMean V M q Cs bs m' → BranchesMean V M q (C ∷ Cs) (Next n body bs) m'
  rest_mean V M q C Cs n body bs Smaller e s h = a_branch e s h
  rest_mean V M q C Cs n body bs Argument e s h = h
  rest_mean V M q C Cs n body bs (Recursive d) e s h = tt
  rest_mean V M q C Cs n body bs Other e s h = tt

  branch_means : (V : Values) (M : Marks) (q : Ending) (C : Constructor) (Cs : List Constructor) (n : ℕ) (body : Term) (bs : Terms) (m m' : Mark) (go : Run Mark) (u v : Account) →
      n ≡ length C.args → Means (under n V) (branch_marks q 0 C.args M) body m → (go.end ≡ run.Done m' v → BranchesMean V M q Cs bs m') →
      (if_smaller m go u).end ≡ run.Done m' v → BranchesMean V M q (C ∷ Cs) (Next n body bs) m'
  branch_means V M q C Cs n body bs Smaller m' go u v e s f h = rest_mean V M q C Cs n body bs m' e s (f h)
  branch_means V M q C Cs n body bs Argument m' go u v e s f h = subst (λ m. BranchesMean V M q (C ∷ Cs) (Next n body bs) m) (done_value h) tt
  branch_means V M q C Cs n body bs (Recursive d) m' go u v e s f h = subst (λ m. BranchesMean V M q (C ∷ Cs) (Next n body bs) m) (done_value h) tt
  branch_means V M q C Cs n body bs Other m' go u v e s f h = subst (λ m. BranchesMean V M q (C ∷ Cs) (Next n body bs) m) (done_value h) tt

  module _ (go : Finding) (sound : Finds go) where
    mutual
      look_sound : (V : Values) (M : Marks) (t : Term) (m : Mark) (u v : Account) → AreCountedValues E V → IsCounted E t → (look E r go V M t u).end ≡ run.Done m v → Means V M t m
      look_sound V M (Rel i) m u v vs k h = subst (λ m. Means V M (Rel i) m) (done_value h) (variable_means V M i (slice_get M i) refl)
      look_sound V M (App f a) m u v vs k h =
          let p = bind_both (look E r go V M f u) (λ m v. done (applied m) v) m v h in
          subst (λ m. Means V M (App f a) m) (done_value p.3) (applied_means V M f a p.0 (look_sound V M f p.0 u p.1 vs k.1.0 p.2))
      look_sound V M (Case f ps n ret s bs) m u v vs k h =
          let Cs : List Constructor = constructors_of (family_of E f) in
          let k1 : Mark → Account → Run Mark = λ m v. if_opened m (look_branches E r go V M (ending E r f ps) Cs bs v) v in
          let p = bind_both (step_on (weak_next E V s) (look E r go V M s u) (go V M) u) k1 m v h in
          let F : FamilyDecl = k.0.1.0 in
          let e : family_of E f ≡ Some F = k.0.1.1 in
          let scrutinee : Means V M s p.0 =
          step_means V M s p.0 (weak_next E V s) (look E r go V M s u) (go V M) u p.1 vs k.1.1.1.0 refl (λ h. look_sound V M s p.0 u p.1 vs k.1.1.1.0 h)
          (λ x y kx h. sound V M x p.0 y p.1 vs kx h) p.2 in
          opened_means V M f F ps n ret s bs p.0 m (opens p.0) (look_branches E r go V M (ending E r f ps) Cs bs p.1) p.1 v refl (family_found E f F e) scrutinee
          (λ h. subst (λ Cs. BranchesMean V M (ending E r f ps) Cs bs m) (ap constructors_of e)
          (look_branches_sound V M (ending E r f ps) Cs bs m p.1 v vs k.1.1.1.1.0 (k.0.1.4 ∙ ap arities (sym (ap constructors_of e))) h)) p.3
      look_sound V M (SortT s) m u v vs k h = subst (λ m. Means V M (SortT s) m) (done_value h) tt
      look_sound V M (Prod A B) m u v vs k h = subst (λ m. Means V M (Prod A B) m) (done_value h) tt
      look_sound V M (Lambda A b) m u v vs k h = subst (λ m. Means V M (Lambda A b) m) (done_value h) tt
      look_sound V M (LetIn b B t) m u v vs k h = subst (λ m. Means V M (LetIn b B t) m) (done_value h) tt
      look_sound V M (Const c) m u v vs k h = subst (λ m. Means V M (Const c) m) (done_value h) tt
      look_sound V M (Ind f) m u v vs k h = subst (λ m. Means V M (Ind f) m) (done_value h) tt
      look_sound V M (Construct f c) m u v vs k h = subst (λ m. Means V M (Construct f c) m) (done_value h) tt
      look_sound V M (Fix i rargs types bodies) m u v vs k h = subst (λ m. Means V M (Fix i rargs types bodies) m) (done_value h) tt

      look_branches_sound : (V : Values) (M : Marks) (q : Ending) (Cs : List Constructor) (bs : Terms) (m : Mark) (u v : Account) → AreCountedValues E V →
          EachTerm (IsCountedNode E) bs → binders_of bs ≡ arities Cs → (look_branches E r go V M q Cs bs u).end ≡ run.Done m v → BranchesMean V M q Cs bs m
      look_branches_sound V M q [] Done m u v vs k e h = subst (λ m. BranchesMean V M q [] Done m) (done_value h) no_branch
      look_branches_sound V M q (C ∷ Cs) Done m u v vs k e h = no_cons (sym e)
      look_branches_sound V M q [] (Next n body bs) m u v vs k e h = no_cons e
      look_branches_sound V M q (C ∷ Cs) (Next n body bs) m u v vs k e h =
          let W : Values = under n V in
          let N : Marks = branch_marks q 0 C.args M in
          let k1 : Mark → Account → Run Mark = λ m v. if_smaller m (look_branches E r go V M q Cs bs v) v in
          let p = bind_both (step_on (weak_next E W body) (look E r go W N body u) (go W N) u) k1 m v h in
          let ws : AreCountedValues E W = under_counted E n V vs in
          branch_means V M q C Cs n body bs p.0 m (look_branches E r go V M q Cs bs p.1) p.1 v (first_same e)
          (step_means W N body p.0 (weak_next E W body) (look E r go W N body u) (go W N) u p.1 ws k.0 refl (λ h. look_sound W N body p.0 u p.1 ws k.0 h)
          (λ x y kx h. sound W N x p.0 y p.1 ws kx h) p.2)
          (λ h. look_branches_sound V M q Cs bs m p.1 v vs k.1 (rest_same e) h) p.3

  find_sound : (n : ℕ) → Finds (find E r n)
  unfolding find
  find_sound zero V M t m u v vs k h =
      let none : Finding = λ W N x v. no_unit in
      step_means V M t m (weak_next E V t) (look E r none V M t u) (λ x v. no_unit) u v vs k refl
      (λ h. look_sound none (λ V M t m u v vs k h. absurd (unit_done h)) V M t m u v vs k h) (λ x y kx h. absurd (unit_done h)) h
  find_sound (suc n) V M t m u v vs k h =
      step_means V M t m (weak_next E V t) (look E r (find E r n) V M t u) (find E r n V M) u v vs k refl
      (λ h. look_sound (find E r n) (find_sound n) V M t m u v vs k h) (λ x y kx h. find_sound n V M x m y v vs kx h) h

  normal_sound : (V : Values) (M : Marks) (t : Term) (p : Term × Mark) (u v : Account) → AreCountedValues E V → IsCounted E t →
      (normal_found E r V M t u).end ≡ run.Done p v → Means V M t p.1
  normal_sound V M t p u v vs k h =
      let k1 : Term → Account → Run (Term × Mark) = λ W v. bind (find E r v.left V M W v) (λ m w. done (W, m) w) in
      let p1 = bind_both (whnf E V t u) k1 p v h in
      let W : Term = p1.0 in
      let p2 = bind_both (find E r p1.1.left V M W p1.1) (λ m w. done (W, m) w) p v p1.3 in
      means_before V M t W p.1 (whnf_equal E V t W u p1.1 p1.2)
      (subst (λ q. Means V M W q.1) (done_value p2.3) (find_sound p1.1.left V M W p2.0 p1.1 p2.1 vs (whnf_counted E w V vs t W u p1.1 k p1.2) p2.2))

  -- the walk

  guarded_apply : (V : Values) (M : Marks) (t : Term) (xs : List Term) → IsGuardedIn E r V M t → AreGuarded E r V M xs → IsGuardedIn E r V M (apply t xs)
  guarded_apply V M t [] h g = h
  guarded_apply V M t (x ∷ xs) h (an_argument a g) = guarded_apply V M (App t x) xs (inside tt (a_child h (a_child a no_child))) g

  smaller_is : (V : Values) (M : Marks) (a W : Term) (m : Mark) (u v : Account) → Means V M a m → (smaller_argument W m u).end ≡ run.Done tt v → IsSmaller E r V M a
  smaller_is V M a W Smaller u v h e = h
  smaller_is V M a W Argument u v h e = absurd (refused_done e)
  smaller_is V M a W (Recursive n) u v h e = absurd (refused_done e)
  smaller_is V M a W Other u v h e = absurd (refused_done e)

  item_counted : (xs : List Term) (r : ℕ) (a : Term) → AreCounted E xs → slice_get xs r ≡ Some a → IsCounted E a
  item_counted [] r a h e = absurd (none_some e)
  item_counted (x ∷ xs) zero a h e = subst (λ y. IsCounted E y) (let q : x ≡ a = grind arith in q) h.0
  item_counted (x ∷ xs) (suc r) a h e = item_counted xs r a h.1 e

  call_sound : (V : Values) (M : Marks) (i n : ℕ) (xs : List Term) (o : Option Term) (u v : Account) → AreCountedValues E V → AreCounted E xs → AreGuarded E r V M xs →
      slice_get M i ≡ Some (Recursive n) → slice_get xs n ≡ o → (call_argument E r V M i o u).end ≡ run.Done tt v → IsGuardedIn E r V M (apply (Rel i) xs)
  call_sound V M i n xs None u v vs k g e s h = absurd (refused_done h)
  call_sound V M i n xs (Some a) u v vs k g e s h =
      let h1 = ticking_done u (λ v. bind (normal_found E r V M a v) (λ p w. smaller_argument p.0 p.1 w)) tt v h in
      let p = bind_both (normal_found E r V M a (ticked u)) (λ p w. smaller_argument p.0 p.1 w) tt v h1 in
      let q : Term × Mark = p.0 in
      call i n xs refl e s (smaller_is V M a q.0 q.1 p.1 v (normal_sound V M a q (ticked u) p.1 vs (item_counted xs n a k s) p.2) p.3) g

  rel_sound : (V : Values) (M : Marks) (i : ℕ) (xs : List Term) (o : Option Mark) (u v : Account) → AreCountedValues E V → AreCounted E xs → AreGuarded E r V M xs →
      slice_get M i ≡ o → (call_rule E r V M i xs o u).end ≡ run.Done tt v → IsGuardedIn E r V M (apply (Rel i) xs)
  rel_sound V M i xs (Some (Recursive n)) u v vs k g e h = call_sound V M i n xs (slice_get xs n) u v vs k g e refl h
  rel_sound V M i xs (Some Argument) u v vs k g e h = guarded_apply V M (Rel i) xs (variable (λ p. subst (λ o. IsCalled o) e p)) g
  rel_sound V M i xs (Some Smaller) u v vs k g e h = guarded_apply V M (Rel i) xs (variable (λ p. subst (λ o. IsCalled o) e p)) g
  rel_sound V M i xs (Some Other) u v vs k g e h = guarded_apply V M (Rel i) xs (variable (λ p. subst (λ o. IsCalled o) e p)) g
  rel_sound V M i xs None u v vs k g e h = guarded_apply V M (Rel i) xs (variable (λ p. subst (λ o. IsCalled o) e p)) g

  match_guarded : (V : Values) (M : Marks) (f : FamilyId) (F : FamilyDecl) (ps : Terms) (n : ℕ) (ret s : Term) (bs : Terms) (m : Mark) (b : Bool) → opens m ≡ b → KeepsFamily E f F →
      Means V M s m → AreGuardedTerms E r V M ps → IsGuardedIn E r (under n V) (others n M) ret → IsGuardedIn E r V M s →
      (b ≡ true → AreGuardedBranches E r V M (ending E r f ps) F.constructors bs) → (b ≡ false → AreGuardedTerms E r V M bs) → IsGuardedIn E r V M (Case f ps n ret s bs)
  match_guarded V M f F ps n ret s bs m true e k h gp gr gs gb gt = opened k (opens_from V M s m e h) gp gr gs (gb refl)
  match_guarded V M f F ps n ret s bs m false e k h gp gr gs gb gt = inside tt (a_group gp (a_child gr (a_child gs (a_group (gt refl) no_child))))

  -- a fixpoint inside the body

  if_passed_done : (m : Mark) (xs ys : List Act) → m ≡ Smaller → EachDone (if_passed m xs ys) → EachDone xs
  if_passed_done Smaller xs ys e h = h
  if_passed_done Argument xs ys e h = absurd (cc)
  if_passed_done (Recursive n) xs ys e h = absurd (cc)
  if_passed_done Other xs ys e h = absurd (cc)

  if_walked_done : (m : Mark) (xs ys : List Act) → (m ≡ Smaller → ⊥) → EachDone (if_passed m xs ys) → EachDone ys
  if_walked_done Smaller xs ys e h = absurd (e refl)
  if_walked_done Argument xs ys e h = h
  if_walked_done (Recursive n) xs ys e h = h
  if_walked_done Other xs ys e h = h

  -- each body is guarded under its lambdas, where the last of their variables is smaller
  abbrev AreUnder : Values → Marks → List ℕ → Terms → Type 0
  AreUnder V M (rarg ∷ rargs) (Next n b bs) = IsGuardedUnder E r (under n V) (others n M) Smaller rarg b × AreUnder V M rargs bs
  AreUnder V M rargs bs = Unit {0}

  not_other : {A : Type 0} → Other ≡ Smaller → A
  not_other e = absurd (cc)

  small_argument : (V : Values) (M : Marks) (o : Option Term) (u v : Account) → AreCountedValues E V → ((a : Term) → o ≡ Some a → IsCounted E a) →
      (argument_found E r V M o u).end ≡ run.Done Smaller v → (a : Term) × (o ≡ Some a) × IsSmaller E r V M a
  small_argument V M None u v vs k h = not_other (done_value h)
  small_argument V M (Some a) u v vs k h =
      let p = bind_both (normal_found E r V M a u) (λ p v. done p.1 v) Smaller v h in
      let q : Term × Mark = p.0 in
      (a, refl, subst (λ m. Means V M a m) (done_value p.3) (normal_sound V M a q u p.1 vs (k a refl) p.2))

  fix_passed : (V : Values) (M : Marks) (xs : List Term) (i : ℕ) (rargs : List ℕ) (types bodies : Terms) (u v : Account) → AreCountedValues E V → AreCounted E xs →
      AreGuarded E r V M xs → length (binders_of bodies) ≡ length rargs → AreGuardedTerms E r V M types → (argument_found E r V M (passed_argument rargs xs) u).end ≡ run.Done Smaller v →
      AreUnder V M rargs bodies → IsGuardedIn E r V M (apply (Fix i rargs types bodies) xs)
  fix_passed V M xs i [] types bodies u v vs kx g l gt h gb = not_other (done_value h)
  fix_passed V M xs i (rarg ∷ []) types Done u v vs kx g l gt h gb = absurd (omega arith)
  fix_passed V M xs i (rarg ∷ []) types (Next n b Done) u v vs kx g l gt h gb =
      let s = small_argument V M (slice_get xs rarg) u v vs (λ a e. item_counted xs rarg a kx e) h in
      passed i rarg n xs refl s.1 s.2 gt gb.0 g
  fix_passed V M xs i (rarg ∷ []) types (Next n b (Next m c bs)) u v vs kx g l gt h gb = absurd (omega arith)
  fix_passed V M xs i (rarg ∷ s ∷ rargs) types bodies u v vs kx g l gt h gb = not_other (done_value h)

  fix_sound : (V : Values) (M : Marks) (xs : List Term) (i : ℕ) (rargs : List ℕ) (types bodies : Terms) (m : Mark) (u v : Account) → AreCountedValues E V → AreCounted E xs →
      AreGuarded E r V M xs → length (binders_of bodies) ≡ length rargs → AreGuardedTerms E r V M types → (argument_found E r V M (passed_argument rargs xs) u).end ≡ run.Done m v →
      (m ≡ Smaller → AreUnder V M rargs bodies) → ((m ≡ Smaller → ⊥) → AreGuardedTerms E r V M bodies) → IsGuardedIn E r V M (apply (Fix i rargs types bodies) xs)
  fix_sound V M xs i rargs types bodies Smaller u v vs kx g l gt h gb gw = fix_passed V M xs i rargs types bodies u v vs kx g l gt h (gb refl)
  fix_sound V M xs i rargs types bodies Argument u v vs kx g l gt h gb gw =
      guarded_apply V M (Fix i rargs types bodies) xs (inside tt (a_group gt (a_group (gw (λ e. cc)) no_child))) g
  fix_sound V M xs i rargs types bodies (Recursive n) u v vs kx g l gt h gb gw =
      guarded_apply V M (Fix i rargs types bodies) xs (inside tt (a_group gt (a_group (gw (λ e. cc)) no_child))) g
  fix_sound V M xs i rargs types bodies Other u v vs kx g l gt h gb gw =
      guarded_apply V M (Fix i rargs types bodies) xs (inside tt (a_group gt (a_group (gw (λ e. cc)) no_child))) g

  mutual
    walk_sound : (V : Values) (M : Marks) (xs : List Term) (t : Term) (u v : Account) → AreCountedValues E V → IsCounted E t → AreCounted E xs → AreGuarded E r V M xs →
        (walk E r V M xs t u).end ≡ run.Done tt v → IsGuardedIn E r V M (apply t xs)
    walk_sound V M xs (Rel i) u v vs k kx g h = rel_sound V M i xs (slice_get M i) u v vs kx g refl h
    walk_sound V M xs (App f a) u v vs k kx g h =
        let p = bind_both (walk E r V M (a ∷ xs) f u) (λ _ v. walk E r V M [] a v) tt v h in
        walk_sound V M (a ∷ xs) f u p.1 vs k.1.0 (k.1.1.0, kx) (an_argument (walk_sound V M [] a p.1 v vs k.1.1.0 tt no_argument p.3) g) p.2
    walk_sound V M xs (LetIn b B t) u v vs k kx g h =
        let k2 : Unit {0} → Account → Run (Unit {0}) = λ _ w. walk E r (Some b ∷ V) (Other ∷ M) [] t w in
        let p1 = bind_both (walk E r V M [] b u) (λ _ v. bind (walk E r V M [] B v) k2) tt v h in
        let p2 = bind_both (walk E r V M [] B p1.1) k2 tt v p1.3 in
        guarded_apply V M (LetIn b B t) xs
        (let_in (walk_sound V M [] b u p1.1 vs k.1.0 tt no_argument p1.2) (walk_sound V M [] B p1.1 p2.1 vs k.1.1.0 tt no_argument p2.2)
        (walk_sound (Some b ∷ V) (Other ∷ M) [] t p2.1 v (k.1.0, vs) k.1.1.1.0 tt no_argument p2.3)) g
    walk_sound V M xs (Case f ps n ret s bs) u v vs k kx g h =
        let Cs : List Constructor = constructors_of (family_of E f) in
        let k4 : Term × Mark → Unit {0} → Account → Run (Unit {0}) = λ p _ y. run_all (walk_branches E r V M (ending E r f ps) (opens p.1) Cs bs) y in
        let k3 : Term × Mark → Unit {0} → Account → Run (Unit {0}) = λ p _ x. bind (walk E r (under n V) (others n M) [] ret x) (k4 p) in
        let k2 : Term × Mark → Unit {0} → Account → Run (Unit {0}) = λ p _ w. bind (run_all (walk_terms E r V M ps) w) (k3 p) in
        let k1 : Term × Mark → Account → Run (Unit {0}) = λ p v. bind (walk E r V M [] s v) (k2 p) in
        let p1 = bind_both (normal_found E r V M s u) k1 tt v h in
        let q : Term × Mark = p1.0 in
        let p2 = bind_both (walk E r V M [] s p1.1) (k2 q) tt v p1.3 in
        let p3 = bind_both (run_all (walk_terms E r V M ps) p2.1) (k3 q) tt v p2.3 in
        let p4 = bind_both (walk E r (under n V) (others n M) [] ret p3.1) (k4 q) tt v p3.3 in
        let F : FamilyDecl = k.0.1.0 in
        let e : family_of E f ≡ Some F = k.0.1.1 in
        let branches = each_done (walk_branches E r V M (ending E r f ps) (opens q.1) Cs bs) p4.1 v p4.3 in
        let open_branches : opens q.1 ≡ true → AreGuardedBranches E r V M (ending E r f ps) F.constructors bs =
        λ o. subst (λ Cs. AreGuardedBranches E r V M (ending E r f ps) Cs bs) (ap constructors_of e)
        (opened_sound V M (ending E r f ps) Cs bs vs k.1.1.1.1.0 (k.0.1.4 ∙ ap arities (sym (ap constructors_of e)))
        (subst (λ b. EachDone (walk_branches E r V M (ending E r f ps) b Cs bs)) o branches)) in
        let shut_branches : opens q.1 ≡ false → AreGuardedTerms E r V M bs =
        λ o. shut_sound V M (ending E r f ps) Cs bs vs k.1.1.1.1.0 (subst (λ b. EachDone (walk_branches E r V M (ending E r f ps) b Cs bs)) o branches) in
        guarded_apply V M (Case f ps n ret s bs) xs
        (match_guarded V M f F ps n ret s bs q.1 (opens q.1) refl (family_found E f F e) (normal_sound V M s q u p1.1 vs k.1.1.1.0 p1.2)
        (walk_terms_sound V M ps vs k.1.0 (each_done (walk_terms E r V M ps) p2.1 p3.1 p3.2))
        (walk_sound (under n V) (others n M) [] ret p3.1 p4.1 (under_counted E n V vs) k.1.1.0 tt no_argument p4.2)
        (walk_sound V M [] s p1.1 p2.1 vs k.1.1.1.0 tt no_argument p2.2) open_branches shut_branches) g
    walk_sound V M xs (Fix i rargs types bodies) u v vs k kx g h =
        let p = bind_both (argument_found E r V M (passed_argument rargs xs) u)
        (λ m v. run_all (interleaved (walk_terms E r V M types) (if_passed m (walk_passed E r V M rargs bodies) (walk_terms E r V M bodies))) v) tt v h in
        let acts : List Act = if_passed p.0 (walk_passed E r V M rargs bodies) (walk_terms E r V M bodies) in
        let both = interleaved_done (walk_terms E r V M types) acts (each_done (interleaved (walk_terms E r V M types) acts) p.1 v p.3) in
        fix_sound V M xs i rargs types bodies p.0 u p.1 vs kx g k.0.0.0.2 (walk_terms_sound V M types vs k.1.0 both.0) p.2
        (λ e. passed_sound V M rargs bodies vs k.1.1.0 (if_passed_done p.0 (walk_passed E r V M rargs bodies) (walk_terms E r V M bodies) e both.1))
        (λ e. walk_terms_sound V M bodies vs k.1.1.0 (if_walked_done p.0 (walk_passed E r V M rargs bodies) (walk_terms E r V M bodies) e both.1))
    walk_sound V M xs (SortT s) u v vs k kx g h = guarded_apply V M (SortT s) xs (inside tt no_child) g
    walk_sound V M xs (Const c) u v vs k kx g h = guarded_apply V M (Const c) xs (inside tt no_child) g
    walk_sound V M xs (Ind f) u v vs k kx g h = guarded_apply V M (Ind f) xs (inside tt no_child) g
    walk_sound V M xs (Construct f c) u v vs k kx g h = guarded_apply V M (Construct f c) xs (inside tt no_child) g
    walk_sound V M xs (Prod A B) u v vs k kx g h =
        let d = each_done (walk_children E r V M (Child {n = 0} A (Child {n = 1} B End))) u v h in
        let a = d.0 in
        let b = d.1.0 in
        guarded_apply V M (Prod A B) xs
        (inside tt (a_child (walk_sound V M [] A a.0 a.1 vs k.1.0 tt no_argument a.2)
        (a_child (walk_sound (None ∷ V) (Other ∷ M) [] B b.0 b.1 vs k.1.1.0 tt no_argument b.2) no_child))) g
    walk_sound V M xs (Lambda A t) u v vs k kx g h =
        let d = each_done (walk_children E r V M (Child {n = 0} A (Child {n = 1} t End))) u v h in
        let a = d.0 in
        let b = d.1.0 in
        guarded_apply V M (Lambda A t) xs
        (inside tt (a_child (walk_sound V M [] A a.0 a.1 vs k.1.0 tt no_argument a.2)
        (a_child (walk_sound (None ∷ V) (Other ∷ M) [] t b.0 b.1 vs k.1.1.0 tt no_argument b.2) no_child))) g

    walk_terms_sound : (V : Values) (M : Marks) (ts : Terms) → AreCountedValues E V → EachTerm (IsCountedNode E) ts → EachDone (walk_terms E r V M ts) → AreGuardedTerms E r V M ts
    walk_terms_sound V M Done vs k h = no_term
    walk_terms_sound V M (Next n t ts) vs k h =
        let a = h.0 in
        a_term (walk_sound (under n V) (others n M) [] t a.0 a.1 (under_counted E n V vs) k.0 tt no_argument a.2) (walk_terms_sound V M ts vs k.1 h.1)

    shut_sound : (V : Values) (M : Marks) (q : Ending) (Cs : List Constructor) (ts : Terms) → AreCountedValues E V → EachTerm (IsCountedNode E) ts →
        EachDone (walk_branches E r V M q false Cs ts) → AreGuardedTerms E r V M ts
    shut_sound V M q Cs Done vs k h = no_term
    shut_sound V M q Cs (Next n t ts) vs k h =
        let a = h.0 in
        a_term (walk_sound (under n V) (others n M) [] t a.0 a.1 (under_counted E n V vs) k.0 tt no_argument a.2) (shut_sound V M q (later Cs) ts vs k.1 h.1)

    opened_sound : (V : Values) (M : Marks) (q : Ending) (Cs : List Constructor) (ts : Terms) → AreCountedValues E V → EachTerm (IsCountedNode E) ts → binders_of ts ≡ arities Cs →
        EachDone (walk_branches E r V M q true Cs ts) → AreGuardedBranches E r V M q Cs ts
    opened_sound V M q [] Done vs k e h = no_guarded_branch
    opened_sound V M q [] (Next n t ts) vs k e h = no_cons e
    opened_sound V M q (C ∷ Cs) Done vs k e h = no_cons (sym e)
    opened_sound V M q (C ∷ Cs) (Next n t ts) vs k e h =
        let a = h.0 in
        a_guarded_branch (first_same e) (walk_sound (under n V) (branch_marks q 0 C.args M) [] t a.0 a.1 (under_counted E n V vs) k.0 tt no_argument a.2)
        (opened_sound V M q Cs ts vs k.1 (rest_same e) h.1)

    passed_sound : (V : Values) (M : Marks) (rargs : List ℕ) (bs : Terms) → AreCountedValues E V → EachTerm (IsCountedNode E) bs → EachDone (walk_passed E r V M rargs bs) →
        AreUnder V M rargs bs
    passed_sound V M (rarg ∷ rargs) (Next n b bs) vs k h =
        let a = h.0 in
        (under_sound (under n V) (others n M) Smaller rarg b a.0 a.1 (under_counted E n V vs) k.0 a.2, passed_sound V M rargs bs vs k.1 h.1)
    passed_sound V M [] bs vs k h = tt
    passed_sound V M (rarg ∷ rargs) Done vs k h = tt

    under_sound : (V : Values) (M : Marks) (m : Mark) (rarg : ℕ) (t : Term) (u v : Account) → AreCountedValues E V → IsCounted E t →
        (walk_under E r V M m rarg t u).end ≡ run.Done tt v → IsGuardedUnder E r V M m rarg t
    under_sound V M m zero (Lambda A b) u v vs k h =
        let p = bind_both (walk E r V M [] A u) (λ _ v. walk E r (None ∷ V) (m ∷ M) [] b v) tt v h in
        last (walk_sound V M [] A u p.1 vs k.1.0 tt no_argument p.2) (walk_sound (None ∷ V) (m ∷ M) [] b p.1 v vs k.1.1.0 tt no_argument p.3)
    under_sound V M m (suc rarg) (Lambda A b) u v vs k h =
        let p = bind_both (walk E r V M [] A u) (λ _ v. walk_under E r (None ∷ V) (Other ∷ M) m rarg b v) tt v h in
        more (walk_sound V M [] A u p.1 vs k.1.0 tt no_argument p.2) (under_sound (None ∷ V) (Other ∷ M) m rarg b p.1 v vs k.1.1.0 p.3)
    under_sound V M m rarg t u v vs k h = absurd (refused_done h)

module _ (E : Env) (w : HasCountedDeclarations E) where
  -- the recursive block

  block_sound : (V : Values) (rarg : ℕ) (t : Term) (r : Option Name) (u v : Account) → BeginsWith (suc rarg) t → (recursive_block E V rarg t u).end ≡ run.Done r v → RecursesIn E V rarg t r
  block_sound V zero (Lambda A b) r u v l h =
      let p = bind_both (whnf E V A u) (λ W v. done (head_block (head W)) v) r v h in
      subst (λ r. RecursesIn E V zero (Lambda A b) r) (done_value p.3) (block_here (whnf_equal E V A p.0 u p.1 p.2))
  block_sound V (suc rarg) (Lambda A b) r u v l h = block_later (block_sound (None ∷ V) rarg b r u v l h)
  block_sound V rarg t r u v l h = absurd l

  -- bodies

  body_sound : (V : Values) (M : Marks) (rarg : ℕ) (t : Term) (u v : Account) → AreCountedValues E V → IsCounted E t → BeginsWith (suc rarg) t →
      (body_guard E V M rarg t u).end ≡ run.Done tt v → IsGuardedBody E V M rarg t
  unfolding body_guard
  body_sound V M rarg t u v vs k l h =
      let p = bind_both (recursive_block E V rarg t u) (λ r v. walk_under E r V M Argument rarg t v) tt v h in
      recursing p.0 (block_sound V rarg t p.0 u p.1 l p.2) (under_sound E w p.0 V M Argument rarg t p.1 v vs k p.3)

  bodies_sound : (V : Values) (M : Marks) (rargs : List ℕ) (bs : Terms) (u v : Account) → AreCountedValues E V → EachTerm (IsCountedNode E) bs →
      HaveLambdas rargs bs → (run_all (bodies_guard E V M rargs bs) u).end ≡ run.Done tt v → AreGuardedBodies E V M rargs bs
  bodies_sound V M [] Done u v vs k l h = no_bodies
  bodies_sound V M [] (Next n b bs) u v vs k l h = absurd l
  bodies_sound V M (rarg ∷ rargs) Done u v vs k l h = absurd l
  bodies_sound V M (rarg ∷ rargs) (Next n b bs) u v vs k l h =
      let p = run_both (λ u. body_guard E V M rarg b u) (bodies_guard E V M rargs bs) u v h in
      a_body (body_sound V M rarg b u p.0 vs k.0 l.0 p.1) (bodies_sound V M rargs bs p.0 v vs k.1 l.1 p.2)

  pub guard_sound : (V : Values) → AreCountedValues E V → (rargs : List ℕ) (bodies : Terms) (u v : Account) → EachTerm (IsCountedNode E) bodies →
      HaveLambdas rargs bodies → (fix_guard E V rargs bodies u).end ≡ run.Done tt v → IsGuarded E V rargs bodies
  guard_sound V vs rargs bodies u v k l h =
      bodies_sound (under (length rargs) V) (definition_marks rargs []) rargs bodies u v (under_counted E (length rargs) V vs) k l h
