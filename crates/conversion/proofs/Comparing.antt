-- What a comparison answers at its start, and in lists.
use Rattle.std.proofs.Common.{◌≡◌, sym, refl, ℕ, zero, suc, ◌<◌, ◌≤◌, ◌-◌, ◌+◌, ◌==◌, ◌&&◌, min, ◌⊎◌, inl, inr, Result, Ok, Err, IsTrue, Bool, true, false, List, [], ◌∷◌, length, drop, get_or, Option, Some, subst, arith}
use Rattle.trees.specs.Tree.{terms_of}
use Rattle.pc_terms.specs.Syntax.{Term, head, args, list_of}
use Rattle.pc_terms.specs.Lists.{arms_of}
use Rattle.pc_terms.specs.declared.term.Branch.{Branch}
use Rattle.pc_terms.specs.declared.term.Match.{Match}
use Rattle.pc_terms.specs.declared.term.MakeFault.{MakeFault}
use Rattle.pc_terms.specs.declared.term.MakeFault.TheVariants.{TooDeep as DeepTerm, Memory as NoTerm}
use Rattle.calculus_rules.specs.declared.declaration.Constructor.{Constructor}
use Rattle.pc_rules.specs.declared.meter.Account.{Account}
use Rattle.pc_rules.specs.declared.meter.Meter.{Meter}
use Rattle.pc_rules.specs.declared.stop.Stop.TheVariants.{Spent, TooDeep}
use Rattle.pc_rules.specs.declared.stop.Halt.{Halt}
use Rattle.pc_rules.specs.declared.stop.Halt.TheVariants.{Stop, Broken as Refusal}
use Rattle.pc_rules.specs.declared.broken.Broken.TheVariants.{NotBelow}
use Rattle.pc_rules.specs.declared.broken.Clash.TheVariants.{Terms as ClashOfTerms}
use Rattle.calculus_rules.specs.Environment.{Env, FamilyDecl}
use Rattle.calculus_rules.specs.Context.{Context, extend}
use Rattle.calculus_rules.specs.Instances.{predicate_entries, branch_entries}
use Rattle.pc_rules.specs.Stops.{stop_of}
use Rattle.pc_rules.specs.Entailment.{test_of}
use Rattle.pc_rules.specs.Follows.{Follows}
use Rattle.pc_rules.specs.DirectedRun.{Act, ticked, too_nested, passing, any_beyond, refused, bind, run_all, Leaves}
use Rattle.calculus_rules.specs.Lookups.{family_of}
use Rattle.pc_rules.specs.DirectedComparison.{Test, Comparison, compare, entered, entering, each_equal, branches_equal, matches_equal, heads_equal, spines_equal, alike}
use Rattle.pc_rules.proofs.Following.{follows_spent, follows_nested, follows_entered, follows_bind, follows_err, follows_deep, follows_memory, follows_passing, follows_none, follows_next, follows_first_err, follows_then, follows_else, follows_refused}
use Rattle.pc_rules.proofs.FairReduction.{FairComparison}
use Rattle.pc_rules.proofs.Leaving.{leaving, comparison_leaves}
use Rattle.pc_rules.proofs.ListSteps.{next_is, none_left, min_either}
use Rattle.calculus_rules.proofs.Listing.{listed}

-- the comparison with room for so many rules
abbrev pub at_room : Env → ℕ → Comparison
at_room E n = compare E (test_of E) n

module _ (E : Env) (q : Test) (c : Context) (equal : Bool) (a b : Term) where
  pub compare_spent : (n : ℕ) (m0 m1 : Meter) → m0.account.left ≡ 0 → m1.account ≡ ticked m0.account → m1.nest ≡ m0.nest → Follows (compare E q n c equal a b m0.account) (Err (Stop Spent)) m0 m1
  unfolding compare
  compare_spent zero m0 m1 z e n = follows_spent (λ v. too_nested) m0 m1 z e n
  compare_spent (suc k) m0 m1 z e n = follows_spent (λ v. entered E q (compare E q k) c equal a b v) m0 m1 z e n

  pub compare_nested : (n : ℕ) (m0 m1 m2 : Meter) → n ≡ 0 → 0 < m0.account.left → m1.account ≡ ticked m0.account → m1.nest ≡ m0.nest → m2.account ≡ m1.account → m2.nest ≡ m1.nest → Follows (compare E q n c equal a b m0.account) (Err (Stop TooDeep)) m0 m2
  unfolding compare
  compare_nested zero m0 m1 m2 z h e n e' n' = follows_nested m0 m1 m2 h e n e' n'
  compare_nested (suc k) m0 m1 m2 z h e n e' n' = absurd (omega arith)

  pub compare_entered : (n k : ℕ) (r : Result (Unit {0}) Halt) (m0 m1 m2 m3 m4 : Meter) → n ≡ suc k → 0 < m0.account.left → m1.account ≡ ticked m0.account → m1.nest ≡ m0.nest → m2.account ≡ m1.account → m2.nest ≡ m1.nest + 1 → Follows (entered E q (compare E q k) c equal a b
      m2.account) r m2 m3 → m4.account ≡ m3.account → m4.nest ≡ m3.nest - 1 → Follows (compare E q n c equal a b m0.account) r m0 m4
  unfolding compare
  compare_entered zero k r m0 m1 m2 m3 m4 z h e n e' n' f e'' n'' = absurd (omega arith)
  compare_entered (suc j) k r m0 m1 m2 m3 m4 z h e n e' n' f e'' n'' =
      let p : j ≡ k = omega arith in
      rw p (follows_entered (λ v. entered E q (compare E q k) c equal a b v) r m0 m1 m2 m3 m4 h e n e' n' f e'' n'')

-- under the entries of a telescope

pub entering_fault : (c : Context) (As : List Term) (go : Context → Act) (f : MakeFault) (m : Meter) → (f ≡ DeepTerm → IsTrue (any_beyond As)) → ((d : Context) (u : Account) → Leaves (go d u).end u.left) →
    Follows (entering c As go m.account) (Err (Stop (stop_of f))) m m
entering_fault c As go DeepTerm m h l = follows_err (passing (any_beyond As) m.account) (λ _ v. go (extend c As) v) (Stop TooDeep) m m (follows_deep (passing (any_beyond As) m.account) m (h refl) (search leaving)) (λ _. l (extend c As))
entering_fault c As go NoTerm m h l = follows_memory (entering c As go m.account) m (search (leaving, l))

pub entering_goes : (c : Context) (As : List Term) (go : Context → Act) (r : Result (Unit {0}) Halt) (m0 m1 : Meter) → Follows (go (extend c As) m0.account) r m0 m1 → Follows (entering c As go m0.account) r m0 m1
entering_goes c As go r m0 m1 f = follows_bind (passing (any_beyond As) m0.account) (λ _ v. go (extend c As) v) tt r m0 m0 m1 (follows_passing (any_beyond As) m0) f

-- two lists of terms, from their next ones on
module _ (cmp : Comparison) (c : Context) (ts us : List Term) where
  pub each_next : (i : ℕ) (t u : Term) (r : Result (Unit {0}) Halt) (m0 m1 m2 : Meter) → i < length ts → i < length us → t ≡ get_or ts i t → u ≡ get_or us i u →
      Follows (cmp c true t u m0.account) (Ok tt) m0 m1 → Follows (run_all (each_equal cmp c (drop (i + 1) ts) (drop (i + 1) us)) m1.account) r m1 m2 →
      Follows (run_all (each_equal cmp c (drop i ts) (drop i us)) m0.account) r m0 m2
  each_next i t u r m0 m1 m2 h k e e' f g =
      rw (next_is ts i t h e, next_is us i u k e')
      (follows_next (cmp c true t u) (each_equal cmp c (drop (i + 1) ts) (drop (i + 1) us)) r m0 m1 m2 f g)

  pub each_stops : FairComparison 0 0 cmp → (i : ℕ) (t u : Term) (x : Halt) (m0 m1 : Meter) → i < length ts → i < length us → t ≡ get_or ts i t → u ≡ get_or us i u →
      Follows (cmp c true t u m0.account) (Err x) m0 m1 → Follows (run_all (each_equal cmp c (drop i ts) (drop i us)) m0.account) (Err x) m0 m1
  each_stops g i t u x m0 m1 h k e e' f =
      rw (next_is ts i t h e, next_is us i u k e')
      (follows_first_err (cmp c true t u) (each_equal cmp c (drop (i + 1) ts) (drop (i + 1) us)) x m0 m1 f (search (leaving, g)))

each_none : (cmp : Comparison) (c : Context) (ts : List Term) → each_equal cmp c ts [] ≡ []
each_none cmp c [] = refl
each_none cmp c (t ∷ ts) = refl

each_short : (cmp : Comparison) (c : Context) (ts us : List Term) (i : ℕ) → (length ts ≤ i) ⊎ (length us ≤ i) → each_equal cmp c (drop i ts) (drop i us) ≡ []
each_short cmp c ts us i (inl h) = rw (none_left ts i h) refl
each_short cmp c ts us i (inr h) = rw (none_left us i h) (each_none cmp c (drop i ts))

pub each_done : (cmp : Comparison) (c : Context) (ts us : List Term) (i : ℕ) (m : Meter) → min (length ts) (length us) ≤ i →
    Follows (run_all (each_equal cmp c (drop i ts) (drop i us)) m.account) (Ok tt) m m
each_done cmp c ts us i m h = rw (each_short cmp c ts us i (min_either (length ts) (length us) i h)) (follows_none m)

-- one of three lists has no item left
one_short : (k m n i : ℕ) → (k ≤ i) ⊎ (min m n ≤ i) → (k ≤ i) ⊎ ((m ≤ i) ⊎ (n ≤ i))
one_short k m n i (inl h) = inl h
one_short k m n i (inr h) = inr (min_either m n i h)

pub which_short : (k m n i : ℕ) → min k (min m n) ≤ i → (k ≤ i) ⊎ ((m ≤ i) ⊎ (n ≤ i))
which_short k m n i h = one_short k m n i (min_either k (min m n) i h)

-- the branches of two matches, from their next ones on
module _ (cmp : Comparison) (c : Context) (ps : List Term) (Cs : List Constructor) (bs bs' : List Branch) where
  abbrev pub branches_from : ℕ → List Act
  branches_from i = branches_equal cmp c ps (drop i Cs) (list_of (arms_of (drop i bs))) (list_of (arms_of (drop i bs')))

  pub branches_next : (i : ℕ) (C : Constructor) (b b' : Branch) (r : Result (Unit {0}) Halt) (m0 m1 m2 : Meter) →
      i < length Cs → i < length bs → i < length bs' → C ≡ get_or Cs i C → b ≡ get_or bs i b → b' ≡ get_or bs' i b' →
      Follows (entering c (branch_entries C ps) (λ d. cmp d true b.body b'.body) m0.account) (Ok tt) m0 m1 → Follows (run_all (branches_from (i + 1)) m1.account) r m1 m2 →
      Follows (run_all (branches_from i) m0.account) r m0 m2
  branches_next i C b b' r m0 m1 m2 h k l e e' e'' f g =
      rw (next_is Cs i C h e, next_is bs i b k e', next_is bs' i b' l e'')
      (follows_next (entering c (branch_entries C ps) (λ d. cmp d true b.body b'.body)) (branches_from (i + 1)) r m0 m1 m2 f g)

  pub branches_stops : FairComparison 0 0 cmp → (i : ℕ) (C : Constructor) (b b' : Branch) (x : Halt) (m0 m1 : Meter) →
      i < length Cs → i < length bs → i < length bs' → C ≡ get_or Cs i C → b ≡ get_or bs i b → b' ≡ get_or bs' i b' →
      Follows (entering c (branch_entries C ps) (λ d. cmp d true b.body b'.body) m0.account) (Err x) m0 m1 → Follows (run_all (branches_from i) m0.account) (Err x) m0 m1
  branches_stops g i C b b' x m0 m1 h k l e e' e'' f =
      rw (next_is Cs i C h e, next_is bs i b k e', next_is bs' i b' l e'')
      (follows_first_err (entering c (branch_entries C ps) (λ d. cmp d true b.body b'.body)) (branches_from (i + 1)) x m0 m1 f (search (leaving, g)))

  no_constructors : (xs ys : List Term) → branches_equal cmp c ps [] xs ys ≡ []
  no_constructors xs ys = refl

  no_left : (Ds : List Constructor) (ys : List Term) → branches_equal cmp c ps Ds [] ys ≡ []
  no_left [] ys = refl
  no_left (D ∷ Ds) ys = refl

  no_right : (Ds : List Constructor) (xs : List Term) → branches_equal cmp c ps Ds xs [] ≡ []
  no_right [] xs = refl
  no_right (D ∷ Ds) [] = refl
  no_right (D ∷ Ds) (x ∷ xs) = refl

  branches_short : (i : ℕ) → (length Cs ≤ i) ⊎ ((length bs ≤ i) ⊎ (length bs' ≤ i)) → branches_from i ≡ []
  branches_short i (inl h) = rw (none_left Cs i h) (no_constructors (list_of (arms_of (drop i bs))) (list_of (arms_of (drop i bs'))))
  branches_short i (inr (inl h)) = rw (none_left bs i h) (no_left (drop i Cs) (list_of (arms_of (drop i bs'))))
  branches_short i (inr (inr h)) = rw (none_left bs' i h) (no_right (drop i Cs) (list_of (arms_of (drop i bs))))

  pub branches_done : (i : ℕ) (m : Meter) → min (length Cs) (min (length bs) (length bs')) ≤ i → Follows (run_all (branches_from i) m.account) (Ok tt) m m
  branches_done i m h =
      rw (branches_short i (which_short (length Cs) (length bs) (length bs') i h)) (follows_none m)

-- two matches, by the lists of their parameters
module _ (E : Env) (n : ℕ) (c : Context) (x y : Match) where
  abbrev pub matched_by : Option FamilyDecl → Act
  matched_by o u =
      matches_equal (at_room E n) c x.family o (terms_of x.params) x.ret x.scrut (arms_of x.branches) (terms_of y.params) y.ret y.scrut (arms_of y.branches) u

  abbrev pub parts_equal : FamilyDecl → List Term → List Term → Act
  parts_equal F ps qs u =
      bind (run_all (each_equal (at_room E n) c ps qs) u) (λ _ v.
      bind (entering c (predicate_entries x.family F ps) (λ d. at_room E n d true x.ret y.ret) v) (λ _ w.
      bind (at_room E n c true x.scrut y.scrut w) (λ _ z.
      run_all (branches_equal (at_room E n) c ps F.constructors (list_of (arms_of x.branches)) (list_of (arms_of y.branches))) z)))

  pub matched : (F : FamilyDecl) (r : Result (Unit {0}) Halt) (m0 m1 : Meter) → family_of E x.family ≡ Some F → Follows (parts_equal F x.params y.params m0.account) r m0 m1 →
      Follows (matched_by (family_of E x.family) m0.account) r m0 m1
  matched F r m0 m1 e h =
      let k : Follows (parts_equal F (list_of (terms_of x.params)) (list_of (terms_of y.params)) m0.account) r m0 m1 =
      subst (λ ps. Follows (parts_equal F ps (list_of (terms_of y.params)) m0.account) r m0 m1) (sym (listed x.params))
      (subst (λ qs. Follows (parts_equal F x.params qs m0.account) r m0 m1) (sym (listed y.params)) h) in
      subst (λ o. Follows (matched_by o m0.account) r m0 m1) (sym e) k

-- two spines

module _ (E : Env) (cmp : Comparison) (c : Context) (a b : Term) where
  -- the heads, then the arguments
  abbrev pub spine_parts : Act
  spine_parts u = bind (heads_equal E cmp c (head a) (head b) u) (λ _ v. run_all (each_equal cmp c (args a) (args b)) v)

  -- as many arguments, and heads of one kind
  abbrev pub spines_fit : Bool
  spines_fit = (length (args a) == length (args b)) && alike (head a) (head b)

  pub spines_go : (r : Result (Unit {0}) Halt) (m0 m1 : Meter) → spines_fit ≡ true → Follows (spine_parts m0.account) r m0 m1 → Follows (spines_equal E cmp c a b m0.account) r m0 m1
  spines_go r m0 m1 t f = follows_then spines_fit (spine_parts m0.account) (refused (NotBelow (ClashOfTerms a b)) m0.account) r m0 m1 t f

  pub spines_clash : (m : Meter) → spines_fit ≡ false → Follows (spines_equal E cmp c a b m.account) (Err (Refusal (NotBelow (ClashOfTerms a b)))) m m
  spines_clash m t =
      follows_else spines_fit (spine_parts m.account) (refused (NotBelow (ClashOfTerms a b)) m.account) (Err (Refusal (NotBelow (ClashOfTerms a b)))) m m t
      (follows_refused (NotBelow (ClashOfTerms a b)) m)
