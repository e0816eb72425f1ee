-- What a comparison that writes makes at its start, and in lists.
use Rattle.std.proofs.Common.{◌≡◌, sym, refl, ℕ, zero, suc, ◌<◌, ◌≤◌, ◌-◌, ◌+◌, ◌==◌, ◌&&◌, min, ◌⊎◌, inl, inr, Result, Ok, Err, IsTrue, Bool, true, false, if◌then◌else◌, List, [], ◌∷◌, length, drop, get_or, Option, Some, None, subst, arith}
use Rattle.trees.specs.Tree.{terms_of}
use Rattle.pc_terms.specs.Syntax.{Term, head, args, list_of}
use Rattle.pc_terms.specs.Lists.{arms_of}
use Rattle.pc_terms.specs.declared.term.Branch.{Branch}
use Rattle.pc_terms.specs.declared.term.Match.{Match}
use Rattle.pc_terms.specs.declared.term.MakeFault.{MakeFault}
use Rattle.pc_terms.specs.declared.term.MakeFault.TheVariants.{TooDeep as DeepTerm}
use Rattle.calculus_rules.specs.declared.declaration.Constructor.{Constructor}
use Rattle.calculus_rules.specs.declared.entry.Entry.TheVariants.{Assumed}
use Rattle.calculus_rules.specs.Environment.{Env, FamilyDecl}
use Rattle.calculus_rules.specs.Context.{Context, values, extend}
use Rattle.calculus_rules.specs.Instances.{predicate_entries, branch_entries}
use Rattle.calculus_rules.specs.Lookups.{family_of}
use Rattle.calculus_rules.proofs.Listing.{listed}
use Rattle.pc_rules.specs.declared.broken.Broken.{Broken}
use Rattle.pc_rules.specs.declared.broken.Broken.TheVariants.{NotBelow, UnknownName}
use Rattle.pc_rules.specs.declared.broken.Clash.TheVariants.{Terms as ClashOfTerms}
use Rattle.pc_rules.specs.declared.stop.Stop.TheVariants.{Spent, TooDeep, Memory}
use Rattle.pc_rules.specs.declared.stop.Halt.{Halt}
use Rattle.pc_rules.specs.declared.stop.Halt.TheVariants.{Stop, Broken as Refusal}
use Rattle.pc_rules.specs.Stops.{stop_of}
use Rattle.pc_rules.specs.Follows.{Answers, Halts}
use Rattle.pc_rules.specs.DirectedRun.{ticked, too_nested, any_beyond, done, refused}
use Rattle.pc_rules.specs.DirectedComparison.{Test, alike}
use Rattle.pc_rules.proofs.ListSteps.{next_is, none_left, min_either}
use Rattle.cert_rules.specs.declared.item.CertItem.TheVariants.{Same}
use Rattle.cert_rules.specs.Writing.{WriteAct, silent, noting, noting_all, write_on, write_all}
use Rattle.cert_rules.specs.MakingTyping.{MakeComparison, make_compare, make_entered, make_entering, make_each, make_branches_equal, make_matches_equal, make_heads_equal, make_spines_equal, part_items}
use Rattle.conversion.specs.Comparable.{AreComparable}
use Rattle.conversion.proofs.Comparing.{which_short}
use Rattle.script_making.specs.declared.draft.Draft.{Draft}
use Rattle.script_making.specs.Makes.{Makes}
use Rattle.script_making.specs.Comparing.{compare_making}
use Rattle.script_making.proofs.Making.{makes_memory, makes_then, makes_else, makes_answers, makes_passing, makes_beyond, makes_spent, makes_nested, makes_entered, makes_none, makes_next, makes_first_err}

module _ (E : Env) (q : Test) (c : Context) (equal : Bool) (a b : Term) where
  pub compare_spent : (n : ℕ) (t0 t1 : Draft) → t0.meter.account.left ≡ 0 → t1.meter.account ≡ ticked t0.meter.account → t1.meter.nest ≡ t0.meter.nest → Makes (make_compare E q n c equal a b t0.meter.account) (Err (Stop Spent)) t0 t1
  unfolding make_compare
  compare_spent zero t0 t1 z e n = makes_spent (λ v. too_nested) t0 t1 z e n
  compare_spent (suc k) t0 t1 z e n = makes_spent (λ v. make_entered E q (make_compare E q k) c equal a b v) t0 t1 z e n

  pub compare_nested : (n : ℕ) (t0 t1 t2 : Draft) → n ≡ 0 → 0 < t0.meter.account.left → t1.meter.account ≡ ticked t0.meter.account → t1.meter.nest ≡ t0.meter.nest → t2.meter.account ≡ t1.meter.account → t2.meter.nest ≡ t1.meter.nest →
      Makes (make_compare E q n c equal a b t0.meter.account) (Err (Stop TooDeep)) t0 t2
  unfolding make_compare
  compare_nested zero t0 t1 t2 z h e n e' n' = makes_nested t0 t1 t2 h e n e' n'
  compare_nested (suc k) t0 t1 t2 z h e n e' n' = absurd (omega arith)

  pub compare_entered : (n k : ℕ) (r : Result (Unit {0}) Halt) (t0 t1 t2 t3 t4 : Draft) → n ≡ suc k → 0 < t0.meter.account.left → t1.meter.account ≡ ticked t0.meter.account → t1.meter.nest ≡ t0.meter.nest →
      t2.meter.account ≡ t1.meter.account → t2.meter.nest ≡ t1.meter.nest + 1 → t2.written.items ≡ t0.written.items →
      Makes (make_entered E q (make_compare E q k) c equal a b t2.meter.account) r t2 t3 → t4.meter.account ≡ t3.meter.account → t4.meter.nest ≡ t3.meter.nest - 1 → t4.written.items ≡ t3.written.items →
      Makes (make_compare E q n c equal a b t0.meter.account) r t0 t4
  unfolding make_compare
  compare_entered zero k r t0 t1 t2 t3 t4 z h e n e' n' w f e'' n'' w'' = absurd (omega arith)
  compare_entered (suc j) k r t0 t1 t2 t3 t4 z h e n e' n' w f e'' n'' w'' =
      let p : j ≡ k = omega arith in
      rw p (makes_entered (λ v. make_entered E q (make_compare E q k) c equal a b v) r t0 t1 t2 t3 t4 h e n e' n' w f e'' n'' w'')

-- under the entries of a telescope

pub entering_fault : (c : Context) (As : List Term) (go : Context → WriteAct) (f : MakeFault) (t : Draft) → (f ≡ DeepTerm → IsTrue (any_beyond As)) → Makes (make_entering c As go t.meter.account) (Err (Stop (stop_of f))) t t
entering_fault c As go f t h = makes_beyond (any_beyond As) (λ _ v. go (extend c As) v) f t h

pub entering_goes : (c : Context) (As : List Term) (go : Context → WriteAct) (r : Result (Unit {0}) Halt) (t0 t1 : Draft) → Makes (go (extend c As) t0.meter.account) r t0 t1 → Makes (make_entering c As go t0.meter.account) r t0 t1
entering_goes c As go r t0 t1 f = makes_passing (any_beyond As) (λ _ v. go (extend c As) v) f

-- two lists of terms, from their next ones on
module _ (cmp : MakeComparison) (c : Context) (ts us : List Term) where
  pub each_next : (i : ℕ) (t u : Term) (r : Result (Unit {0}) Halt) (t0 t1 t2 : Draft) → i < length ts → i < length us → t ≡ get_or ts i t → u ≡ get_or us i u →
      Makes (cmp c true t u t0.meter.account) (Ok tt) t0 t1 → Makes (write_all (make_each cmp c (drop (i + 1) ts) (drop (i + 1) us)) t1.meter.account) r t1 t2 →
      Makes (write_all (make_each cmp c (drop i ts) (drop i us)) t0.meter.account) r t0 t2
  each_next i t u r t0 t1 t2 h k e e' f g =
      rw (next_is ts i t h e, next_is us i u k e')
      (makes_next (cmp c true t u) (make_each cmp c (drop (i + 1) ts) (drop (i + 1) us)) r t0 t1 t2 f g)

  pub each_stops : (i : ℕ) (t u : Term) (x : Halt) (t0 t1 : Draft) → i < length ts → i < length us → t ≡ get_or ts i t → u ≡ get_or us i u →
      Makes (cmp c true t u t0.meter.account) (Err x) t0 t1 → Makes (write_all (make_each cmp c (drop i ts) (drop i us)) t0.meter.account) (Err x) t0 t1
  each_stops i t u x t0 t1 h k e e' f =
      rw (next_is ts i t h e, next_is us i u k e')
      (makes_first_err (cmp c true t u) (make_each cmp c (drop (i + 1) ts) (drop (i + 1) us)) x t0 t1 f)

each_none : (cmp : MakeComparison) (c : Context) (ts : List Term) → make_each cmp c ts [] ≡ []
each_none cmp c [] = refl
each_none cmp c (t ∷ ts) = refl

each_short : (cmp : MakeComparison) (c : Context) (ts us : List Term) (i : ℕ) → (length ts ≤ i) ⊎ (length us ≤ i) → make_each cmp c (drop i ts) (drop i us) ≡ []
each_short cmp c ts us i (inl h) = rw (none_left ts i h) refl
each_short cmp c ts us i (inr h) = rw (none_left us i h) (each_none cmp c (drop i ts))

pub each_done : (cmp : MakeComparison) (c : Context) (ts us : List Term) (i : ℕ) (t : Draft) → min (length ts) (length us) ≤ i →
    Makes (write_all (make_each cmp c (drop i ts) (drop i us)) t.meter.account) (Ok tt) t t
each_done cmp c ts us i t h = rw (each_short cmp c ts us i (min_either (length ts) (length us) i h)) (makes_none t)

-- the branches of two matches, from their next ones on
module _ (cmp : MakeComparison) (c : Context) (ps : List Term) (Cs : List Constructor) (bs bs' : List Branch) where
  abbrev pub branches_from : ℕ → List WriteAct
  branches_from i = make_branches_equal cmp c ps (drop i Cs) (list_of (arms_of (drop i bs))) (list_of (arms_of (drop i bs')))

  pub branches_next : (i : ℕ) (C : Constructor) (b b' : Branch) (r : Result (Unit {0}) Halt) (t0 t1 t2 : Draft) →
      i < length Cs → i < length bs → i < length bs' → C ≡ get_or Cs i C → b ≡ get_or bs i b → b' ≡ get_or bs' i b' →
      Makes (make_entering c (branch_entries C ps) (λ d. cmp d true b.body b'.body) t0.meter.account) (Ok tt) t0 t1 → Makes (write_all (branches_from (i + 1)) t1.meter.account) r t1 t2 →
      Makes (write_all (branches_from i) t0.meter.account) r t0 t2
  branches_next i C b b' r t0 t1 t2 h k l e e' e'' f g =
      rw (next_is Cs i C h e, next_is bs i b k e', next_is bs' i b' l e'')
      (makes_next (make_entering c (branch_entries C ps) (λ d. cmp d true b.body b'.body)) (branches_from (i + 1)) r t0 t1 t2 f g)

  pub branches_stops : (i : ℕ) (C : Constructor) (b b' : Branch) (x : Halt) (t0 t1 : Draft) →
      i < length Cs → i < length bs → i < length bs' → C ≡ get_or Cs i C → b ≡ get_or bs i b → b' ≡ get_or bs' i b' →
      Makes (make_entering c (branch_entries C ps) (λ d. cmp d true b.body b'.body) t0.meter.account) (Err x) t0 t1 → Makes (write_all (branches_from i) t0.meter.account) (Err x) t0 t1
  branches_stops i C b b' x t0 t1 h k l e e' e'' f =
      rw (next_is Cs i C h e, next_is bs i b k e', next_is bs' i b' l e'')
      (makes_first_err (make_entering c (branch_entries C ps) (λ d. cmp d true b.body b'.body)) (branches_from (i + 1)) x t0 t1 f)

  no_constructors : (xs ys : List Term) → make_branches_equal cmp c ps [] xs ys ≡ []
  no_constructors xs ys = refl

  no_left : (Ds : List Constructor) (ys : List Term) → make_branches_equal cmp c ps Ds [] ys ≡ []
  no_left [] ys = refl
  no_left (D ∷ Ds) ys = refl

  no_right : (Ds : List Constructor) (xs : List Term) → make_branches_equal cmp c ps Ds xs [] ≡ []
  no_right [] xs = refl
  no_right (D ∷ Ds) [] = refl
  no_right (D ∷ Ds) (x ∷ xs) = refl

  branches_short : (i : ℕ) → (length Cs ≤ i) ⊎ ((length bs ≤ i) ⊎ (length bs' ≤ i)) → branches_from i ≡ []
  branches_short i (inl h) = rw (none_left Cs i h) (no_constructors (list_of (arms_of (drop i bs))) (list_of (arms_of (drop i bs'))))
  branches_short i (inr (inl h)) = rw (none_left bs i h) (no_left (drop i Cs) (list_of (arms_of (drop i bs'))))
  branches_short i (inr (inr h)) = rw (none_left bs' i h) (no_right (drop i Cs) (list_of (arms_of (drop i bs))))

  pub branches_done : (i : ℕ) (t : Draft) → min (length Cs) (min (length bs) (length bs')) ≤ i → Makes (write_all (branches_from i) t.meter.account) (Ok tt) t t
  branches_done i t h =
      rw (branches_short i (which_short (length Cs) (length bs) (length bs') i h)) (makes_none t)

-- two matches, by the lists of their parameters
module _ (E : Env) (n : ℕ) (c : Context) (x y : Match) where
  abbrev pub matched_by : Option FamilyDecl → WriteAct
  matched_by o u =
      make_matches_equal (compare_making E n) c x.family o (terms_of x.params) x.ret x.scrut (arms_of x.branches) (terms_of y.params) y.ret y.scrut (arms_of y.branches) u

  abbrev pub parts_equal : FamilyDecl → List Term → List Term → WriteAct
  parts_equal F ps qs u =
      write_on (write_all (make_each (compare_making E n) c ps qs) u) (λ _ v.
      write_on (make_entering c (predicate_entries x.family F ps) (λ d. compare_making E n d true x.ret y.ret) v) (λ _ w.
      write_on (compare_making E n c true x.scrut y.scrut w) (λ _ z.
      write_all (make_branches_equal (compare_making E n) c ps F.constructors (list_of (arms_of x.branches)) (list_of (arms_of y.branches))) z)))

  pub matched : (F : FamilyDecl) (r : Result (Unit {0}) Halt) (t0 t1 : Draft) → family_of E x.family ≡ Some F → Makes (parts_equal F x.params y.params t0.meter.account) r t0 t1 →
      Makes (matched_by (family_of E x.family) t0.meter.account) r t0 t1
  matched F r t0 t1 e h =
      let k : Makes (parts_equal F (list_of (terms_of x.params)) (list_of (terms_of y.params)) t0.meter.account) r t0 t1 =
      subst (λ ps. Makes (parts_equal F ps (list_of (terms_of y.params)) t0.meter.account) r t0 t1) (sym (listed x.params))
      (subst (λ qs. Makes (parts_equal F x.params qs t0.meter.account) r t0 t1) (sym (listed y.params)) h) in
      subst (λ o. Makes (matched_by o t0.meter.account) r t0 t1) (sym e) k

  -- there is no such family
  pub unmatched : (t : Draft) → family_of E x.family ≡ None → Makes (matched_by (family_of E x.family) t.meter.account) (Err (Refusal (UnknownName x.family.block))) t t
  unmatched t e = subst (λ o. Makes (matched_by o t.meter.account) (Err (Refusal (UnknownName x.family.block))) t t) (sym e) (makes_answers (refused (UnknownName x.family.block)) refl)

-- two spines

module _ (E : Env) (cmp : MakeComparison) (c : Context) (a b : Term) where
  -- an item for each application, the heads, then the arguments
  abbrev pub spine_parts : WriteAct
  spine_parts u =
      write_on (noting_all (part_items (args a)) u) (λ _ v.
      write_on (make_heads_equal E cmp c (head a) (head b) v) (λ _ w. write_all (make_each cmp c (args a) (args b)) w))

  -- as many arguments, and heads of one kind
  abbrev pub spines_fit : Bool
  spines_fit = (length (args a) == length (args b)) && alike (head a) (head b)

  pub spines_go : (r : Result (Unit {0}) Halt) (t0 t1 : Draft) → spines_fit ≡ true → Makes (spine_parts t0.meter.account) r t0 t1 → Makes (make_spines_equal E cmp c a b t0.meter.account) r t0 t1
  spines_go r t0 t1 e f = makes_then spines_fit (spine_parts t0.meter.account) (silent (refused (NotBelow (ClashOfTerms a b))) t0.meter.account) r t0 t1 e f

  pub spines_clash : (t : Draft) → spines_fit ≡ false → Makes (make_spines_equal E cmp c a b t.meter.account) (Err (Refusal (NotBelow (ClashOfTerms a b)))) t t
  spines_clash t e =
      makes_else spines_fit (spine_parts t.meter.account) (silent (refused (NotBelow (ClashOfTerms a b))) t.meter.account) (Err (Refusal (NotBelow (ClashOfTerms a b)))) t t e
      (makes_answers (refused (NotBelow (ClashOfTerms a b))) refl)

-- two sorts

abbrev nothing : Unit {0}
nothing = tt

pub sorts_put : (b : Bool) (x : Broken) (r : Result (Unit {0}) Halt) (t0 t1 : Draft) → Answers (if b then done nothing t0.meter.account else refused x t0.meter.account) (Ok nothing) t0.meter.account →
    Makes (noting Same t0.meter.account) r t0 t1 → Makes (if b then noting Same t0.meter.account else silent (refused x) t0.meter.account) r t0 t1
sorts_put true x r t0 t1 h f = f
sorts_put false x r t0 t1 h f = absurd (cc)

pub sorts_halt : (b : Bool) (x : Broken) (h : Halt) (t : Draft) → Halts (if b then done nothing t.meter.account else refused x t.meter.account) h t.meter.account →
    Makes (if b then noting Same t.meter.account else silent (refused x) t.meter.account) (Err h) t t
sorts_halt true x (Stop Spent) t h = absurd (cc)
sorts_halt true x (Stop TooDeep) t h = absurd (cc)
sorts_halt true x (Stop Memory) t h = makes_memory (noting Same t.meter.account) t
sorts_halt true x (Refusal b) t h = absurd (cc)
sorts_halt false x h t k = makes_answers (refused x) k

-- under one more assumption
pub under_comparable : (E : Env) (c d : Context) (A : Term) (ts us : List Term) → d ≡ Assumed A ∷ c → AreComparable E (values (Assumed A ∷ c)) ts us → AreComparable E (values d) ts us
under_comparable E c d A ts us e h = rw e h
