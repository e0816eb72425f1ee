-- What a comparison of lists, spines, matches and fixpoints answers, from its parts.
use Rattle.std.proofs.Common.{◌≡◌, ◌∙◌, ap, refl, ℕ, suc, ◌<◌, ◌≤◌, ◌+◌, ◌==◌, ◌&&◌, min, ◌⊎◌, inl, inr, Result, Ok, Err, Bool, true, false, List, [], ◌∷◌, ◌++◌, length, drop, get_or, Some, None, length-append, map, arith}
use Rattle.trees.specs.Tree.{terms_of}
use Rattle.pc_terms.specs.Syntax.{Term, Ind, apply, put_all, Rel, variables, shift, head, args, list_of}
use Rattle.pc_terms.specs.Lists.{arms_of}
use Rattle.pc_terms.specs.declared.leaf.FamilyId.{FamilyId}
use Rattle.pc_terms.specs.declared.term.Branch.{Branch}
use Rattle.pc_terms.specs.declared.term.Def.{Def}
use Rattle.pc_terms.specs.declared.term.Match.{Match}
use Rattle.calculus_rules.specs.declared.declaration.Constructor.{Constructor}
use Rattle.calculus_rules.specs.declared.declaration.Family.{Family}
use Rattle.pc_rules.specs.declared.meter.Meter.{Meter}
use Rattle.pc_rules.specs.declared.stop.Halt.{Halt}
use Rattle.pc_rules.specs.declared.stop.Halt.TheVariants.{Broken as Refusal}
use Rattle.pc_rules.specs.declared.broken.Broken.TheVariants.{NotBelow, UnknownName}
use Rattle.pc_rules.specs.declared.broken.Clash.TheVariants.{Terms as ClashOfTerms}
use Rattle.calculus_rules.specs.Environment.{Env, FamilyDecl, with_parameters}
use Rattle.calculus_rules.specs.Context.{Context, Values}
use Rattle.calculus_rules.specs.Instances.{entries_at, predicate_entries, branch_entries}
use Rattle.calculus_rules.specs.Lookups.{family_of}
use Rattle.calculus_rules.proofs.Listing.{listed}
use Rattle.calculus_rules.proofs.Telescopes.{entries_at_length}
use Rattle.rule_laws.proofs.Comparing.{lifted_long}
use Rattle.pc_rules.specs.DirectedRun.{Act, refused, bind, run_all}
use Rattle.pc_rules.specs.DirectedComparison.{Comparison, each_equal, entering, branches_equal, matches_equal, lifted_types, heads_equal, spines_equal, alike}
use Rattle.pc_rules.proofs.FairReduction.{FairComparison}
use Rattle.pc_rules.proofs.Leaving.{leaving}
use Rattle.pc_rules.proofs.ListSteps.{next_is, none_left, min_either}
use Rattle.lazy_conversion.specs.Stuck.{stuck_equal, type_list}
use Rattle.lazy_conversion.specs.Tracks.{Tracks}
use Rattle.conversion.proofs.Comparing.{which_short}
use Rattle.lazy_conversion.proofs.Tracking.{tracks_none, tracks_next, tracks_first_err, tracks_refused, tracks_same}

-- two lists of terms, from their next ones on
module _ (cmp : Comparison) (ts us : List Term) where
  abbrev pub list_from : ℕ → Context → Act
  list_from i c = run_all (each_equal cmp c (drop i ts) (drop i us))

  no_right : (c : Context) (xs : List Term) → each_equal cmp c xs [] ≡ []
  no_right c [] = refl
  no_right c (x ∷ xs) = refl

  short : (c : Context) (i : ℕ) → (length ts ≤ i) ⊎ (length us ≤ i) → each_equal cmp c (drop i ts) (drop i us) ≡ []
  short c i (inl h) = rw (none_left ts i h) refl
  short c i (inr h) = rw (none_left us i h) (no_right c (drop i ts))

  -- the next ones, and those after them
  list_step : (i : ℕ) (t u : Term) (m : Meter) → i < length ts → i < length us → t ≡ get_or ts i t → u ≡ get_or us i u → (c : Context) →
      list_from i c m.account ≡ run_all (cmp c true t u ∷ each_equal cmp c (drop (i + 1) ts) (drop (i + 1) us)) m.account
  list_step i t u m h k e e' c = λ j. run_all (each_equal cmp c (next_is ts i t h e j) (next_is us i u k e' j)) m.account

  module _ {V : Values} {P : Type 0} where
    pub list_next : (i : ℕ) (t u : Term) (r : Result (Unit {0}) Halt) (m0 m1 m2 : Meter) → i < length ts → i < length us → t ≡ get_or ts i t → u ≡ get_or us i u →
        Tracks V P (λ c. cmp c true t u) (Ok tt) m0 m1 → Tracks V P (list_from (i + 1)) r m1 m2 → Tracks V P (list_from i) r m0 m2
    list_next i t u r m0 m1 m2 h k e e' f g =
        tracks_same (λ c. run_all (cmp c true t u ∷ each_equal cmp c (drop (i + 1) ts) (drop (i + 1) us))) (list_from i) r m0 m2 (list_step i t u m0 h k e e')
        (tracks_next (λ c. cmp c true t u) (λ c. each_equal cmp c (drop (i + 1) ts) (drop (i + 1) us)) r m0 m1 m2 f g)

    pub list_stops : FairComparison 0 0 cmp → (i : ℕ) (t u : Term) (x : Halt) (m0 m1 : Meter) → i < length ts → i < length us → t ≡ get_or ts i t → u ≡ get_or us i u →
        Tracks V P (λ c. cmp c true t u) (Err x) m0 m1 → Tracks V P (list_from i) (Err x) m0 m1
    list_stops g i t u x m0 m1 h k e e' f =
        tracks_same (λ c. run_all (cmp c true t u ∷ each_equal cmp c (drop (i + 1) ts) (drop (i + 1) us))) (list_from i) (Err x) m0 m1 (list_step i t u m0 h k e e')
        (tracks_first_err (λ c. cmp c true t u) (λ c. each_equal cmp c (drop (i + 1) ts) (drop (i + 1) us)) x m0 m1 f (search (leaving, g)))

    pub list_done : (i : ℕ) (m : Meter) → min (length ts) (length us) ≤ i → Tracks V P (list_from i) (Ok tt) m m
    list_done i m h = tracks_same (λ c. run_all []) (list_from i) (Ok tt) m m (λ c. ap (λ x. run_all x m.account) (short c i (min_either (length ts) (length us) i h))) (tracks_none m)

-- the branches of two matches, from their next ones on
module _ (cmp : Comparison) (ps : List Term) (Cs : List Constructor) (bs bs' : List Branch) where
  abbrev pub arms_from : ℕ → Context → Act
  arms_from i c = run_all (branches_equal cmp c ps (drop i Cs) (list_of (arms_of (drop i bs))) (list_of (arms_of (drop i bs'))))

  no_left_arms : (c : Context) (Ds : List Constructor) (ys : List Term) → branches_equal cmp c ps Ds [] ys ≡ []
  no_left_arms c [] ys = refl
  no_left_arms c (D ∷ Ds) ys = refl

  no_right_arms : (c : Context) (Ds : List Constructor) (xs : List Term) → branches_equal cmp c ps Ds xs [] ≡ []
  no_right_arms c [] xs = refl
  no_right_arms c (D ∷ Ds) [] = refl
  no_right_arms c (D ∷ Ds) (x ∷ xs) = refl

  short_arms : (c : Context) (i : ℕ) → (length Cs ≤ i) ⊎ ((length bs ≤ i) ⊎ (length bs' ≤ i)) →
      branches_equal cmp c ps (drop i Cs) (list_of (arms_of (drop i bs))) (list_of (arms_of (drop i bs'))) ≡ []
  short_arms c i (inl h) = rw (none_left Cs i h) refl
  short_arms c i (inr (inl h)) = rw (none_left bs i h) (no_left_arms c (drop i Cs) (list_of (arms_of (drop i bs'))))
  short_arms c i (inr (inr h)) = rw (none_left bs' i h) (no_right_arms c (drop i Cs) (list_of (arms_of (drop i bs))))

  -- the bodies of the next branches
  abbrev arm_equal : Constructor → Branch → Branch → Context → Act
  arm_equal C b b' c = entering c (branch_entries C ps) (λ d. cmp d true b.body b'.body)

  -- those of the branches after them
  abbrev later_arms : ℕ → Context → List Act
  later_arms i c = branches_equal cmp c ps (drop (i + 1) Cs) (list_of (arms_of (drop (i + 1) bs))) (list_of (arms_of (drop (i + 1) bs')))

  arms_step : (i : ℕ) (C : Constructor) (b b' : Branch) (m : Meter) → i < length Cs → i < length bs → i < length bs' → C ≡ get_or Cs i C → b ≡ get_or bs i b → b' ≡ get_or bs' i b' → (c : Context) →
      arms_from i c m.account ≡ run_all (arm_equal C b b' c ∷ later_arms i c) m.account
  arms_step i C b b' m h k l e e' e'' c =
      λ j. run_all (branches_equal cmp c ps (next_is Cs i C h e j) (list_of (arms_of (next_is bs i b k e' j))) (list_of (arms_of (next_is bs' i b' l e'' j)))) m.account

  module _ {V : Values} {P : Type 0} where
    pub arms_next : (i : ℕ) (C : Constructor) (b b' : Branch) (r : Result (Unit {0}) Halt) (m0 m1 m2 : Meter) →
        i < length Cs → i < length bs → i < length bs' → C ≡ get_or Cs i C → b ≡ get_or bs i b → b' ≡ get_or bs' i b' →
        Tracks V P (λ c. entering c (branch_entries C ps) (λ d. cmp d true b.body b'.body)) (Ok tt) m0 m1 → Tracks V P (arms_from (i + 1)) r m1 m2 → Tracks V P (arms_from i) r m0 m2
    arms_next i C b b' r m0 m1 m2 h k l e e' e'' f g =
        tracks_same (λ c. run_all (arm_equal C b b' c ∷ later_arms i c)) (arms_from i) r m0 m2 (arms_step i C b b' m0 h k l e e' e'')
        (tracks_next (arm_equal C b b') (later_arms i) r m0 m1 m2 f g)

    pub arms_stop : FairComparison 0 0 cmp → (i : ℕ) (C : Constructor) (b b' : Branch) (x : Halt) (m0 m1 : Meter) →
        i < length Cs → i < length bs → i < length bs' → C ≡ get_or Cs i C → b ≡ get_or bs i b → b' ≡ get_or bs' i b' →
        Tracks V P (λ c. entering c (branch_entries C ps) (λ d. cmp d true b.body b'.body)) (Err x) m0 m1 → Tracks V P (arms_from i) (Err x) m0 m1
    arms_stop g i C b b' x m0 m1 h k l e e' e'' f =
        tracks_same (λ c. run_all (arm_equal C b b' c ∷ later_arms i c)) (arms_from i) (Err x) m0 m1 (arms_step i C b b' m0 h k l e e' e'')
        (tracks_first_err (arm_equal C b b') (later_arms i) x m0 m1 f (search (leaving, g)))

    pub arms_done : (i : ℕ) (m : Meter) → min (length Cs) (min (length bs) (length bs')) ≤ i → Tracks V P (arms_from i) (Ok tt) m m
    arms_done i m h =
        tracks_same (λ c. run_all []) (arms_from i) (Ok tt) m m
        (λ c. ap (λ x. run_all x m.account) (short_arms c i (which_short (length Cs) (length bs) (length bs') i h))) (tracks_none m)

-- how many entries there are

pub branch_count : (C : Constructor) (ps : List Term) → length (branch_entries C ps) ≡ length C.args
branch_count C ps = entries_at_length (put_all ps Rel) C.args

pub predicate_count : (f : FamilyId) (Ps : List Term) (F : Family) (ps : List Term) → length (predicate_entries f (with_parameters Ps F) ps) ≡ suc (length F.indices)
predicate_count f Ps F ps =
    let x = entries_at (put_all ps Rel) F.indices in
    let n : length x ≡ length F.indices = entries_at_length (put_all ps Rel) F.indices in
    let k = length-append x (apply (Ind f) (map (shift (length F.indices) 0) ps ++ variables (length F.indices)) ∷ []) in
    omega (arith, k, n)

type_list_count : (ds : List Def) → length (type_list ds) ≡ length ds
type_list_count [] = refl
type_list_count (d ∷ ds) = ap suc (type_list_count ds)

pub lifted_count : (ds : List Def) → length (lifted_types 0 (type_list ds)) ≡ length ds
lifted_count ds = lifted_long 0 (type_list ds) ∙ type_list_count ds

-- two matches, by the lists of their parameters
module _ (E : Env) (cmp : Comparison) (x y : Match) where
  -- parameters, predicates, scrutinees, branches
  abbrev pub parts_equal : FamilyDecl → List Term → List Term → Context → Act
  parts_equal F ps qs c u =
      bind (run_all (each_equal cmp c ps qs) u) (λ _ v.
      bind (entering c (predicate_entries x.family F ps) (λ d. cmp d true x.ret y.ret) v) (λ _ w.
      bind (cmp c true x.scrut y.scrut w) (λ _ z.
      run_all (branches_equal cmp c ps F.constructors (list_of (arms_of x.branches)) (list_of (arms_of y.branches))) z)))

  by_family : (F : FamilyDecl) (c : Context) (m : Meter) → family_of E x.family ≡ Some F → stuck_equal E cmp x y c m.account ≡ parts_equal F x.params y.params c m.account
  by_family F c m e =
      ap (λ o. matches_equal cmp c x.family o (terms_of x.params) x.ret x.scrut (arms_of x.branches) (terms_of y.params) y.ret y.scrut (arms_of y.branches) m.account) e
      ∙ (λ j. parts_equal F (listed x.params j) (listed y.params j) c m.account)

  module _ {V : Values} {P : Type 0} where
    pub stuck_goes : (F : FamilyDecl) (r : Result (Unit {0}) Halt) (m0 m1 : Meter) → family_of E x.family ≡ Some F → Tracks V P (parts_equal F x.params y.params) r m0 m1 →
        Tracks V P (stuck_equal E cmp x y) r m0 m1
    stuck_goes F r m0 m1 e f = tracks_same (parts_equal F x.params y.params) (stuck_equal E cmp x y) r m0 m1 (λ c. by_family F c m0 e) f

    pub stuck_unknown : (m : Meter) → family_of E x.family ≡ None → Tracks V P (stuck_equal E cmp x y) (Err (Refusal (UnknownName x.family.block))) m m
    stuck_unknown m e =
        tracks_same (λ c. refused (UnknownName x.family.block)) (stuck_equal E cmp x y) (Err (Refusal (UnknownName x.family.block))) m m
        (λ c. ap (λ o. matches_equal cmp c x.family o (terms_of x.params) x.ret x.scrut (arms_of x.branches) (terms_of y.params) y.ret y.scrut (arms_of y.branches) m.account) e)
        (tracks_refused (UnknownName x.family.block) m)

-- two spines
module _ (E : Env) (cmp : Comparison) (a b : Term) where
  -- as many arguments, and heads of one kind
  abbrev pub spines_fit : Bool
  spines_fit = (length (args a) == length (args b)) && alike (head a) (head b)

  -- the heads, then the arguments
  abbrev pub spine_parts : Context → Act
  spine_parts c u = bind (heads_equal E cmp c (head a) (head b) u) (λ _ v. run_all (each_equal cmp c (args a) (args b)) v)

  module _ {V : Values} {P : Type 0} where
    pub spines_go : (r : Result (Unit {0}) Halt) (m0 m1 : Meter) → spines_fit ≡ true → Tracks V P spine_parts r m0 m1 → Tracks V P (λ c. spines_equal E cmp c a b) r m0 m1
    spines_go r m0 m1 t f = tracks_same spine_parts (λ c. spines_equal E cmp c a b) r m0 m1 (λ c. rw t refl) f

    pub spines_clash : (m : Meter) → spines_fit ≡ false → Tracks V P (λ c. spines_equal E cmp c a b) (Err (Refusal (NotBelow (ClashOfTerms a b)))) m m
    spines_clash m t =
        tracks_same (λ c. refused (NotBelow (ClashOfTerms a b))) (λ c. spines_equal E cmp c a b) (Err (Refusal (NotBelow (ClashOfTerms a b)))) m m (λ c. rw t refl)
        (tracks_refused (NotBelow (ClashOfTerms a b)) m)
