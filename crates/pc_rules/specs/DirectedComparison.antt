-- Comparison: below, or equal. One unit at its start; equal terms are done; else both sides are reduced, and taken apart. The unit is taken
-- before the nested rule is counted, and after the reduction there is no second test for sameness.
use Rattle.std.specs.Prelude.{ℕ, zero, suc, ◌≡◌, ◌≢◌, ◌==◌, ◌&&◌, Bool, true, false, if◌then◌else◌, List, [], ◌∷◌, length, Option, Some, None}
use Rattle.universe_levels.specs.declared.level.LevelExpr.{LevelExpr}
use Rattle.universe_levels.specs.declared.sort.Sort.{Sort}
use Rattle.universe_levels.specs.declared.sort.Sort.TheVariants.{Prop, Of}
use Rattle.universe_levels.specs.Consistency.{Entails, IsOver}
use Rattle.universe_levels.specs.declared.constraint.Constraint.{Constraint}
use Rattle.pc_terms.specs.declared.leaf.FamilyId.{FamilyId}
use Rattle.pc_terms.specs.Syntax.{Term, Terms, Rel, SortT, Prod, Lambda, Const, Ind, Construct, Case, Fix, head, args, number, shift, list_of}
use Rattle.pc_terms.specs.Formed.{binders_of}
use Rattle.calculus_rules.specs.declared.declaration.Constructor.{Constructor}
use Rattle.calculus_rules.specs.declared.entry.Entry.TheVariants.{Assumed}
use Rattle.pc_rules.specs.declared.broken.Broken.TheVariants.{NotBelow, UnknownName}
use Rattle.pc_rules.specs.declared.broken.Clash.TheVariants.{Terms as ClashOfTerms, Sorts as ClashOfSorts}
use Rattle.calculus_rules.specs.Environment.{Env, FamilyDecl}
use Rattle.calculus_rules.specs.Context.{Context, values, extend}
use Rattle.calculus_rules.specs.Instances.{predicate_entries, branch_entries}
use Rattle.calculus_rules.specs.Same.{same, same_numbers, same_names, same_families}
use Rattle.pc_rules.specs.DirectedRun.{Act, done, refused, too_nested, passing, bind, ticking, any_beyond, run_all}
use Rattle.calculus_rules.specs.Lookups.{family_of}
use Rattle.pc_rules.specs.DirectedWeakHead.{whnf}

-- a test of entailment between universes, which decides the meaning of entailment under the constraints, for universes of declared levels
abbrev pub Test : Type 0
Test = List LevelExpr → List LevelExpr → Bool

pub record IsTest (levels : ℕ) (cs : List Constraint) (q : Test) : Type 0 where
  pub yes : (u w : List LevelExpr) → q u w ≡ true → Entails levels cs u w
  pub no : (u w : List LevelExpr) → w ≢ [] → IsOver levels u → IsOver levels w → q u w ≡ false → Entails levels cs u w → ⊥

abbrev pub sort_below : Test → Sort → Sort → Bool
sort_below q Prop s = true
sort_below q (Of u) Prop = false
sort_below q (Of u) (Of w) = q u w

-- below, and in both directions for equal
abbrev pub sorts_stand : Test → Bool → Sort → Sort → Bool
sorts_stand q equal s s' = if equal then sort_below q s s' && sort_below q s' s else sort_below q s s'

-- a comparison in a context: equal where the test is true, and else below
abbrev pub Comparison : Type 0
Comparison = Context → Bool → Term → Term → Act

-- two heads of one kind, with the same numbers
abbrev pub alike : Term → Term → Bool
alike (Rel i) (Rel j) = i == j
alike (Const k) (Const l) = same_names k l
alike (Ind f) (Ind g) = same_families f g
alike (Construct f c) (Construct g d) = same_families f g && (c == d)
alike (Case f ps n ret s bs) (Case g qs m ret' s' bs') =
    same_families f g && ((number ps == number qs) && ((n == m) && same_numbers (binders_of bs) (binders_of bs')))
alike (Fix i rargs types bodies) (Fix j rargs' types' bodies') = (i == j) && same_numbers rargs rargs'
alike _ _ = false

-- lists of terms, from left to right, equal
abbrev pub each_equal : Comparison → Context → List Term → List Term → List Act
each_equal cmp c (t ∷ ts) (u ∷ us) = cmp c true t u ∷ each_equal cmp c ts us
each_equal cmp c _ _ = []

-- goes on under the entries of a telescope, which are made
abbrev pub entering : Context → List Term → (Context → Act) → Act
entering c As go u = bind (passing (any_beyond As) u) (λ _ v. go (extend c As) v)

-- the bodies of branches, equal, under the entries of the left side
abbrev pub branches_equal : Comparison → Context → List Term → List Constructor → List Term → List Term → List Act
branches_equal cmp c ps (C ∷ Cs) (b ∷ bs) (b' ∷ bs') =
    entering c (branch_entries C ps) (λ d. cmp d true b b') ∷ branches_equal cmp c ps Cs bs bs'
branches_equal cmp c ps _ _ _ = []

-- the parts of two matches: parameters, predicates, scrutinees, branches
abbrev pub matches_equal : Comparison → Context → FamilyId → Option FamilyDecl → Terms → Term → Term → Terms → Terms → Term → Term → Terms → Act
matches_equal cmp c f None ps ret s bs qs ret' s' bs' u = refused (UnknownName f.block) u
matches_equal cmp c f (Some F) ps ret s bs qs ret' s' bs' u =
    bind (run_all (each_equal cmp c (list_of ps) (list_of qs)) u) (λ _ v.
    bind (entering c (predicate_entries f F (list_of ps)) (λ d. cmp d true ret ret') v) (λ _ w.
    bind (cmp c true s s' w) (λ _ x.
    run_all (branches_equal cmp c (list_of ps) F.constructors (list_of bs) (list_of bs')) x)))

-- the types of definitions, each lifted over those before it
abbrev pub lifted_types : ℕ → List Term → List Term
lifted_types n [] = []
lifted_types n (T ∷ Ts) = shift n 0 T ∷ lifted_types (suc n) Ts

-- the parts of two fixpoints: types, then bodies under the definitions of the left side
abbrev pub fixpoints_equal : Comparison → Context → Terms → Terms → Terms → Terms → Act
fixpoints_equal cmp c types bodies types' bodies' u =
    bind (run_all (each_equal cmp c (list_of types) (list_of types')) u) (λ _ v.
    entering c (lifted_types 0 (list_of types)) (λ d. run_all (each_equal cmp d (list_of bodies) (list_of bodies'))) v)

abbrev pub heads_equal : Env → Comparison → Context → Term → Term → Act
heads_equal E cmp c (Case f ps n ret s bs) (Case g qs m ret' s' bs') u = matches_equal cmp c f (family_of E f) ps ret s bs qs ret' s' bs' u
heads_equal E cmp c (Fix i rargs types bodies) (Fix j rargs' types' bodies') u = fixpoints_equal cmp c types bodies types' bodies' u
heads_equal E cmp c _ _ u = done tt u

-- two spines: heads, then arguments from left to right
abbrev pub spines_equal : Env → Comparison → Context → Term → Term → Act
spines_equal E cmp c a b u =
    if (length (args a) == length (args b)) && alike (head a) (head b)
    then bind (heads_equal E cmp c (head a) (head b) u) (λ _ v. run_all (each_equal cmp c (args a) (args b)) v)
    else refused (NotBelow (ClashOfTerms a b)) u

-- two terms in weak-head normal form
abbrev pub pair : Env → Test → Comparison → Context → Bool → Term → Term → Act
pair E q cmp c equal (SortT s) (SortT s') u = if sorts_stand q equal s s' then done tt u else refused (NotBelow (ClashOfSorts s s')) u
pair E q cmp c equal (Prod A B) (Prod A' B') u = bind (cmp c true A A' u) (λ _ v. cmp (Assumed A ∷ c) equal B B' v)
pair E q cmp c equal (Lambda A b) (Lambda A' b') u = bind (cmp c true A A' u) (λ _ v. cmp (Assumed A ∷ c) true b b' v)
pair E q cmp c equal a b u = spines_equal E cmp c a b u

abbrev pub entered : Env → Test → Comparison → Comparison
entered E q cmp c equal a b u =
    if same a b then done tt u
    else bind (whnf E (values c) a u) (λ x v. bind (whnf E (values c) b v) (λ y w. pair E q cmp c equal x y w))

-- with a number of rules that may still stand in one another
unfoldable pub compare : Env → Test → ℕ → Comparison
compare E q zero c equal a b u = ticking u (λ v. too_nested)
compare E q (suc n) c equal a b u = ticking u (λ v. entered E q (compare E q n) c equal a b v)
