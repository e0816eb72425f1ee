-- The certified walk of the rules of typing: the rules are done in the order of directed inference, and a certificate says which steps and
-- comparisons are made. Each inference takes a unit and then counts as a nested rule. What takes no item is done by the directed rules; where
-- a condition between items fails, the walk is refused at the next item.
use Rattle.std.specs.Prelude.{ℕ, zero, suc, ◌+◌, ◌==◌, ◌&&◌, false, if◌then◌else◌, List, [], ◌∷◌, ◌++◌, length, drop, Option, Some, slice_get}
use Rattle.universe_levels.specs.declared.sort.Sort.{Sort}
use Rattle.universe_levels.specs.Sorts.{product_sort}
use Rattle.pc_terms.specs.declared.leaf.FamilyId.{FamilyId}
use Rattle.pc_terms.specs.Syntax.{Term, Terms, Rel, SortT, Const, Case, first, put, substitute, shift, apply, head, args, term_at, Prod, Lambda, LetIn, App, Ind, Construct, Fix, list_of}
use Rattle.calculus_rules.specs.declared.declaration.Constructor.{Constructor}
use Rattle.calculus_rules.specs.declared.declaration.Block.{Block}
use Rattle.calculus_rules.specs.declared.entry.Entry.TheVariants.{Assumed, Defined}
use Rattle.calculus_rules.specs.Environment.{Env, FamilyDecl}
use Rattle.calculus_rules.specs.Context.{Context, values, type_at, extend}
use Rattle.calculus_rules.specs.Instances.{predicate_entries, branch_entries, predicate_at, branch_type, definitions}
use Rattle.calculus_rules.specs.Same.{same}
use Rattle.pc_rules.specs.DirectedRun.{make, passing, any_beyond}
use Rattle.calculus_rules.specs.Lookups.{kept_at, whole_block}
use Rattle.pc_rules.specs.DirectedComparison.{Test}
use Rattle.pc_rules.specs.DirectedGuard.{fix_guard}
use Rattle.pc_rules.specs.DirectedTyping.{rel_rule, sort_rule, const_rule, find_family, ind_rule, construct_rule, match_counted, eliminated, is_the_family, branch_beyond, recursive_domain, enough_abstractions, is_a_family, definition_type}
use Rattle.cert_rules.specs.declared.item.CertItem.{CertItem}
use Rattle.cert_rules.specs.declared.item.CertItem.TheVariants.{Same, Conv}
use Rattle.cert_rules.specs.Walk.{Items, WalkState, WalkAct, Walk, pass, bar, bar_here, crowded, past, walk_on, walk_ticking, by_rules}
use Rattle.cert_rules.specs.WalkSteps.{reduced}
use Rattle.cert_rules.specs.Scripts.{Script, script}

-- a walk that comes to a type of a term
abbrev pub Walking : Type 0
Walking = Context → Term → WalkState → Walk Term

-- a sort that n steps came to: it is inferred where there are any
abbrev pub sort_after : Walking → Context → Sort → ℕ → WalkState → Walk Sort
sort_after inf c x zero s = pass x s
sort_after inf c x (suc n) s = walk_on (inf c (SortT x) s) (λ _ w. pass x w)

-- the sort that item i comes to, after n steps
abbrev pub walk_sort_found : Walking → Context → ℕ → ℕ → Term → WalkState → Walk Sort
walk_sort_found inf c i n (SortT x) s = sort_after inf c x n s
walk_sort_found inf c i n other s = bar i s

-- the sort of a term: its type after so many steps; where there are any, that sort is inferred
unfoldable pub walk_sort_of : Items → Env → Walking → Context → Term → WalkState → Walk Sort
walk_sort_of cert E inf c A s =
    walk_on (inf c A s) (λ T v. walk_on (reduced cert E (values c) T v) (λ r w. walk_sort_found inf c r.item r.count r.term w))

-- what a type becomes after n steps is a type, where there are any
unfoldable pub walk_retype : Items → Env → Walking → Context → ℕ → Term → WalkAct
walk_retype cert E inf c zero W s = pass tt s
walk_retype cert E inf c (suc n) W s = walk_on (walk_sort_of cert E inf c W s) (λ _ w. pass tt w)

-- a type is the one that is asked for, or below it by a script, where that has a sort
abbrev pub fits_by : Items → Env → Walking → Script → Context → Term → Term → Option CertItem → WalkAct
fits_by cert E inf cmp c S T (Some Same) s = if same S T then pass tt (past s) else bar_here s
fits_by cert E inf cmp c S T (Some Conv) s = walk_on (walk_sort_of cert E inf c T (past s)) (λ _ w. cmp (values c) false S T w)
fits_by cert E inf cmp c S T _ s = bar_here s

unfoldable pub walk_fits : Items → Env → Walking → Script → Context → Term → Term → WalkAct
walk_fits cert E inf cmp c S T s = fits_by cert E inf cmp c S T (slice_get cert s.at) s

-- a term has a type
unfoldable pub walk_check : Items → Env → Walking → Script → Context → Term → Term → WalkAct
walk_check cert E inf cmp c t T s = walk_on (inf c t s) (λ S v. walk_fits cert E inf cmp c S T v)

-- 3. product
abbrev pub walk_prod : Items → Env → Walking → Context → Term → Term → WalkState → Walk Term
walk_prod cert E inf c A B s =
    walk_on (walk_sort_of cert E inf c A s) (λ x v. walk_on (walk_sort_of cert E inf (Assumed A ∷ c) B v) (λ y w. pass (SortT (product_sort x y)) w))

-- 4. lambda
abbrev pub walk_lambda : Items → Env → Walking → Context → Term → Term → WalkState → Walk Term
walk_lambda cert E inf c A b s =
    walk_on (walk_sort_of cert E inf c A s) (λ _ v. walk_on (inf (Assumed A ∷ c) b v) (λ B w. by_rules (make (Prod A B)) w))

-- 5. let
abbrev pub walk_let : Items → Env → Walking → Script → Context → Term → Term → Term → WalkState → Walk Term
walk_let cert E inf cmp c b B t s =
    walk_on (walk_sort_of cert E inf c B s) (λ _ v.
    walk_on (walk_check cert E inf cmp c b B v) (λ _ w.
    walk_on (inf (Defined b B ∷ c) t w) (λ T x. by_rules (make (LetIn b B T)) x)))

-- 6. application
abbrev pub walk_app_found : Items → Env → Walking → Script → Context → Term → ℕ → ℕ → Term → WalkState → Walk Term
walk_app_found cert E inf cmp c a i n (Prod A B) s =
    walk_on (walk_retype cert E inf c n (Prod A B) s) (λ _ v.
    walk_on (walk_check cert E inf cmp c a A v) (λ _ w. by_rules (make (substitute (put a) B)) w))
walk_app_found cert E inf cmp c a i n other s = bar i s

abbrev pub walk_app : Items → Env → Walking → Script → Context → Term → Term → WalkState → Walk Term
walk_app cert E inf cmp c f a s =
    walk_on (inf c f s) (λ T v. walk_on (reduced cert E (values c) T v) (λ r w. walk_app_found cert E inf cmp c a r.item r.count r.term w))

-- 10. match

-- each term against its type at the terms before
unfoldable pub walk_check_all : Items → Env → Walking → Script → Context → (ℕ → Term) → List Term → List Term → WalkAct
walk_check_all cert E inf cmp c s (t ∷ ts) (A ∷ As) u =
    walk_on (by_rules (make (substitute s A)) u) (λ T v.
    walk_on (walk_check cert E inf cmp c t T v) (λ _ w. walk_check_all cert E inf cmp c (first t s) ts As w))
walk_check_all cert E inf cmp c s _ _ u = pass tt u

-- the sort of each entry of a telescope in turn
unfoldable pub walk_sorts_of : Items → Env → Walking → Context → List Term → WalkState → Walk (List Sort)
walk_sorts_of cert E inf c [] s = pass [] s
walk_sorts_of cert E inf c (A ∷ As) s =
    walk_on (walk_sort_of cert E inf c A s) (λ x v. walk_on (walk_sorts_of cert E inf (Assumed A ∷ c) As v) (λ xs w. pass (x ∷ xs) w))

-- what item i comes to is the family with all its arguments
abbrev pub walk_found_family : FamilyId → FamilyDecl → ℕ → Term → WalkAct
walk_found_family f F i W s =
    if is_the_family f (head W) && (length (args W) == length F.parameters + length F.indices) then pass tt s else bar i s

-- the scrutinee: gives the found indices
abbrev pub walk_scrutinee : Items → Env → Walking → Script → Context → FamilyId → FamilyDecl → List Term → Term → WalkState → Walk (List Term)
walk_scrutinee cert E inf cmp c f F ps t s =
    walk_on (inf c t s) (λ T v.
    walk_on (reduced cert E (values c) T v) (λ r w.
    walk_on (walk_found_family f F r.item r.term w) (λ _ x.
    walk_on (walk_retype cert E inf c r.count r.term x) (λ _ y.
    walk_on (by_rules (make (apply (Ind f) (ps ++ drop (length F.parameters) (args r.term)))) y) (λ S z.
    walk_on (walk_fits cert E inf cmp c r.term S z) (λ _ o. pass (drop (length F.parameters) (args r.term)) o))))))

abbrev pub walk_branch : Items → Env → Walking → Script → Context → FamilyId → ℕ → Constructor → List Term → Term → Term → WalkAct
walk_branch cert E inf cmp c f n C ps ret body s =
    walk_on (by_rules (passing (any_beyond (branch_entries C ps))) s) (λ _ v.
    walk_on (walk_sorts_of cert E inf c (branch_entries C ps) v) (λ _ w.
    walk_on (by_rules (passing (branch_beyond f n C ps ret)) w) (λ _ x.
    walk_check cert E inf cmp (extend c (branch_entries C ps)) body (branch_type f n C ps ret) x)))

unfoldable pub walk_branches : Items → Env → Walking → Script → Context → FamilyId → ℕ → List Constructor → List Term → Term → List Term → WalkAct
walk_branches cert E inf cmp c f n (C ∷ Cs) ps ret (body ∷ bs) s =
    walk_on (walk_branch cert E inf cmp c f n C ps ret body s) (λ _ v. walk_branches cert E inf cmp c f (suc n) Cs ps ret bs v)
walk_branches cert E inf cmp c f n _ ps ret _ s = pass tt s

-- the predicate: its entries have sorts, it has a sort under them, and the family may be eliminated into it
abbrev pub walk_predicate : Items → Env → Walking → Context → Option Block → FamilyId → FamilyDecl → List Term → Term → WalkAct
walk_predicate cert E inf c B f F ps ret s =
    walk_on (by_rules (passing (any_beyond (predicate_entries f F ps))) s) (λ _ v.
    walk_on (walk_sorts_of cert E inf c (predicate_entries f F ps) v) (λ _ w.
    walk_on (walk_sort_of cert E inf (extend c (predicate_entries f F ps)) ret w) (λ x y. by_rules (eliminated B f F x) y)))

abbrev pub walk_case : Items → Env → Walking → Script → Context → FamilyId → Terms → ℕ → Term → Term → Terms → WalkState → Walk Term
walk_case cert E inf cmp c f ps n ret t bs s =
    walk_on (by_rules (find_family f (whole_block (kept_at E.declarations f.block))) s) (λ F v.
    walk_on (by_rules (match_counted F ps n bs) v) (λ _ w.
    walk_on (walk_check_all cert E inf cmp c Rel (list_of ps) F.parameters w) (λ _ x.
    walk_on (walk_predicate cert E inf c (whole_block (kept_at E.declarations f.block)) f F (list_of ps) ret x) (λ _ y.
    walk_on (walk_scrutinee cert E inf cmp c f F (list_of ps) t y) (λ is z.
    walk_on (walk_branches cert E inf cmp c f 0 F.constructors (list_of ps) ret (list_of bs) z) (λ _ o. by_rules (make (predicate_at ret is t)) o))))))

-- 11. fixpoint

-- the sort of each definition's type, lifted, under the n definitions before it
unfoldable pub walk_types : Items → Env → Walking → Context → ℕ → List Term → WalkAct
walk_types cert E inf c n [] s = pass tt s
walk_types cert E inf c n (T ∷ Ts) s =
    walk_on (by_rules (make (shift n 0 T)) s) (λ S v.
    walk_on (walk_sort_of cert E inf c S v) (λ _ w. walk_types cert E inf (Assumed S ∷ c) (suc n) Ts w))

-- what item i comes to is a family applied to arguments
abbrev pub walk_family_found : ℕ → Term → WalkAct
walk_family_found i W s = if is_a_family (head W) then pass tt s else bar i s

-- definition d of n
abbrev pub walk_definition : Items → Env → Walking → Script → Context → ℕ → ℕ → ℕ → Term → Term → WalkAct
walk_definition cert E inf cmp c n d rarg T body s =
    walk_on (by_rules (enough_abstractions d (recursive_domain c rarg body)) s) (λ p v.
    walk_on (by_rules (make (shift n 0 T)) v) (λ S w.
    walk_on (walk_check cert E inf cmp c body S w) (λ _ x.
    walk_on (reduced cert E (values p.0) p.1 x) (λ r y. walk_family_found r.item r.term y))))

unfoldable pub walk_definitions : Items → Env → Walking → Script → Context → ℕ → ℕ → List ℕ → List Term → List Term → WalkAct
walk_definitions cert E inf cmp c n d (r ∷ rargs) (T ∷ Ts) (b ∷ bs) s =
    walk_on (walk_definition cert E inf cmp c n d r T b s) (λ _ v. walk_definitions cert E inf cmp c n (suc d) rargs Ts bs v)
walk_definitions cert E inf cmp c n d _ _ _ s = pass tt s

abbrev pub walk_fix : Items → Env → Walking → Script → Context → ℕ → List ℕ → Terms → Terms → WalkState → Walk Term
walk_fix cert E inf cmp c i rargs types bodies s =
    walk_on (walk_types cert E inf c 0 (list_of types) s) (λ _ v.
    walk_on (walk_definitions cert E inf cmp (definitions c 0 types) (length rargs) 0 rargs (list_of types) (list_of bodies) v) (λ _ w.
    walk_on (by_rules (fix_guard E (values c) rargs bodies) w) (λ _ x. by_rules (definition_type i (length rargs) (term_at types i)) x)))

-- the rule of a term's former; rules 1, 2, 7, 8 and 9 take no item
abbrev pub walk_rule : Items → Env → Walking → Script → Context → Term → WalkState → Walk Term
walk_rule cert E inf cmp c (Rel i) s = by_rules (rel_rule c i (type_at c i)) s
walk_rule cert E inf cmp c (SortT x) s = by_rules (sort_rule E x) s
walk_rule cert E inf cmp c (Prod A B) s = walk_prod cert E inf c A B s
walk_rule cert E inf cmp c (Lambda A b) s = walk_lambda cert E inf c A b s
walk_rule cert E inf cmp c (LetIn b B t) s = walk_let cert E inf cmp c b B t s
walk_rule cert E inf cmp c (App f a) s = walk_app cert E inf cmp c f a s
walk_rule cert E inf cmp c (Const k) s = by_rules (const_rule k (kept_at E.declarations k)) s
walk_rule cert E inf cmp c (Ind f) s = by_rules (ind_rule E f) s
walk_rule cert E inf cmp c (Construct f n) s = by_rules (construct_rule E f n) s
walk_rule cert E inf cmp c (Case f ps n ret t bs) s = walk_case cert E inf cmp c f ps n ret t bs s
walk_rule cert E inf cmp c (Fix i rargs types bodies) s = walk_fix cert E inf cmp c i rargs types bodies s

-- with a number of rules that may still stand in one another
unfoldable pub walk_infer : Items → Env → Test → ℕ → Walking
walk_infer cert E q zero c t s = walk_ticking s (λ v. crowded)
walk_infer cert E q (suc n) c t s = walk_ticking s (λ v. walk_rule cert E (walk_infer cert E q n) (script cert E q n) c t v)
