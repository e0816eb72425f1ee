-- Directed comparison and inference that also write the items of a certificate. They are the directed rules, one for one; the items say which
-- steps and comparisons were made, in the order in which the certified walk takes them. A number of steps is the units that the reduction
-- took; sides without a step are left out. Two spines are written as one item for the parts of each application, and what their heads need.
use Rattle.std.specs.Prelude.{ℕ, zero, suc, ◌==◌, ◌&&◌, Bool, true, false, if◌then◌else◌, List, [], ◌∷◌, ◌++◌, length, drop, Option, Some, None}
use Rattle.universe_levels.specs.declared.sort.Sort.{Sort}
use Rattle.universe_levels.specs.Sorts.{product_sort}
use Rattle.pc_terms.specs.declared.leaf.FamilyId.{FamilyId}
use Rattle.pc_terms.specs.Syntax.{Term, Terms, Rel, SortT, Const, Case, first, put, substitute, shift, apply, head, args, term_at, Prod, Lambda, LetIn, App, Ind, Construct, Fix, list_of}
use Rattle.calculus_rules.specs.declared.declaration.Constructor.{Constructor}
use Rattle.calculus_rules.specs.declared.declaration.Block.{Block}
use Rattle.calculus_rules.specs.declared.entry.Entry.TheVariants.{Assumed, Defined}
use Rattle.pc_rules.specs.declared.broken.Broken.TheVariants.{UnknownName, NotASort, NotAProduct, NotBelow}
use Rattle.pc_rules.specs.declared.broken.Clash.TheVariants.{Terms as ClashOfTerms, Sorts as ClashOfSorts}
use Rattle.pc_rules.specs.declared.meter.Account.{Account}
use Rattle.calculus_rules.specs.Environment.{Env, FamilyDecl}
use Rattle.calculus_rules.specs.Context.{Context, Values, values, type_at, extend}
use Rattle.calculus_rules.specs.Instances.{predicate_entries, branch_entries, predicate_at, branch_type, definitions}
use Rattle.calculus_rules.specs.Same.{same}
use Rattle.pc_rules.specs.DirectedRun.{Run, done, refused, too_nested, passing, make, noted, ticking, any_beyond}
use Rattle.pc_rules.specs.DirectedWeakHead.{whnf}
use Rattle.calculus_rules.specs.Lookups.{kept_at, whole_block, family_of}
use Rattle.pc_rules.specs.DirectedComparison.{Test, sorts_stand, alike, lifted_types}
use Rattle.pc_rules.specs.DirectedGuard.{fix_guard}
use Rattle.pc_rules.specs.DirectedTyping.{conv, rel_rule, sort_rule, const_rule, find_family, ind_rule, construct_rule, match_counted, eliminated, found_family, branch_beyond, recursive_domain, enough_abstractions, family_found, definition_type, rule_number}
use Rattle.cert_rules.specs.declared.item.CertItem.{CertItem}
use Rattle.cert_rules.specs.declared.item.CertItem.TheVariants.{Number, Same, Conv, Left, Right, Parts}
use Rattle.cert_rules.specs.Walk.{Items}
use Rattle.cert_rules.specs.Writing.{Wrote, WriteAct, writing_steps, writing, silent, noting, noting_all, write_on, write_all}

-- comparison

abbrev pub MakeComparison : Type 0
MakeComparison = Context → Bool → Term → Term → WriteAct

-- so many steps of a side, where there are any
abbrev pub side : (ℕ → CertItem) → ℕ → Items
side item zero = []
side item (suc n) = item (suc n) ∷ []

abbrev pub make_side : (ℕ → CertItem) → Env → Values → Term → Account → Run (Wrote Term)
make_side item E V a u = writing_steps u (side item) (whnf E V a u)

abbrev pub make_each : MakeComparison → Context → List Term → List Term → List WriteAct
make_each cmp c (t ∷ ts) (u ∷ us) = cmp c true t u ∷ make_each cmp c ts us
make_each cmp c _ _ = []

abbrev pub make_entering : Context → List Term → (Context → WriteAct) → WriteAct
make_entering c As go u = write_on (silent (passing (any_beyond As)) u) (λ _ v. go (extend c As) v)

abbrev pub make_branches_equal : MakeComparison → Context → List Term → List Constructor → List Term → List Term → List WriteAct
make_branches_equal cmp c ps (C ∷ Cs) (b ∷ bs) (b' ∷ bs') =
    make_entering c (branch_entries C ps) (λ d. cmp d true b b') ∷ make_branches_equal cmp c ps Cs bs bs'
make_branches_equal cmp c ps _ _ _ = []

abbrev pub make_matches_equal : MakeComparison → Context → FamilyId → Option FamilyDecl → Terms → Term → Term → Terms → Terms → Term → Term → Terms → WriteAct
make_matches_equal cmp c f None ps ret s bs qs ret' s' bs' u = silent (refused (UnknownName f.block)) u
make_matches_equal cmp c f (Some F) ps ret s bs qs ret' s' bs' u =
    write_on (write_all (make_each cmp c (list_of ps) (list_of qs)) u) (λ _ v.
    write_on (make_entering c (predicate_entries f F (list_of ps)) (λ d. cmp d true ret ret') v) (λ _ w.
    write_on (cmp c true s s' w) (λ _ x.
    write_all (make_branches_equal cmp c (list_of ps) F.constructors (list_of bs) (list_of bs')) x)))

abbrev pub make_fixpoints_equal : MakeComparison → Context → Terms → Terms → Terms → Terms → WriteAct
make_fixpoints_equal cmp c types bodies types' bodies' u =
    write_on (write_all (make_each cmp c (list_of types) (list_of types')) u) (λ _ v.
    make_entering c (lifted_types 0 (list_of types)) (λ d. write_all (make_each cmp d (list_of bodies) (list_of bodies'))) v)

-- the head of a spine: its parts, or that it is the same
abbrev pub make_heads_equal : Env → MakeComparison → Context → Term → Term → WriteAct
make_heads_equal E cmp c (Case f ps n ret s bs) (Case g qs m ret' s' bs') u =
    write_on (noting Parts u) (λ _ v. make_matches_equal cmp c f (family_of E f) ps ret s bs qs ret' s' bs' v)
make_heads_equal E cmp c (Fix i rargs types bodies) (Fix j rargs' types' bodies') u =
    write_on (noting Parts u) (λ _ v. make_fixpoints_equal cmp c types bodies types' bodies' v)
make_heads_equal E cmp c _ _ u = noting Same u

-- one item for the parts of each application
abbrev pub part_items : List Term → Items
part_items [] = []
part_items (x ∷ xs) = Parts ∷ part_items xs

abbrev pub make_spines_equal : Env → MakeComparison → Context → Term → Term → WriteAct
make_spines_equal E cmp c a b u =
    if (length (args a) == length (args b)) && alike (head a) (head b)
    then write_on (noting_all (part_items (args a)) u) (λ _ v.
    write_on (make_heads_equal E cmp c (head a) (head b) v) (λ _ w. write_all (make_each cmp c (args a) (args b)) w))
    else silent (refused (NotBelow (ClashOfTerms a b))) u

-- two terms in weak-head normal form
abbrev pub make_pair : Env → Test → MakeComparison → Context → Bool → Term → Term → WriteAct
make_pair E q cmp c equal (SortT s) (SortT s') u = if sorts_stand q equal s s' then noting Same u else silent (refused (NotBelow (ClashOfSorts s s'))) u
make_pair E q cmp c equal (Prod A B) (Prod A' B') u =
    write_on (noting Parts u) (λ _ v. write_on (cmp c true A A' v) (λ _ w. cmp (Assumed A ∷ c) equal B B' w))
make_pair E q cmp c equal (Lambda A b) (Lambda A' b') u =
    write_on (noting Parts u) (λ _ v. write_on (cmp c true A A' v) (λ _ w. cmp (Assumed A ∷ c) true b b' w))
make_pair E q cmp c equal a b u = make_spines_equal E cmp c a b u

abbrev pub make_entered : Env → Test → MakeComparison → MakeComparison
make_entered E q cmp c equal a b u =
    if same a b then noting Same u
    else write_on (make_side Left E (values c) a u) (λ x v. write_on (make_side Right E (values c) b v) (λ y w. make_pair E q cmp c equal x y w))

unfoldable pub make_compare : Env → Test → ℕ → MakeComparison
make_compare E q zero c equal a b u = ticking u (λ v. too_nested)
make_compare E q (suc n) c equal a b u = ticking u (λ v. make_entered E q (make_compare E q n) c equal a b v)

-- inference

abbrev pub MakeTyping : Type 0
MakeTyping = Context → Term → Account → Run (Wrote Term)

-- the weak-head normal form, with the number of its steps
abbrev pub make_whnf : Env → Values → Term → Account → Run (Wrote Term)
make_whnf E V T u = writing_steps u (λ n. Number n ∷ []) (whnf E V T u)

abbrev pub make_sort_found : MakeTyping → Context → Term → Term → Account → Run (Wrote Sort)
make_sort_found inf c T (SortT s) u =
    if same T (SortT s) then silent (done s) u else write_on (silent conv u) (λ _ v. write_on (inf c (SortT s) v) (λ _ w. silent (done s) w))
make_sort_found inf c T other u = silent (refused (NotASort other)) u

unfoldable pub make_sort_of : Env → MakeTyping → Context → Term → Account → Run (Wrote Sort)
make_sort_of E inf c A u =
    write_on (inf c A u) (λ T v. write_on (make_whnf E (values c) T v) (λ W w. make_sort_found inf c T W w))

-- a type is the one that is asked for, by the test, or below it
abbrev pub make_fits : Env → MakeTyping → MakeComparison → Context → Bool → Term → Term → WriteAct
make_fits E inf cmp c b S T u =
    if b then noting Same u
    else write_on (writing (Conv ∷ []) u (conv u)) (λ _ v. write_on (make_sort_of E inf c T v) (λ _ w. cmp c false S T w))

unfoldable pub make_check : Env → MakeTyping → MakeComparison → Context → Term → Term → WriteAct
make_check E inf cmp c t T u = write_on (inf c t u) (λ S v. make_fits E inf cmp c (same S T) S T v)

unfoldable pub make_retype : Env → MakeTyping → Context → Term → Term → WriteAct
make_retype E inf c T W u =
    if same T W then silent (done tt) u else write_on (silent conv u) (λ _ v. write_on (make_sort_of E inf c W v) (λ _ w. silent (done tt) w))

abbrev pub make_prod : Env → MakeTyping → Context → Term → Term → Account → Run (Wrote Term)
make_prod E inf c A B u =
    write_on (make_sort_of E inf c A u) (λ s v. write_on (make_sort_of E inf (Assumed A ∷ c) B v) (λ r w. silent (done (SortT (product_sort s r))) w))

abbrev pub make_lambda : Env → MakeTyping → Context → Term → Term → Account → Run (Wrote Term)
make_lambda E inf c A b u =
    write_on (make_sort_of E inf c A u) (λ _ v. write_on (inf (Assumed A ∷ c) b v) (λ B w. silent (make (Prod A B)) w))

abbrev pub make_let : Env → MakeTyping → MakeComparison → Context → Term → Term → Term → Account → Run (Wrote Term)
make_let E inf cmp c b B t u =
    write_on (make_sort_of E inf c B u) (λ _ v.
    write_on (make_check E inf cmp c b B v) (λ _ w.
    write_on (inf (Defined b B ∷ c) t w) (λ T x. silent (make (LetIn b B T)) x)))

abbrev pub make_app_found : Env → MakeTyping → MakeComparison → Context → Term → Term → Term → Account → Run (Wrote Term)
make_app_found E inf cmp c a T (Prod A B) u =
    write_on (make_retype E inf c T (Prod A B) u) (λ _ v. write_on (make_check E inf cmp c a A v) (λ _ w. silent (make (substitute (put a) B)) w))
make_app_found E inf cmp c a T other u = silent (refused (NotAProduct other)) u

abbrev pub make_app : Env → MakeTyping → MakeComparison → Context → Term → Term → Account → Run (Wrote Term)
make_app E inf cmp c f a u =
    write_on (inf c f u) (λ T v. write_on (make_whnf E (values c) T v) (λ W w. make_app_found E inf cmp c a T W w))

unfoldable pub make_check_all : Env → MakeTyping → MakeComparison → Context → (ℕ → Term) → List Term → List Term → WriteAct
make_check_all E inf cmp c s (t ∷ ts) (A ∷ As) u =
    write_on (silent (make (substitute s A)) u) (λ T v.
    write_on (make_check E inf cmp c t T v) (λ _ w. make_check_all E inf cmp c (first t s) ts As w))
make_check_all E inf cmp c s _ _ u = silent (done tt) u

unfoldable pub make_sorts_of : Env → MakeTyping → Context → List Term → Account → Run (Wrote (List Sort))
make_sorts_of E inf c [] u = silent (done []) u
make_sorts_of E inf c (A ∷ As) u =
    write_on (make_sort_of E inf c A u) (λ s v. write_on (make_sorts_of E inf (Assumed A ∷ c) As v) (λ ss w. silent (done (s ∷ ss)) w))

abbrev pub make_scrutinee : Env → MakeTyping → MakeComparison → Context → FamilyId → FamilyDecl → List Term → Term → Account → Run (Wrote (List Term))
make_scrutinee E inf cmp c f F ps t u =
    write_on (inf c t u) (λ T v.
    write_on (make_whnf E (values c) T v) (λ W w.
    write_on (silent (found_family f F W) w) (λ _ x.
    write_on (make_retype E inf c T W x) (λ _ y.
    write_on (silent (make (apply (Ind f) (ps ++ drop (length F.parameters) (args W)))) y) (λ S z.
    write_on (make_fits E inf cmp c (same S W) W S z) (λ _ r. silent (done (drop (length F.parameters) (args W))) r))))))

abbrev pub make_branch : Env → MakeTyping → MakeComparison → Context → FamilyId → ℕ → Constructor → List Term → Term → Term → WriteAct
make_branch E inf cmp c f n C ps ret body u =
    write_on (silent (passing (any_beyond (branch_entries C ps))) u) (λ _ v.
    write_on (make_sorts_of E inf c (branch_entries C ps) v) (λ _ w.
    write_on (silent (passing (branch_beyond f n C ps ret)) w) (λ _ x.
    make_check E inf cmp (extend c (branch_entries C ps)) body (branch_type f n C ps ret) x)))

unfoldable pub make_branches : Env → MakeTyping → MakeComparison → Context → FamilyId → ℕ → List Constructor → List Term → Term → List Term → WriteAct
make_branches E inf cmp c f n (C ∷ Cs) ps ret (body ∷ bs) u =
    write_on (make_branch E inf cmp c f n C ps ret body u) (λ _ v. make_branches E inf cmp c f (suc n) Cs ps ret bs v)
make_branches E inf cmp c f n _ ps ret _ u = silent (done tt) u

abbrev pub make_predicate : Env → MakeTyping → Context → Option Block → FamilyId → FamilyDecl → List Term → Term → WriteAct
make_predicate E inf c B f F ps ret u =
    write_on (silent (passing (any_beyond (predicate_entries f F ps))) u) (λ _ v.
    write_on (make_sorts_of E inf c (predicate_entries f F ps) v) (λ _ w.
    write_on (make_sort_of E inf (extend c (predicate_entries f F ps)) ret w) (λ s x. silent (eliminated B f F s) x)))

abbrev pub make_case : Env → MakeTyping → MakeComparison → Context → FamilyId → Terms → ℕ → Term → Term → Terms → Account → Run (Wrote Term)
make_case E inf cmp c f ps n ret t bs u =
    write_on (silent (find_family f (whole_block (kept_at E.declarations f.block))) u) (λ F v.
    write_on (silent (match_counted F ps n bs) v) (λ _ w.
    write_on (make_check_all E inf cmp c Rel (list_of ps) F.parameters w) (λ _ x.
    write_on (make_predicate E inf c (whole_block (kept_at E.declarations f.block)) f F (list_of ps) ret x) (λ _ y.
    write_on (make_scrutinee E inf cmp c f F (list_of ps) t y) (λ is z.
    write_on (make_branches E inf cmp c f 0 F.constructors (list_of ps) ret (list_of bs) z) (λ _ r. silent (make (predicate_at ret is t)) r))))))

unfoldable pub make_types : Env → MakeTyping → Context → ℕ → List Term → WriteAct
make_types E inf c n [] u = silent (done tt) u
make_types E inf c n (T ∷ Ts) u =
    write_on (silent (make (shift n 0 T)) u) (λ S v.
    write_on (make_sort_of E inf c S v) (λ _ w. make_types E inf (Assumed S ∷ c) (suc n) Ts w))

abbrev pub make_definition : Env → MakeTyping → MakeComparison → Context → ℕ → ℕ → ℕ → Term → Term → WriteAct
make_definition E inf cmp c n d rarg T body u =
    write_on (silent (enough_abstractions d (recursive_domain c rarg body)) u) (λ p v.
    write_on (silent (make (shift n 0 T)) v) (λ S w.
    write_on (make_check E inf cmp c body S w) (λ _ x.
    write_on (make_whnf E (values p.0) p.1 x) (λ W y. silent (family_found W) y))))

unfoldable pub make_definitions : Env → MakeTyping → MakeComparison → Context → ℕ → ℕ → List ℕ → List Term → List Term → WriteAct
make_definitions E inf cmp c n d (r ∷ rargs) (T ∷ Ts) (b ∷ bs) u =
    write_on (make_definition E inf cmp c n d r T b u) (λ _ v. make_definitions E inf cmp c n (suc d) rargs Ts bs v)
make_definitions E inf cmp c n d _ _ _ u = silent (done tt) u

abbrev pub make_fix : Env → MakeTyping → MakeComparison → Context → ℕ → List ℕ → Terms → Terms → Account → Run (Wrote Term)
make_fix E inf cmp c i rargs types bodies u =
    write_on (make_types E inf c 0 (list_of types) u) (λ _ v.
    write_on (make_definitions E inf cmp (definitions c 0 types) (length rargs) 0 rargs (list_of types) (list_of bodies) v) (λ _ w.
    write_on (silent (fix_guard E (values c) rargs bodies) w) (λ _ x. silent (definition_type i (length rargs) (term_at types i)) x)))

abbrev pub make_rule : Env → MakeTyping → MakeComparison → Context → Term → Account → Run (Wrote Term)
make_rule E inf cmp c (Rel i) u = silent (rel_rule c i (type_at c i)) u
make_rule E inf cmp c (SortT s) u = silent (sort_rule E s) u
make_rule E inf cmp c (Prod A B) u = make_prod E inf c A B u
make_rule E inf cmp c (Lambda A b) u = make_lambda E inf c A b u
make_rule E inf cmp c (LetIn b B t) u = make_let E inf cmp c b B t u
make_rule E inf cmp c (App f a) u = make_app E inf cmp c f a u
make_rule E inf cmp c (Const k) u = silent (const_rule k (kept_at E.declarations k)) u
make_rule E inf cmp c (Ind f) u = silent (ind_rule E f) u
make_rule E inf cmp c (Construct f n) u = silent (construct_rule E f n) u
make_rule E inf cmp c (Case f ps n ret t bs) u = make_case E inf cmp c f ps n ret t bs u
make_rule E inf cmp c (Fix i rargs types bodies) u = make_fix E inf cmp c i rargs types bodies u

unfoldable pub make_infer : Env → Test → ℕ → MakeTyping
make_infer E q zero c t u = ticking u (λ v. too_nested)
make_infer E q (suc n) c t u = ticking u (λ v. make_rule E (make_infer E q n) (make_compare E q n) c t (noted (rule_number t) v))
