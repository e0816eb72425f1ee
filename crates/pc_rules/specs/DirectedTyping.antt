-- Inference of types, rules 1 to 12, with sort_of, check and retype. Each inference takes a unit and then counts as a nested rule.
use Rattle.std.specs.Prelude.{ℕ, zero, suc, ◌+◌, ◌^◌, ◌==◌, ◌&&◌, ◌||◌, Bool, true, false, nat_le, if◌then◌else◌, List, [], ◌∷◌, ◌++◌, length, drop, Option, Some, None, slice_get}
use Rattle.universe_levels.specs.declared.level.Level.{Level}
use Rattle.universe_levels.specs.declared.level.LevelExpr.{LevelExpr}
use Rattle.universe_levels.specs.declared.sort.Sort.{Sort}
use Rattle.universe_levels.specs.declared.sort.Sort.TheVariants.{Prop, Of}
use Rattle.universe_levels.specs.Sorts.{super_sort, product_sort}
use Rattle.pc_terms.specs.declared.leaf.Name.{Name}
use Rattle.pc_terms.specs.declared.leaf.FamilyId.{FamilyId}
use Rattle.pc_terms.specs.Syntax.{Term, Terms, Rel, SortT, Prod, Lambda, LetIn, App, Const, Ind, Construct, Case, Fix, first, put, substitute, shift, apply, head, args, number, term_at, list_of}
use Rattle.pc_terms.specs.Formed.{binders_of}
use Rattle.calculus_rules.specs.declared.declaration.Constructor.{Constructor}
use Rattle.calculus_rules.specs.declared.declaration.Block.{Block}
use Rattle.calculus_rules.specs.declared.declaration.Kept.{Kept}
use Rattle.calculus_rules.specs.declared.declaration.Kept.TheVariants.{Constant}
use Rattle.calculus_rules.specs.declared.entry.Entry.TheVariants.{Assumed, Defined}
use Rattle.pc_rules.specs.declared.broken.Broken.TheVariants.{UnboundRel, UnknownName, BadNumber, LevelUndeclared, NotASort, NotAProduct, CountWrong, NotTheFamily, ElimNotAllowed, NotEnoughAbstractions, RecArgNotInductive}
use Rattle.pc_rules.specs.declared.meter.Account.{Account}
use Rattle.calculus_rules.specs.Environment.{Env, FamilyDecl, family_at}
use Rattle.calculus_rules.specs.Context.{Context, values, type_at, extend}
use Rattle.calculus_rules.specs.Instances.{family_type, constructor_type, predicate_entries, branch_entries, predicate_at, result_at, built_at, branch_type, definitions}
use Rattle.calculus_rules.specs.Same.{same, same_families}
use Rattle.pc_rules.specs.DirectedRun.{Run, Act, done, refused, too_nested, passing, made, make, noted, bind, ticking, is_beyond, any_beyond}
use Rattle.calculus_rules.specs.Lookups.{kept_at, known_block, whole_block}
use Rattle.pc_rules.specs.DirectedWeakHead.{whnf}
use Rattle.pc_rules.specs.DirectedComparison.{Test, Comparison, compare}
use Rattle.pc_rules.specs.DirectedGuard.{fix_guard}

abbrev pub Typing : Type 0
Typing = Context → Term → Account → Run Term

-- the unit of a conversion, and the note of its use
unfoldable pub conv : Act
conv u = ticking u (λ v. done tt (noted 12 v))

abbrev pub sort_found : Typing → Context → Term → Term → Account → Run Sort
sort_found inf c T (SortT s) u = if same T (SortT s) then done s u else bind (conv u) (λ _ v. bind (inf c (SortT s) v) (λ _ w. done s w))
sort_found inf c T other u = refused (NotASort other) u

-- the sort of a term: its type's weak-head normal form
unfoldable pub sort_of : Env → Typing → Context → Term → Account → Run Sort
sort_of E inf c A u = bind (inf c A u) (λ T v. bind (whnf E (values c) T v) (λ W w. sort_found inf c T W w))

-- a term has a type: the one found, or one above it that has a sort
unfoldable pub check : Env → Typing → Comparison → Context → Term → Term → Act
check E inf cmp c t T u =
    bind (inf c t u) (λ S v. if same S T then done tt v
    else bind (conv v) (λ _ w. bind (sort_of E inf c T w) (λ _ x. cmp c false S T x)))

-- from a type to the weak-head normal form of it that is used in its place
unfoldable pub retype : Env → Typing → Context → Term → Term → Act
retype E inf c T W u = if same T W then done tt u else bind (conv u) (λ _ v. bind (sort_of E inf c W v) (λ _ w. done tt w))

-- 1. variable
abbrev pub rel_rule : Context → ℕ → Option Term → Account → Run Term
rel_rule c i None u = refused (UnboundRel i (length c)) u
rel_rule c i (Some T) u = make T u

-- 2. sort
abbrev pub first_undeclared : ℕ → List LevelExpr → Option Level
first_undeclared n [] = None
first_undeclared n (e ∷ es) = if nat_le e.level.0 n then first_undeclared n es else Some e.level

-- (no sort of a term in memory has an empty universe)
abbrev pub undeclared_in : ℕ → Sort → Option Level
undeclared_in n Prop = None
undeclared_in n (Of []) = Some (record { 0 = 0 })
undeclared_in n (Of (e ∷ es)) = first_undeclared n (e ∷ es)

-- an addition would pass 4,294,967,295
abbrev pub passes_limit : List LevelExpr → Bool
passes_limit [] = false
passes_limit (e ∷ es) = nat_le (2 ^ 32) (e.add + 1) || passes_limit es

abbrev pub raises_past : Sort → Bool
raises_past Prop = false
raises_past (Of u) = passes_limit u

abbrev pub levels_declared : Option Level → Act
levels_declared None u = done tt u
levels_declared (Some l) u = refused (LevelUndeclared l) u

abbrev pub sort_rule : Env → Sort → Account → Run Term
sort_rule E s u = bind (levels_declared (undeclared_in E.levels s) u) (λ _ v. made (raises_past s) (SortT (super_sort s)) v)

-- 3. product
abbrev pub prod_rule : Env → Typing → Context → Term → Term → Account → Run Term
prod_rule E inf c A B u =
    bind (sort_of E inf c A u) (λ s v. bind (sort_of E inf (Assumed A ∷ c) B v) (λ r w. done (SortT (product_sort s r)) w))

-- 4. lambda
abbrev pub lambda_rule : Env → Typing → Context → Term → Term → Account → Run Term
lambda_rule E inf c A b u =
    bind (sort_of E inf c A u) (λ _ v. bind (inf (Assumed A ∷ c) b v) (λ B w. make (Prod A B) w))

-- 5. let
abbrev pub let_rule : Env → Typing → Comparison → Context → Term → Term → Term → Account → Run Term
let_rule E inf cmp c b B t u =
    bind (sort_of E inf c B u) (λ _ v. bind (check E inf cmp c b B v) (λ _ w. bind (inf (Defined b B ∷ c) t w) (λ T x. make (LetIn b B T) x)))

-- 6. application
abbrev pub app_found : Env → Typing → Comparison → Context → Term → Term → Term → Account → Run Term
app_found E inf cmp c a T (Prod A B) u =
    bind (retype E inf c T (Prod A B) u) (λ _ v. bind (check E inf cmp c a A v) (λ _ w. make (substitute (put a) B) w))
app_found E inf cmp c a T other u = refused (NotAProduct other) u

abbrev pub app_rule : Env → Typing → Comparison → Context → Term → Term → Account → Run Term
app_rule E inf cmp c f a u =
    bind (inf c f u) (λ T v. bind (whnf E (values c) T v) (λ W w. app_found E inf cmp c a T W w))

-- 7. constant
abbrev pub const_rule : Name → Option Kept → Account → Run Term
const_rule k (Some (Constant l T b)) u = done T u
const_rule k _ u = refused (UnknownName k) u

-- 8. family
abbrev pub family_number : Block → FamilyId → Option FamilyDecl → Account → Run FamilyDecl
family_number B f None u = refused (BadNumber f.family (length B.families)) u
family_number B f (Some F) u = done F u

abbrev pub find_family : FamilyId → Option Block → Account → Run FamilyDecl
find_family f None u = refused (UnknownName f.block) u
find_family f (Some B) u = family_number B f (family_at B f.family) u

abbrev pub ind_rule : Env → FamilyId → Account → Run Term
ind_rule E f u = bind (find_family f (known_block (kept_at E.declarations f.block)) u) (λ F v. make (family_type F) v)

-- 9. constructor
abbrev pub constructor_number : FamilyDecl → ℕ → Option Constructor → Account → Run Constructor
constructor_number F n None u = refused (BadNumber n (length F.constructors)) u
constructor_number F n (Some C) u = done C u

abbrev pub construct_rule : Env → FamilyId → ℕ → Account → Run Term
construct_rule E f n u =
    bind (find_family f (whole_block (kept_at E.declarations f.block)) u) (λ F v.
    bind (constructor_number F n (slice_get F.constructors n) v) (λ C w. make (constructor_type f F C) w))

-- 10. match
abbrev pub counted : ℕ → ℕ → Act
counted want got u = if want == got then done tt u else refused (CountWrong want got) u

abbrev pub names_counted : List Constructor → List ℕ → Act
names_counted (C ∷ Cs) (n ∷ ns) u = bind (counted (length C.args) n u) (λ _ v. names_counted Cs ns v)
names_counted _ _ u = done tt u

abbrev pub match_counted : FamilyDecl → Terms → ℕ → Terms → Act
match_counted F ps n bs u =
    bind (counted (length F.parameters) (number ps) u) (λ _ v.
    bind (counted (length F.indices + 1) n v) (λ _ w.
    bind (counted (length F.constructors) (number bs) w) (λ _ x. names_counted F.constructors (binders_of bs) x)))

-- each term against its type at the terms before
unfoldable pub check_all : Env → Typing → Comparison → Context → (ℕ → Term) → List Term → List Term → Act
check_all E inf cmp c s (t ∷ ts) (A ∷ As) u =
    bind (make (substitute s A) u) (λ T v. bind (check E inf cmp c t T v) (λ _ w. check_all E inf cmp c (first t s) ts As w))
check_all E inf cmp c s _ _ u = done tt u

-- the sort of each entry of a telescope in turn
unfoldable pub sorts_of : Env → Typing → Context → List Term → Account → Run (List Sort)
sorts_of E inf c [] u = done [] u
sorts_of E inf c (A ∷ As) u = bind (sort_of E inf c A u) (λ s v. bind (sorts_of E inf (Assumed A ∷ c) As v) (λ ss w. done (s ∷ ss) w))

abbrev pub all_prop : List Sort → Bool
all_prop [] = true
all_prop (Prop ∷ ss) = all_prop ss
all_prop (Of u ∷ ss) = false

-- no constructor, or one whose argument sorts are all Prop
abbrev pub few_constructors : List Constructor → Bool
few_constructors [] = true
few_constructors (C ∷ []) = all_prop C.arg_sorts
few_constructors (C ∷ D ∷ Cs) = false

abbrev pub is_single : Option Block → FamilyDecl → Bool
is_single None F = false
is_single (Some B) F = (length B.families == 1) && few_constructors F.constructors

abbrev pub may_eliminate : Option Block → FamilyDecl → Sort → Sort → Bool
may_eliminate B F (Of u) s = true
may_eliminate B F Prop Prop = true
may_eliminate B F Prop (Of w) = is_single B F

abbrev pub eliminated : Option Block → FamilyId → FamilyDecl → Sort → Act
eliminated B f F s u = if may_eliminate B F F.sort s then done tt u else refused (ElimNotAllowed f) u

-- a term is the family with all its arguments
abbrev pub is_the_family : FamilyId → Term → Bool
is_the_family f (Ind g) = same_families f g
is_the_family f _ = false

abbrev pub found_family : FamilyId → FamilyDecl → Term → Act
found_family f F W u =
    if is_the_family f (head W) && (length (args W) == length F.parameters + length F.indices) then done tt u else refused (NotTheFamily W) u

-- the found type is below the family at the written parameters and the found indices
abbrev pub scrutinee_fits : Env → Typing → Comparison → Context → Term → Term → Act
scrutinee_fits E inf cmp c W T u =
    if same T W then done tt u else bind (conv u) (λ _ v. bind (sort_of E inf c T v) (λ _ w. cmp c false W T w))

-- the scrutinee: gives the found indices
abbrev pub scrutinee_rule : Env → Typing → Comparison → Context → FamilyId → FamilyDecl → List Term → Term → Account → Run (List Term)
scrutinee_rule E inf cmp c f F ps t u =
    bind (inf c t u) (λ T v.
    bind (whnf E (values c) T v) (λ W w.
    bind (found_family f F W w) (λ _ x.
    bind (retype E inf c T W x) (λ _ y.
    bind (make (apply (Ind f) (ps ++ drop (length F.parameters) (args W))) y) (λ S z.
    bind (scrutinee_fits E inf cmp c W S z) (λ _ r. done (drop (length F.parameters) (args W)) r))))))

-- terms are made in forming the type of a branch
abbrev pub branch_beyond : FamilyId → ℕ → Constructor → List Term → Term → Bool
branch_beyond f n C ps ret = any_beyond (result_at C ps) || (is_beyond (built_at f n C ps) || is_beyond (branch_type f n C ps ret))

abbrev pub branch_rule : Env → Typing → Comparison → Context → FamilyId → ℕ → Constructor → List Term → Term → Term → Act
branch_rule E inf cmp c f n C ps ret body u =
    bind (passing (any_beyond (branch_entries C ps)) u) (λ _ v.
    bind (sorts_of E inf c (branch_entries C ps) v) (λ _ w.
    bind (passing (branch_beyond f n C ps ret) w) (λ _ x.
    check E inf cmp (extend c (branch_entries C ps)) body (branch_type f n C ps ret) x)))

unfoldable pub branches_rule : Env → Typing → Comparison → Context → FamilyId → ℕ → List Constructor → List Term → Term → List Term → Act
branches_rule E inf cmp c f n (C ∷ Cs) ps ret (body ∷ bs) u =
    bind (branch_rule E inf cmp c f n C ps ret body u) (λ _ v. branches_rule E inf cmp c f (suc n) Cs ps ret bs v)
branches_rule E inf cmp c f n _ ps ret _ u = done tt u

-- the predicate: its entries have sorts, it has a sort under them, and the family may be eliminated into it
abbrev pub predicate_rule : Env → Typing → Context → Option Block → FamilyId → FamilyDecl → List Term → Term → Act
predicate_rule E inf c B f F ps ret u =
    bind (passing (any_beyond (predicate_entries f F ps)) u) (λ _ v.
    bind (sorts_of E inf c (predicate_entries f F ps) v) (λ _ w.
    bind (sort_of E inf (extend c (predicate_entries f F ps)) ret w) (λ s x. eliminated B f F s x)))

abbrev pub case_rule : Env → Typing → Comparison → Context → FamilyId → Terms → ℕ → Term → Term → Terms → Account → Run Term
case_rule E inf cmp c f ps n ret t bs u =
    bind (find_family f (whole_block (kept_at E.declarations f.block)) u) (λ F v.
    bind (match_counted F ps n bs v) (λ _ w.
    bind (check_all E inf cmp c Rel (list_of ps) F.parameters w) (λ _ x.
    bind (predicate_rule E inf c (whole_block (kept_at E.declarations f.block)) f F (list_of ps) ret x) (λ _ y.
    bind (scrutinee_rule E inf cmp c f F (list_of ps) t y) (λ is z.
    bind (branches_rule E inf cmp c f 0 F.constructors (list_of ps) ret (list_of bs) z) (λ _ r. make (predicate_at ret is t) r))))))

-- 11. fixpoint
-- the sort of each definition's type, lifted, under the n definitions before it
unfoldable pub types_rule : Env → Typing → Context → ℕ → List Term → Act
types_rule E inf c n [] u = done tt u
types_rule E inf c n (T ∷ Ts) u =
    bind (make (shift n 0 T) u) (λ S v. bind (sort_of E inf c S v) (λ _ w. types_rule E inf (Assumed S ∷ c) (suc n) Ts w))

-- the domain of lambda number rarg, with the context that it stands in
abbrev pub recursive_domain : Context → ℕ → Term → Option (Context × Term)
recursive_domain c zero (Lambda A b) = Some (c, A)
recursive_domain c (suc r) (Lambda A b) = recursive_domain (Assumed A ∷ c) r b
recursive_domain c r t = None

abbrev pub enough_abstractions : ℕ → Option (Context × Term) → Account → Run (Context × Term)
enough_abstractions d None u = refused (NotEnoughAbstractions d) u
enough_abstractions d (Some p) u = done p u

abbrev pub is_a_family : Term → Bool
is_a_family (Ind g) = true
is_a_family _ = false

abbrev pub family_found : Term → Act
family_found W u = if is_a_family (head W) then done tt u else refused (RecArgNotInductive W) u

-- definition d of n
abbrev pub definition_rule : Env → Typing → Comparison → Context → ℕ → ℕ → ℕ → Term → Term → Act
definition_rule E inf cmp c n d rarg T body u =
    bind (enough_abstractions d (recursive_domain c rarg body) u) (λ p v.
    bind (make (shift n 0 T) v) (λ S w.
    bind (check E inf cmp c body S w) (λ _ x.
    bind (whnf E (values p.0) p.1 x) (λ W y. family_found W y))))

unfoldable pub definitions_rule : Env → Typing → Comparison → Context → ℕ → ℕ → List ℕ → List Term → List Term → Act
definitions_rule E inf cmp c n d (r ∷ rargs) (T ∷ Ts) (b ∷ bs) u =
    bind (definition_rule E inf cmp c n d r T b u) (λ _ v. definitions_rule E inf cmp c n (suc d) rargs Ts bs v)
definitions_rule E inf cmp c n d _ _ _ u = done tt u

abbrev pub definition_type : ℕ → ℕ → Option (ℕ × Term) → Account → Run Term
definition_type i n None u = refused (BadNumber i n) u
definition_type i n (Some p) u = done p.1 u

abbrev pub fix_rule : Env → Typing → Comparison → Context → ℕ → List ℕ → Terms → Terms → Account → Run Term
fix_rule E inf cmp c i rargs types bodies u =
    bind (types_rule E inf c 0 (list_of types) u) (λ _ v.
    bind (definitions_rule E inf cmp (definitions c 0 types) (length rargs) 0 rargs (list_of types) (list_of bodies) v) (λ _ w.
    bind (fix_guard E (values c) rargs bodies w) (λ _ x. definition_type i (length rargs) (term_at types i) x)))

abbrev pub rule : Env → Typing → Comparison → Context → Term → Account → Run Term
rule E inf cmp c (Rel i) u = rel_rule c i (type_at c i) u
rule E inf cmp c (SortT s) u = sort_rule E s u
rule E inf cmp c (Prod A B) u = prod_rule E inf c A B u
rule E inf cmp c (Lambda A b) u = lambda_rule E inf c A b u
rule E inf cmp c (LetIn b B t) u = let_rule E inf cmp c b B t u
rule E inf cmp c (App f a) u = app_rule E inf cmp c f a u
rule E inf cmp c (Const k) u = const_rule k (kept_at E.declarations k) u
rule E inf cmp c (Ind f) u = ind_rule E f u
rule E inf cmp c (Construct f n) u = construct_rule E f n u
rule E inf cmp c (Case f ps n ret t bs) u = case_rule E inf cmp c f ps n ret t bs u
rule E inf cmp c (Fix i rargs types bodies) u = fix_rule E inf cmp c i rargs types bodies u

abbrev pub rule_number : Term → ℕ
rule_number (Rel i) = 1
rule_number (SortT s) = 2
rule_number (Prod A B) = 3
rule_number (Lambda A b) = 4
rule_number (LetIn b B t) = 5
rule_number (App f a) = 6
rule_number (Const k) = 7
rule_number (Ind f) = 8
rule_number (Construct f n) = 9
rule_number (Case f ps n ret t bs) = 10
rule_number (Fix i rargs types bodies) = 11

-- with a number of rules that may still stand in one another
unfoldable pub infer : Env → Test → ℕ → Typing
infer E q zero c t u = ticking u (λ v. too_nested)
infer E q (suc n) c t u = ticking u (λ v. rule E (infer E q n) (compare E q n) c t (noted (rule_number t) v))
