-- What inference takes depends on no account.
use Rattle.std.proofs.Common.{◌≤◌, arith, ℕ, zero, suc, ◌+◌, ◌==◌, ◌&&◌, Bool, false, List, [], ◌∷◌, ◌++◌, length, drop, Option, Some, None, slice_get}
use Rattle.universe_levels.specs.declared.level.Level.{Level}
use Rattle.universe_levels.specs.declared.sort.Sort.{Sort}
use Rattle.universe_levels.specs.Sorts.{super_sort, product_sort}
use Rattle.pc_terms.specs.declared.leaf.Name.{Name}
use Rattle.pc_terms.specs.declared.leaf.FamilyId.{FamilyId}
use Rattle.pc_terms.specs.Syntax.{Term, Terms, Rel, SortT, Prod, Lambda, LetIn, App, Const, Ind, Construct, Case, Fix, first, put, substitute, shift, apply, head, args, number, term_at, list_of}
use Rattle.pc_terms.specs.Formed.{binders_of}
use Rattle.calculus_rules.specs.declared.declaration.Constructor.{Constructor}
use Rattle.calculus_rules.specs.declared.declaration.Block.{Block}
use Rattle.calculus_rules.specs.declared.declaration.Kept.{Kept}
use Rattle.calculus_rules.specs.declared.declaration.Kept.TheVariants.{Constant}
use Rattle.calculus_rules.specs.declared.entry.Entry.TheVariants.{Assumed, Defined}
use Rattle.pc_rules.specs.declared.broken.Broken.TheVariants.{UnboundRel, UnknownName, BadNumber, LevelUndeclared, NotASort, NotAProduct, CountWrong, NotTheFamily, ElimNotAllowed, NotEnoughAbstractions, RecArgNotInductive}
use Rattle.calculus_rules.specs.Environment.{Env, FamilyDecl, family_at}
use Rattle.calculus_rules.specs.Context.{Context, Values, values, extend, type_at}
use Rattle.calculus_rules.specs.Instances.{family_type, constructor_type, predicate_entries, branch_entries, predicate_at, branch_type, definitions}
use Rattle.calculus_rules.specs.Same.{same}
use Rattle.pc_rules.specs.DirectedRun.{done, make, is_beyond, any_beyond}
use Rattle.calculus_rules.specs.Lookups.{kept_at, known_block, whole_block}
use Rattle.pc_rules.specs.DirectedComparison.{Test, Comparison, compare}
use Rattle.pc_rules.specs.DirectedTyping.{Typing, conv, sort_found, sort_of, check, retype, rel_rule, undeclared_in, raises_past, levels_declared, sort_rule, app_found, const_rule, family_number, find_family, constructor_number, counted, names_counted, match_counted, check_all, sorts_of, may_eliminate, eliminated, is_the_family, found_family, scrutinee_fits, scrutinee_rule, branch_beyond, branch_rule, branches_rule, predicate_rule, case_rule, types_rule, recursive_domain, enough_abstractions, is_a_family, family_found, definition_rule, definitions_rule, definition_type, rule, rule_number, infer}
use Rattle.pc_rules.specs.DirectedGuard.{fix_guard}
use Rattle.pc_rules.specs.DirectedWeakHead.{whnf}
use Rattle.run_costs.proofs.Takes.{IsTaking, takes_quiet, takes_done, takes_refused, takes_made, takes_passing, takes_nested, takes_if, takes_noted, takes_bind, takes_ticking}
use Rattle.run_costs.proofs.QuietReduction.{quiet_whnf, quiet_compare}
use Rattle.run_costs.proofs.QuietRules.{quiet_guard}

-- an inference and a comparison that take alike wherever they are asked
pub record TakingTyping (inf inf' : Typing) : Type 0 where
  pub at : (c : Context) (t : Term) → IsTaking (λ u. inf c t u) (λ u. inf' c t u)

pub record TakingComparison (cmp cmp' : Comparison) : Type 0 where
  pub at : (c : Context) (equal : Bool) (a b : Term) → IsTaking (λ u. cmp c equal a b u) (λ u. cmp' c equal a b u)

pub takes_comparison : (E : Env) (q : Test) (m n : ℕ) → m ≤ n → TakingComparison (compare E q m) (compare E q n)
takes_comparison E q m n l = record { at = λ c equal a b. takes_quiet _ _ (λ most. quiet_compare E q m n l c equal a b) }

takes_whnf : (E : Env) (V : Values) (t : Term) → IsTaking (λ u. whnf E V t u) (λ u. whnf E V t u)
takes_whnf E V t = takes_quiet _ _ (λ most. quiet_whnf E V t)

takes_guard : (E : Env) (V : Values) (rargs : List ℕ) (bodies : Terms) → IsTaking (λ u. fix_guard E V rargs bodies u) (λ u. fix_guard E V rargs bodies u)
takes_guard E V rargs bodies = takes_quiet _ _ (λ most. quiet_guard E V rargs bodies)

takes_make : (t : Term) → IsTaking (λ u. make t u) (λ u. make t u)
takes_make t = takes_made (is_beyond t) t

takes_conv : IsTaking (λ u. conv u) (λ u. conv u)
unfolding conv
takes_conv = takes_ticking _ _ (takes_noted 12 (λ v. done tt v) (λ v. done tt v) (takes_done tt))

takes_sort_found : (inf inf' : Typing) → TakingTyping inf inf' → (c : Context) (T W : Term) → IsTaking (λ u. sort_found inf c T W u) (λ u. sort_found inf' c T W u)
takes_sort_found inf inf' h c T (SortT s) =
    takes_if (same T (SortT s)) _ _ _ _ (takes_done s) (takes_bind _ _ _ _ takes_conv (λ x. takes_bind _ _ _ _ (h.at c (SortT s)) (λ y. takes_done s)))
takes_sort_found inf inf' h c T other = takes_refused (NotASort other)

pub takes_sort_of : (E : Env) (inf inf' : Typing) → TakingTyping inf inf' → (c : Context) (A : Term) → IsTaking (λ u. sort_of E inf c A u) (λ u. sort_of E inf' c A u)
unfolding sort_of
takes_sort_of E inf inf' h c A =
    takes_bind _ _ _ _ (h.at c A) (λ T. takes_bind _ _ _ _ (takes_whnf E (values c) T) (λ W. takes_sort_found inf inf' h c T W))

pub takes_check : (E : Env) (inf inf' : Typing) (cmp cmp' : Comparison) → TakingTyping inf inf' → TakingComparison cmp cmp' → (c : Context) (t T : Term) →
    IsTaking (λ u. check E inf cmp c t T u) (λ u. check E inf' cmp' c t T u)
unfolding check
takes_check E inf inf' cmp cmp' h g c t T =
    takes_bind _ _ _ _ (h.at c t) (λ S. takes_if (same S T) _ _ _ _ (takes_done tt)
    (takes_bind _ _ _ _ takes_conv (λ x. takes_bind _ _ _ _ (takes_sort_of E inf inf' h c T) (λ y. g.at c false S T))))

takes_retype : (E : Env) (inf inf' : Typing) → TakingTyping inf inf' → (c : Context) (T W : Term) → IsTaking (λ u. retype E inf c T W u) (λ u. retype E inf' c T W u)
unfolding retype
takes_retype E inf inf' h c T W =
    takes_if (same T W) _ _ _ _ (takes_done tt) (takes_bind _ _ _ _ takes_conv (λ x. takes_bind _ _ _ _ (takes_sort_of E inf inf' h c W) (λ y. takes_done tt)))

takes_rel : (c : Context) (i : ℕ) (o : Option Term) → IsTaking (λ u. rel_rule c i o u) (λ u. rel_rule c i o u)
takes_rel c i None = takes_refused (UnboundRel i (length c))
takes_rel c i (Some T) = takes_make T

takes_levels : (o : Option Level) → IsTaking (λ u. levels_declared o u) (λ u. levels_declared o u)
takes_levels None = takes_done tt
takes_levels (Some l) = takes_refused (LevelUndeclared l)

takes_sort : (E : Env) (s : Sort) → IsTaking (λ u. sort_rule E s u) (λ u. sort_rule E s u)
takes_sort E s = takes_bind _ _ _ _ (takes_levels (undeclared_in E.levels s)) (λ x. takes_made (raises_past s) (SortT (super_sort s)))

takes_app_found : (E : Env) (inf inf' : Typing) (cmp cmp' : Comparison) → TakingTyping inf inf' → TakingComparison cmp cmp' → (c : Context) (a T W : Term) →
    IsTaking (λ u. app_found E inf cmp c a T W u) (λ u. app_found E inf' cmp' c a T W u)
takes_app_found E inf inf' cmp cmp' h g c a T (Prod A B) =
    takes_bind _ _ _ _ (takes_retype E inf inf' h c T (Prod A B)) (λ x. takes_bind _ _ _ _ (takes_check E inf inf' cmp cmp' h g c a A) (λ y. takes_make (substitute (put a) B)))
takes_app_found E inf inf' cmp cmp' h g c a T other = takes_refused (NotAProduct other)

takes_const : (l : Name) (o : Option Kept) → IsTaking (λ u. const_rule l o u) (λ u. const_rule l o u)
takes_const l (Some (Constant m T b)) = takes_done T
takes_const l other = takes_refused (UnknownName l)

takes_number : (B : Block) (f : FamilyId) (o : Option FamilyDecl) → IsTaking (λ u. family_number B f o u) (λ u. family_number B f o u)
takes_number B f None = takes_refused (BadNumber f.family (length B.families))
takes_number B f (Some F) = takes_done F

takes_find_family : (f : FamilyId) (o : Option Block) → IsTaking (λ u. find_family f o u) (λ u. find_family f o u)
takes_find_family f None = takes_refused (UnknownName f.block)
takes_find_family f (Some B) = takes_number B f (family_at B f.family)

takes_constructor : (F : FamilyDecl) (m : ℕ) (o : Option Constructor) → IsTaking (λ u. constructor_number F m o u) (λ u. constructor_number F m o u)
takes_constructor F m None = takes_refused (BadNumber m (length F.constructors))
takes_constructor F m (Some C) = takes_done C

takes_counted : (want got : ℕ) → IsTaking (λ u. counted want got u) (λ u. counted want got u)
takes_counted want got = takes_if (want == got) _ _ _ _ (takes_done tt) (takes_refused (CountWrong want got))

takes_names : (Cs : List Constructor) (ns : List ℕ) → IsTaking (λ u. names_counted Cs ns u) (λ u. names_counted Cs ns u)
takes_names [] ns = takes_done tt
takes_names (C ∷ Cs) [] = takes_done tt
takes_names (C ∷ Cs) (m ∷ ns) = takes_bind _ _ _ _ (takes_counted (length C.args) m) (λ x. takes_names Cs ns)

takes_match_counted : (F : FamilyDecl) (ps : Terms) (m : ℕ) (bs : Terms) → IsTaking (λ u. match_counted F ps m bs u) (λ u. match_counted F ps m bs u)
takes_match_counted F ps m bs =
    takes_bind _ _ _ _ (takes_counted (length F.parameters) (number ps)) (λ x.
    takes_bind _ _ _ _ (takes_counted (length F.indices + 1) m) (λ y.
    takes_bind _ _ _ _ (takes_counted (length F.constructors) (number bs)) (λ z. takes_names F.constructors (binders_of bs))))

pub takes_check_all : (E : Env) (inf inf' : Typing) (cmp cmp' : Comparison) → TakingTyping inf inf' → TakingComparison cmp cmp' → (c : Context) (s : ℕ → Term) (ts As : List Term) →
    IsTaking (λ u. check_all E inf cmp c s ts As u) (λ u. check_all E inf' cmp' c s ts As u)
unfolding check_all
takes_check_all E inf inf' cmp cmp' h g c s [] As = takes_done tt
takes_check_all E inf inf' cmp cmp' h g c s (t ∷ ts) [] = takes_done tt
takes_check_all E inf inf' cmp cmp' h g c s (t ∷ ts) (A ∷ As) =
    takes_bind _ _ _ _ (takes_make (substitute s A)) (λ T. takes_bind _ _ _ _ (takes_check E inf inf' cmp cmp' h g c t T) (λ y. takes_check_all E inf inf' cmp cmp' h g c (first t s) ts As))

pub takes_sorts_of : (E : Env) (inf inf' : Typing) → TakingTyping inf inf' → (c : Context) (As : List Term) → IsTaking (λ u. sorts_of E inf c As u) (λ u. sorts_of E inf' c As u)
unfolding sorts_of
takes_sorts_of E inf inf' h c [] = takes_done []
takes_sorts_of E inf inf' h c (A ∷ As) =
    takes_bind _ _ _ _ (takes_sort_of E inf inf' h c A) (λ s. takes_bind _ _ _ _ (takes_sorts_of E inf inf' h (Assumed A ∷ c) As) (λ ss. takes_done (s ∷ ss)))

takes_eliminated : (B : Option Block) (f : FamilyId) (F : FamilyDecl) (s : Sort) → IsTaking (λ u. eliminated B f F s u) (λ u. eliminated B f F s u)
takes_eliminated B f F s = takes_if (may_eliminate B F F.sort s) _ _ _ _ (takes_done tt) (takes_refused (ElimNotAllowed f))

takes_found_family : (f : FamilyId) (F : FamilyDecl) (W : Term) → IsTaking (λ u. found_family f F W u) (λ u. found_family f F W u)
takes_found_family f F W =
    takes_if (is_the_family f (head W) && (length (args W) == length F.parameters + length F.indices)) _ _ _ _ (takes_done tt) (takes_refused (NotTheFamily W))

takes_fits : (E : Env) (inf inf' : Typing) (cmp cmp' : Comparison) → TakingTyping inf inf' → TakingComparison cmp cmp' → (c : Context) (W T : Term) →
    IsTaking (λ u. scrutinee_fits E inf cmp c W T u) (λ u. scrutinee_fits E inf' cmp' c W T u)
takes_fits E inf inf' cmp cmp' h g c W T =
    takes_if (same T W) _ _ _ _ (takes_done tt)
    (takes_bind _ _ _ _ takes_conv (λ x. takes_bind _ _ _ _ (takes_sort_of E inf inf' h c T) (λ y. g.at c false W T)))

takes_scrutinee : (E : Env) (inf inf' : Typing) (cmp cmp' : Comparison) → TakingTyping inf inf' → TakingComparison cmp cmp' → (c : Context) (f : FamilyId) (F : FamilyDecl)
    (ps : List Term) (t : Term) → IsTaking (λ u. scrutinee_rule E inf cmp c f F ps t u) (λ u. scrutinee_rule E inf' cmp' c f F ps t u)
takes_scrutinee E inf inf' cmp cmp' h g c f F ps t =
    takes_bind _ _ _ _ (h.at c t) (λ T.
    takes_bind _ _ _ _ (takes_whnf E (values c) T) (λ W.
    takes_bind _ _ _ _ (takes_found_family f F W) (λ x.
    takes_bind _ _ _ _ (takes_retype E inf inf' h c T W) (λ y.
    takes_bind _ _ _ _ (takes_make (apply (Ind f) (ps ++ drop (length F.parameters) (args W)))) (λ S.
    takes_bind _ _ _ _ (takes_fits E inf inf' cmp cmp' h g c W S) (λ z. takes_done (drop (length F.parameters) (args W))))))))

takes_branch : (E : Env) (inf inf' : Typing) (cmp cmp' : Comparison) → TakingTyping inf inf' → TakingComparison cmp cmp' → (c : Context) (f : FamilyId) (m : ℕ) (C : Constructor)
    (ps : List Term) (ret body : Term) → IsTaking (λ u. branch_rule E inf cmp c f m C ps ret body u) (λ u. branch_rule E inf' cmp' c f m C ps ret body u)
takes_branch E inf inf' cmp cmp' h g c f m C ps ret body =
    takes_bind _ _ _ _ (takes_passing (any_beyond (branch_entries C ps))) (λ x.
    takes_bind _ _ _ _ (takes_sorts_of E inf inf' h c (branch_entries C ps)) (λ y.
    takes_bind _ _ _ _ (takes_passing (branch_beyond f m C ps ret)) (λ z.
    takes_check E inf inf' cmp cmp' h g (extend c (branch_entries C ps)) body (branch_type f m C ps ret))))

takes_branches : (E : Env) (inf inf' : Typing) (cmp cmp' : Comparison) → TakingTyping inf inf' → TakingComparison cmp cmp' → (c : Context) (f : FamilyId) (m : ℕ) (Cs : List Constructor)
    (ps : List Term) (ret : Term) (bs : List Term) → IsTaking (λ u. branches_rule E inf cmp c f m Cs ps ret bs u) (λ u. branches_rule E inf' cmp' c f m Cs ps ret bs u)
unfolding branches_rule
takes_branches E inf inf' cmp cmp' h g c f m [] ps ret bs = takes_done tt
takes_branches E inf inf' cmp cmp' h g c f m (C ∷ Cs) ps ret [] = takes_done tt
takes_branches E inf inf' cmp cmp' h g c f m (C ∷ Cs) ps ret (body ∷ bs) =
    takes_bind _ _ _ _ (takes_branch E inf inf' cmp cmp' h g c f m C ps ret body) (λ x. takes_branches E inf inf' cmp cmp' h g c f (suc m) Cs ps ret bs)

takes_predicate : (E : Env) (inf inf' : Typing) → TakingTyping inf inf' → (c : Context) (B : Option Block) (f : FamilyId) (F : FamilyDecl) (ps : List Term) (ret : Term) →
    IsTaking (λ u. predicate_rule E inf c B f F ps ret u) (λ u. predicate_rule E inf' c B f F ps ret u)
takes_predicate E inf inf' h c B f F ps ret =
    takes_bind _ _ _ _ (takes_passing (any_beyond (predicate_entries f F ps))) (λ x.
    takes_bind _ _ _ _ (takes_sorts_of E inf inf' h c (predicate_entries f F ps)) (λ y.
    takes_bind _ _ _ _ (takes_sort_of E inf inf' h (extend c (predicate_entries f F ps)) ret) (λ s. takes_eliminated B f F s)))

takes_case : (E : Env) (inf inf' : Typing) (cmp cmp' : Comparison) → TakingTyping inf inf' → TakingComparison cmp cmp' → (c : Context) (f : FamilyId) (ps : Terms) (m : ℕ)
    (ret t : Term) (bs : Terms) → IsTaking (λ u. case_rule E inf cmp c f ps m ret t bs u) (λ u. case_rule E inf' cmp' c f ps m ret t bs u)
takes_case E inf inf' cmp cmp' h g c f ps m ret t bs =
    takes_bind _ _ _ _ (takes_find_family f (whole_block (kept_at E.declarations f.block))) (λ F.
    takes_bind _ _ _ _ (takes_match_counted F ps m bs) (λ x.
    takes_bind _ _ _ _ (takes_check_all E inf inf' cmp cmp' h g c Rel (list_of ps) F.parameters) (λ y.
    takes_bind _ _ _ _ (takes_predicate E inf inf' h c (whole_block (kept_at E.declarations f.block)) f F (list_of ps) ret) (λ z.
    takes_bind _ _ _ _ (takes_scrutinee E inf inf' cmp cmp' h g c f F (list_of ps) t) (λ is.
    takes_bind _ _ _ _ (takes_branches E inf inf' cmp cmp' h g c f 0 F.constructors (list_of ps) ret (list_of bs)) (λ r. takes_make (predicate_at ret is t)))))))

takes_types : (E : Env) (inf inf' : Typing) → TakingTyping inf inf' → (c : Context) (m : ℕ) (Ts : List Term) → IsTaking (λ u. types_rule E inf c m Ts u) (λ u. types_rule E inf' c m Ts u)
unfolding types_rule
takes_types E inf inf' h c m [] = takes_done tt
takes_types E inf inf' h c m (T ∷ Ts) =
    takes_bind _ _ _ _ (takes_make (shift m 0 T)) (λ S. takes_bind _ _ _ _ (takes_sort_of E inf inf' h c S) (λ x. takes_types E inf inf' h (Assumed S ∷ c) (suc m) Ts))

takes_enough : (d : ℕ) (o : Option (Context × Term)) → IsTaking (λ u. enough_abstractions d o u) (λ u. enough_abstractions d o u)
takes_enough d None = takes_refused (NotEnoughAbstractions d)
takes_enough d (Some p) = takes_done p

takes_family_found : (W : Term) → IsTaking (λ u. family_found W u) (λ u. family_found W u)
takes_family_found W = takes_if (is_a_family (head W)) _ _ _ _ (takes_done tt) (takes_refused (RecArgNotInductive W))

takes_definition : (E : Env) (inf inf' : Typing) (cmp cmp' : Comparison) → TakingTyping inf inf' → TakingComparison cmp cmp' → (c : Context) (m d rarg : ℕ) (T body : Term) →
    IsTaking (λ u. definition_rule E inf cmp c m d rarg T body u) (λ u. definition_rule E inf' cmp' c m d rarg T body u)
takes_definition E inf inf' cmp cmp' h g c m d rarg T body =
    takes_bind _ _ _ _ (takes_enough d (recursive_domain c rarg body)) (λ p.
    takes_bind _ _ _ _ (takes_make (shift m 0 T)) (λ S.
    takes_bind _ _ _ _ (takes_check E inf inf' cmp cmp' h g c body S) (λ x.
    takes_bind _ _ _ _ (takes_whnf E (values p.0) p.1) (λ W. takes_family_found W))))

takes_definitions : (E : Env) (inf inf' : Typing) (cmp cmp' : Comparison) → TakingTyping inf inf' → TakingComparison cmp cmp' → (c : Context) (m d : ℕ) (rargs : List ℕ) (Ts bs : List Term) →
    IsTaking (λ u. definitions_rule E inf cmp c m d rargs Ts bs u) (λ u. definitions_rule E inf' cmp' c m d rargs Ts bs u)
unfolding definitions_rule
takes_definitions E inf inf' cmp cmp' h g c m d [] Ts bs = takes_done tt
takes_definitions E inf inf' cmp cmp' h g c m d (r ∷ rargs) [] bs = takes_done tt
takes_definitions E inf inf' cmp cmp' h g c m d (r ∷ rargs) (T ∷ Ts) [] = takes_done tt
takes_definitions E inf inf' cmp cmp' h g c m d (r ∷ rargs) (T ∷ Ts) (b ∷ bs) =
    takes_bind _ _ _ _ (takes_definition E inf inf' cmp cmp' h g c m d r T b) (λ x. takes_definitions E inf inf' cmp cmp' h g c m (suc d) rargs Ts bs)

takes_definition_type : (i m : ℕ) (o : Option (ℕ × Term)) → IsTaking (λ u. definition_type i m o u) (λ u. definition_type i m o u)
takes_definition_type i m None = takes_refused (BadNumber i m)
takes_definition_type i m (Some p) = takes_done p.1

takes_rule : (E : Env) (inf inf' : Typing) (cmp cmp' : Comparison) → TakingTyping inf inf' → TakingComparison cmp cmp' → (c : Context) (t : Term) →
    IsTaking (λ u. rule E inf cmp c t u) (λ u. rule E inf' cmp' c t u)
takes_rule E inf inf' cmp cmp' h g c (Rel i) = takes_rel c i (type_at c i)
takes_rule E inf inf' cmp cmp' h g c (SortT s) = takes_sort E s
takes_rule E inf inf' cmp cmp' h g c (Prod A B) =
    takes_bind _ _ _ _ (takes_sort_of E inf inf' h c A) (λ s. takes_bind _ _ _ _ (takes_sort_of E inf inf' h (Assumed A ∷ c) B) (λ r. takes_done (SortT (product_sort s r))))
takes_rule E inf inf' cmp cmp' h g c (Lambda A b) =
    takes_bind _ _ _ _ (takes_sort_of E inf inf' h c A) (λ s. takes_bind _ _ _ _ (h.at (Assumed A ∷ c) b) (λ B. takes_make (Prod A B)))
takes_rule E inf inf' cmp cmp' h g c (LetIn b B t) =
    takes_bind _ _ _ _ (takes_sort_of E inf inf' h c B) (λ x. takes_bind _ _ _ _ (takes_check E inf inf' cmp cmp' h g c b B)
    (λ y. takes_bind _ _ _ _ (h.at (Defined b B ∷ c) t) (λ T. takes_make (LetIn b B T))))
takes_rule E inf inf' cmp cmp' h g c (App f a) =
    takes_bind _ _ _ _ (h.at c f) (λ T. takes_bind _ _ _ _ (takes_whnf E (values c) T) (λ W. takes_app_found E inf inf' cmp cmp' h g c a T W))
takes_rule E inf inf' cmp cmp' h g c (Const l) = takes_const l (kept_at E.declarations l)
takes_rule E inf inf' cmp cmp' h g c (Ind f) =
    takes_bind _ _ _ _ (takes_find_family f (known_block (kept_at E.declarations f.block))) (λ F. takes_make (family_type F))
takes_rule E inf inf' cmp cmp' h g c (Construct f m) =
    takes_bind _ _ _ _ (takes_find_family f (whole_block (kept_at E.declarations f.block))) (λ F.
    takes_bind _ _ _ _ (takes_constructor F m (slice_get F.constructors m)) (λ C. takes_make (constructor_type f F C)))
takes_rule E inf inf' cmp cmp' h g c (Case f ps m ret t bs) = takes_case E inf inf' cmp cmp' h g c f ps m ret t bs
takes_rule E inf inf' cmp cmp' h g c (Fix i rargs types bodies) =
    takes_bind _ _ _ _ (takes_types E inf inf' h c 0 (list_of types)) (λ x.
    takes_bind _ _ _ _ (takes_definitions E inf inf' cmp cmp' h g (definitions c 0 types) (length rargs) 0 rargs (list_of types) (list_of bodies)) (λ y.
    takes_bind _ _ _ _ (takes_guard E (values c) rargs bodies) (λ z. takes_definition_type i (length rargs) (term_at types i))))

pub takes_infer : (E : Env) (q : Test) (m n : ℕ) → m ≤ n → (c : Context) (t : Term) → IsTaking (λ u. infer E q m c t u) (λ u. infer E q n c t u)
unfolding infer
takes_infer E q zero zero l c t = takes_ticking _ _ (takes_nested _)
takes_infer E q zero (suc n) l c t = takes_ticking _ _ (takes_nested _)
takes_infer E q (suc m) zero l c t = absurd (omega arith)
takes_infer E q (suc m) (suc n) l c t =
    takes_ticking _ _ (takes_noted (rule_number t) _ _
    (takes_rule E (infer E q m) (infer E q n) (compare E q m) (compare E q n) (record { at = takes_infer E q m n (omega arith) }) (takes_comparison E q m n (omega arith)) c t))
