-- Inference and blocks never go back on units, and more units change no result.
use Rattle.std.proofs.Common.{ℕ, zero, suc, ◌+◌, ◌==◌, ◌&&◌, false, List, [], ◌∷◌, ◌++◌, length, drop, Option, Some, None, slice_get}
use Rattle.universe_levels.specs.declared.level.Level.{Level}
use Rattle.universe_levels.specs.declared.sort.Sort.{Sort}
use Rattle.universe_levels.specs.declared.sort.Sort.TheVariants.{Prop, Of}
use Rattle.universe_levels.specs.Sorts.{super_sort, product_sort}
use Rattle.pc_terms.specs.declared.leaf.Name.{Name}
use Rattle.pc_terms.specs.declared.leaf.FamilyId.{FamilyId}
use Rattle.pc_terms.specs.Syntax.{Term, Terms, Rel, SortT, Prod, Lambda, LetIn, App, Const, Ind, Construct, Case, Fix, first, put, substitute, shift, apply, head, args, number, term_at, list_of}
use Rattle.pc_terms.specs.Formed.{binders_of}
use Rattle.calculus_rules.specs.declared.declaration.Constructor.{Constructor}
use Rattle.calculus_rules.specs.declared.declaration.Family.{Family}
use Rattle.calculus_rules.specs.declared.declaration.Block.{Block}
use Rattle.calculus_rules.specs.declared.declaration.Kept.{Kept}
use Rattle.calculus_rules.specs.declared.declaration.Kept.TheVariants.{Constant}
use Rattle.calculus_rules.specs.declared.entry.Entry.TheVariants.{Assumed, Defined}
use Rattle.pc_rules.specs.declared.broken.Broken.TheVariants.{UnboundRel, UnknownName, BadNumber, LevelUndeclared, NotASort, NotAProduct, CountWrong, NotTheFamily, ElimNotAllowed, NotEnoughAbstractions, RecArgNotInductive, NotPositive, SortTooSmall, DuplicateName}
use Rattle.calculus_rules.specs.Environment.{Env, FamilyDecl, family_at}
use Rattle.calculus_rules.specs.Context.{Context, values, extend, type_at}
use Rattle.calculus_rules.specs.Instances.{family_type, constructor_type, predicate_entries, branch_entries, predicate_at, branch_type, definitions}
use Rattle.calculus_rules.specs.Same.{same}
use Rattle.pc_rules.specs.declared.meter.Account.{Account}
use Rattle.pc_rules.specs.DirectedRun.{done, make, is_beyond, any_beyond, Leaves}
use Rattle.calculus_rules.specs.Lookups.{kept_at, known_block, whole_block}
use Rattle.pc_rules.specs.DirectedComparison.{Test, Comparison, compare, sort_below}
use Rattle.pc_rules.specs.DirectedTyping.{Typing, conv, sort_found, sort_of, check, retype, rel_rule, undeclared_in, raises_past, levels_declared, sort_rule, app_found, const_rule, family_number, find_family, constructor_number, counted, names_counted, match_counted, check_all, sorts_of, may_eliminate, eliminated, is_the_family, found_family, scrutinee_fits, scrutinee_rule, branch_beyond, branch_rule, branches_rule, predicate_rule, case_rule, types_rule, recursive_domain, enough_abstractions, is_a_family, family_found, definition_rule, definitions_rule, definition_type, rule, rule_number, infer}
use Rattle.calculus_rules.specs.declared.target.Target.TheVariants.{Families}
use Rattle.calculus_rules.specs.Naming.{some_names}
use Rattle.pc_rules.specs.DirectedDeclarations.{has_name, distinct_names, family_heads, fits_sort, arguments_rule, with_sorts, constructor_rule, constructors_rule, with_constructors, families_rule, with_families, with_heads, block_rule, body_rule, fresh_name}
use Rattle.pc_rules.proofs.Fair.{IsFair, fair_done, fair_refused, fair_made, fair_passing, fair_nested, fair_if, fair_noted, fair_bind, fair_ticking, same_left}
use Rattle.pc_rules.proofs.FairReduction.{FairComparison, fair_whnf, fair_compare}
use Rattle.pc_rules.proofs.FairRules.{fair_guard}
use Rattle.pc_rules.proofs.FairPositivity.{fair_positive}

-- an inference that is fair wherever it is asked
pub record FairTyping (n k : ℕ) (inf : Typing) : Type 0 where
  pub at : (c : Context) (t : Term) → IsFair n k (λ u. inf c t u) (λ u. inf c t u)

fair_make : {n k : ℕ} (t : Term) → IsFair n k (λ u. make t u) (λ u. make t u)
fair_make t = fair_made (is_beyond t) t

fair_conv : {n k : ℕ} → IsFair n k (λ u. conv u) (λ u. conv u)
unfolding conv
fair_conv = fair_ticking _ _ (fair_noted 12 (λ v. done tt v) (λ v. done tt v) (fair_done tt))

fair_sort_found : {n k : ℕ} (inf : Typing) → FairTyping n k inf → (c : Context) (T W : Term) → IsFair n k (λ u. sort_found inf c T W u) (λ u. sort_found inf c T W u)
fair_sort_found inf h c T (SortT s) =
    fair_if (same T (SortT s)) _ _ _ _ (fair_done s) (fair_bind _ _ _ _ fair_conv (λ x. fair_bind _ _ _ _ (h.at c (SortT s)) (λ y. fair_done s)))
fair_sort_found inf h c T other = fair_refused (NotASort other)

pub fair_sort_of : {n k : ℕ} (E : Env) (inf : Typing) → FairTyping n k inf → (c : Context) (A : Term) → IsFair n k (λ u. sort_of E inf c A u) (λ u. sort_of E inf c A u)
unfolding sort_of
fair_sort_of E inf h c A =
    fair_bind _ _ _ _ (h.at c A) (λ T. fair_bind _ _ _ _ (fair_whnf E (values c) T) (λ W. fair_sort_found inf h c T W))

pub fair_check : {n k : ℕ} (E : Env) (inf : Typing) (cmp : Comparison) → FairTyping n k inf → FairComparison n k cmp → (c : Context) (t T : Term) →
    IsFair n k (λ u. check E inf cmp c t T u) (λ u. check E inf cmp c t T u)
unfolding check
fair_check E inf cmp h g c t T =
    fair_bind _ _ _ _ (h.at c t) (λ S. fair_if (same S T) _ _ _ _ (fair_done tt)
    (fair_bind _ _ _ _ fair_conv (λ x. fair_bind _ _ _ _ (fair_sort_of E inf h c T) (λ y. g.at c false S T))))

fair_retype : {n k : ℕ} (E : Env) (inf : Typing) → FairTyping n k inf → (c : Context) (T W : Term) → IsFair n k (λ u. retype E inf c T W u) (λ u. retype E inf c T W u)
unfolding retype
fair_retype E inf h c T W =
    fair_if (same T W) _ _ _ _ (fair_done tt) (fair_bind _ _ _ _ fair_conv (λ x. fair_bind _ _ _ _ (fair_sort_of E inf h c W) (λ y. fair_done tt)))

fair_rel : {n k : ℕ} (c : Context) (i : ℕ) (o : Option Term) → IsFair n k (λ u. rel_rule c i o u) (λ u. rel_rule c i o u)
fair_rel c i None = fair_refused (UnboundRel i (length c))
fair_rel c i (Some T) = fair_make T

fair_levels : {n k : ℕ} (o : Option Level) → IsFair n k (λ u. levels_declared o u) (λ u. levels_declared o u)
fair_levels None = fair_done tt
fair_levels (Some l) = fair_refused (LevelUndeclared l)

fair_sort : {n k : ℕ} (E : Env) (s : Sort) → IsFair n k (λ u. sort_rule E s u) (λ u. sort_rule E s u)
fair_sort E s = fair_bind _ _ _ _ (fair_levels (undeclared_in E.levels s)) (λ x. fair_made (raises_past s) (SortT (super_sort s)))

fair_app_found : {n k : ℕ} (E : Env) (inf : Typing) (cmp : Comparison) → FairTyping n k inf → FairComparison n k cmp → (c : Context) (a T W : Term) →
    IsFair n k (λ u. app_found E inf cmp c a T W u) (λ u. app_found E inf cmp c a T W u)
fair_app_found E inf cmp h g c a T (Prod A B) =
    fair_bind _ _ _ _ (fair_retype E inf h c T (Prod A B)) (λ x. fair_bind _ _ _ _ (fair_check E inf cmp h g c a A) (λ y. fair_make (substitute (put a) B)))
fair_app_found E inf cmp h g c a T other = fair_refused (NotAProduct other)

fair_const : {n k : ℕ} (l : Name) (o : Option Kept) → IsFair n k (λ u. const_rule l o u) (λ u. const_rule l o u)
fair_const l (Some (Constant m T b)) = fair_done T
fair_const l other = fair_refused (UnknownName l)

fair_number : {n k : ℕ} (B : Block) (f : FamilyId) (o : Option FamilyDecl) → IsFair n k (λ u. family_number B f o u) (λ u. family_number B f o u)
fair_number B f None = fair_refused (BadNumber f.family (length B.families))
fair_number B f (Some F) = fair_done F

fair_find_family : {n k : ℕ} (f : FamilyId) (o : Option Block) → IsFair n k (λ u. find_family f o u) (λ u. find_family f o u)
fair_find_family f None = fair_refused (UnknownName f.block)
fair_find_family f (Some B) = fair_number B f (family_at B f.family)

fair_constructor : {n k : ℕ} (F : FamilyDecl) (m : ℕ) (o : Option Constructor) → IsFair n k (λ u. constructor_number F m o u) (λ u. constructor_number F m o u)
fair_constructor F m None = fair_refused (BadNumber m (length F.constructors))
fair_constructor F m (Some C) = fair_done C

fair_counted : {n k : ℕ} (want got : ℕ) → IsFair n k (λ u. counted want got u) (λ u. counted want got u)
fair_counted want got = fair_if (want == got) _ _ _ _ (fair_done tt) (fair_refused (CountWrong want got))

fair_names : {n k : ℕ} (Cs : List Constructor) (ns : List ℕ) → IsFair n k (λ u. names_counted Cs ns u) (λ u. names_counted Cs ns u)
fair_names [] ns = fair_done tt
fair_names (C ∷ Cs) [] = fair_done tt
fair_names (C ∷ Cs) (m ∷ ns) = fair_bind _ _ _ _ (fair_counted (length C.args) m) (λ x. fair_names Cs ns)

fair_match_counted : {n k : ℕ} (F : FamilyDecl) (ps : Terms) (m : ℕ) (bs : Terms) → IsFair n k (λ u. match_counted F ps m bs u) (λ u. match_counted F ps m bs u)
fair_match_counted F ps m bs =
    fair_bind _ _ _ _ (fair_counted (length F.parameters) (number ps)) (λ x.
    fair_bind _ _ _ _ (fair_counted (length F.indices + 1) m) (λ y.
    fair_bind _ _ _ _ (fair_counted (length F.constructors) (number bs)) (λ z. fair_names F.constructors (binders_of bs))))

pub fair_check_all : {n k : ℕ} (E : Env) (inf : Typing) (cmp : Comparison) → FairTyping n k inf → FairComparison n k cmp → (c : Context) (s : ℕ → Term) (ts As : List Term) →
    IsFair n k (λ u. check_all E inf cmp c s ts As u) (λ u. check_all E inf cmp c s ts As u)
unfolding check_all
fair_check_all E inf cmp h g c s [] As = fair_done tt
fair_check_all E inf cmp h g c s (t ∷ ts) [] = fair_done tt
fair_check_all E inf cmp h g c s (t ∷ ts) (A ∷ As) =
    fair_bind _ _ _ _ (fair_make (substitute s A)) (λ T. fair_bind _ _ _ _ (fair_check E inf cmp h g c t T) (λ y. fair_check_all E inf cmp h g c (first t s) ts As))

pub fair_sorts_of : {n k : ℕ} (E : Env) (inf : Typing) → FairTyping n k inf → (c : Context) (As : List Term) → IsFair n k (λ u. sorts_of E inf c As u) (λ u. sorts_of E inf c As u)
unfolding sorts_of
fair_sorts_of E inf h c [] = fair_done []
fair_sorts_of E inf h c (A ∷ As) =
    fair_bind _ _ _ _ (fair_sort_of E inf h c A) (λ s. fair_bind _ _ _ _ (fair_sorts_of E inf h (Assumed A ∷ c) As) (λ ss. fair_done (s ∷ ss)))

fair_eliminated : {n k : ℕ} (B : Option Block) (f : FamilyId) (F : FamilyDecl) (s : Sort) → IsFair n k (λ u. eliminated B f F s u) (λ u. eliminated B f F s u)
fair_eliminated B f F s = fair_if (may_eliminate B F F.sort s) _ _ _ _ (fair_done tt) (fair_refused (ElimNotAllowed f))

fair_found_family : {n k : ℕ} (f : FamilyId) (F : FamilyDecl) (W : Term) → IsFair n k (λ u. found_family f F W u) (λ u. found_family f F W u)
fair_found_family f F W =
    fair_if (is_the_family f (head W) && (length (args W) == length F.parameters + length F.indices)) _ _ _ _ (fair_done tt) (fair_refused (NotTheFamily W))

fair_fits : {n k : ℕ} (E : Env) (inf : Typing) (cmp : Comparison) → FairTyping n k inf → FairComparison n k cmp → (c : Context) (W T : Term) →
    IsFair n k (λ u. scrutinee_fits E inf cmp c W T u) (λ u. scrutinee_fits E inf cmp c W T u)
fair_fits E inf cmp h g c W T =
    fair_if (same T W) _ _ _ _ (fair_done tt)
    (fair_bind _ _ _ _ fair_conv (λ x. fair_bind _ _ _ _ (fair_sort_of E inf h c T) (λ y. g.at c false W T)))

fair_scrutinee : {n k : ℕ} (E : Env) (inf : Typing) (cmp : Comparison) → FairTyping n k inf → FairComparison n k cmp → (c : Context) (f : FamilyId) (F : FamilyDecl)
    (ps : List Term) (t : Term) → IsFair n k (λ u. scrutinee_rule E inf cmp c f F ps t u) (λ u. scrutinee_rule E inf cmp c f F ps t u)
fair_scrutinee E inf cmp h g c f F ps t =
    fair_bind _ _ _ _ (h.at c t) (λ T.
    fair_bind _ _ _ _ (fair_whnf E (values c) T) (λ W.
    fair_bind _ _ _ _ (fair_found_family f F W) (λ x.
    fair_bind _ _ _ _ (fair_retype E inf h c T W) (λ y.
    fair_bind _ _ _ _ (fair_make (apply (Ind f) (ps ++ drop (length F.parameters) (args W)))) (λ S.
    fair_bind _ _ _ _ (fair_fits E inf cmp h g c W S) (λ z. fair_done (drop (length F.parameters) (args W))))))))

fair_branch : {n k : ℕ} (E : Env) (inf : Typing) (cmp : Comparison) → FairTyping n k inf → FairComparison n k cmp → (c : Context) (f : FamilyId) (m : ℕ) (C : Constructor)
    (ps : List Term) (ret body : Term) → IsFair n k (λ u. branch_rule E inf cmp c f m C ps ret body u) (λ u. branch_rule E inf cmp c f m C ps ret body u)
fair_branch E inf cmp h g c f m C ps ret body =
    fair_bind _ _ _ _ (fair_passing (any_beyond (branch_entries C ps))) (λ x.
    fair_bind _ _ _ _ (fair_sorts_of E inf h c (branch_entries C ps)) (λ y.
    fair_bind _ _ _ _ (fair_passing (branch_beyond f m C ps ret)) (λ z.
    fair_check E inf cmp h g (extend c (branch_entries C ps)) body (branch_type f m C ps ret))))

fair_branches : {n k : ℕ} (E : Env) (inf : Typing) (cmp : Comparison) → FairTyping n k inf → FairComparison n k cmp → (c : Context) (f : FamilyId) (m : ℕ) (Cs : List Constructor)
    (ps : List Term) (ret : Term) (bs : List Term) → IsFair n k (λ u. branches_rule E inf cmp c f m Cs ps ret bs u) (λ u. branches_rule E inf cmp c f m Cs ps ret bs u)
unfolding branches_rule
fair_branches E inf cmp h g c f m [] ps ret bs = fair_done tt
fair_branches E inf cmp h g c f m (C ∷ Cs) ps ret [] = fair_done tt
fair_branches E inf cmp h g c f m (C ∷ Cs) ps ret (body ∷ bs) =
    fair_bind _ _ _ _ (fair_branch E inf cmp h g c f m C ps ret body) (λ x. fair_branches E inf cmp h g c f (suc m) Cs ps ret bs)

fair_predicate : {n k : ℕ} (E : Env) (inf : Typing) → FairTyping n k inf → (c : Context) (B : Option Block) (f : FamilyId) (F : FamilyDecl) (ps : List Term) (ret : Term) →
    IsFair n k (λ u. predicate_rule E inf c B f F ps ret u) (λ u. predicate_rule E inf c B f F ps ret u)
fair_predicate E inf h c B f F ps ret =
    fair_bind _ _ _ _ (fair_passing (any_beyond (predicate_entries f F ps))) (λ x.
    fair_bind _ _ _ _ (fair_sorts_of E inf h c (predicate_entries f F ps)) (λ y.
    fair_bind _ _ _ _ (fair_sort_of E inf h (extend c (predicate_entries f F ps)) ret) (λ s. fair_eliminated B f F s)))

fair_case : {n k : ℕ} (E : Env) (inf : Typing) (cmp : Comparison) → FairTyping n k inf → FairComparison n k cmp → (c : Context) (f : FamilyId) (ps : Terms) (m : ℕ)
    (ret t : Term) (bs : Terms) → IsFair n k (λ u. case_rule E inf cmp c f ps m ret t bs u) (λ u. case_rule E inf cmp c f ps m ret t bs u)
fair_case E inf cmp h g c f ps m ret t bs =
    fair_bind _ _ _ _ (fair_find_family f (whole_block (kept_at E.declarations f.block))) (λ F.
    fair_bind _ _ _ _ (fair_match_counted F ps m bs) (λ x.
    fair_bind _ _ _ _ (fair_check_all E inf cmp h g c Rel (list_of ps) F.parameters) (λ y.
    fair_bind _ _ _ _ (fair_predicate E inf h c (whole_block (kept_at E.declarations f.block)) f F (list_of ps) ret) (λ z.
    fair_bind _ _ _ _ (fair_scrutinee E inf cmp h g c f F (list_of ps) t) (λ is.
    fair_bind _ _ _ _ (fair_branches E inf cmp h g c f 0 F.constructors (list_of ps) ret (list_of bs)) (λ r. fair_make (predicate_at ret is t)))))))

fair_types : {n k : ℕ} (E : Env) (inf : Typing) → FairTyping n k inf → (c : Context) (m : ℕ) (Ts : List Term) → IsFair n k (λ u. types_rule E inf c m Ts u) (λ u. types_rule E inf c m Ts u)
unfolding types_rule
fair_types E inf h c m [] = fair_done tt
fair_types E inf h c m (T ∷ Ts) =
    fair_bind _ _ _ _ (fair_make (shift m 0 T)) (λ S. fair_bind _ _ _ _ (fair_sort_of E inf h c S) (λ x. fair_types E inf h (Assumed S ∷ c) (suc m) Ts))

fair_enough : {n k : ℕ} (d : ℕ) (o : Option (Context × Term)) → IsFair n k (λ u. enough_abstractions d o u) (λ u. enough_abstractions d o u)
fair_enough d None = fair_refused (NotEnoughAbstractions d)
fair_enough d (Some p) = fair_done p

fair_family_found : {n k : ℕ} (W : Term) → IsFair n k (λ u. family_found W u) (λ u. family_found W u)
fair_family_found W = fair_if (is_a_family (head W)) _ _ _ _ (fair_done tt) (fair_refused (RecArgNotInductive W))

fair_definition : {n k : ℕ} (E : Env) (inf : Typing) (cmp : Comparison) → FairTyping n k inf → FairComparison n k cmp → (c : Context) (m d rarg : ℕ) (T body : Term) →
    IsFair n k (λ u. definition_rule E inf cmp c m d rarg T body u) (λ u. definition_rule E inf cmp c m d rarg T body u)
fair_definition E inf cmp h g c m d rarg T body =
    fair_bind _ _ _ _ (fair_enough d (recursive_domain c rarg body)) (λ p.
    fair_bind _ _ _ _ (fair_make (shift m 0 T)) (λ S.
    fair_bind _ _ _ _ (fair_check E inf cmp h g c body S) (λ x.
    fair_bind _ _ _ _ (fair_whnf E (values p.0) p.1) (λ W. fair_family_found W))))

fair_definitions : {n k : ℕ} (E : Env) (inf : Typing) (cmp : Comparison) → FairTyping n k inf → FairComparison n k cmp → (c : Context) (m d : ℕ) (rargs : List ℕ) (Ts bs : List Term) →
    IsFair n k (λ u. definitions_rule E inf cmp c m d rargs Ts bs u) (λ u. definitions_rule E inf cmp c m d rargs Ts bs u)
unfolding definitions_rule
fair_definitions E inf cmp h g c m d [] Ts bs = fair_done tt
fair_definitions E inf cmp h g c m d (r ∷ rargs) [] bs = fair_done tt
fair_definitions E inf cmp h g c m d (r ∷ rargs) (T ∷ Ts) [] = fair_done tt
fair_definitions E inf cmp h g c m d (r ∷ rargs) (T ∷ Ts) (b ∷ bs) =
    fair_bind _ _ _ _ (fair_definition E inf cmp h g c m d r T b) (λ x. fair_definitions E inf cmp h g c m (suc d) rargs Ts bs)

fair_definition_type : {n k : ℕ} (i m : ℕ) (o : Option (ℕ × Term)) → IsFair n k (λ u. definition_type i m o u) (λ u. definition_type i m o u)
fair_definition_type i m None = fair_refused (BadNumber i m)
fair_definition_type i m (Some p) = fair_done p.1

fair_rule : {n k : ℕ} (E : Env) (inf : Typing) (cmp : Comparison) → FairTyping n k inf → FairComparison n k cmp → (c : Context) (t : Term) →
    IsFair n k (λ u. rule E inf cmp c t u) (λ u. rule E inf cmp c t u)
fair_rule E inf cmp h g c (Rel i) = fair_rel c i (type_at c i)
fair_rule E inf cmp h g c (SortT s) = fair_sort E s
fair_rule E inf cmp h g c (Prod A B) =
    fair_bind _ _ _ _ (fair_sort_of E inf h c A) (λ s. fair_bind _ _ _ _ (fair_sort_of E inf h (Assumed A ∷ c) B) (λ r. fair_done (SortT (product_sort s r))))
fair_rule E inf cmp h g c (Lambda A b) =
    fair_bind _ _ _ _ (fair_sort_of E inf h c A) (λ s. fair_bind _ _ _ _ (h.at (Assumed A ∷ c) b) (λ B. fair_make (Prod A B)))
fair_rule E inf cmp h g c (LetIn b B t) =
    fair_bind _ _ _ _ (fair_sort_of E inf h c B) (λ x. fair_bind _ _ _ _ (fair_check E inf cmp h g c b B)
    (λ y. fair_bind _ _ _ _ (h.at (Defined b B ∷ c) t) (λ T. fair_make (LetIn b B T))))
fair_rule E inf cmp h g c (App f a) =
    fair_bind _ _ _ _ (h.at c f) (λ T. fair_bind _ _ _ _ (fair_whnf E (values c) T) (λ W. fair_app_found E inf cmp h g c a T W))
fair_rule E inf cmp h g c (Const l) = fair_const l (kept_at E.declarations l)
fair_rule E inf cmp h g c (Ind f) =
    fair_bind _ _ _ _ (fair_find_family f (known_block (kept_at E.declarations f.block))) (λ F. fair_make (family_type F))
fair_rule E inf cmp h g c (Construct f m) =
    fair_bind _ _ _ _ (fair_find_family f (whole_block (kept_at E.declarations f.block))) (λ F.
    fair_bind _ _ _ _ (fair_constructor F m (slice_get F.constructors m)) (λ C. fair_make (constructor_type f F C)))
fair_rule E inf cmp h g c (Case f ps m ret t bs) = fair_case E inf cmp h g c f ps m ret t bs
fair_rule E inf cmp h g c (Fix i rargs types bodies) =
    fair_bind _ _ _ _ (fair_types E inf h c 0 (list_of types)) (λ x.
    fair_bind _ _ _ _ (fair_definitions E inf cmp h g (definitions c 0 types) (length rargs) 0 rargs (list_of types) (list_of bodies)) (λ y.
    fair_bind _ _ _ _ (fair_guard E (values c) rargs bodies) (λ z. fair_definition_type i (length rargs) (term_at types i))))

pub fair_infer : {n k : ℕ} (E : Env) (q : Test) (m : ℕ) (c : Context) (t : Term) → IsFair n k (λ u. infer E q m c t u) (λ u. infer E q m c t u)
unfolding infer
fair_infer E q zero c t = fair_ticking _ _ fair_nested
fair_infer E q (suc m) c t =
    fair_ticking _ _ (fair_noted (rule_number t) _ _
    (fair_rule E (infer E q m) (compare E q m) (record { at = fair_infer E q m }) (record { at = fair_compare E q m }) c t))

-- blocks

fair_distinct : {n k : ℕ} (before Cs : List Constructor) → IsFair n k (λ u. distinct_names before Cs u) (λ u. distinct_names before Cs u)
fair_distinct before [] = fair_done tt
fair_distinct before (C ∷ Cs) = fair_if (has_name C.name before) _ _ _ _ (fair_refused (DuplicateName C.name.0)) (fair_distinct (C ∷ before) Cs)

fair_family_heads : {n k : ℕ} (E : Env) (inf : Typing) → FairTyping n k inf → (B : Block) (Fs : List Family) → IsFair n k (λ u. family_heads E inf B Fs u) (λ u. family_heads E inf B Fs u)
fair_family_heads E inf h B [] = fair_done tt
fair_family_heads E inf h B (F ∷ Fs) =
    fair_bind _ _ _ _ (fair_bind _ _ _ _ (fair_distinct [] F.ctors) (λ x. fair_bind _ _ _ _ (fair_levels (undeclared_in E.levels F.sort)) (λ y.
    fair_bind _ _ _ _ (fair_sorts_of E inf h (extend [] B.params) F.indices) (λ ss. fair_done tt)))) (λ z. fair_family_heads E inf h B Fs)

fair_fits_sort : {n k : ℕ} (q : Test) (r s : Sort) → IsFair n k (λ u. fits_sort q r s u) (λ u. fits_sort q r s u)
fair_fits_sort q Prop s = fair_done tt
fair_fits_sort q (Of w) s = fair_if (sort_below q s (Of w)) _ _ _ _ (fair_done tt) (fair_refused (SortTooSmall s (Of w)))

fair_arguments : {n k : ℕ} (H : Env) (q : Test) (inf : Typing) → FairTyping n k inf → (l : Name) (f m : ℕ) (r : Sort) (c : Context) (As : List Term) →
    IsFair n k (λ u. arguments_rule H q inf l f m r c As u) (λ u. arguments_rule H q inf l f m r c As u)
unfolding arguments_rule
fair_arguments H q inf h l f m r c [] = fair_done []
fair_arguments H q inf h l f m r c (A ∷ As) =
    fair_bind _ _ _ _ (fair_sort_of H inf h c A) (λ s.
    fair_bind _ _ _ _ (fair_fits_sort q r s) (λ x.
    fair_bind _ _ _ _ (fair_bind _ _ _ _ (fair_positive H l A) (λ b. fair_if b _ _ _ _ (fair_done tt) (fair_refused (NotPositive f m)))) (λ y.
    fair_bind _ _ _ _ (fair_arguments H q inf h l f m r (Assumed A ∷ c) As) (λ ss. fair_done (s ∷ ss)))))

fair_constructor_rule : {n k : ℕ} (H : Env) (q : Test) (inf : Typing) (cmp : Comparison) → FairTyping n k inf → FairComparison n k cmp → (B : Block) (F : Family) (f m : ℕ)
    (C : Constructor) → IsFair n k (λ u. constructor_rule H q inf cmp B F f m C u) (λ u. constructor_rule H q inf cmp B F f m C u)
fair_constructor_rule H q inf cmp h g B F f m C =
    fair_bind _ _ _ _ (fair_arguments H q inf h B.name f m F.sort (extend [] B.params) C.args) (λ ss.
    fair_bind _ _ _ _ (fair_counted (length F.indices) (length C.result)) (λ x.
    fair_bind _ _ _ _ (fair_check_all H inf cmp h g (extend (extend [] B.params) C.args) (λ i. Rel (length C.args + i)) C.result F.indices) (λ y.
    fair_bind _ _ _ _ (fair_if (some_names (Families B.name) 0 C.result) _ _ _ _ (fair_refused (NotPositive f m)) (fair_done tt)) (λ z. fair_done (with_sorts C ss)))))

fair_constructors : {n k : ℕ} (H : Env) (q : Test) (inf : Typing) (cmp : Comparison) → FairTyping n k inf → FairComparison n k cmp → (B : Block) (F : Family) (f m : ℕ)
    (Cs : List Constructor) → IsFair n k (λ u. constructors_rule H q inf cmp B F f m Cs u) (λ u. constructors_rule H q inf cmp B F f m Cs u)
unfolding constructors_rule
fair_constructors H q inf cmp h g B F f m [] = fair_done []
fair_constructors H q inf cmp h g B F f m (C ∷ Cs) =
    fair_bind _ _ _ _ (fair_constructor_rule H q inf cmp h g B F f m C) (λ D. fair_bind _ _ _ _ (fair_constructors H q inf cmp h g B F f (suc m) Cs) (λ Ds. fair_done (D ∷ Ds)))

fair_families : {n k : ℕ} (H : Env) (q : Test) (inf : Typing) (cmp : Comparison) → FairTyping n k inf → FairComparison n k cmp → (B : Block) (f : ℕ) (Fs : List Family) →
    IsFair n k (λ u. families_rule H q inf cmp B f Fs u) (λ u. families_rule H q inf cmp B f Fs u)
unfolding families_rule
fair_families H q inf cmp h g B f [] = fair_done []
fair_families H q inf cmp h g B f (F ∷ Fs) =
    fair_bind _ _ _ _ (fair_constructors H q inf cmp h g B F f 0 F.ctors) (λ Cs.
    fair_bind _ _ _ _ (fair_families H q inf cmp h g B (suc f) Fs) (λ Gs. fair_done (with_constructors F Cs ∷ Gs)))

pub fair_block : {n k : ℕ} (E : Env) (q : Test) (m : ℕ) (B : Block) → IsFair n k (λ u. block_rule E q m B u) (λ u. block_rule E q m B u)
fair_block E q m B =
    fair_bind _ _ _ _ (fair_bind _ _ _ _ (fair_sorts_of E (infer E q m) (record { at = fair_infer E q m }) [] B.params)
    (λ ss. fair_family_heads E (infer E q m) (record { at = fair_infer E q m }) B B.families)) (λ x.
    fair_bind _ _ _ _ (fair_families (with_heads E B) q (infer (with_heads E B) q m) (compare (with_heads E B) q m)
    (record { at = fair_infer (with_heads E B) q m }) (record { at = fair_compare (with_heads E B) q m }) B 0 B.families) (λ Fs. fair_done (with_families B Fs)))

-- what runs leave, from one account

pub inferring_fair : {n k : ℕ} (E : Env) (q : Test) (m : ℕ) → FairTyping n k (infer E q m)
inferring_fair E q m = record { at = fair_infer E q m }

pub conv_leaves : (u : Account) → Leaves (conv u).end u.left
conv_leaves u = (fair_conv {n = 0} {k = 0}).falls u

pub sort_found_leaves : (inf : Typing) → FairTyping 0 0 inf → (c : Context) (T W : Term) (u : Account) → Leaves (sort_found inf c T W u).end u.left
sort_found_leaves inf h c T W u = (fair_sort_found {n = 0} {k = 0} inf h c T W).falls u

pub sort_of_leaves : (E : Env) (inf : Typing) → FairTyping 0 0 inf → (c : Context) (A : Term) (u : Account) → Leaves (sort_of E inf c A u).end u.left
sort_of_leaves E inf h c A u = (fair_sort_of {n = 0} {k = 0} E inf h c A).falls u

pub check_leaves : (E : Env) (inf : Typing) (cmp : Comparison) → FairTyping 0 0 inf → FairComparison 0 0 cmp → (c : Context) (t T : Term) (u : Account) → Leaves (check E inf cmp c t T u).end u.left
check_leaves E inf cmp h g c t T u = (fair_check {n = 0} {k = 0} E inf cmp h g c t T).falls u

pub retype_leaves : (E : Env) (inf : Typing) → FairTyping 0 0 inf → (c : Context) (T W : Term) (u : Account) → Leaves (retype E inf c T W u).end u.left
retype_leaves E inf h c T W u = (fair_retype {n = 0} {k = 0} E inf h c T W).falls u

pub rel_leaves : (c : Context) (i : ℕ) (o : Option Term) (u : Account) → Leaves (rel_rule c i o u).end u.left
rel_leaves c i o u = (fair_rel {n = 0} {k = 0} c i o).falls u

pub levels_leave : (o : Option Level) (u : Account) → Leaves (levels_declared o u).end u.left
levels_leave o u = (fair_levels {n = 0} {k = 0} o).falls u

pub app_found_leaves : (E : Env) (inf : Typing) (cmp : Comparison) → FairTyping 0 0 inf → FairComparison 0 0 cmp → (c : Context) (a T W : Term) (u : Account) → Leaves (app_found E inf cmp c a T W u).end u.left
app_found_leaves E inf cmp h g c a T W u = (fair_app_found {n = 0} {k = 0} E inf cmp h g c a T W).falls u

pub const_leaves : (l : Name) (o : Option Kept) (u : Account) → Leaves (const_rule l o u).end u.left
const_leaves l o u = (fair_const {n = 0} {k = 0} l o).falls u

pub family_number_leaves : (B : Block) (f : FamilyId) (o : Option FamilyDecl) (u : Account) → Leaves (family_number B f o u).end u.left
family_number_leaves B f o u = (fair_number {n = 0} {k = 0} B f o).falls u

pub find_family_leaves : (f : FamilyId) (o : Option Block) (u : Account) → Leaves (find_family f o u).end u.left
find_family_leaves f o u = (fair_find_family {n = 0} {k = 0} f o).falls u

pub constructor_number_leaves : (F : FamilyDecl) (m : ℕ) (o : Option Constructor) (u : Account) → Leaves (constructor_number F m o u).end u.left
constructor_number_leaves F m o u = (fair_constructor {n = 0} {k = 0} F m o).falls u

pub names_counted_leaves : (Cs : List Constructor) (ns : List ℕ) (u : Account) → Leaves (names_counted Cs ns u).end u.left
names_counted_leaves Cs ns u = (fair_names {n = 0} {k = 0} Cs ns).falls u

pub check_all_leaves : (E : Env) (inf : Typing) (cmp : Comparison) → FairTyping 0 0 inf → FairComparison 0 0 cmp → (c : Context) (s : ℕ → Term) (ts As : List Term) (u : Account) → Leaves (check_all E inf cmp c s ts As u).end u.left
check_all_leaves E inf cmp h g c s ts As u = (fair_check_all {n = 0} {k = 0} E inf cmp h g c s ts As).falls u

pub sorts_of_leaves : (E : Env) (inf : Typing) → FairTyping 0 0 inf → (c : Context) (As : List Term) (u : Account) → Leaves (sorts_of E inf c As u).end u.left
sorts_of_leaves E inf h c As u = (fair_sorts_of {n = 0} {k = 0} E inf h c As).falls u

pub branches_leave : (E : Env) (inf : Typing) (cmp : Comparison) → FairTyping 0 0 inf → FairComparison 0 0 cmp → (c : Context) (f : FamilyId) (m : ℕ) (Cs : List Constructor) (ps : List Term) (ret : Term) (bs : List Term) (u : Account) →
    Leaves (branches_rule E inf cmp c f m Cs ps ret bs u).end u.left
branches_leave E inf cmp h g c f m Cs ps ret bs u = (fair_branches {n = 0} {k = 0} E inf cmp h g c f m Cs ps ret bs).falls u

pub types_leave : (E : Env) (inf : Typing) → FairTyping 0 0 inf → (c : Context) (m : ℕ) (Ts : List Term) (u : Account) → Leaves (types_rule E inf c m Ts u).end u.left
types_leave E inf h c m Ts u = (fair_types {n = 0} {k = 0} E inf h c m Ts).falls u

pub enough_leaves : (d : ℕ) (o : Option (Context × Term)) (u : Account) → Leaves (enough_abstractions d o u).end u.left
enough_leaves d o u = (fair_enough {n = 0} {k = 0} d o).falls u

pub definitions_leave : (E : Env) (inf : Typing) (cmp : Comparison) → FairTyping 0 0 inf → FairComparison 0 0 cmp → (c : Context) (m d : ℕ) (rargs : List ℕ) (Ts bs : List Term) (u : Account) → Leaves (definitions_rule E inf cmp c m d rargs Ts bs u).end u.left
definitions_leave E inf cmp h g c m d rargs Ts bs u = (fair_definitions {n = 0} {k = 0} E inf cmp h g c m d rargs Ts bs).falls u

pub definition_type_leaves : (i m : ℕ) (o : Option (ℕ × Term)) (u : Account) → Leaves (definition_type i m o u).end u.left
definition_type_leaves i m o u = (fair_definition_type {n = 0} {k = 0} i m o).falls u

pub rule_leaves : (E : Env) (inf : Typing) (cmp : Comparison) → FairTyping 0 0 inf → FairComparison 0 0 cmp → (c : Context) (t : Term) (u : Account) → Leaves (rule E inf cmp c t u).end u.left
rule_leaves E inf cmp h g c t u = (fair_rule {n = 0} {k = 0} E inf cmp h g c t).falls u

pub infer_leaves : (E : Env) (q : Test) (m : ℕ) (c : Context) (t : Term) (u : Account) → Leaves (infer E q m c t u).end u.left
infer_leaves E q m c t u = (fair_infer {n = 0} {k = 0} E q m c t).falls u

pub distinct_leaves : (before Cs : List Constructor) (u : Account) → Leaves (distinct_names before Cs u).end u.left
distinct_leaves before Cs u = (fair_distinct {n = 0} {k = 0} before Cs).falls u

pub family_heads_leave : (E : Env) (inf : Typing) → FairTyping 0 0 inf → (B : Block) (Fs : List Family) (u : Account) → Leaves (family_heads E inf B Fs u).end u.left
family_heads_leave E inf h B Fs u = (fair_family_heads {n = 0} {k = 0} E inf h B Fs).falls u

pub fits_sort_leaves : (q : Test) (r s : Sort) (u : Account) → Leaves (fits_sort q r s u).end u.left
fits_sort_leaves q r s u = (fair_fits_sort {n = 0} {k = 0} q r s).falls u

pub arguments_leave : (H : Env) (q : Test) (inf : Typing) → FairTyping 0 0 inf → (l : Name) (f m : ℕ) (r : Sort) (c : Context) (As : List Term) (u : Account) → Leaves (arguments_rule H q inf l f m r c As u).end u.left
arguments_leave H q inf h l f m r c As u = (fair_arguments {n = 0} {k = 0} H q inf h l f m r c As).falls u

pub constructors_leave : (H : Env) (q : Test) (inf : Typing) (cmp : Comparison) → FairTyping 0 0 inf → FairComparison 0 0 cmp → (B : Block) (F : Family) (f m : ℕ) (Cs : List Constructor) (u : Account) → Leaves (constructors_rule H q inf cmp B F f m Cs u).end u.left
constructors_leave H q inf cmp h g B F f m Cs u = (fair_constructors {n = 0} {k = 0} H q inf cmp h g B F f m Cs).falls u

pub families_leave : (H : Env) (q : Test) (inf : Typing) (cmp : Comparison) → FairTyping 0 0 inf → FairComparison 0 0 cmp → (B : Block) (f : ℕ) (Fs : List Family) (u : Account) → Leaves (families_rule H q inf cmp B f Fs u).end u.left
families_leave H q inf cmp h g B f Fs u = (fair_families {n = 0} {k = 0} H q inf cmp h g B f Fs).falls u

pub block_leaves : (E : Env) (q : Test) (m : ℕ) (B : Block) (u : Account) → Leaves (block_rule E q m B u).end u.left
block_leaves E q m B u = (fair_block {n = 0} {k = 0} E q m B).falls u

pub body_rule_leaves : (E : Env) (inf : Typing) (cmp : Comparison) → FairTyping 0 0 inf → FairComparison 0 0 cmp → (T : Term) (b : Option Term) (u : Account) →
    Leaves (body_rule E inf cmp T b u).end u.left
body_rule_leaves E inf cmp h g T None u = same_left u
body_rule_leaves E inf cmp h g T (Some b) u = check_leaves E inf cmp h g [] b T u

pub fresh_name_leaves : (o : Option Kept) (l : Name) (u : Account) → Leaves (fresh_name o l u).end u.left
fresh_name_leaves None l u = same_left u
fresh_name_leaves (Some d) l u = same_left u

pub ruleset leaving_sorts = (conv_leaves, sort_found_leaves, sort_of_leaves, sorts_of_leaves, levels_leave, check_leaves, check_all_leaves, retype_leaves)

pub ruleset leaving_terms = (
  rel_leaves,
  app_found_leaves,
  const_leaves,
  family_number_leaves,
  find_family_leaves,
  constructor_number_leaves,
  names_counted_leaves,
  branches_leave,
  types_leave,
  enough_leaves,
  definitions_leave,
  definition_type_leaves,
  rule_leaves,
  infer_leaves,
  inferring_fair,
)

pub ruleset leaving_blocks =
    (distinct_leaves, family_heads_leave, fits_sort_leaves, arguments_leave, constructors_leave, families_leave, block_leaves, body_rule_leaves, fresh_name_leaves)

pub ruleset leaving_typing = (leaving_sorts, leaving_terms, leaving_blocks)
