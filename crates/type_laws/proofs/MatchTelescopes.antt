-- The entries of a match's predicate and branches have sorts, and so has the type of a branch.
use Rattle.std.specs.Prelude.{ℕ, zero, suc, ◌+◌, ◌≡◌, List, [], ◌∷◌, ◌++◌, map, Some, length, slice_get}
use Rattle.std.proofs.Common.{refl, sym, ap, ◌∙◌, subst, arith}
use mathlib.Core.Path.{fun_ext}
use Rattle.universe_levels.specs.declared.sort.Sort.{Sort}
use Rattle.pc_terms.specs.declared.leaf.FamilyId.{FamilyId}
use Rattle.pc_terms.specs.Syntax.{Term, Rel, SortT, Prod, App, Ind, Construct, rename, up, over, overs, first, put, put_all, substitute, shift, apply, variables}
use Rattle.trees.proofs.Fusion.{rename_same, rename-rename, substitute-rename, substitute-substitute, substitute_rel}
use Rattle.trees.proofs.Put.{each_append, each_length, substitute_same, overs_over, agree_none}
use Rattle.calculus_rules.specs.declared.entry.Entry.TheVariants.{Assumed}
use Rattle.calculus_rules.specs.declared.declaration.Constructor.{Constructor}
use Rattle.calculus_rules.specs.Environment.{Env, FamilyDecl, KeepsFamily}
use Rattle.calculus_rules.specs.Context.{Context, values, extend}
use Rattle.calculus_rules.specs.Instances.{products, entries_at, predicate_entries, branch_entries, result_at, built_at, branch_type}
use Rattle.calculus_rules.specs.Conversion.{Equal, step}
use Rattle.calculus_rules.specs.Step.{variable}
use Rattle.calculus_rules.specs.Typing.{bare, Types, rel, app, ind, construct, TypesAll, no_terms, term, Entries, no_entries, entry}
use Rattle.calculus_rules.specs.Accepted.{IsAccepted}
use Rattle.typing_laws.proofs.ClosedEnv.{ClosedFamily}
use Rattle.typing_laws.proofs.AcceptedClosed.{accepted_closed}
use Rattle.typing_laws.proofs.Generating.{of_prod}
use Rattle.typing_laws.proofs.Telescopes.{substituted_entries, entries_at_length, each_lift-substitute, substitute_predicate_entries}
use Rattle.typing_laws.proofs.Traversal.{types_at, equal_at, substitute_types, substitute_types_all, substitute_equal, types_length}
use Rattle.typing_laws.proofs.RenamingAndPutting.{weaken_types, PutsEntries, putting, putting_values}
use Rattle.typing_laws.proofs.PuttingAll.{puts_all}
use Rattle.equality_laws.proofs.Spines.{apply-append}
use Rattle.type_laws.specs.Contexts.{HasSort, IsContext}
use Rattle.type_laws.proofs.ContextConversion.{context_extended}
use Rattle.type_laws.proofs.EnvironmentSorts.{kept_is_known}
use Rattle.type_laws.proofs.TelescopeParts.{entries_append}
use Rattle.type_laws.proofs.PutLists.{variables_put}
use Rattle.type_laws.proofs.Spines.{spine_typed}
use Rattle.type_laws.proofs.Validity.{scrutinee_fits, types_have_sorts}
use Rattle.type_laws.proofs.Over.{Over, over_none, over_types, over_equal, over_extend}
use Rattle.calculus_rules.proofs.Spines.{substitute-apply}

-- terms

pub shift_none : (t : Term) → shift 0 0 t ≡ t
shift_none t = ap (λ r. rename r t) (fun_ext zero_more) ∙ rename_same t
  where
    zero_more : (i : ℕ) → 0 + i ≡ i
    zero_more i = omega arith

shift-apply : (n : ℕ) (f : Term) (xs : List Term) → shift n 0 (apply f xs) ≡ apply (shift n 0 f) (map (shift n 0) xs)
shift-apply n f [] = refl
shift-apply n f (x ∷ xs) = shift-apply n (App f x) xs

pub substitute-products : (As : List Term) (s : ℕ → Term) (T : Term) → substitute s (products As T) ≡ products (entries_at s As) (substitute (overs (length As) s) T)
substitute-products [] s T = refl
substitute-products (A ∷ As) s T =
    ap (Prod (substitute s A)) (substitute-products As (over s) T ∙ ap (λ s'. products (entries_at (over s) As) (substitute s' T)) (overs_over (length As) s))

-- what a product over a telescope says of it

record ProductsSorted (E : Env) (c : Context) (As : List Term) (T : Term) : Type 0 where
  entries : Entries bare E c As
  result : HasSort E (extend c As) T

products_parts : {E : Env} (As : List Term) {c : Context} {T : Term} {s : Sort} → Types bare E c (products As T) (SortT s) → ProductsSorted E c As T
products_parts [] d = record { entries = no_entries; result = (_, d) }
products_parts (A ∷ As) d =
    let r = of_prod d in
    let rest = products_parts As r.codomain in
    record { entries = entry r.domain rest.entries; result = rest.result }

-- a function of a telescope's products, at the telescope's variables

variable_back : (P : Term) → substitute (put (Rel 0)) (rename (up suc) P) ≡ P
variable_back P = substitute-rename P (up suc) (put (Rel 0)) ∙ ap (λ s. substitute s P) (fun_ext each) ∙ substitute_same P
  where
    innermost : Term
    innermost = Rel 0

    each : (i : ℕ) → put innermost (up suc i) ≡ Rel i
    each zero = refl
    each (suc i) = refl

next_head : (n : ℕ) (g : Term) → shift n 0 (App (rename suc g) (Rel 0)) ≡ App (shift (suc n) 0 g) (Rel n)
next_head n g = λ i. App ((rename-rename g suc (λ j. n + j) ∙ ap (λ r. rename r g) (fun_ext each)) i) (Rel (last i))
  where
    each : (j : ℕ) → n + suc j ≡ suc n + j
    each j = omega arith

    last : n + 0 ≡ n
    last = omega arith

own_variables : {E : Env} → IsAccepted E → (As : List Term) {c : Context} (g T : Term) → Types bare E c g (products As T) →
    Types bare E (extend c As) (apply (shift (length As) 0 g) (variables (length As))) T
own_variables h [] g T d = types_at (sym (shift_none g)) refl d
own_variables {E} h (A ∷ As) {c} g T d =
    types_at (ap (λ f. apply f (variables (length As))) (next_head (length As) g)) refl
    (own_variables h As (App (rename suc g) (Rel 0)) T
    (types_at refl (variable_back (products As T)) (app (weaken_types (accepted_closed E h) d (Assumed A)) (rel refl))))

-- the family and a constructor at the parameters

pub family_at_parameters : {E : Env} → IsAccepted E → {c : Context} {f : FamilyId} {F : FamilyDecl} {ps : List Term} → KeepsFamily E f F → TypesAll bare E c Rel ps F.parameters →
    Types bare E c (apply (Ind f) ps) (products (entries_at (put_all ps Rel) F.indices) (SortT F.sort))
family_at_parameters {E} h {c} {f} {F} {ps} q fit =
    types_at refl (substitute-products F.indices (put_all ps Rel) (SortT F.sort))
    (spine_typed E h c (Ind f) F.parameters ps (products F.indices (SortT F.sort)) (ind (kept_is_known E f F q)) fit)

pub predicate_sorted : {E : Env} → IsAccepted E → {c : Context} {f : FamilyId} {F : FamilyDecl} {ps : List Term} → IsContext E c → KeepsFamily E f F → TypesAll bare E c Rel ps F.parameters →
    Entries bare E c (predicate_entries f F ps)
predicate_sorted {E} h {c} {f} {F} {ps} k q fit =
    let d = family_at_parameters h q fit in
    let r = products_parts As (types_have_sorts E h c (apply (Ind f) ps) (products As (SortT F.sort)) k d).1 in
    entries_append c As _ r.entries (entry (types_at last refl (own_variables h As (apply (Ind f) ps) (SortT F.sort) d)) no_entries)
  where
    As : List Term
    As = entries_at (put_all ps Rel) F.indices

    last : apply (shift (length As) 0 (apply (Ind f) ps)) (variables (length As)) ≡ apply (Ind f) (map (shift (length F.indices) 0) ps ++ variables (length F.indices))
    last =
        ap (λ n. apply (shift n 0 (apply (Ind f) ps)) (variables n)) (entries_at_length (put_all ps Rel) F.indices)
        ∙ ap (λ g. apply g (variables (length F.indices))) (shift-apply (length F.indices) (Ind f) ps)
        ∙ sym (apply-append (Ind f) (map (shift (length F.indices) 0) ps) (variables (length F.indices)))

-- the result of a constructor at the parameters
result_there : (f : FamilyId) (F : FamilyDecl) (C : Constructor) (ps : List Term) → length ps ≡ length F.parameters →
    substitute (overs (length C.args) (put_all ps Rel)) (apply (Ind f) (map (shift (length C.args) 0) (variables (length F.parameters)) ++ C.result))
    ≡ apply (Ind f) (map (shift (length C.args) 0) ps ++ result_at C ps)
result_there f F C ps l =
    substitute-apply s (Ind f) (map (shift m 0) (variables (length F.parameters)) ++ C.result)
    ∙ ap (apply (Ind f)) (each_append (substitute s) (map (shift m 0) (variables (length F.parameters))) C.result
    ∙ ap (λ xs. xs ++ result_at C ps) (each_lift-substitute m (put_all ps Rel) (variables (length F.parameters))
    ∙ ap (map (shift m 0)) (ap (λ n. map (substitute (put_all ps Rel)) (variables n)) (sym l) ∙ variables_put ps Rel)))
  where
    m : ℕ
    m = length C.args

    s : ℕ → Term
    s = overs (length C.args) (put_all ps Rel)

-- a constructor at the parameters of a match: its branch's entries have sorts, and what it builds has, at their variables, the family at its result
pub record BranchSorts (E : Env) (c : Context) (f : FamilyId) (n : ℕ) (C : Constructor) (ps : List Term) : Type 0 where
  pub entries : Entries bare E c (branch_entries C ps)
  pub family : HasSort E (extend c (branch_entries C ps)) (apply (Ind f) (map (shift (length C.args) 0) ps ++ result_at C ps))
  pub built : Types bare E (extend c (branch_entries C ps)) (built_at f n C ps) (apply (Ind f) (map (shift (length C.args) 0) ps ++ result_at C ps))

pub branch_sorts : {E : Env} → IsAccepted E → {c : Context} {f : FamilyId} {F : FamilyDecl} {n : ℕ} {C : Constructor} {ps : List Term} → IsContext E c → KeepsFamily E f F →
    slice_get F.constructors n ≡ Some C → TypesAll bare E c Rel ps F.parameters → BranchSorts E c f n C ps
branch_sorts {E} h {c} {f} {F} {n} {C} {ps} k q e fit =
    let d : Types bare E c (apply (Construct f n) ps) (products As R) =
    types_at refl (substitute-products C.args (put_all ps Rel) _ ∙ ap (products As) (result_there f F C ps (types_length fit)))
    (spine_typed E h c (Construct f n) F.parameters ps (products C.args _) (construct q e) fit) in
    let r = products_parts As (types_have_sorts E h c (apply (Construct f n) ps) (products As R) k d).1 in
    record {
      entries = r.entries;
      family = r.result;
      built = types_at last refl (own_variables h As (apply (Construct f n) ps) R d);
    }
  where
    As : List Term
    As = branch_entries C ps

    R : Term
    R = apply (Ind f) (map (shift (length C.args) 0) ps ++ result_at C ps)

    last : apply (shift (length As) 0 (apply (Construct f n) ps)) (variables (length As)) ≡ built_at f n C ps
    last =
        ap (λ n'. apply (shift n' 0 (apply (Construct f n) ps)) (variables n')) (entries_at_length (put_all ps Rel) C.args)
        ∙ ap (λ g. apply g (variables (length C.args))) (shift-apply (length C.args) (Construct f n) ps)
        ∙ sym (apply-append (Construct f n) (map (shift (length C.args) 0) ps) (variables (length C.args)))

-- the predicate's entries, in the branch's context

abbrev past : ℕ → ℕ → Term
past n i = Rel (n + i)

over_puts : {E : Env} → IsAccepted E → {c d : Context} {n : ℕ} → Over c n d → PutsEntries E (past n) c d
over_puts {E} h {c} {d} {n} o = record {
  at_values = λ i v e. equal_at refl (sym (substitute_rel v (λ i. n + i))) (over_equal h o (step (variable e)));
  at_types = λ i T e. types_at refl (sym (substitute_rel T (λ i. n + i))) (over_types h o (rel e));
}

-- terms for a telescope in which terms are put in have its types where those are put in
all_before : {E : Env} {d : Context} {xs : List Term} (As : List Term) (q s p : ℕ → Term) → ((i : ℕ) → substitute q (s i) ≡ p i) → TypesAll bare E d q xs (substituted_entries s As) →
    TypesAll bare E d p xs As
all_before [] q s p g no_terms = no_terms
all_before (A ∷ As) q s p g (term {t = t} a rest) =
    term (types_at refl (substitute-substitute A s q ∙ ap (λ r. substitute r A) (fun_ext g)) a) (all_before As (first t q) (over s) (first t p) later rest)
  where
    later : (i : ℕ) → substitute (first t q) (over s i) ≡ first t p i
    later zero = refl
    later (suc i) = substitute-rename (s i) suc (first t q) ∙ g i

pub branch_puts : {E : Env} → IsAccepted E → {c : Context} {f : FamilyId} {F : FamilyDecl} (n : ℕ) {C : Constructor} {ps : List Term} → IsContext E c → KeepsFamily E f F →
    slice_get F.constructors n ≡ Some C → TypesAll bare E c Rel ps F.parameters →
    PutsEntries E (put_all (result_at C ps ++ (built_at f n C ps ∷ [])) (λ i. Rel (length C.args + i))) (extend c (predicate_entries f F ps)) (extend c (branch_entries C ps))
branch_puts {E} h {c} {f} {F} n {C} {ps} k q e fit =
    puts_all base (all_before (predicate_entries f F ps) Rel (past m) (past m) (λ i. refl)
    (subst (TypesAll bare E d Rel (result_at C ps ++ (built_at f n C ps ∷ []))) there
    (scrutinee_fits E h d f F (map (shift m 0) ps) (result_at C ps) (built_at f n C ps) (context_extended E c (branch_entries C ps) k b.entries) q
    (each_length (substitute (overs m (put_all ps Rel))) C.result ∙ closed.counts n C e) fit_there b.family b.built)))
  where
    m : ℕ
    m = length C.args

    d : Context
    d = extend c (branch_entries C ps)

    closed : ClosedFamily F
    closed = (accepted_closed E h).families f F q

    b : BranchSorts E c f n C ps
    b = branch_sorts h k q e fit

    as_many : length (branch_entries C ps) + 0 ≡ m
    as_many = omega (arith, entries_at_length (put_all ps Rel) C.args)

    base : PutsEntries E (past m) c d
    base = over_puts h (over_extend (branch_entries C ps) (over_none c) m as_many)

    shifted : map (substitute (past m)) ps ≡ map (shift m 0) ps
    shifted = ap (λ g. map g ps) (fun_ext (λ t. substitute_rel t (λ i. m + i)))

    fit_there : TypesAll bare E d Rel (map (shift m 0) ps) F.parameters
    fit_there =
        subst (λ ps. TypesAll bare E d Rel ps F.parameters) shifted
        (substitute_types_all (putting E (accepted_closed E h)) (accepted_closed E h) fit 0 Rel (past m) d base (agree_none (past m) Rel) closed.parameters)

    there : predicate_entries f F (map (shift m 0) ps) ≡ substituted_entries (past m) (predicate_entries f F ps)
    there = ap (predicate_entries f F) (sym shifted) ∙ sym (substitute_predicate_entries f F ps (past m) closed (types_length fit))

-- the type of a branch has the predicate's sort
pub branch_type_sorted : {E : Env} → IsAccepted E → {c : Context} {f : FamilyId} {F : FamilyDecl} (n : ℕ) {C : Constructor} {ps : List Term} {ret : Term} {s : Sort} → IsContext E c →
    KeepsFamily E f F → slice_get F.constructors n ≡ Some C → TypesAll bare E c Rel ps F.parameters → Types bare E (extend c (predicate_entries f F ps)) ret (SortT s) →
    Types bare E (extend c (branch_entries C ps)) (branch_type f n C ps ret) (SortT s)
branch_type_sorted {E} h n k q e fit d = substitute_types (putting E (accepted_closed E h)) (accepted_closed E h) d _ _ (branch_puts h n k q e fit)

-- and is equal to that of an equal predicate
pub branch_type_equal : {E : Env} → IsAccepted E → {c : Context} {f : FamilyId} {F : FamilyDecl} (n : ℕ) {C : Constructor} {ps : List Term} {ret ret' : Term} → IsContext E c →
    KeepsFamily E f F → slice_get F.constructors n ≡ Some C → TypesAll bare E c Rel ps F.parameters → Equal E (values (extend c (predicate_entries f F ps))) ret ret' →
    Equal E (values (extend c (branch_entries C ps))) (branch_type f n C ps ret) (branch_type f n C ps ret')
branch_type_equal {E} h n k q e fit d = substitute_equal (putting_values E (accepted_closed E h)) (accepted_closed E h) d _ _ (branch_puts h n k q e fit).at_values
