-- A step in a part of a match keeps its types.
use Rattle.std.specs.Prelude.{ℕ, zero, suc, ◌+◌, ◌≡◌, List, [], ◌∷◌, ◌++◌, map, Some, None, length, slice_get}
use Rattle.std.proofs.Common.{refl, sym, ap, ◌∙◌, subst, arith}
use mathlib.Core.Path.{fun_ext}
use Rattle.universe_levels.specs.declared.sort.Sort.{Sort}
use Rattle.pc_terms.specs.declared.leaf.FamilyId.{FamilyId}
use Rattle.pc_terms.specs.Syntax.{Term, Terms, Next, Rel, SortT, App, Ind, Construct, Case, rename, over, put_all, substitute, shift, apply, variables, terms_of}
use Rattle.trees.proofs.Fusion.{rename-rename}
use Rattle.calculus_rules.specs.declared.entry.Entry.TheVariants.{Assumed}
use Rattle.calculus_rules.specs.declared.declaration.Constructor.{Constructor}
use Rattle.calculus_rules.specs.Environment.{Env, FamilyDecl, KeepsFamily}
use Rattle.calculus_rules.specs.Context.{Context, Values, values, under, extend}
use Rattle.calculus_rules.specs.Instances.{products, entries_at, predicate_entries, branch_entries, predicate_at, result_at, built_at, branch_type}
use Rattle.calculus_rules.specs.Conversion.{Equal, Below, equal, same, back}
use Rattle.calculus_rules.specs.Step.{Step}
use Rattle.calculus_rules.specs.Elimination.{MayEliminate}
use Rattle.calculus_rules.specs.Typing.{bare, Types, case, conv, TypesAll, Entries, no_entries, entry, Branches, no_branches, branch}
use Rattle.calculus_rules.specs.Accepted.{IsAccepted}
use Rattle.typing_laws.proofs.ClosedEnv.{ClosedEnv}
use Rattle.typing_laws.proofs.AcceptedClosed.{accepted_closed}
use Rattle.typing_laws.proofs.Generating.{of_case}
use Rattle.typing_laws.proofs.Telescopes.{entries_at_length, products_append}
use Rattle.typing_laws.proofs.Traversal.{types_at, equal_at, below_at, predicate_length, substitute_equal, types_length}
use Rattle.typing_laws.proofs.RenamingAndPutting.{weaken_equal, putting_values}
use Rattle.typing_laws.proofs.PuttingAll.{puts_none, puts_all}
use Rattle.type_laws.specs.Contexts.{IsContext}
use Rattle.equality_laws.specs.Laws.{EqualEach, no_terms, a_term}
use Rattle.type_laws.proofs.EqualLists.{each_equal_same, each_equal_append, equal_apply}
use Rattle.type_laws.proofs.ContextConversion.{ContextBelow, assume, context_same, context_extended, equal_in, types_in}
use Rattle.type_laws.proofs.EnvironmentSorts.{kept_is_known, parameters_sorted}
use Rattle.type_laws.proofs.Spines.{EqualAt, equal_over, equal_under, equal_put, each_put, put_equal, spine_types}
use Rattle.type_laws.proofs.Validity.{known_below, scrutinee_fits, types_have_sorts}
use Rattle.type_laws.proofs.MatchTelescopes.{shift_none, family_at_parameters, predicate_sorted, branch_sorts, branch_type_sorted, branch_type_equal}
use Rattle.type_laws.proofs.Kept.{Kept, Keeps, KeptTerms, kept_first, kept_rest, Covers, covers_extend, equal_covered, retyped, equal_below, app_function, app_argument}
use Rattle.calculus_rules.proofs.Telescopes.{under_none}

-- a match, put together again
case_again : {E : Env} {c : Context} {f : FamilyId} {F : FamilyDecl} {xs bs : Terms} {n : ℕ} {ret t : Term} {s : Sort} (ps is : List Term) → xs ≡ terms_of ps → KeepsFamily E f F →
    n ≡ suc (length F.indices) → length is ≡ length F.indices → TypesAll bare E c Rel ps F.parameters → Entries bare E c (predicate_entries f F ps) →
    Types bare E (extend c (predicate_entries f F ps)) ret (SortT s) → MayEliminate E f F s → Types bare E c t (apply (Ind f) (ps ++ is)) → Branches bare E c f ps ret 0 F.constructors bs →
    Types bare E c (Case f xs n ret t bs) (predicate_at ret is t)
case_again {f = f} {bs = bs} {n = n} {ret = ret} {t = t} ps is e q l m fit es p may d b =
    types_at (ap (λ xs. Case f xs n ret t bs) (sym e)) refl (case ps is q l m fit es p may d b)

-- the scrutinee

pub case_scrutinee : {E : Env} → IsAccepted E → {c : Context} {f : FamilyId} {ps bs : Terms} {n : ℕ} {ret t t' : Term} → IsContext E c → Equal E (values c) t t' → Kept E c t t' →
    Kept E c (Case f ps n ret t bs) (Case f ps n ret t' bs)
case_scrutinee {E} h {c} {ret = ret} {t = t} {t' = t'} k e keep T d =
    let g = of_case d in
    retyped h k d (case_again g.parameters g.indices g.are g.kept g.names g.count g.fit g.entries g.predicate g.may (keep _ g.scrutinee) g.branches)
    (equal_below (put_equal E h c (g.indices ++ (t ∷ [])) (g.indices ++ (t' ∷ [])) ret (each_equal_append (each_equal_same g.indices) (a_term e no_terms))) g.below)

-- the branches

branches_kept : {E : Env} {V : Values} {c : Context} {f : FamilyId} {ps : List Term} {ret : Term} {n : ℕ} {Cs : List Constructor} {bs bs' : Terms} → IsContext E c → Covers (values c) V →
    KeptTerms E V bs bs' → Branches bare E c f ps ret n Cs bs → Branches bare E c f ps ret n Cs bs'
branches_kept {E} {V} {c} k w (kept_first {n = m} q keep) (branch {ps = ps} {C = C} e es p rest) =
    let cover = subst (λ n. Covers (values (extend c (branch_entries C ps))) (under n V)) (entries_at_length (put_all ps Rel) C.args ∙ sym e) (covers_extend (branch_entries C ps) c w) in
    branch e es (keep (extend c (branch_entries C ps)) cover (context_extended E c (branch_entries C ps) k es) _ p) rest
branches_kept k w (kept_rest q) (branch e es p rest) = branch e es p (branches_kept k w q rest)

pub case_branches : {E : Env} → IsAccepted E → {c : Context} {f : FamilyId} {ps bs bs' : Terms} {n : ℕ} {ret t : Term} {V : Values} → IsContext E c → Covers (values c) V →
    KeptTerms E V bs bs' → Kept E c (Case f ps n ret t bs) (Case f ps n ret t bs')
case_branches h k w q T d =
    let g = of_case d in
    retyped h k d (case_again g.parameters g.indices g.are g.kept g.names g.count g.fit g.entries g.predicate g.may g.scrutinee (branches_kept k w q g.branches)) g.below

-- the predicate

-- the constructors from number n on
abbrev Constructors : FamilyDecl → ℕ → List Constructor → Type 0
Constructors F n Cs = (j m : ℕ) (C : Constructor) → n + j ≡ m → slice_get Cs j ≡ Some C → slice_get F.constructors m ≡ Some C

all_constructors : (F : FamilyDecl) → Constructors F 0 F.constructors
all_constructors F j m C e q = let z : j ≡ m = omega arith in subst (λ m. slice_get F.constructors m ≡ Some C) z q

first_constructor : (F : FamilyDecl) (n : ℕ) (C : Constructor) (Cs : List Constructor) → Constructors F n (C ∷ Cs) → slice_get F.constructors n ≡ Some C
first_constructor F n C Cs g = g 0 n C (omega arith) refl

later_constructors : (F : FamilyDecl) (n : ℕ) (C : Constructor) (Cs : List Constructor) → Constructors F n (C ∷ Cs) → Constructors F (suc n) Cs
later_constructors F n C Cs g j m D e q = g (suc j) m D (omega arith) q

branches_predicate : {E : Env} → IsAccepted E → {c : Context} {f : FamilyId} {F : FamilyDecl} {ps : List Term} {ret ret' : Term} {s : Sort} {Cs : List Constructor} {bs : Terms} → IsContext E c →
    KeepsFamily E f F → TypesAll bare E c Rel ps F.parameters → Equal E (values (extend c (predicate_entries f F ps))) ret ret' →
    Types bare E (extend c (predicate_entries f F ps)) ret' (SortT s) → {n : ℕ} → Branches bare E c f ps ret n Cs bs → Constructors F n Cs → Branches bare E c f ps ret' n Cs bs
branches_predicate h k q fit e d no_branches g = no_branches
branches_predicate h {F = F} k q fit e d (branch {n = n} {C = C} {Cs = Cs} m es p rest) g =
    let at = first_constructor F n C Cs g in
    branch m es (conv p (equal (branch_type_equal h n k q at fit e)) (branch_type_sorted h n k q at fit d)) (branches_predicate h k q fit e d rest (later_constructors F n C Cs g))

pub case_predicate : {E : Env} → IsAccepted E → {c : Context} {f : FamilyId} {ps bs : Terms} {n : ℕ} {ret ret' t : Term} {V : Values} → IsContext E c → Covers (values c) V →
    Step E (under n V) ret ret' → Keeps E (under n V) ret ret' → Kept E c (Case f ps n ret t bs) (Case f ps n ret' t bs)
case_predicate {E} h {c} {f = f} {n = n} {ret = ret} {ret' = ret'} {t = t} {V = V} k w p keep T d =
    let g = of_case d in
    let As : List Term = predicate_entries f g.family g.parameters in
    let long = predicate_length f g.family g.parameters ∙ sym g.names in
    let cover = subst (λ n. Covers (values (extend c As)) (under n V)) long (covers_extend As c w) in
    let e = equal_covered cover p in
    let q = keep (extend c As) cover (context_extended E c As k g.entries) _ g.predicate in
    let sorted = types_have_sorts E h c t (apply (Ind f) (g.parameters ++ g.indices)) k g.scrutinee in
    let xs : List Term = g.indices ++ (t ∷ []) in
    let fits = scrutinee_fits E h c f g.family g.parameters g.indices t k g.kept g.count g.fit sorted g.scrutinee in
    let there = substitute_equal (putting_values E (accepted_closed E h)) (accepted_closed E h) e (put_all xs Rel) (values c) (puts_all (puts_none c) fits).at_values in
    let bs = branches_predicate h k g.kept g.fit e q g.branches (all_constructors g.family) in
    retyped h k d (case_again g.parameters g.indices g.are g.kept g.names g.count g.fit g.entries q g.may g.scrutinee bs) (equal_below there g.below)

-- the parameters

-- lists of terms, one of which has a step that keeps types
data KeptEach (E : Env) (c : Context) : List Term → List Term → Type 0 where
  each_first : {x y : Term} {xs : List Term} → Equal E (values c) x y → Kept E c x y → KeptEach E c (x ∷ xs) (y ∷ xs)
  each_later : {x : Term} {xs ys : List Term} → KeptEach E c xs ys → KeptEach E c (x ∷ xs) (x ∷ ys)

record ListKept (E : Env) (c : Context) (ps : List Term) (qs : Terms) : Type 0 where
  list : List Term
  are : qs ≡ terms_of list
  kept : KeptEach E c ps list

list_kept : {E : Env} {c : Context} {V : Values} {qs : Terms} (ps : List Term) → IsContext E c → Covers (values c) V → KeptTerms E V (terms_of ps) qs → ListKept E c ps qs
list_kept [] k w q = elim q [ ]
list_kept {c = c} (x ∷ ps) k w (kept_first {u = y} q keep) = record { list = y ∷ ps; are = refl; kept = each_first (equal_covered w q) (keep c w k) }
list_kept (x ∷ ps) k w (kept_rest q) = let r = list_kept ps k w q in record { list = x ∷ r.list; are = ap (Next 0 x) r.are; kept = each_later r.kept }

each_kept_append : {E : Env} {c : Context} {xs ys : List Term} → KeptEach E c xs ys → (zs : List Term) → KeptEach E c (xs ++ zs) (ys ++ zs)
each_kept_append (each_first e keep) zs = each_first e keep
each_kept_append (each_later q) zs = each_later (each_kept_append q zs)

each_kept_equal : {E : Env} {c : Context} {xs ys : List Term} → KeptEach E c xs ys → EqualEach E (values c) xs ys
each_kept_equal (each_first {xs = xs} e keep) = a_term e (each_equal_same xs)
each_kept_equal (each_later q) = a_term same (each_kept_equal q)

each_kept_length : {E : Env} {c : Context} {xs ys : List Term} → KeptEach E c xs ys → length ys ≡ length xs
each_kept_length (each_first e keep) = refl
each_kept_length (each_later q) = ap suc (each_kept_length q)

kept_head : {E : Env} → IsAccepted E → {c : Context} → IsContext E c → (xs : List Term) {f g : Term} → Kept E c f g → Kept E c (apply f xs) (apply g xs)
kept_head h k [] keep = keep
kept_head h k (x ∷ xs) keep = kept_head h k xs (app_function h k keep)

kept_spine : {E : Env} → IsAccepted E → {c : Context} → IsContext E c → {xs ys : List Term} → KeptEach E c xs ys → (f : Term) → Kept E c (apply f xs) (apply f ys)
kept_spine h k (each_first {xs = xs} e keep) f = kept_head h k xs (app_argument h k e keep)
kept_spine h k (each_later {x = x} q) f = kept_spine h k q (App f x)

fit_kept : {E : Env} → IsAccepted E → {c : Context} {f : FamilyId} {F : FamilyDecl} {ps qs : List Term} → IsContext E c → KeepsFamily E f F → TypesAll bare E c Rel ps F.parameters →
    KeptEach E c ps qs → TypesAll bare E c Rel qs F.parameters
fit_kept {E} h {c} {f} {F} {ps} {qs} k q fit keep =
    (spine_types E h c (Ind f) F.parameters qs (products F.indices (SortT F.sort)) _ k (parameters_sorted E h c f F (kept_is_known E f F q)) above (each_kept_length keep ∙ types_length fit)
    (kept_spine h k keep (Ind f) _ (family_at_parameters h q fit))).arguments
  where
    above : (W : Term) → Types bare E c (Ind f) W → Below E (values c) (products F.parameters (products F.indices (SortT F.sort))) W
    above W d = below_at (products_append F.parameters F.indices (SortT F.sort)) refl (known_below E h c f F W q d)

-- telescopes of equal entries

data EqualTelescopes (E : Env) : Values → List Term → List Term → Type 0 where
  none_equal : {V : Values} → EqualTelescopes E V [] []
  one_equal : {V : Values} {A B : Term} {As Bs : List Term} → Equal E V A B → EqualTelescopes E (None ∷ V) As Bs → EqualTelescopes E V (A ∷ As) (B ∷ Bs)

entries_equal : (E : Env) → ClosedEnv E → (As : List Term) (V : Values) (s q : ℕ → Term) → EqualAt E V s q → EqualTelescopes E V (entries_at s As) (entries_at q As)
entries_equal E closed [] V s q g = none_equal
entries_equal E closed (A ∷ As) V s q g = one_equal (equal_put E closed A V s q g) (entries_equal E closed As (None ∷ V) (over s) (over q) (equal_over E closed V s q g))

telescopes_append : {E : Env} {V : Values} {As Bs Cs Ds : List Term} → EqualTelescopes E V As Bs → EqualTelescopes E (under (length As) V) Cs Ds → EqualTelescopes E V (As ++ Cs) (Bs ++ Ds)
telescopes_append none_equal f = f
telescopes_append {E} {V} {Cs = Cs} {Ds = Ds} (one_equal {As = As} e es) f =
    one_equal e (telescopes_append {V = None ∷ V} es (subst (λ V. EqualTelescopes E V Cs Ds) (sym (under_none (length As) V)) f))

telescope_below : {E : Env} → IsAccepted E → {c : Context} {As : List Term} → Entries bare E c As → {c' : Context} {Bs : List Term} → ContextBelow E c' c → EqualTelescopes E (values c) As Bs →
    ContextBelow E (extend c' Bs) (extend c As)
telescope_below h no_entries b none_equal = b
telescope_below {E} h {c} (entry p ps) {c'} b (one_equal {A = A} {B = B} e es) =
    telescope_below h ps (assume b (equal (equal_in E h c c' B A b (back e))) (_, types_in E h c c' A _ b p)) es

-- equal terms under more entries
shifted_equal : {E : Env} → ClosedEnv E → (n : ℕ) {V : Values} {t u : Term} → Equal E V t u → Equal E (under n V) (shift n 0 t) (shift n 0 u)
shifted_equal closed zero {t = t} {u = u} e = equal_at (sym (shift_none t)) (sym (shift_none u)) e
shifted_equal closed (suc n) {t = t} {u = u} e = equal_at (one_more t) (one_more u) (weaken_equal closed (shifted_equal closed n e) None)
  where
    each : (i : ℕ) → suc (n + i) ≡ suc n + i
    each i = omega arith

    one_more : (t : Term) → rename suc (shift n 0 t) ≡ shift (suc n) 0 t
    one_more t = rename-rename t (λ i. n + i) suc ∙ ap (λ r. rename r t) (fun_ext each)

each_shifted : {E : Env} → ClosedEnv E → (n : ℕ) {V : Values} {xs ys : List Term} → EqualEach E V xs ys → EqualEach E (under n V) (map (shift n 0) xs) (map (shift n 0) ys)
each_shifted closed n no_terms = no_terms
each_shifted closed n (a_term e es) = a_term (shifted_equal closed n e) (each_shifted closed n es)

predicate_equal : (E : Env) → ClosedEnv E → (f : FamilyId) (F : FamilyDecl) {V : Values} {ps qs : List Term} → EqualEach E V ps qs →
    EqualTelescopes E V (predicate_entries f F ps) (predicate_entries f F qs)
predicate_equal E closed f F {V} {ps} {qs} e =
    telescopes_append (entries_equal E closed F.indices V (put_all ps Rel) (put_all qs Rel) (each_put E V ps qs Rel Rel e (λ i. same)))
    (subst (λ n. EqualTelescopes E (under n V) (last ps) (last qs)) (sym (entries_at_length (put_all ps Rel) F.indices)) (one_equal lasts none_equal))
  where
    k : ℕ
    k = length F.indices

    last : List Term → List Term
    last ps = apply (Ind f) (map (shift (length F.indices) 0) ps ++ variables (length F.indices)) ∷ []

    lasts : Equal E (under k V) (apply (Ind f) (map (shift k 0) ps ++ variables k)) (apply (Ind f) (map (shift k 0) qs ++ variables k))
    lasts = equal_apply E (under k V) (Ind f) (Ind f) _ _ same (each_equal_append (each_shifted closed k e) (each_equal_same (variables k)))

-- the type of a branch at equal parameters

values_extend : (As : List Term) (c : Context) → values (extend c As) ≡ under (length As) (values c)
values_extend [] c = refl
values_extend (A ∷ As) c = values_extend As (Assumed A ∷ c) ∙ under_none (length As) (values c)

each_at : {E : Env} {V : Values} {s q : ℕ → Term} → ClosedEnv E → EqualAt E V s q → (ts : List Term) → EqualEach E V (map (substitute s) ts) (map (substitute q) ts)
each_at closed g [] = no_terms
each_at {E} {V} {s} {q} closed g (t ∷ ts) = a_term (equal_put E closed t V s q g) (each_at closed g ts)

branch_types_equal : (E : Env) → ClosedEnv E → (c : Context) (f : FamilyId) (n : ℕ) (C : Constructor) (ret : Term) {ps qs : List Term} → EqualEach E (values c) ps qs →
    Equal E (values (extend c (branch_entries C qs))) (branch_type f n C ps ret) (branch_type f n C qs ret)
branch_types_equal E closed c f n C ret {ps} {qs} e =
    subst (λ V. Equal E V (branch_type f n C ps ret) (branch_type f n C qs ret)) (sym (values_extend (branch_entries C qs) c ∙ ap (λ m. under m (values c)) (entries_at_length (put_all qs Rel) C.args)))
    (equal_put E closed ret V _ _ (each_put E V _ _ (λ i. Rel (m + i)) (λ i. Rel (m + i)) lists (λ i. same)))
  where
    m : ℕ
    m = length C.args

    V : Values
    V = under m (values c)

    lists : EqualEach E V (result_at C ps ++ (built_at f n C ps ∷ [])) (result_at C qs ++ (built_at f n C qs ∷ []))
    lists =
        each_equal_append
        (each_at closed (equal_under E closed m (values c) (put_all ps Rel) (put_all qs Rel) (each_put E (values c) ps qs Rel Rel e (λ i. same))) C.result)
        (a_term (equal_apply E V (Construct f n) (Construct f n) _ _ same (each_equal_append (each_shifted closed m e) (each_equal_same (variables m)))) no_terms)

branches_parameters : {E : Env} → IsAccepted E → {c : Context} {f : FamilyId} {F : FamilyDecl} {ps qs : List Term} {ret : Term} {s : Sort} {Cs : List Constructor} {bs : Terms} → IsContext E c →
    KeepsFamily E f F → EqualEach E (values c) ps qs → TypesAll bare E c Rel qs F.parameters → Types bare E (extend c (predicate_entries f F qs)) ret (SortT s) →
    {n : ℕ} → Branches bare E c f ps ret n Cs bs → Constructors F n Cs → Branches bare E c f qs ret n Cs bs
branches_parameters h k q e fit d no_branches g = no_branches
branches_parameters {E} h {c} {f} {F} {ps} {qs} {ret} k q e fit d (branch {n = n} {C = C} {Cs = Cs} {body = body} m es p rest) g =
    let closed = accepted_closed E h in
    let at = first_constructor F n C Cs g in
    let all = entries_equal E closed C.args (values c) (put_all ps Rel) (put_all qs Rel) (each_put E (values c) ps qs Rel Rel e (λ i. same)) in
    let b = telescope_below h es (context_same E h c k) all in
    branch m (branch_sorts h k q at fit).entries
    (conv (types_in E h (extend c (branch_entries C ps)) (extend c (branch_entries C qs)) body _ b p) (equal (branch_types_equal E closed c f n C ret e)) (branch_type_sorted h n k q at fit d))
    (branches_parameters h k q e fit d rest (later_constructors F n C Cs g))

pub case_parameters : {E : Env} → IsAccepted E → {c : Context} {f : FamilyId} {ps qs bs : Terms} {n : ℕ} {ret t : Term} {V : Values} → IsContext E c → Covers (values c) V →
    KeptTerms E V ps qs → Kept E c (Case f ps n ret t bs) (Case f qs n ret t bs)
case_parameters {E} h {c} {f} {qs = qs} {ret = ret} {t = t} {V = V} k w p T d =
    let g = of_case d in
    let r = list_kept g.parameters k w (subst (λ ps. KeptTerms E V ps qs) g.are p) in
    let e = each_kept_equal r.kept in
    let fit = fit_kept h k g.kept g.fit r.kept in
    let b = telescope_below h g.entries (context_same E h c k) (predicate_equal E (accepted_closed E h) f g.family e) in
    let predicate = types_in E h (extend c (predicate_entries f g.family g.parameters)) (extend c (predicate_entries f g.family r.list)) ret _ b g.predicate in
    let sorted = types_have_sorts E h c t (apply (Ind f) (g.parameters ++ g.indices)) k g.scrutinee in
    let all = each_kept_append r.kept g.indices in
    let scrutinee = conv g.scrutinee (equal (equal_apply E (values c) (Ind f) (Ind f) _ _ same (each_kept_equal all))) (kept_spine h k all (Ind f) _ sorted.1) in
    let bs = branches_parameters h k g.kept e fit predicate g.branches (all_constructors g.family) in
    retyped h k d (case_again r.list g.indices r.are g.kept g.names g.count fit (predicate_sorted h k g.kept fit) predicate g.may scrutinee bs) g.below
