-- Source terms have their types, and so has main, applied to them.
use Rattle.std.proofs.Common.{◌≡◌, ℕ, zero, suc, ◌+◌, List, [], ◌∷◌, ◌++◌, length, map, Some, refl, sym, ap, ◌∙◌, subst, arith, slice_get, append-nil}
use mathlib.Core.Path.{fun_ext}
use Rattle.universe_levels.specs.declared.sort.Sort.{Sort}
use Rattle.pc_terms.specs.declared.leaf.FamilyId.{FamilyId}
use Rattle.pc_terms.specs.Syntax.{Term, Rel, SortT, Prod, App, Ind, Construct, over, substitute, first, put, put_all, shift, variables, apply}
use Rattle.calculus_rules.specs.declared.declaration.Constructor.{Constructor}
use Rattle.calculus_rules.specs.Environment.{Env, FamilyDecl, KeepsFamily}
use Rattle.calculus_rules.specs.Context.{Context, Values}
use Rattle.calculus_rules.specs.Conversion.{back, equal}
use Rattle.calculus_rules.specs.Instances.{entries_at, products}
use Rattle.calculus_rules.specs.WeakHead.{WeakSteps, no_step, then_step}
use Rattle.calculus_rules.specs.FirstOrder.{Shape, shape_type, IsMember, ArgumentsAt, Data, IsFirstOrder}
use Rattle.calculus_rules.specs.Typing.{bare, Types, app, construct, conv, TypesAll, no_terms, term, EntrySorts, no_sorts, a_sort}
use Rattle.calculus_rules.specs.Accepted.{IsAccepted}
use Rattle.calculus_rules.proofs.Spines.{one_item}
use Rattle.calculus_rules.proofs.WeakHead.{weak_step, weak_equal}
use Rattle.trees.proofs.Fusion.{substitute-rename, substitute-substitute}
use Rattle.trees.proofs.Put.{substitute_same}
use Rattle.typing_laws.proofs.AcceptedClosed.{accepted_closed}
use Rattle.typing_laws.proofs.DataAlong.{Members}
use Rattle.typing_laws.proofs.Generating.{of_prod}
use Rattle.typing_laws.proofs.KeptSorts.{argument_sorts}
use Rattle.typing_laws.proofs.PuttingAll.{puts_first, puts_all, puts_none}
use Rattle.typing_laws.proofs.RenamingAndPutting.{PutsEntries, putting}
use Rattle.typing_laws.proofs.Telescopes.{products_append}
use Rattle.typing_laws.proofs.Traversal.{below_at, types_at, substitute_types}
use Rattle.type_laws.specs.Contexts.{HasSort, IsContext, Reduces}
use Rattle.type_laws.proofs.EnvironmentSorts.{kept_is_known, parameters_sorted}
use Rattle.type_laws.proofs.FixpointsKeep.{Undoes, undoes_shift, undoes_first}
use Rattle.type_laws.proofs.PutLists.{result_put}
use Rattle.type_laws.proofs.Spines.{spine_types, spine_typed}
use Rattle.type_laws.proofs.StepsKeep.{reduces_keeps}
use Rattle.type_laws.proofs.TelescopeParts.{all_append}
use Rattle.type_laws.proofs.Validity.{known_below, types_have_sorts}
use Rattle.first_order.specs.Signature.{IsSignature, answers, takes}
use Rattle.first_order.specs.Applied.{IsSourceOf, source_of, AreSourcesOf, no_field_source, field_source, AreArguments}
use Rattle.applied_terms.specs.Laws.{AppliedTermsAreTyped}
use Rattle.applied_terms.proofs.SourceTerms.{constructor_of, fields_count}

weak_reduces : {E : Env} {V : Values} {t u : Term} → WeakSteps E V t u → Reduces E V t u
weak_reduces no_step = Reduces.none
weak_reduces (then_step p q) = Reduces.more (weak_step p) (weak_reduces q)

-- the weak-head normal form of a type that has a sort has it
sorted_by : (E : Env) → IsAccepted E → {T U : Term} → HasSort E [] T → WeakSteps E [] T U → HasSort E [] U
sorted_by E h {T} {U} (s, p) q = (s, reduces_keeps E h [] T U (SortT s) IsContext.empty (weak_reduces q) p)

-- a term of that form is one of the type
typed_by : {E : Env} {x T U : Term} → HasSort E [] T → WeakSteps E [] T U → Types bare E [] x U → Types bare E [] x T
typed_by (s, p) q d = conv d (equal (back (weak_equal q))) p

-- the parameters of a family that has a sort fit
parameters_fit : (E : Env) → IsAccepted E → (f : FamilyId) (F : FamilyDecl) (ps : List Term) → KeepsFamily E f F → length ps ≡ length F.parameters → HasSort E [] (apply (Ind f) ps) →
    TypesAll bare E [] Rel ps F.parameters
parameters_fit E h f F ps q l (u, s) =
    let r = spine_types E h [] (Ind f) F.parameters ps (products F.indices (SortT F.sort)) (SortT u) IsContext.empty (parameters_sorted E h [] f F (kept_is_known E f F q))
    (λ W w. below_at (products_append F.parameters F.indices (SortT F.sort)) refl (known_below E h [] f F W q w)) l s in
    r.arguments

-- terms for the n innermost variables, the others lowered by n, that put what s says where q puts in before
record Lowers (n : ℕ) (r q s : ℕ → Term) : Type 0 where
  past : Undoes n r
  puts : (i : ℕ) → substitute r (q i) ≡ s i

lowers_first : {n : ℕ} {r q s : ℕ → Term} (x : Term) → Lowers n r q s → Lowers (suc n) (first x r) (over q) (first x s)
lowers_first {n} {r} {q} {s} x l = record { past = undoes_first n r x l.past; puts = puts }
  where
    puts : (i : ℕ) → substitute (first x r) (over q i) ≡ first x s i
    puts zero = refl
    puts (suc i) = substitute-rename (q i) suc (first x r) ∙ l.puts i

lowers_none : (s : ℕ → Term) → Lowers 0 Rel s s
lowers_none s = record { past = λ j. let z : 0 + j ≡ j = omega arith in ap Rel z; puts = λ i. substitute_same (s i) }

no_results : (ps rs : List Term) (s : ℕ → Term) → length rs ≡ 0 → ps ++ map (substitute s) rs ≡ ps
no_results ps [] s e = append-nil ps
no_results ps (x ∷ rs) s e = absurd (omega arith)

-- a constructor of a type of the set, at its parameters, where these and its fields fit
built_typed : (E : Env) → IsAccepted E → {S : List Shape} (k : Shape) (m : IsMember E S k) (c : ℕ) (C : Constructor) (xs : List Term) → slice_get m.declared.constructors c ≡ Some C →
    TypesAll bare E [] Rel k.parameters m.declared.parameters → TypesAll bare E [] (put_all k.parameters Rel) xs C.args → length xs ≡ length C.args →
    Types bare E [] (apply (Construct k.family c) (k.parameters ++ xs)) (shape_type k)
built_typed E h k m c C xs at fit fields l =
    let F : FamilyDecl = m.declared in
    let result : Term = apply (Ind k.family) (map (shift (length C.args) 0) (variables (length F.parameters)) ++ C.result) in
    let s : ℕ → Term = put_all xs (put_all k.parameters Rel) in
    let none : length C.result ≡ 0 = ((accepted_closed E h).families k.family F m.kept).counts c C at ∙ ap length m.no_indices in
    types_at refl (result_put k.family k.parameters xs C.result (length F.parameters) (length C.args) m.parameters l ∙ ap (apply (Ind k.family)) (no_results k.parameters C.result s none))
    (spine_typed E h [] (Construct k.family c) (F.parameters ++ C.args) (k.parameters ++ xs) result
    (types_at refl (sym (products_append F.parameters C.args result)) (construct m.kept at)) (all_append xs C.args fit fields))

module _ (E : Env) (h : IsAccepted E) (S : List Shape) (M : Members E S) where
  mutual
    pub source_typed : {i : ℕ} {d : Data} {t : Term} → IsSourceOf S i d t → (k : Shape) → slice_get S i ≡ Some k → HasSort E [] (shape_type k) → Types bare E [] t (shape_type k)
    source_typed {i = i} (source_of {c = c} {t = t} {h = k} {js = js} {xs = xs} at ctor rs e) k' at' sorted =
        let same : k' ≡ k = one_item (sym at' ∙ at) in
        let m = M i k at in
        let C = constructor_of m.constructors c js ctor in
        let fit = parameters_fit E h k.family m.declared k.parameters m.kept m.parameters (subst (λ k. HasSort E [] (shape_type k)) same sorted) in
        let args = fields_typed (puts_all (puts_none []) fit) (argument_sorts E h k.family m.declared c C.declared m.kept C.at) (lowers_none (put_all k.parameters Rel)) C.arguments rs in
        subst (λ k. Types bare E [] t (shape_type k)) (sym same) (types_at (sym e) refl (built_typed E h k m c C.declared xs C.at fit args (fields_count C rs)))

    fields_typed : {n : ℕ} {s r q : ℕ → Term} {c : Context} {As : List Term} {ss : List Sort} {js : List ℕ} {ds : Data} {xs : List Term} → PutsEntries E s c [] → EntrySorts bare E c As ss → Lowers n r q s →
        ArgumentsAt E S n (entries_at q As) js → AreSourcesOf S js ds xs → TypesAll bare E [] s xs As
    fields_typed g no_sorts l ArgumentsAt.no_argument no_field_source = no_terms
    fields_typed g no_sorts l at (field_source o os) = elim at [ ]
    fields_typed g (a_sort p ps) l at no_field_source = elim at [ ]
    fields_typed {n = n} {s = s} {r = r} {q = q} g (a_sort {A = A} {s = u} p ps) l (ArgumentsAt.an_argument {A = B} eq at rest) (field_source {x = x} o os) =
        let (k, here, steps) = at in
        let same : substitute s A ≡ B = ap (λ s. substitute s A) (sym (fun_ext l.puts)) ∙ sym (substitute-substitute A q r) ∙ ap (substitute r) eq ∙ undoes_shift n r B l.past in
        let sorted = substitute_types (putting E (accepted_closed E h)) (accepted_closed E h) p s [] g in
        let lower : HasSort E [] B = (u, types_at same refl sorted) in
        let typed : Types bare E [] x (substitute s A) = types_at refl (sym same) (typed_by lower steps (source_typed o k here (sorted_by E h lower steps))) in
        term typed (fields_typed (puts_first g typed) ps (lowers_first x l) rest os)

-- the arguments have types, and fit the sets that they are sources along
pub data TypedArguments (E : Env) : List (List Shape) → List Term → Type 0 where
  no_typed : TypedArguments E [] []
  one_typed : {S : List Shape} {Ss : List (List Shape)} {x A : Term} {xs : List Term} → Members E S → Types bare E [] x A → TypedArguments E Ss xs → TypedArguments E (S ∷ Ss) (x ∷ xs)

pub record TypedApplied (E : Env) (Ss : List (List Shape)) (R : List Shape) (t : Term) (xs : List Term) : Type 0 where
  pub type : Term
  pub typed : Types bare E [] t type
  pub first : IsFirstOrder E type R
  pub arguments : TypedArguments E Ss xs

-- what is put in for a variable that isn't named
unnamed : (x C : Term) → substitute (put x) (shift 1 0 C) ≡ C
unnamed x C = undoes_shift 1 (put x) C (λ i. let z : 1 + i ≡ suc i = omega arith in ap (put x) z)

pub applied_typed : (E : Env) → IsAccepted E → {T : Term} {Ss : List (List Shape)} {R : List Shape} {ds : List Data} {xs : List Term} → IsSignature E T Ss R → AreArguments Ss ds xs →
    (f : Term) → Types bare E [] f T → TypedApplied E Ss R (apply f xs) xs
applied_typed E h {T = T} (answers first) AreArguments.no_argument f d = record { type = T; typed = d; first = first; arguments = no_typed }
applied_typed E h {T = T} (takes {A = A} {B = B} {C = C} {S = S} steps first eq rest) (AreArguments.an_argument {x = x} o os) f d =
    let whole = types_have_sorts E h [] f T IsContext.empty d in
    let product = sorted_by E h whole steps in
    let function : Types bare E [] f (Prod A B) = conv d (equal (weak_equal steps)) product.1 in
    let domain : HasSort E [] A = ((of_prod product.1).domain_sort, (of_prod product.1).domain) in
    let (k, here, down) = first.first in
    let argument : Types bare E [] x A = typed_by domain down (source_typed E h S first.members o k here (sorted_by E h domain down)) in
    let r = applied_typed E h rest os (App f x) (types_at refl (ap (substitute (put x)) eq ∙ unnamed x C) (app function argument)) in
    record { type = r.type; typed = r.typed; first = r.first; arguments = one_typed first.members argument r.arguments }

pub applied_terms_are_typed : AppliedTermsAreTyped
applied_terms_are_typed E h main T typed Ss R signature ds t a =
    let r = applied_typed E h signature a.sources main typed in
    (r.type, types_at (sym a.is) refl r.typed, r.first)
