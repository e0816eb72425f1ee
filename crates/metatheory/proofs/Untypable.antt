-- What has no type: sorts in themselves, arguments of constructors that have all theirs, and data by a match on a disjunction.
use Rattle.std.proofs.Common.{subst, ℕ, ◌≡◌, ◌≤◌, ◌+◌, ◌⊎◌, List, [], ◌∷◌, ◌++◌, inl, inr, map, refl, sym, ap, ◌∙◌, arith}
use Rattle.universe_levels.specs.declared.level.LevelExpr.{LevelExpr}
use Rattle.universe_levels.specs.declared.sort.Sort.{Sort}
use Rattle.universe_levels.specs.declared.sort.Sort.TheVariants.{Prop, Of}
use Rattle.universe_levels.specs.Parts.{raised}
use Rattle.universe_levels.specs.Sorts.{super_sort}
use Rattle.universe_levels.specs.Valuation.{value_of}
use Rattle.pc_terms.specs.declared.leaf.FamilyId.{FamilyId}
use Rattle.pc_terms.specs.Syntax.{Term, Terms, SortT, Prod, App, Ind, put, substitute, apply}
use Rattle.calculus_rules.specs.declared.declaration.Constructor.{Constructor}
use Rattle.calculus_rules.specs.declared.entry.Entry.TheVariants.{Assumed}
use Rattle.calculus_rules.specs.Environment.{Env, SortEntails, IsDeclared, FamilyDecl, KeepsFamily}
use Rattle.calculus_rules.specs.Context.{Context, values}
use Rattle.calculus_rules.specs.Conversion.{Below}
use Rattle.calculus_rules.specs.Elimination.{MayEliminate, AllProp}
use Rattle.calculus_rules.specs.Instances.{products, entries_at, predicate_entries, predicate_at}
use Rattle.calculus_rules.specs.Step.{is_constructor}
use Rattle.calculus_rules.specs.Typing.{bare, Types}
use Rattle.calculus_rules.specs.Accepted.{IsAccepted}
use Rattle.calculus_rules.proofs.OneEach.{one_of_each}
use Rattle.typing_laws.specs.TypedParts.{OfCase}
use Rattle.typing_laws.proofs.Generating.{of_sort, of_app, of_case, of_apply}
use Rattle.typing_laws.proofs.MiddleEntries.{substitution_of_below}
use Rattle.typing_laws.proofs.Traversal.{types_at, below_at}
use Rattle.type_laws.specs.Contexts.{IsContext}
use Rattle.type_laws.proofs.Apart.{products_below, sorts_below, below_family, sort_not_product, product_not_sort, family_not_product}
use Rattle.type_laws.proofs.MatchesKeep.{built_types}
use Rattle.type_laws.proofs.MatchTelescopes.{substitute-products}
use Rattle.type_laws.proofs.RootsKeep.{fits_assumed}
use Rattle.type_laws.proofs.Spines.{arguments_put}
use Rattle.type_laws.proofs.StepsKeep.{reduces_keeps}
use Rattle.type_laws.proofs.Validity.{known_below, scrutinee_fits, types_have_sorts}
use Rattle.type_laws.proofs.Solid.{not_in_prop}
use Rattle.metatheory.specs.Untypable.{NoSortInItself, BuiltTermsTakeNoMore, IsOutsideProp, GivesNoData, DisjunctionsGiveNoData, ExistentialsGiveNoData}

-- sorts

value_of_raised : (v : ℕ → ℕ) (e : LevelExpr) (es : List LevelExpr) → value_of v (e ∷ es) + 1 ≤ value_of v (map raised (e ∷ es))
value_of_raised v e [] = omega arith
value_of_raised v e (f ∷ fs) = let more = value_of_raised v f fs in omega arith

not_raised : (E : Env) → IsAccepted E → (s : Sort) → IsDeclared E s → SortEntails E (super_sort s) s → ⊥
not_raised E h Prop d e = e
not_raised E h (Of []) d e = d.0 refl
not_raised E h (Of (l ∷ ls)) d e =
    let (v, solves) = h.consistent in
    let raised = value_of_raised v l ls in
    let most = e v solves in
    omega arith

pub no_sort_in_itself : NoSortInItself
no_sort_in_itself E h c s d = let o = of_sort d in not_raised E h s o.declared (sorts_below E h (values c) (super_sort s) s o.below)

-- constructors

pub built_terms_take_no_more : BuiltTermsTakeNoMore
built_terms_take_no_more E h c k f n v qs xs (is_constructor {F = F} {C = C} kept at p q e) a T d =
    let o = of_app d in
    let b = built_types E h c f F n C v qs xs (Prod o.domain o.codomain) k kept at (is_constructor kept at p q e) o.function in
    family_not_product E h (values c) o.domain o.codomain f (qs ++ b.results) b.below

-- a family's arguments leave products that end in its sort

abbrev AllAbove : Env → Context → Term → Term → Type 0
AllAbove E c t T = (U : Term) → Types bare E c t U → Below E (values c) T U

applied : (E : Env) → IsAccepted E → (c : Context) (f a A B : Term) → AllAbove E c f (Prod A B) → AllAbove E c (App f a) (substitute (put a) B)
applied E h c f a A B g U d =
    let r = of_app d in
    let p = products_below E h (values c) A B r.domain r.codomain (g (Prod r.domain r.codomain) r.function) in
    Below.chain (substitution_of_below E h [] c (Assumed r.domain) a B r.codomain (fits_assumed r.argument) p.codomains) r.below

arity_rest : (E : Env) → IsAccepted E → (c : Context) (xs As : List Term) (f : Term) (s : Sort) (T : Term) → AllAbove E c f (products As (SortT s)) →
    Types bare E c (apply f xs) T → (Bs : List Term) × Below E (values c) (products Bs (SortT s)) T
arity_rest E h c [] As f s T g d = (As, g T d)
arity_rest E h c (x ∷ xs) [] f s T g d =
    let r = of_app (of_apply xs (App f x) d).1 in
    absurd (sort_not_product E h (values c) r.domain r.codomain s (g (Prod r.domain r.codomain) r.function))
arity_rest E h c (x ∷ xs) (A ∷ As) f s T g d =
    arity_rest E h c xs (entries_at (put x) As) (App f x) s T
    (λ U k. below_at (substitute-products As (put x) (SortT s)) refl (applied E h c f x A (products As (SortT s)) g U k)) d

-- a family outside Prop has no sort Prop, whatever its arguments
not_a_proposition : (E : Env) → IsAccepted E → (c : Context) (g : FamilyId) (ys : List Term) → IsOutsideProp E g → Types bare E c (apply (Ind g) ys) (SortT Prop) → ⊥
not_a_proposition E h c g ys (G, kept, n) d =
    let (Bs, b) = arity_rest E h c ys (G.parameters ++ G.indices) (Ind g) G.sort (SortT Prop) (λ U. known_below E h c g G U kept) d in at Bs b
  where
    at : (Bs : List Term) → Below E (values c) (products Bs (SortT G.sort)) (SortT Prop) → ⊥
    at [] b = not_in_prop E G.sort n (sorts_below E h (values c) G.sort Prop b)
    at (B ∷ Bs) b = product_not_sort E h (values c) B (products Bs (SortT G.sort)) Prop b

-- families in Prop that aren't single

-- a family in Prop that has neither no constructor nor one whose argument sorts are all Prop
abbrev IsNotSingle : Env → FamilyId → Type 0
IsNotSingle E f = (F : FamilyDecl) × KeepsFamily E f F × (F.sort ≡ Prop) × (((F.constructors ≡ []) ⊎ ((C : Constructor) × (F.constructors ≡ C ∷ []) × AllProp C.arg_sorts)) → ⊥)

two_not_single : {C D : Constructor} {Cs Ds : List Constructor} → Ds ≡ C ∷ D ∷ Cs → (Ds ≡ []) ⊎ ((B : Constructor) × (Ds ≡ B ∷ []) × AllProp B.arg_sorts) → ⊥
two_not_single e (inl none) = absurd (cc)
two_not_single e (inr (B, one, p)) = absurd (cc)

witness_not_single : {C : Constructor} {Ds : List Constructor} → Ds ≡ C ∷ [] → (AllProp C.arg_sorts → ⊥) → (Ds ≡ []) ⊎ ((B : Constructor) × (Ds ≡ B ∷ []) × AllProp B.arg_sorts) → ⊥
witness_not_single e n (inl none) = absurd (cc)
witness_not_single {C} e n (inr (B, one, p)) = let same : B ≡ C = cc in n (subst (λ C. AllProp C.arg_sorts) same p)

prop_alone : {E : Env} → IsAccepted E → {f : FamilyId} {F : FamilyDecl} {s : Sort} → IsNotSingle E f → KeepsFamily E f F → MayEliminate E f F s → s ≡ Prop
prop_alone {E} h {f} {F} {s} (G, kept, p, n) kept' m = only m
  where
    same : G ≡ F
    same = (one_of_each E h).families f G F kept kept'

    only : MayEliminate E f F s → s ≡ Prop
    only (inl other) = absurd (other (sym (ap (λ F. F.sort) same) ∙ p))
    only (inr (inl e)) = e
    only (inr (inr (_, o))) = absurd (n (subst (λ F. (F.constructors ≡ []) ⊎ ((C : Constructor) × (F.constructors ≡ C ∷ []) × AllProp C.arg_sorts)) (sym same) o))

-- the type of a match whose predicate has sort Prop has it too
match_in_prop : (E : Env) → IsAccepted E → (c : Context) → IsContext E c → {f : FamilyId} {ps bs : Terms} {n : ℕ} {ret t T : Term} (o : OfCase bare E c f ps n ret t bs T) →
    o.sort ≡ Prop → Types bare E c (predicate_at ret o.indices t) (SortT Prop)
match_in_prop E h c k {f} {ret = ret} {t = t} o e =
    arguments_put E h c (predicate_entries f o.family o.parameters) (o.indices ++ (t ∷ [])) ret (SortT Prop)
    (scrutinee_fits E h c f o.family o.parameters o.indices t k o.kept o.count o.fit (types_have_sorts E h c t _ k o.scrutinee) o.scrutinee)
    (types_at refl (ap (λ s. SortT s) e) o.predicate)

gives_no_data : (E : Env) → IsAccepted E → (f : FamilyId) → IsNotSingle E f → GivesNoData E f
gives_no_data E h f other c k g outside ps bs n ret t xs d =
    let o = of_case d in
    let p = match_in_prop E h c k o (prop_alone h other o.kept o.may) in
    let (ys, steps) = below_family E h (values c) (predicate_at ret o.indices t) g xs o.below in
    not_a_proposition E h c g ys outside (reduces_keeps E h c (predicate_at ret o.indices t) (apply (Ind g) ys) (SortT Prop) k steps p)

pub disjunctions_give_no_data : DisjunctionsGiveNoData
disjunctions_give_no_data E h f (F, kept, p, (C, D, Cs, cs)) = gives_no_data E h f (F, kept, p, two_not_single cs)

pub existentials_give_no_data : ExistentialsGiveNoData
existentials_give_no_data E h f (F, kept, p, (C, cs, n)) = gives_no_data E h f (F, kept, p, witness_not_single cs n)
