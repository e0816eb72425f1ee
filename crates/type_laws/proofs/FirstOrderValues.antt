-- A closed value of a first-order type is read as data, no constructor term of which is erasable.
use Rattle.std.proofs.Common.{◌≡◌, ℕ, zero, suc, ◌+◌, List, [], ◌∷◌, ◌++◌, length, Some, refl, sym, ap, ◌∙◌, subst, arith, slice_get, append-nil}
use mathlib.Core.Path.{fun_ext}
use Rattle.pc_terms.specs.Syntax.{Term, Rel, Construct, over, substitute, first, put_all, args}
use Rattle.calculus_rules.specs.declared.declaration.Constructor.{Constructor}
use Rattle.calculus_rules.specs.Environment.{Env}
use Rattle.calculus_rules.specs.Conversion.{Equal, Below, equal, chain}
use Rattle.calculus_rules.specs.Instances.{entries_at, branch_entries}
use Rattle.calculus_rules.specs.Step.{IsConstructor, is_constructor}
use Rattle.calculus_rules.specs.Evaluation.{sort_is, prod_is, lambda_is, ind_is, construct_is, fix_is}
use Rattle.calculus_rules.specs.FirstOrder.{Shape, shape_type, ArgumentsAt, no_argument, an_argument, ConstructorsAt, no_constructor, a_constructor, IsMember, Data, Reads, reads, ReadsAll, no_field, field, NothingErasable, NothingErasableInside}
use Rattle.calculus_rules.specs.Typing.{bare, Types, TypesAll, no_terms, term}
use Rattle.calculus_rules.specs.Accepted.{IsAccepted}
use Rattle.calculus_rules.proofs.OneEach.{one_of_each}
use Rattle.calculus_rules.proofs.Spines.{args-apply, one_item}
use Rattle.calculus_rules.proofs.WeakHead.{weak_equal}
use Rattle.trees.proofs.Fusion.{substitute-rename, substitute-substitute}
use Rattle.trees.proofs.Put.{substitute_same}
use Rattle.typing_laws.proofs.DataAlong.{Members}
use Rattle.typing_laws.proofs.Traversal.{equal_at}
use Rattle.type_laws.specs.Contexts.{IsContext}
use Rattle.equality_laws.specs.Laws.{EqualEach}
use Rattle.type_laws.proofs.Apart.{families_below}
use Rattle.type_laws.proofs.Spines.{put_equal}
use Rattle.type_laws.proofs.PutLists.{put_all_append}
use Rattle.type_laws.proofs.EqualLists.{each_equal_same, each_equal_append}
use Rattle.type_laws.proofs.FixpointsKeep.{Undoes, undoes_shift, undoes_first}
use Rattle.type_laws.proofs.MatchesKeep.{built_types}
use Rattle.type_laws.proofs.Results.{IsResult, plain, extended}
use Rattle.type_laws.proofs.Canonical.{canonical}
use Rattle.type_laws.proofs.Solid.{families_stay}

pub record Readable (E : Env) (S : List Shape) (i : ℕ) (v : Term) : Type 0 where
  pub answer : Data
  pub reading : Reads E S i v answer
  pub solid : NothingErasable reading

record ReadableAll (E : Env) (S : List Shape) (js : List ℕ) (xs : List Term) : Type 0 where
  answers : Data
  reading : ReadsAll E S js xs answers
  solid : NothingErasableInside reading

-- at each type of the set that is above a type of it the term is read
abbrev pub IsRead : Env → List Shape → Term → Type 0
IsRead E S v = (i : ℕ) (k : Shape) (T : Term) → slice_get S i ≡ Some k → Types bare E [] v T → Below E [] T (shape_type k) → Readable E S i v

abbrev pub AllRead : Env → List Shape → List Term → Type 0
AllRead E S [] = Unit {0}
AllRead E S (x ∷ xs) = IsRead E S x × AllRead E S xs

pub all_last : (E : Env) (S : List Shape) (xs : List Term) {y : Term} → AllRead E S xs → IsRead E S y → AllRead E S (xs ++ (y ∷ []))
all_last E S [] a r = (r, tt)
all_last E S (x ∷ xs) a r = (a.0, all_last E S xs a.1 r)

all_past : (E : Env) (S : List Shape) (xs ys : List Term) → AllRead E S (xs ++ ys) → AllRead E S ys
all_past E S [] ys a = a
all_past E S (x ∷ xs) ys a = all_past E S xs ys a.1

-- the arguments of a constructor

-- terms for the n innermost variables, the others lowered by n, that put what bs says where the outer ones are put in before
record Lowers (n : ℕ) (bs : List Term) (r q : ℕ → Term) : Type 0 where
  past : Undoes n r
  puts : (i : ℕ) → substitute r (q i) ≡ put_all bs Rel i

lowers_first : {n : ℕ} {bs : List Term} {r q : ℕ → Term} (x : Term) → Lowers n bs r q → Lowers (suc n) (bs ++ (x ∷ [])) (first x r) (over q)
lowers_first {n} {bs} {r} {q} x l = record { past = undoes_first n r x l.past; puts = puts }
  where
    puts : (i : ℕ) → substitute (first x r) (over q i) ≡ put_all (bs ++ (x ∷ [])) Rel i
    puts zero = λ j. sym (put_all_append bs (x ∷ []) Rel) j zero
    puts (suc i) = substitute-rename (q i) suc (first x r) ∙ l.puts i ∙ (λ j. sym (put_all_append bs (x ∷ []) Rel) j (suc i))

fields : (E : Env) → IsAccepted E → (S : List Shape) (ds bs : List Term) {n : ℕ} {s r q : ℕ → Term} {xs As : List Term} {js : List ℕ} → EqualEach E [] ds bs → put_all ds Rel ≡ s →
    Lowers n bs r q → TypesAll bare E [] s xs As → ArgumentsAt E S n (entries_at q As) js → AllRead E S xs → ReadableAll E S js xs
fields E h S ds bs es e l no_terms no_argument a = record { answers = []; reading = no_field; solid = tt }
fields E h S ds bs {n = n} {r = r} {q = q} es e l (term {t = x} {A = A} p ps) (an_argument {j = j} {A = B} eq at rest) a =
    let (k, here, steps) = at in
    let same_type : Equal E [] (substitute (put_all ds Rel) A) B =
    equal_at refl (ap (λ s. substitute s A) (sym (fun_ext l.puts)) ∙ sym (substitute-substitute A q r) ∙ ap (substitute r) eq ∙ undoes_shift n r B l.past) (put_equal E h [] ds bs A es) in
    let one = a.0 j k _ here p (equal (chain (equal_at (ap (λ s. substitute s A) e) refl same_type) (weak_equal steps))) in
    let more = fields E h S (ds ++ (x ∷ [])) (bs ++ (x ∷ [])) (each_equal_append es (each_equal_same (x ∷ []))) (put_all_append ds (x ∷ []) Rel ∙ ap (first x) e) (lowers_first x l) ps rest a.1 in
    record { answers = one.answer ++ more.answers; reading = field one.reading more.reading; solid = (one.solid, more.solid) }

constructor_at : {E : Env} {S : List Shape} {ps : List Term} {Cs : List Constructor} {jss : List (List ℕ)} → ConstructorsAt E S ps Cs jss → (c : ℕ) (C : Constructor) → slice_get Cs c ≡ Some C →
    (js : List ℕ) × (slice_get jss c ≡ Some js) × ArgumentsAt E S 0 (branch_entries C ps) js
constructor_at no_constructor c C e = absurd (cc)
constructor_at {E} {S} {ps} (a_constructor {js = js} a rest) zero C e = (js, refl, subst (λ C. ArgumentsAt E S 0 (branch_entries C ps) js) (one_item e) a)
constructor_at (a_constructor a rest) (suc c) C e = constructor_at rest c C e

no_results : {E : Env} (qs rs ps : List Term) → length rs ≡ 0 → EqualEach E [] (qs ++ rs) ps → EqualEach E [] qs ps
no_results {E} qs [] ps e es = subst (λ qs. EqualEach E [] qs ps) (append-nil qs) es
no_results qs (x ∷ rs) ps e es = absurd (omega arith)

-- a value whose arguments are read

pub built_read : (E : Env) → IsAccepted E → (S : List Shape) → Members E S → {v : Term} → AllRead E S (args v) → (i c : ℕ) (k : Shape) (T : Term) (qs xs : List Term) → slice_get S i ≡ Some k →
    Types bare E [] v T → Below E [] T (shape_type k) → IsConstructor E k.family c v qs xs → Readable E S i v
built_read E h S M {v} a i c k T qs xs e d b (is_constructor {F = G} {C = C} kG iG lq lx ev) =
    record { answer = (c, length xs) ∷ all.answers; reading = reads e place.1 con all.reading; solid = (families_stay E h k.family m.declared c v qs xs T m.kept m.not_prop con d, all.solid) }
  where
    m : IsMember E S k
    m = M i k e

    con : IsConstructor E k.family c v qs xs
    con = is_constructor kG iG lq lx ev

    at : slice_get m.declared.constructors c ≡ Some C
    at = sym (ap (λ F. slice_get F.constructors c) ((one_of_each E h).families k.family G m.declared kG m.kept)) ∙ iG

    place : (js : List ℕ) × (slice_get k.constructors c ≡ Some js) × ArgumentsAt E S 0 (branch_entries C k.parameters) js
    place = constructor_at m.constructors c C at

    all : ReadableAll E S place.0 xs
    all =
        let t = built_types E h [] k.family m.declared c C v qs xs T IsContext.empty m.kept at con d in
        fields E h S qs k.parameters
        (no_results qs t.results k.parameters (t.count ∙ ap length m.no_indices) (families_below E h [] k.family k.family (qs ++ t.results) k.parameters (Below.chain t.below b)).arguments)
        refl (record { past = λ j. let z : 0 + j ≡ j = omega arith in ap Rel z; puts = λ i. substitute_same (put_all k.parameters Rel i) }) t.arguments place.2
        (all_past E S qs xs (subst (AllRead E S) (ap args ev ∙ args-apply (Construct k.family c) (qs ++ xs)) a))

value_read : (E : Env) → IsAccepted E → (S : List Shape) → Members E S → {v : Term} → IsResult E v → AllRead E S (args v) → IsRead E S v
value_read E h S M r a i k T e d b = let (c, qs, xs, con) = canonical E h k.family k.parameters T r d b in built_read E h S M a i c k T qs xs e d b con

arguments_read : (E : Env) → IsAccepted E → (S : List Shape) → Members E S → {v : Term} → IsResult E v → AllRead E S (args v)
arguments_read E h S M (plain sort_is) = tt
arguments_read E h S M (plain prod_is) = tt
arguments_read E h S M (plain lambda_is) = tt
arguments_read E h S M (plain ind_is) = tt
arguments_read E h S M (plain construct_is) = tt
arguments_read E h S M (plain fix_is) = tt
arguments_read E h S M (extended {g = g} r r' m) = all_last E S (args g) (arguments_read E h S M r) (value_read E h S M r' (arguments_read E h S M r'))

pub result_read : (E : Env) → IsAccepted E → (S : List Shape) → Members E S → {v : Term} → IsResult E v → IsRead E S v
result_read E h S M r = value_read E h S M r (arguments_read E h S M r)
