-- The first-order search, with units: the types of a first-order set are put in a list, which is worked from its front. Its rules are this
-- project's own.
use Rattle.std.specs.Prelude.{ℕ, zero, suc, ◌==◌, ◌&&◌, if◌then◌else◌, List, [], ◌∷◌, ◌++◌, length, Option, Some, None, slice_get, option_map}
use Rattle.pc_terms.specs.declared.leaf.FamilyId.{FamilyId}
use Rattle.pc_terms.specs.Syntax.{Term, Rel, Ind, head, args, put_all, substitute, shift, variables}
use Rattle.calculus_rules.specs.declared.declaration.Constructor.{Constructor}
use Rattle.pc_rules.specs.declared.meter.Account.{Account}
use Rattle.calculus_rules.specs.Environment.{Env, FamilyDecl}
use Rattle.calculus_rules.specs.Instances.{branch_entries}
use Rattle.calculus_rules.specs.Same.{same}
use Rattle.calculus_rules.specs.FirstOrder.{Shape}
use Rattle.pc_rules.specs.DirectedRun.{Run, done, passing, any_beyond, bind, ticking}
use Rattle.calculus_rules.specs.Lookups.{if_some, family_of}
use Rattle.pc_rules.specs.DirectedWeakHead.{whnf}
use Rattle.calculus_rules.specs.PropSorts.{is_prop}

-- how a search ends: with what is found, with the first type that is no such family, or with more types than the limit
pub data Searched (A : Type 0) : Type 0 where
  Found : A → Searched A
  NotFirstOrder : Term → Searched A
  TooManyTypes : Searched A

abbrev pub on_found : {A B : Type 0} → Searched A → Account → (A → Account → Run (Searched B)) → Run (Searched B)
on_found (Found a) u k = k a u
on_found (NotFirstOrder T) u k = done (NotFirstOrder T) u
on_found TooManyTypes u k = done TooManyTypes u

abbrev pub with_found : {A B : Type 0} → Run (Searched A) → (A → Account → Run (Searched B)) → Run (Searched B)
with_found r k = bind r (λ s u. on_found s u k)

-- the list of types: each stands in it once, at the place where it was put in

abbrev pub next_place : Option ℕ → Option ℕ
next_place None = None
next_place (Some j) = Some (suc j)

abbrev pub place_in : Term → List Term → Option ℕ
place_in W [] = None
place_in W (T ∷ Ts) = if same T W then Some zero else next_place (place_in W Ts)

-- a type is put in behind the others, unless the list is as long as the limit, and a unit is taken for it
abbrev pub put_behind : ℕ → List Term → Term → Account → Run (Searched (List Term × ℕ))
put_behind limit Ts W u =
    if length Ts == limit then done TooManyTypes u else ticking u (λ v. done (Found (Ts ++ (W ∷ []), length Ts)) v)

-- unless it is there
abbrev pub put_in_at : ℕ → List Term → Term → Option ℕ → Account → Run (Searched (List Term × ℕ))
put_in_at limit Ts W (Some j) u = done (Found (Ts, j)) u
put_in_at limit Ts W None u = put_behind limit Ts W u

-- the list with the closed type's weak-head normal form in it, and the place of that
abbrev pub put_in : Env → ℕ → List Term → Term → Account → Run (Searched (List Term × ℕ))
put_in E limit Ts T u = bind (whnf E [] T u) (λ W v. put_in_at limit Ts W (place_in W Ts) v)

-- argument types, the first first
unfoldable pub put_arguments : Env → ℕ → List Term → List Term → Account → Run (Searched (List Term × List ℕ))
put_arguments E limit Ts [] u = done (Found (Ts, [])) u
put_arguments E limit Ts (A ∷ As) u =
    with_found (put_in E limit Ts A u) (λ p v.
    with_found (put_arguments E limit p.0 As v) (λ q w. done (Found (q.0, p.1 ∷ q.1)) w))

-- those of each constructor, the first constructor first
unfoldable pub put_constructors : Env → ℕ → List Term → List (List Term) → Account → Run (Searched (List Term × List (List ℕ)))
put_constructors E limit Ts [] u = done (Found (Ts, [])) u
put_constructors E limit Ts (As ∷ Ass) u =
    with_found (put_arguments E limit Ts As u) (λ p v.
    with_found (put_constructors E limit p.0 Ass v) (λ q w. done (Found (q.0, p.1 ∷ q.1)) w))

-- what is asked of a type of the list

-- a type with something put in for the n arguments before it; where that changes the type, it mentions one of them
abbrev pub lowered : ℕ → Term → Term
lowered n B = substitute (put_all (variables n) Rel) B

abbrev pub without : ℕ → Term → Option Term
without n B = if same (shift n 0 (lowered n B)) B then Some (lowered n B) else None

-- the argument types behind n arguments, where none of them mentions an argument before it
abbrev pub independent : ℕ → List Term → Option (List Term)
independent n [] = Some []
independent n (B ∷ Bs) = if_some (without n B) (λ A. option_map (◌∷◌ A) (independent (suc n) Bs))

-- a family not in Prop, without indices, that is applied to n terms, its parameters
abbrev pub member_family : FamilyDecl → ℕ → Option FamilyDecl
member_family F n =
    if is_prop F.sort then None else (if (length F.indices == 0) && (n == length F.parameters) then Some F else None)

abbrev pub member_of : Env → Term → ℕ → Option (FamilyId × FamilyDecl)
member_of E (Ind f) n = if_some (family_of E f) (λ F. option_map (λ G. (f, G)) (member_family F n))
member_of E h n = None

abbrev pub or_not_first_order : {A : Type 0} → Term → Option A → Account → Run (Searched A)
or_not_first_order W None u = done (NotFirstOrder W) u
or_not_first_order W (Some a) u = done (Found a) u

-- the argument types of all constructors of the type W at its parameters, as they are declared
unfoldable pub argument_types : Term → List Term → List Constructor → Account → Run (Searched (List (List Term)))
argument_types W ps [] u = done (Found []) u
argument_types W ps (C ∷ Cs) u =
    bind (passing (any_beyond (branch_entries C ps)) u) (λ _ v.
    with_found (or_not_first_order W (independent 0 (branch_entries C ps)) v) (λ As w.
    with_found (argument_types W ps Cs w) (λ Ass x. done (Found (As ∷ Ass)) x)))

abbrev pub shape : FamilyId → List Term → List (List ℕ) → Shape
shape f ps jss = record { family = f; parameters = ps; constructors = jss }

-- a type of the list is worked: all argument types are looked at, and then all are reduced and put in
abbrev pub work_type : Env → ℕ → List Term → Term → Account → Run (Searched (List Term × Shape))
work_type E limit Ts W u =
    with_found (or_not_first_order W (member_of E (head W) (length (args W))) u) (λ m v.
    with_found (argument_types W (args W) (m.1).constructors v) (λ Ass w.
    with_found (put_constructors E limit Ts Ass w) (λ q x. done (Found (q.0, shape m.0 (args W) q.1)) x)))

-- the list is worked from place i on, n types at most; there are no more than the limit
unfoldable pub work_on : Env → ℕ → ℕ → ℕ → List Term → Option Term → Account → Run (Searched (List Shape))
work_on E limit n i Ts None u = done (Found []) u
work_on E limit zero i Ts (Some W) u = done TooManyTypes u
work_on E limit (suc n) i Ts (Some W) u =
    with_found (work_type E limit Ts W u) (λ p v.
    with_found (work_on E limit n (suc i) p.0 (slice_get p.0 (suc i)) v) (λ hs w. done (Found (p.1 ∷ hs)) w))

-- the search from a closed type, with so many types at most
abbrev pub search_within : Env → ℕ → Term → Account → Run (Searched (List Shape))
search_within E limit T u =
    with_found (put_in E limit [] T u) (λ p v. work_on E limit limit 0 p.0 (slice_get p.0 0) v)

abbrev pub first_order_search : Env → Term → Account → Run (Searched (List Shape))
first_order_search E T u = search_within E 1024 T u
