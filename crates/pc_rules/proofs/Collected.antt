-- Lists that are collected item by item: types, bodies and entries of definitions, and contexts with the entries of a telescope.
use Rattle.std.proofs.Common.{◌≡◌, ◌∙◌, ap, refl, ℕ, zero, suc, ◌<◌, ◌+◌, IsTrue, List, [], ◌∷◌, ◌++◌, length, take, get_or, subst, arith}
use Rattle.std.proofs.lemmas.List.{length-take-le}
use Rattle.trees.specs.Measures.{IsBeyond}
use Rattle.trees.proofs.Cutoffs.{lift-shift}
use Rattle.pc_terms.specs.Syntax.{Term, lift, shift, list_of}
use Rattle.pc_terms.specs.Lists.{types_of, bodies_of}
use Rattle.pc_terms.specs.declared.term.Def.{Def}
use Rattle.calculus_rules.specs.declared.entry.Entry.TheVariants.{Assumed}
use Rattle.calculus_rules.specs.Context.{Context, extend}
use Rattle.pc_rules.specs.DirectedRun.{is_beyond, any_beyond}
use Rattle.pc_rules.specs.DirectedComparison.{lifted_types}
use Rattle.pc_rules.proofs.Following.{or_left, or_right, beyond_is}
use Rattle.pc_rules.proofs.ListSteps.{take_next}

types_more : (ds : List Def) (d : Def) → list_of (types_of (ds ++ (d ∷ []))) ≡ list_of (types_of ds) ++ (d.ty ∷ [])
types_more [] d = refl
types_more (x ∷ ds) d = ap (◌∷◌ x.ty) (types_more ds d)

bodies_more : (m : ℕ) (ds : List Def) (d : Def) → list_of (bodies_of m (ds ++ (d ∷ []))) ≡ list_of (bodies_of m ds) ++ (d.body ∷ [])
bodies_more m [] d = refl
bodies_more m (x ∷ ds) d = ap (◌∷◌ x.body) (bodies_more m ds d)

lifted_more : (n : ℕ) (ds : List Def) (d : Def) →
    lifted_types n (list_of (types_of (ds ++ (d ∷ [])))) ≡ lifted_types n (list_of (types_of ds)) ++ (shift (length ds + n) 0 d.ty ∷ [])
lifted_more n [] d = let k : n ≡ 0 + n = omega arith in ap (λ j. shift j 0 d.ty ∷ []) k
lifted_more n (x ∷ ds) d =
    let k : length ds + suc n ≡ suc (length ds) + n = omega arith in
    ap (◌∷◌ (shift n 0 x.ty)) (lifted_more (suc n) ds d ∙ ap (λ j. lifted_types (suc n) (list_of (types_of ds)) ++ (shift j 0 d.ty ∷ [])) k)

pub types_next : (ds : List Def) (i : ℕ) (d : Def) → i < length ds → d ≡ get_or ds i d → list_of (types_of (take (i + 1) ds)) ≡ list_of (types_of (take i ds)) ++ (d.ty ∷ [])
types_next ds i d h e = ap (λ xs. list_of (types_of xs)) (take_next ds i d h e) ∙ types_more (take i ds) d

pub bodies_next : (m : ℕ) (ds : List Def) (i : ℕ) (d : Def) → i < length ds → d ≡ get_or ds i d →
    list_of (bodies_of m (take (i + 1) ds)) ≡ list_of (bodies_of m (take i ds)) ++ (d.body ∷ [])
bodies_next m ds i d h e = ap (λ xs. list_of (bodies_of m xs)) (take_next ds i d h e) ∙ bodies_more m (take i ds) d

pub lifted_next : (ds : List Def) (i : ℕ) (d : Def) → i < length ds → d ≡ get_or ds i d →
    lifted_types 0 (list_of (types_of (take (i + 1) ds))) ≡ lifted_types 0 (list_of (types_of (take i ds))) ++ (shift i 0 d.ty ∷ [])
lifted_next ds i d h e =
    let k : length (take i ds) + 0 ≡ i = omega (arith, length-take-le i ds (omega arith)) in
    ap (λ xs. lifted_types 0 (list_of (types_of xs))) (take_next ds i d h e) ∙ lifted_more 0 (take i ds) d
    ∙ ap (λ j. lifted_types 0 (list_of (types_of (take i ds))) ++ (shift j 0 d.ty ∷ [])) k

-- a definition whose lifted type is beyond the limits
lifted_one_from : (n : ℕ) (ds : List Def) (i : ℕ) (d : Def) → i < length ds → d ≡ get_or ds i d → IsTrue (is_beyond (shift (i + n) 0 d.ty)) →
    IsTrue (any_beyond (lifted_types n (list_of (types_of ds))))
lifted_one_from n [] i d h e k = absurd (omega arith)
lifted_one_from n (x ∷ ds) zero d h e k =
    let z : 0 + n ≡ n = omega arith in
    let l : IsTrue (is_beyond (shift n 0 d.ty)) = subst (λ j. IsTrue (is_beyond (shift j 0 d.ty))) z k in
    or_left (is_beyond (shift n 0 x.ty)) (any_beyond (lifted_types (suc n) (list_of (types_of ds)))) (subst (λ (y : Def). IsTrue (is_beyond (shift n 0 y.ty))) e l)
lifted_one_from n (x ∷ ds) (suc i) d h e k =
    let p : suc i + n ≡ i + suc n = omega arith in
    or_right (is_beyond (shift n 0 x.ty)) (any_beyond (lifted_types (suc n) (list_of (types_of ds))))
    (lifted_one_from (suc n) ds i d (omega arith) e (subst (λ j. IsTrue (is_beyond (shift j 0 d.ty))) p k))

pub lifted_one : (ds : List Def) (i : ℕ) (d : Def) → i < length ds → d ≡ get_or ds i d → IsTrue (is_beyond (shift i 0 d.ty)) →
    IsTrue (any_beyond (lifted_types 0 (list_of (types_of ds))))
lifted_one ds i d h e k =
    let p : i ≡ i + 0 = omega arith in
    lifted_one_from 0 ds i d h e (subst (λ j. IsTrue (is_beyond (shift j 0 d.ty))) p k)

-- the lifted type of a definition, as lifting makes it
pub lifted_beyond : (ds : List Def) (i : ℕ) (d : Def) → i < length ds → d ≡ get_or ds i d → IsBeyond (lift i 0 d.ty) → IsTrue (any_beyond (lifted_types 0 (list_of (types_of ds))))
lifted_beyond ds i d h e b =
    let P : Term → Type 0 = λ t. IsBeyond t in
    lifted_one ds i d h e (beyond_is (shift i 0 d.ty) (subst P (lift-shift i 0 d.ty) b))

-- one entry more
extend_more : (c : Context) (As : List Term) (A : Term) → extend c (As ++ (A ∷ [])) ≡ Assumed A ∷ extend c As
extend_more c [] A = refl
extend_more c (B ∷ As) A = extend_more (Assumed B ∷ c) As A

pub extend_next : (c : Context) (As : List Term) (i : ℕ) (A : Term) → i < length As → A ≡ get_or As i A → extend c (take (i + 1) As) ≡ Assumed A ∷ extend c (take i As)
extend_next c As i A h e = ap (λ xs. extend c xs) (take_next As i A h e) ∙ extend_more c (take i As) A
