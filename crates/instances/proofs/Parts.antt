-- Where a part that a type or an entry is made of is beyond the limits, that type or one of those entries is.
use Rattle.std.proofs.Common.{◌≡◌, ℕ, ◌+◌, ◌<◌, ◌||◌, List, [], ◌∷◌, ◌++◌, length, map, ap, ◌∙◌, subst as along}
use Rattle.std.specs.Bool.{IsTrue}
use Rattle.trees.specs.Measures.{depth_limit, IsBeyond}
use Rattle.trees.proofs.Cutoffs.{subst_list-substitute}
use Rattle.pc_terms.specs.declared.leaf.FamilyId.{FamilyId}
use Rattle.pc_terms.specs.Syntax.{Term, Rel, SortT, Ind, Construct, subst_list, apply, variables, shift, put_all, substitute}
use Rattle.calculus_rules.specs.declared.declaration.Constructor.{Constructor}
use Rattle.calculus_rules.specs.declared.declaration.Family.{Family}
use Rattle.calculus_rules.specs.Environment.{with_parameters}
use Rattle.calculus_rules.specs.Instances.{products, entries_at, family_type, constructor_type, predicate_entries, predicate_at, result_at, built_at, branch_type}
use Rattle.pc_rules.specs.DirectedRun.{is_beyond, any_beyond}
use Rattle.pc_rules.specs.DirectedTyping.{branch_beyond}
use Rattle.instances.proofs.Beyond.{any_beyond-left, any_beyond-last}
use Rattle.instances.proofs.Codomains.{products-beyond, products-long}
use Rattle.instances.proofs.Applying.{under-long}
use Rattle.pc_rules.proofs.Following.{beyond_is, or_left, or_right}

-- types of families

pub family-arity : (Ps : List Term) (G : Family) (s : Term) → s ≡ SortT G.sort → IsBeyond (products G.indices s) → IsTrue (is_beyond (family_type (with_parameters Ps G)))
family-arity Ps G s e h =
    beyond_is (family_type (with_parameters Ps G))
    (products-beyond Ps (products G.indices (SortT G.sort)) (along (λ (t : Term). IsBeyond (products G.indices t)) e h))

-- types of constructors

abbrev target : FamilyId → ℕ → ℕ → Constructor → Term
target f p a C = apply (Ind f) (map (shift a 0) (variables p) ++ C.result)

pub constructor-params : (f : FamilyId) (Ps : List Term) (G : Family) (C : Constructor) → depth_limit < length Ps → IsTrue (is_beyond (constructor_type f (with_parameters Ps G) C))
constructor-params f Ps G C h =
    beyond_is (constructor_type f (with_parameters Ps G) C) (products-long Ps (products C.args (target f (length Ps) (length C.args) C)) h)

pub constructor-inner : (f : FamilyId) (Ps : List Term) (G : Family) (C : Constructor) (a p : ℕ) (t : Term) → a ≡ length C.args → p ≡ length Ps →
    t ≡ apply (Ind f) (map (shift a 0) (variables p) ++ C.result) → IsBeyond (products C.args t) → IsTrue (is_beyond (constructor_type f (with_parameters Ps G) C))
constructor-inner f Ps G C a p t e g is h =
    let end = is ∙ ap (λ n. target f p n C) e ∙ ap (λ n. target f n (length C.args) C) g in
    beyond_is (constructor_type f (with_parameters Ps G) C)
    (products-beyond Ps (products C.args (target f (length Ps) (length C.args) C)) (along (λ (u : Term). IsBeyond (products C.args u)) end h))

pub constructor-args : (f : FamilyId) (Ps : List Term) (G : Family) (C : Constructor) → depth_limit < length C.args → IsTrue (is_beyond (constructor_type f (with_parameters Ps G) C))
constructor-args f Ps G C h =
    beyond_is (constructor_type f (with_parameters Ps G) C)
    (products-beyond Ps (products C.args (target f (length Ps) (length C.args) C)) (products-long C.args (target f (length Ps) (length C.args) C) h))

pub constructor-end : (f : FamilyId) (Ps : List Term) (G : Family) (C : Constructor) (a p : ℕ) → a ≡ length C.args → p ≡ length Ps →
    IsBeyond (apply (Ind f) (map (shift a 0) (variables p) ++ C.result)) → IsTrue (is_beyond (constructor_type f (with_parameters Ps G) C))
constructor-end f Ps G C a p e g h =
    let end = ap (λ n. target f p n C) e ∙ ap (λ n. target f n (length C.args) C) g in
    beyond_is (constructor_type f (with_parameters Ps G) C)
    (products-beyond Ps (products C.args (target f (length Ps) (length C.args) C))
    (products-beyond C.args (target f (length Ps) (length C.args) C) (along (λ (u : Term). IsBeyond u) end h)))

-- entries of predicates

abbrev under : Term → ℕ → List Term → Term
under h n ps = apply h (map (shift n 0) ps ++ variables n)

pub predicate-count : (f : FamilyId) (Ps : List Term) (G : Family) (ps : List Term) → depth_limit < length G.indices → IsTrue (any_beyond (predicate_entries f (with_parameters Ps G) ps))
predicate-count f Ps G ps h =
    any_beyond-last (entries_at (put_all ps Rel) G.indices) (under (Ind f) (length G.indices) ps)
    (under-long (Ind f) (map (shift (length G.indices) 0) ps) (length G.indices) h)

pub predicate-indices : (f : FamilyId) (Ps : List Term) (G : Family) (ps : List Term) → IsTrue (any_beyond (entries_at (put_all ps Rel) G.indices)) →
    IsTrue (any_beyond (predicate_entries f (with_parameters Ps G) ps))
predicate-indices f Ps G ps h = any_beyond-left (entries_at (put_all ps Rel) G.indices) (under (Ind f) (length G.indices) ps ∷ []) h

pub predicate-scrutinee : (f : FamilyId) (Ps : List Term) (G : Family) (ps : List Term) (n : ℕ) (h : Term) → n ≡ length G.indices → h ≡ Ind f →
    IsBeyond (apply h (map (shift n 0) ps ++ variables n)) → IsTrue (any_beyond (predicate_entries f (with_parameters Ps G) ps))
predicate-scrutinee f Ps G ps n h e g b =
    let whole = ap (λ m. under h m ps) e ∙ ap (λ t. under t (length G.indices) ps) g in
    any_beyond-last (entries_at (put_all ps Rel) G.indices) (under (Ind f) (length G.indices) ps) (along (λ (u : Term). IsBeyond u) whole b)

-- predicates at indices and a scrutinee

pub predicate-at : (ret : Term) (is : List Term) (t : Term) (list : List Term) → list ≡ is ++ (t ∷ []) → IsBeyond (subst_list 0 list ret) → IsTrue (is_beyond (predicate_at ret is t))
predicate-at ret is t list e h =
    beyond_is (predicate_at ret is t)
    (along (λ (u : Term). IsBeyond u) (subst_list-substitute list 0 ret ∙ ap (λ ts. substitute (put_all ts Rel) ret) e) h)

-- types of branches

abbrev pub replacements : FamilyId → ℕ → Constructor → List Term → List Term
replacements f c C ps = result_at C ps ++ (built_at f c C ps ∷ [])

pub branch-count : (f : FamilyId) (c : ℕ) (C : Constructor) (ps : List Term) (ret : Term) → depth_limit < length C.args → IsTrue (branch_beyond f c C ps ret)
branch-count f c C ps ret h =
    or_right (any_beyond (result_at C ps)) (is_beyond (built_at f c C ps) || is_beyond (branch_type f c C ps ret))
    (or_left (is_beyond (built_at f c C ps)) (is_beyond (branch_type f c C ps ret))
    (beyond_is (built_at f c C ps) (under-long (Construct f c) (map (shift (length C.args) 0) ps) (length C.args) h)))

pub branch-type : (f : FamilyId) (c : ℕ) (C : Constructor) (ps : List Term) (ret : Term) (n : ℕ) (list : List Term) → n ≡ length C.args →
    list ≡ replacements f c C ps → IsBeyond (substitute (put_all list (λ i. Rel (n + i))) ret) → IsTrue (branch_beyond f c C ps ret)
branch-type f c C ps ret n list e g h =
    let whole = ap (λ m. substitute (put_all list (λ i. Rel (m + i))) ret) e ∙ ap (λ ts. substitute (put_all ts (λ i. Rel (length C.args + i))) ret) g in
    or_right (any_beyond (result_at C ps)) (is_beyond (built_at f c C ps) || is_beyond (branch_type f c C ps ret))
    (or_right (is_beyond (built_at f c C ps)) (is_beyond (branch_type f c C ps ret))
    (beyond_is (branch_type f c C ps ret) (along (λ (u : Term). IsBeyond u) whole h)))
