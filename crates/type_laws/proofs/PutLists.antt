-- Lists of terms put in for the variables of a telescope: what becomes of the variables themselves, of terms lifted over them, and of lists of terms under them.
use Rattle.std.proofs.Common.{◌≡◌, ℕ, ◌+◌, List, [], ◌∷◌, ◌++◌, map, length, refl, sym, ap, ◌∙◌, arith}
use mathlib.Core.Path.{fun_ext}
use Rattle.trees.proofs.Fusion.{substitute-rename, substitute-substitute}
use Rattle.trees.proofs.Cutoffs.{put_all-past}
use Rattle.trees.proofs.Put.{each_append, substitute_same, substitute-put_each}
use Rattle.trees.proofs.Exchange.{put_over}
use Rattle.pc_terms.specs.Syntax.{Term, Rel, Ind, Construct, first, overs, substitute, put_all, shift, apply, variables}
use Rattle.pc_terms.specs.declared.leaf.FamilyId.{FamilyId}
use Rattle.calculus_rules.specs.declared.declaration.Constructor.{Constructor}
use Rattle.calculus_rules.specs.Instances.{result_at, built_at, branch_type}
use Rattle.calculus_rules.proofs.Spines.{substitute-apply}

-- two lists put in one after the other
pub put_all_append : (xs ys : List Term) (s : ℕ → Term) → put_all (xs ++ ys) s ≡ put_all ys (put_all xs s)
put_all_append [] ys s = refl
put_all_append (x ∷ xs) ys s = put_all_append xs ys (first x s)

-- the variables become the terms
pub variables_put : (xs : List Term) (s : ℕ → Term) → map (substitute (put_all xs s)) (variables (length xs)) ≡ xs
variables_put [] s = refl
variables_put (x ∷ xs) s = λ i. head i ∷ variables_put xs (first x s) i
  where
    none_past : length xs ≡ length xs + 0
    none_past = omega arith

    head : put_all xs (first x s) (length xs) ≡ x
    head = ap (put_all xs (first x s)) none_past ∙ put_all-past xs (first x s) 0

-- nothing is put in for terms lifted over the variables
pub lifted_put : (xs : List Term) (s : ℕ → Term) (ts : List Term) → map (substitute (put_all xs s)) (map (shift (length xs) 0) ts) ≡ map (substitute s) ts
lifted_put xs s [] = refl
lifted_put xs s (t ∷ ts) = λ i.
    (substitute-rename t (λ j. length xs + j) (put_all xs s) ∙ ap (λ q. substitute q t) (fun_ext (put_all-past xs s))) i ∷ lifted_put xs s ts i

pub each_put_over : (xs : List Term) (s : ℕ → Term) (ts : List Term) →
    map (substitute (put_all xs Rel)) (map (substitute (overs (length xs) s)) ts) ≡ map (substitute (put_all xs s)) ts
each_put_over xs s [] = refl
each_put_over xs s (t ∷ ts) = λ i. put_over xs s t i ∷ each_put_over xs s ts i

-- a list of terms put in for variables past which nothing is put in but the variables lifted over another list, and then that list
pub put_after : (xs news : List Term) (t : Term) →
    substitute (put_all xs Rel) (substitute (put_all news (λ i. Rel (length xs + i))) t) ≡ substitute (put_all (map (substitute (put_all xs Rel)) news) Rel) t
put_after xs news t =
    substitute-substitute t (put_all news (λ i. Rel (length xs + i))) (put_all xs Rel)
    ∙ ap (λ q. substitute q t) (fun_ext (λ i. substitute-put_each news (put_all xs Rel) (λ i. Rel (length xs + i)) i
    ∙ ap (λ p. put_all (map (substitute (put_all xs Rel)) news) p i) (fun_ext (put_all-past xs Rel))))

-- nothing is put in
pub each_same : (ts : List Term) → map (substitute Rel) ts ≡ ts
each_same [] = refl
each_same (t ∷ ts) = λ i. substitute_same t i ∷ each_same ts i

-- the family at the parameters and the result, with parameters and arguments put in
pub result_put : (f : FamilyId) (qs xs rs : List Term) (n m : ℕ) → length qs ≡ n → length xs ≡ m →
    substitute (put_all (qs ++ xs) Rel) (apply (Ind f) (map (shift m 0) (variables n) ++ rs)) ≡ apply (Ind f) (qs ++ map (substitute (put_all xs (put_all qs Rel))) rs)
result_put f qs xs rs n m e l =
    (λ i. substitute (put_all_append qs xs Rel i) (apply (Ind f) (map (shift (l' i) 0) (variables (e' i)) ++ rs)))
    ∙ substitute-apply s (Ind f) (map (shift (length xs) 0) (variables (length qs)) ++ rs)
    ∙ ap (apply (Ind f)) (each_append (substitute s) (map (shift (length xs) 0) (variables (length qs))) rs
    ∙ ap (λ l. l ++ map (substitute s) rs) (lifted_put xs (put_all qs Rel) (variables (length qs)) ∙ variables_put qs Rel))
  where
    s : ℕ → Term
    s = put_all xs (put_all qs Rel)

    e' : n ≡ length qs
    e' = sym e

    l' : m ≡ length xs
    l' = sym l

-- the constructor at the parameters and its variables, with the arguments put in
pub built_put : (f : FamilyId) (c : ℕ) (C : Constructor) (ps xs : List Term) → length xs ≡ length C.args →
    substitute (put_all xs Rel) (built_at f c C ps) ≡ apply (Construct f c) (ps ++ xs)
built_put f c C ps xs l =
    (λ i. substitute s (apply (Construct f c) (map (shift (l' i) 0) ps ++ variables (l' i))))
    ∙ substitute-apply s (Construct f c) (map (shift (length xs) 0) ps ++ variables (length xs))
    ∙ ap (apply (Construct f c)) (each_append (substitute s) (map (shift (length xs) 0) ps) (variables (length xs))
    ∙ (λ i. (lifted_put xs Rel ps ∙ each_same ps) i ++ variables_put xs Rel i))
  where
    s : ℕ → Term
    s = put_all xs Rel

    l' : length C.args ≡ length xs
    l' = sym l

-- the type of a branch with the arguments put in
pub branch_type_put : (f : FamilyId) (c : ℕ) (C : Constructor) (ps xs : List Term) (ret : Term) → length xs ≡ length C.args →
    substitute (put_all xs Rel) (branch_type f c C ps ret) ≡ substitute (put_all (map (substitute (put_all xs (put_all ps Rel))) C.result ++ (apply (Construct f c) (ps ++ xs) ∷ [])) Rel) ret
branch_type_put f c C ps xs ret l =
    (λ j. substitute s (substitute (put_all news (λ i. Rel (l' j + i))) ret))
    ∙ put_after xs news ret
    ∙ ap (λ ns. substitute (put_all ns Rel) ret) (each_append (substitute s) (result_at C ps) (built_at f c C ps ∷ [])
    ∙ (λ i. results i ++ (built_put f c C ps xs l i ∷ [])))
  where
    s : ℕ → Term
    s = put_all xs Rel

    l' : length C.args ≡ length xs
    l' = sym l

    news : List Term
    news = result_at C ps ++ (built_at f c C ps ∷ [])

    results : map (substitute s) (result_at C ps) ≡ map (substitute (put_all xs (put_all ps Rel))) C.result
    results = (λ j. map (substitute s) (map (substitute (overs (l' j) (put_all ps Rel))) C.result)) ∙ each_put_over xs (put_all ps Rel) C.result
