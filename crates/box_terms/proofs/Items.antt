-- Lists: the items of a mapped list from its end, and how deep the items of a term's lists are.
use Rattle.std.proofs.Common.{◌≡◌, ◌≤◌, ◌<◌, ℕ, zero, suc, List, [], ◌∷◌, ◌++◌, length, map, reverse, get_or, refl, sym, ap, ◌∙◌, subst, arith}
use Rattle.std.proofs.lemmas.List.{map-append, reverse-append}
use Rattle.trees.specs.Measures.{depth, depth_trees}
use Rattle.box_terms.specs.BoxLists.{arms_of, bodies_of}
use Rattle.box_terms.specs.declared.term.BoxBranch.{BoxBranch}
use Rattle.box_terms.specs.declared.term.BoxDef.{BoxDef}

pub reverse_map : {A B : Type 0} (f : A → B) (xs : List A) → reverse (map f xs) ≡ map f (reverse xs)
reverse_map f [] = refl
reverse_map f (x ∷ xs) =
    reverse-append (f x ∷ []) (map f xs) ∙ ap (λ ys. ys ++ (f x ∷ [])) (reverse_map f xs) ∙ sym (map-append f (reverse xs) (x ∷ []))
    ∙ sym (ap (map f) (reverse-append (x ∷ []) xs))

-- no branch and no definition is deeper than the list

pub arm_is_less : (bs : List BoxBranch) (i : ℕ) (b : BoxBranch) → i < length bs → b ≡ get_or bs i b → depth b.body ≤ depth_trees (arms_of bs)
arm_is_less [] i b l e = absurd (omega arith)
arm_is_less (x ∷ bs) zero b l e = subst (λ (y : BoxBranch). depth y.body ≤ depth_trees (arms_of (x ∷ bs))) (sym e) (omega arith)
arm_is_less (x ∷ bs) (suc i) b l e = let h = arm_is_less bs i b (omega arith) e in omega (arith, h)

pub body_is_less : (m : ℕ) (ds : List BoxDef) (i : ℕ) (d : BoxDef) → i < length ds → d ≡ get_or ds i d → depth d.body ≤ depth_trees (bodies_of m ds)
body_is_less m [] i d l e = absurd (omega arith)
body_is_less m (x ∷ ds) zero d l e = subst (λ (y : BoxDef). depth y.body ≤ depth_trees (bodies_of m (x ∷ ds))) (sym e) (omega arith)
body_is_less m (x ∷ ds) (suc i) d l e = let h = body_is_less m ds i d (omega arith) e in omega (arith, h)
