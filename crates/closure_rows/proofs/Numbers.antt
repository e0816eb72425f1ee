-- Natural numbers as data.
use Rattle.std.proofs.Common.{◌≡◌, ℕ, zero, suc, ◌+◌, ◌<◌, ◌≤◌, ◌^◌, List, [], ◌∷◌, ◌++◌, length, replicate, sym, ap, subst, arith, length-append, ◌∙◌}
use Rattle.std.proofs.lemmas.List.{replicate-append-replicate, length-replicate}
use Rattle.data_trees.specs.Preorder.{IsTree}
use Rattle.mem_value.specs.Storing.{IsSmallData}

abbrev pub successor : ℕ × ℕ
successor = (1, 1)

abbrev numeral : ℕ → List (ℕ × ℕ)
numeral n = replicate n (1, 1) ++ (0, 0) ∷ []

numeral_tree : (n : ℕ) → IsTree (numeral n)
numeral_tree zero = tt
numeral_tree (suc n) = numeral_tree n

numeral_small : (n : ℕ) → IsSmallData (numeral n)
numeral_small zero = ((omega arith, omega arith), tt)
numeral_small (suc n) = ((omega arith, omega arith), numeral_small n)

pub is_tree : (nodes : List (ℕ × ℕ)) (n : ℕ) → nodes ≡ replicate n (1, 1) ++ (0, 0) ∷ [] → IsTree nodes
is_tree nodes n e = subst IsTree (sym e) (numeral_tree n)

pub is_small : (nodes : List (ℕ × ℕ)) (n : ℕ) → nodes ≡ replicate n (1, 1) ++ (0, 0) ∷ [] → IsSmallData nodes
is_small nodes n e = subst IsSmallData (sym e) (numeral_small n)

pub is_few : (nodes : List (ℕ × ℕ)) (n : ℕ) → nodes ≡ replicate n (1, 1) ++ (0, 0) ∷ [] → n ≤ 1000 → length nodes < 2 ^ 32
is_few nodes n e le =
    let l : length nodes ≡ n + 1 = ap length e ∙ length-append (replicate n (1, 1)) ((0, 0) ∷ []) ∙ ap (λ k. k + 1) (length-replicate n (1, 1)) in omega (arith, l, le)

pub one_more : (n : ℕ) → replicate n successor ++ successor ∷ [] ≡ replicate (n + 1) successor
one_more n = replicate-append-replicate n 1 successor
