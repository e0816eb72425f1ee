-- Trees node by node.
use Rattle.std.proofs.Common.{◌≡◌, ℕ, zero, suc, ◌+◌, ◌-◌, ◌<◌, List, ◌∷◌, drop, length, sym, subst, arith}
use Rattle.std.specs.Prelude.{get_or}
use Rattle.std.proofs.lemmas.List.{drop_more}
use Rattle.data_trees.specs.Preorder.{IsForest}
use Rattle.mem_value.specs.Storing.{IsSmallNode, IsSmallData}

-- one node less to come
pub forest_more : (nodes : List (ℕ × ℕ)) (i w : ℕ) (d : ℕ × ℕ) → i < length nodes → 0 < w → IsForest (w - 1 + (get_or nodes i d).1) (drop (i + 1) nodes) → IsForest w (drop i nodes)
forest_more nodes i w d lt pos h = subst (IsForest w) (sym (drop_more nodes i d lt)) (by w pos h)
  where
    by : (w : ℕ) → 0 < w → IsForest (w - 1 + (get_or nodes i d).1) (drop (i + 1) nodes) → IsForest w (get_or nodes i d ∷ drop (i + 1) nodes)
    by zero pos h = absurd (omega (arith, pos))
    by (suc k) pos h = let e : suc k - 1 + (get_or nodes i d).1 ≡ (get_or nodes i d).1 + k = omega arith in subst (λ n. IsForest n (drop (i + 1) nodes)) e h

pub small_more : (nodes : List (ℕ × ℕ)) (i : ℕ) (d : ℕ × ℕ) → i < length nodes → IsSmallNode (get_or nodes i d) → IsSmallData (drop (i + 1) nodes) → IsSmallData (drop i nodes)
small_more nodes i d lt first h = subst IsSmallData (sym (drop_more nodes i d lt)) (first, h)
