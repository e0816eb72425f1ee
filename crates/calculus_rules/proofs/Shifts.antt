-- A term that is lifted by one again.
use Rattle.std.proofs.Common.{◌≡◌, ◌∙◌, ap, ℕ, suc, ◌+◌, arith}
use mathlib.Core.Path.{fun_ext}
use Rattle.trees.proofs.Fusion.{rename-rename}
use Rattle.pc_terms.specs.Syntax.{Term, rename, shift}

suc_sum : (k i : ℕ) → suc (k + i) ≡ (k + 1) + i
suc_sum k i = omega arith

pub once : (t : Term) → rename suc t ≡ shift 1 0 t
once t = ap (λ r. rename r t) (fun_ext one_sum)
  where
    one_sum : (i : ℕ) → suc i ≡ 1 + i
    one_sum i = omega arith

pub once_more : (k : ℕ) (t : Term) → rename suc (shift k 0 t) ≡ shift (k + 1) 0 t
once_more k t = rename-rename t (λ i. k + i) suc ∙ ap (λ r. rename r t) (fun_ext (suc_sum k))
