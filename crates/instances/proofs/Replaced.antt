-- Replacing by a cutoff is the substitution for all variables at once.
use Rattle.std.proofs.Common.{◌≡◌, ℕ, ◌+◌, ◌-◌, ◌<◌, ◌≤◌, List, length, get_or, sym, ap, ◌∙◌, arith}
use Rattle.std.proofs.lemmas.Grind.{common_steps}
use Rattle.trees.specs.Tree.{Rel}
use Rattle.trees.specs.Substitution.{walk, lift}
use Rattle.trees.specs.Parallel.{overs, substitute, shift, put_all}
use Rattle.trees.specs.Measures.{loose}
use Rattle.trees.proofs.Closed.{Keeps, walk-closed}
use Rattle.trees.proofs.Cutoffs.{Does, walk-does, Order, below, past, order, overs_below, overs_past, lift-shift, put_all-past, put_all-at}
use Rattle.pc_terms.specs.Syntax.{Term}
use Rattle.instances.specs.Replacing.{replaced_var}

replaced_keeps : (xs : List Term) (m : ℕ) → Keeps (replaced_var xs m)
replaced_keeps xs m k i h = grind (arith, common_steps)

pub replaced_closed : (xs : List Term) (m k : ℕ) (t : Term) → loose t ≤ k → walk (replaced_var xs m) k t ≡ t
replaced_closed xs m k t h = walk-closed (replaced_var xs m) (replaced_keeps xs m) k t h

abbrev raised : ℕ → ℕ → Term
raised m i = Rel (m + i)

replaced_does : (xs : List Term) (m : ℕ) → Does (replaced_var xs m) (put_all xs (raised m))
replaced_does xs m k i = elim (order k i) [
  | below l ↦ below_case l
  | past j e ↦ past_case j e (order (length xs) j)
]
  where
    below_case : i < k → replaced_var xs m k i ≡ overs k (put_all xs (raised m)) i
    below_case l = let b : replaced_var xs m k i ≡ Rel i = grind (arith, common_steps) in b ∙ sym (overs_below k (put_all xs (raised m)) i l)

    past_case : (j : ℕ) → i ≡ k + j → Order (length xs) j → replaced_var xs m k i ≡ overs k (put_all xs (raised m)) i
    past_case j e (below h) =
        let n : k + length xs - (i + 1) ≡ length xs - (j + 1) = omega arith in
        let b : replaced_var xs m k i ≡ lift k 0 (get_or xs (k + length xs - (i + 1)) (Rel 0)) = grind (arith, common_steps) in
        b ∙ ap (λ n. lift k 0 (get_or xs n (Rel 0))) n ∙ lift-shift k 0 (get_or xs (length xs - (j + 1)) (Rel 0))
        ∙ sym (ap (overs k (put_all xs (raised m))) e ∙ overs_past k (put_all xs (raised m)) j ∙ ap (shift k 0) (put_all-at xs (raised m) (Rel 0) j h))
    past_case j e (past h f) =
        let n : k + (m + h) ≡ i - length xs + m = omega arith in
        let b : replaced_var xs m k i ≡ Rel (i - length xs + m) = grind (arith, common_steps) in
        b ∙ sym (ap (overs k (put_all xs (raised m))) e ∙ overs_past k (put_all xs (raised m)) j ∙ ap (shift k 0) (ap (put_all xs (raised m)) f ∙ put_all-past xs (raised m) h) ∙ ap Rel n)

pub replaced_is : (xs : List Term) (m : ℕ) (t : Term) → walk (replaced_var xs m) 0 t ≡ substitute (put_all xs (λ i. Rel (m + i))) t
replaced_is xs m t = walk-does (replaced_var xs m) (put_all xs (raised m)) (replaced_does xs m) 0 t

pub ruleset replaced_laws = (replaced_closed)
