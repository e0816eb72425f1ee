use Rattle.std.proofs.Common.{ℕ, List, ◌++◌, ◌∷◌, [], ◌∙◌, ap}
use Rattle.closure_rows.proofs.Numbers.{is_tree}
use Rattle.closure_rows.proofs.calls.number_data.Goals as goal

pub of-requires-clause-tree : goal.of-requires-clause-tree
of-requires-clause-tree c = is_tree c.push-2.new.self.items c.loop-made._made (c.in_ok-push-2.ensures.items ∙ ap (λ (xs : List (ℕ × ℕ)). xs ++ (0, 0) ∷ []) c.loop-made.invariant)
