-- Texts that are put piece by piece.
use Rattle.std.proofs.Common.{◌≡◌, ◌++◌, List, ℕ, ap, ◌∙◌}
use Rattle.std.proofs.lemmas.List.{append_assoc}

-- a text, another piece, and what was meant to come behind the first
pub one_piece : (o o1 a p : List ℕ) → o1 ≡ o ++ a → o1 ++ p ≡ o ++ (a ++ p)
one_piece o o1 a p e = ap (λ t. t ++ p) e ∙ append_assoc o a p
