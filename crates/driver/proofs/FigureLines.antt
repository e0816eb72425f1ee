-- The five lines of figures.
use Rattle.std.proofs.Common.{◌≡◌, ◌++◌, List, ℕ, ap, ◌∙◌}
use Rattle.std.proofs.lemmas.List.{append_assoc}
use Rattle.workload.proofs.Pieces.{one_piece}

-- a text, a figure with its front, and what was meant to come behind the text
pub figure_piece : (o o1 f d rest : List ℕ) → o1 ≡ o ++ (f ++ d) → o1 ++ rest ≡ o ++ (f ++ (d ++ rest))
figure_piece o o1 f d rest e = one_piece o o1 (f ++ d) rest e ∙ ap (λ t. o ++ t) (append_assoc f d rest)
