-- Measures of a program as it stands between two steps.
use Rattle.std.proofs.Common.{◌≡◌, ℕ, zero, suc, ◌+◌, ◌*◌, ◌≤◌, max, List, [], ◌∷◌, refl, arith, ◌⊎◌, inl, inr, ⊎_elim}
use Rattle.trees.specs.Measures.{nodes}
use Rattle.box_terms.specs.BoxSyntax.{BoxTerm}
use Rattle.lambda_box.specs.BoxProgram.{BoxConstant}
use Rattle.lambda_box.specs.SaturatedForm.{nodes_of_constants}
use Rattle.shrink_passes.specs.Uses.{total, greatest}
use Rattle.shrink_passes.specs.Inline.{changed, standing}

pub total_standing : (h : BoxTerm → ℕ) (f : BoxTerm → BoxTerm) (rest done : List BoxConstant) → total h (standing f rest done) ≡ total (λ t. h (f t)) rest + total h done
total_standing h f [] done = omega arith
total_standing h f (d ∷ rest) done = omega (arith, total_standing h f rest (changed f d ∷ done))

pub greatest_standing : (h : BoxTerm → ℕ) (f : BoxTerm → BoxTerm) (rest done : List BoxConstant) → greatest h (standing f rest done) ≡ max (greatest (λ t. h (f t)) rest) (greatest h done)
greatest_standing h f [] done = omega arith
greatest_standing h f (d ∷ rest) done = omega (arith, greatest_standing h f rest (changed f d ∷ done))

pub nodes_total : (ds : List BoxConstant) → nodes_of_constants ds ≡ total nodes ds
nodes_total [] = refl
nodes_total (d ∷ ds) = omega (arith, nodes_total ds)

-- measures of bodies that are related, one by one

pub total_more : (h u g : BoxTerm → ℕ) (c : ℕ) → ((t : BoxTerm) → h t ≡ g t + u t * c) → (ds : List BoxConstant) → total h ds ≡ total g ds + total u ds * c
total_more h u g c e [] = omega arith
total_more h u g c e (d ∷ ds) = omega (arith, e d.body, total_more h u g c e ds)

pub total_balance : (h u g : BoxTerm → ℕ) (c : ℕ) → ((t : BoxTerm) → h t + u t ≡ g t + u t * c) → (ds : List BoxConstant) → total h ds + total u ds ≡ total g ds + total u ds * c
total_balance h u g c e [] = omega arith
total_balance h u g c e (d ∷ ds) = omega (arith, e d.body, total_balance h u g c e ds)

pub greatest_within : (h g l : BoxTerm → ℕ) (c : ℕ) → ((t : BoxTerm) → h t ≤ max (g t) (l t + c)) → (ds : List BoxConstant) → greatest h ds ≤ max (greatest g ds) (greatest l ds + c)
greatest_within h g l c e [] = omega arith
greatest_within h g l c e (d ∷ ds) = omega (arith, e d.body, greatest_within h g l c e ds)

pub greatest_over : (h l : BoxTerm → ℕ) (c : ℕ) → ((t : BoxTerm) → l t + c ≤ max (h t) c) → (ds : List BoxConstant) → greatest l ds + c ≤ max (greatest h ds) c
greatest_over h l c e [] = omega arith
greatest_over h l c e (d ∷ ds) = omega (arith, e d.body, greatest_over h l c e ds)

pub greatest_le : (g h : BoxTerm → ℕ) → ((t : BoxTerm) → g t ≤ h t) → (ds : List BoxConstant) → greatest g ds ≤ greatest h ds
greatest_le g h e [] = omega arith
greatest_le g h e (d ∷ ds) = omega (arith, e d.body, greatest_le g h e ds)

pub greatest_same : (g h : BoxTerm → ℕ) → ((t : BoxTerm) → g t ≡ h t) → (ds : List BoxConstant) → greatest g ds ≡ greatest h ds
greatest_same g h e [] = refl
greatest_same g h e (d ∷ ds) = omega (arith, e d.body, greatest_same g h e ds)

none_or_some : (n : ℕ) → (n ≡ 0) ⊎ (1 ≤ n)
none_or_some zero = inl refl
none_or_some (suc n) = inr (omega arith)

pub greatest_reaches : (u h : BoxTerm → ℕ) (c : ℕ) → ((t : BoxTerm) → 1 ≤ u t → c ≤ h t) → (ds : List BoxConstant) → 1 ≤ total u ds → c ≤ greatest h ds
greatest_reaches u h c e [] l = absurd (omega arith)
greatest_reaches u h c e (d ∷ ds) l = ⊎_elim (λ z. omega (arith, greatest_reaches u h c e ds (omega arith))) (λ p. omega (arith, e d.body p)) (none_or_some (u d.body))
