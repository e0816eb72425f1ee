-- Telescopes with terms put in, as the entries of a context.
use Rattle.std.proofs.Common.{◌≡◌, ℕ, zero, suc, List, [], ◌∷◌, length, None, refl, ap}
use Rattle.pc_terms.specs.Syntax.{Term, over}
use Rattle.calculus_rules.specs.Instances.{entries_at}
use Rattle.calculus_rules.specs.Context.{Values, under}

pub entries_at_length : (s : ℕ → Term) (As : List Term) → length (entries_at s As) ≡ length As
entries_at_length s [] = refl
entries_at_length s (A ∷ As) = ap suc (entries_at_length (over s) As)

-- one more assumed entry, outside or inside
pub under_none : (n : ℕ) (V : Values) → under n (None ∷ V) ≡ None ∷ under n V
under_none zero V = refl
under_none (suc n) V = ap (◌∷◌ None) (under_none n V)
