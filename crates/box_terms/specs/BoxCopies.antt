-- Copies of shared terms that a walk keeps: each is what the walk makes of its term, or the term lifted at cutoff 0.
use Rattle.std.specs.Prelude.{ℕ, ◌≡◌, List}
use Rattle.std.specs.List.{All}
use Rattle.trees.specs.Substitution.{walk, lift_var}
use Rattle.box_terms.specs.BoxSyntax.{BoxTerm}
use Rattle.box_terms.specs.declared.copies.Copied.{Copied}
use Rattle.box_terms.specs.declared.copies.Way.{Way}
use Rattle.box_terms.specs.declared.copies.Way.TheVariants.{Walked, Lifted}

-- the copy of a term, in the way that is named
abbrev pub IsCopy : (ℕ → ℕ → BoxTerm) → BoxTerm → Way → BoxTerm → Type 0
IsCopy f t (Walked n) c = c ≡ walk f n t
IsCopy f t (Lifted k) c = c ≡ walk (lift_var k) 0 t

abbrev pub AreCopies : (ℕ → ℕ → BoxTerm) → List Copied → Type 0
AreCopies f cs = All (λ c. IsCopy f c.term c.way c.copy) cs
