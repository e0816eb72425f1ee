-- The branch of a match for a constructor of so many arguments.
use Rattle.std.specs.Prelude.{ℕ, ◌==◌, if◌then◌else◌, Option, Some, None}
use Rattle.pc_terms.specs.declared.leaf.FamilyId.{FamilyId}
use Rattle.pc_terms.specs.Syntax.{Term, Terms, term_at}
use Rattle.calculus_rules.specs.Lookups.{if_some}
use Rattle.calculus_rules.specs.Same.{same_families}

-- the body of branch c of a match on family f, where the constructor is of that family, and the branch has n names
abbrev pub arm_at : Terms → FamilyId → FamilyId → ℕ → ℕ → Option Term
arm_at bs f g c n = if same_families f g then if_some (term_at bs c) (λ b. if b.0 == n then Some b.1 else None) else None
