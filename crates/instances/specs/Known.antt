-- What the instantiations look up in an environment: the newest declaration of a block's name is the block.
use Rattle.std.specs.Prelude.{ℕ, Option, slice_get}
use Rattle.pc_terms.specs.declared.leaf.FamilyId.{FamilyId}
use Rattle.calculus_rules.specs.declared.declaration.Constructor.{Constructor}
use Rattle.calculus_rules.specs.Environment.{Env, FamilyDecl, family_at}
use Rattle.calculus_rules.specs.Lookups.{if_some, kept_at, known_block, family_of}

-- a family of a whole block, or of one that is being declared
abbrev pub known_family : Env → FamilyId → Option FamilyDecl
known_family E f = if_some (known_block (kept_at E.declarations f.block)) (λ B. family_at B f.family)

-- constructor c of a family of a whole block
abbrev pub constructor_of : Env → FamilyId → ℕ → Option Constructor
constructor_of E f c = if_some (family_of E f) (λ F. slice_get F.constructors c)
