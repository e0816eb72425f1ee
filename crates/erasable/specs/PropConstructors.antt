-- Whether a constructor is one of a family in Prop.
use Rattle.std.specs.Prelude.{ℕ, Bool, false, Option, Some, None, slice_get}
use Rattle.pc_terms.specs.declared.leaf.FamilyId.{FamilyId}
use Rattle.calculus_rules.specs.declared.declaration.Constructor.{Constructor}
use Rattle.calculus_rules.specs.Environment.{Env, FamilyDecl}
use Rattle.calculus_rules.specs.Lookups.{family_of}
use Rattle.calculus_rules.specs.PropSorts.{is_prop}

abbrev pub is_there : FamilyDecl → Option Constructor → Bool
is_there F None = false
is_there F (Some C) = is_prop F.sort

abbrev pub prop_number : ℕ → Option FamilyDecl → Bool
prop_number n None = false
prop_number n (Some F) = is_there F (slice_get F.constructors n)

-- there is such a constructor, and its family is in Prop
abbrev pub is_prop_constructor : Env → FamilyId → ℕ → Bool
is_prop_constructor E f n = prop_number n (family_of E f)
