-- Environments of plain blocks, and a constructor in one: what is kept of them, and what is found of the constructor's type.
use Rattle.std.specs.Prelude.{◌≡◌, ℕ, List, [], ◌∷◌, Some, slice_get, map}
use Rattle.universe_levels.specs.declared.sort.Sort.{Sort}
use Rattle.universe_levels.specs.declared.sort.Sort.TheVariants.{Of}
use Rattle.pc_terms.specs.declared.leaf.FamilyId.{FamilyId}
use Rattle.calculus_rules.specs.declared.declaration.Constructor.{Constructor}
use Rattle.calculus_rules.specs.declared.declaration.Family.{Family}
use Rattle.calculus_rules.specs.declared.declaration.Block.{Block}
use Rattle.calculus_rules.specs.declared.declaration.Kept.{Kept}
use Rattle.calculus_rules.specs.declared.declaration.Kept.TheVariants.{Block as Whole}
use Rattle.calculus_rules.specs.Environment.{Env, FamilyDecl, family_at}
use Rattle.calculus_rules.specs.Lookups.{kept_at}
use Rattle.calculus_rules.specs.FirstOrder.{Shape}

-- the sort Set: the types of the level Set with nothing added
abbrev pub set_sort : Sort
set_sort = Of (record { level = record { 0 = 0 }; add = 0 } ∷ [])

-- constructors without arguments and without result terms
abbrev pub AreConstants : List Constructor → Type 0
AreConstants [] = Unit {0}
AreConstants (C ∷ Cs) = (C.args ≡ []) × (C.result ≡ []) × AreConstants Cs

abbrev pub HaveConstants : List Family → Type 0
HaveConstants [] = Unit {0}
HaveConstants (G ∷ Gs) = AreConstants G.ctors × HaveConstants Gs

-- whole blocks alone, without parameters, whose constructors are constants
abbrev pub ArePlainBlocks : List Kept → Type 0
ArePlainBlocks [] = Unit {0}
ArePlainBlocks (Whole B ∷ ds) = (B.params ≡ []) × HaveConstants B.families × ArePlainBlocks ds
ArePlainBlocks (d ∷ ds) = ⊥

-- a family of sort Set, without parameters and indices, with these constructors
abbrev pub enumeration_of : List Constructor → FamilyDecl
enumeration_of Cs = record { parameters = []; indices = []; sort = set_sort; constructors = Cs }

-- the environment keeps plain blocks alone, and the family is one of sort Set that has constructor c
pub record KeepsPlain (E : Env) (f : FamilyId) (c : ℕ) : Type 0 where
  pub blocks : ArePlainBlocks E.declarations
  pub block : Block
  pub kept : kept_at E.declarations f.block ≡ Some (Whole block)
  pub ctors : List Constructor
  pub at : family_at block f.family ≡ Some (enumeration_of ctors)
  pub constants : AreConstants ctors
  pub ctor : Constructor
  pub is_ctor : slice_get ctors c ≡ Some ctor

-- an empty list for each constructor
abbrev pub empties : {A : Type 0} → List Constructor → List (List A)
empties Cs = map (λ C. []) Cs

-- the first-order set of such a family: itself
abbrev pub plain_set : FamilyId → List Constructor → List Shape
plain_set f Cs = record { family = f; parameters = []; constructors = empties Cs } ∷ []
