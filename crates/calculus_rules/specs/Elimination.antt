-- Which families may be eliminated into which sorts (PCUIC, POPL 2020, section 2: elimination of propositions), and which matches keep
-- their form under erasure: one condition serves both.
use Rattle.std.specs.Prelude.{◌≡◌, ◌≢◌, List, [], ◌∷◌, ◌⊎◌, Some}
use Rattle.universe_levels.specs.declared.sort.Sort.{Sort}
use Rattle.universe_levels.specs.declared.sort.Sort.TheVariants.{Prop}
use Rattle.pc_terms.specs.declared.leaf.FamilyId.{FamilyId}
use Rattle.calculus_rules.specs.declared.declaration.Constructor.{Constructor}
use Rattle.calculus_rules.specs.declared.declaration.Family.{Family}
use Rattle.calculus_rules.specs.declared.declaration.Block.{Block}
use Rattle.calculus_rules.specs.declared.declaration.Kept.TheVariants.{Block as Whole}
use Rattle.calculus_rules.specs.Environment.{FamilyDecl, Env, Has, family_at}

abbrev pub AllProp : List Sort → Type 0
AllProp [] = Unit {0}
AllProp (s ∷ ss) = (s ≡ Prop) × AllProp ss

-- the family is kept, its block has no other, and it has no constructor, or has one whose argument sorts are all Prop
abbrev pub IsSingle : Env → FamilyId → FamilyDecl → Type 0
IsSingle E f F =
    ((B : Block) × Has E.declarations (Whole B) × (B.name ≡ f.block) × (family_at B f.family ≡ Some F) × ((G : Family) × (B.families ≡ G ∷ [])))
    × ((F.constructors ≡ []) ⊎ ((C : Constructor) × (F.constructors ≡ C ∷ []) × AllProp C.arg_sorts))

-- a family may be eliminated into a sort: the family isn't in Prop, or the sort is Prop, or the family is single
abbrev pub MayEliminate : Env → FamilyId → FamilyDecl → Sort → Type 0
MayEliminate E f F s = (F.sort ≢ Prop) ⊎ ((s ≡ Prop) ⊎ IsSingle E f F)

-- a match on the family may be erased former by former
abbrev pub MayErase : Env → FamilyId → FamilyDecl → Type 0
MayErase E f F = (F.sort ≢ Prop) ⊎ IsSingle E f F
