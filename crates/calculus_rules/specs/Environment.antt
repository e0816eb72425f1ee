-- Environments: universes and declarations (PCUIC, POPL 2020, section 2: global environments and their constraints).
-- An environment declares levels 1 to `levels` (level 0 is Set), keeps constraints between levels, and keeps declarations, the newest
-- first. While a block is being declared its heads are kept: they make its families known by their types alone.
use Rattle.std.specs.Prelude.{ℕ, ◌≡◌, ◌≢◌, List, [], ◌⊎◌, map, Option, Some, slice_get, option_map}
use Rattle.universe_levels.specs.declared.constraint.Constraint.{Constraint}
use Rattle.universe_levels.specs.declared.sort.Sort.{Sort}
use Rattle.universe_levels.specs.declared.sort.Sort.TheVariants.{Prop, Of}
use Rattle.universe_levels.specs.Consistency.{IsOver}
use Rattle.universe_levels.specs.Consistency as universes
pub use Rattle.trees.specs.Membership.{Has, here, there}
use Rattle.pc_terms.specs.declared.leaf.Name.{Name}
use Rattle.pc_terms.specs.declared.leaf.FamilyId.{FamilyId}
use Rattle.pc_terms.specs.Syntax.{Term}
use Rattle.calculus_rules.specs.declared.declaration.Constructor.{Constructor}
use Rattle.calculus_rules.specs.declared.declaration.Family.{Family}
use Rattle.calculus_rules.specs.declared.declaration.Block.{Block}
use Rattle.calculus_rules.specs.declared.declaration.Kept.{Kept}
use Rattle.calculus_rules.specs.declared.declaration.Kept.TheVariants.{Constant, Heads, Block as Whole}

pub record Env : Type 0 where
  pub levels : ℕ
  pub constraints : List Constraint
  pub declarations : List Kept

abbrev pub name_of : Kept → Name
name_of (Constant k T b) = k
name_of (Heads B) = B.name
name_of (Whole B) = B.name

-- one family of a block, with the parameters of its block
pub record FamilyDecl : Type 0 where
  pub parameters : List Term
  pub indices : List Term
  pub sort : Sort
  pub constructors : List Constructor

abbrev pub with_parameters : List Term → Family → FamilyDecl
with_parameters Ps G = record { parameters = Ps; indices = G.indices; sort = G.sort; constructors = G.ctors }

-- family n of a block
abbrev pub family_at : Block → ℕ → Option FamilyDecl
family_at B n = option_map (with_parameters B.params) (slice_get B.families n)

-- a constant is kept, with its type and its body, if it has one
abbrev pub KeepsConstant : Env → Name → Term → Option Term → Type 0
KeepsConstant E k T b = Has E.declarations (Constant k T b)

-- a family of a whole block is kept
abbrev pub KeepsFamily : Env → FamilyId → FamilyDecl → Type 0
KeepsFamily E f F = (B : Block) × Has E.declarations (Whole B) × (B.name ≡ f.block) × (family_at B f.family ≡ Some F)

-- a family is one of a whole block, or of a block that is being declared, where all that is looked at are its parameters, its indices
-- and its sort
abbrev pub KnowsFamily : Env → FamilyId → FamilyDecl → Type 0
KnowsFamily E f F =
    (B : Block) × (Has E.declarations (Whole B) ⊎ Has E.declarations (Heads B)) × (B.name ≡ f.block) × (family_at B f.family ≡ Some F)

-- a block without its constructors
abbrev pub head_of : Family → Family
head_of G = record { name = G.name; sort = G.sort; indices = G.indices; ctors = [] }

abbrev pub heads_of : Block → Block
heads_of B = record { name = B.name; params = B.params; families = map head_of B.families }

-- the first sort is at most the second under every valuation that meets the constraints; Prop is at most every sort
abbrev pub SortEntails : Env → Sort → Sort → Type 0
SortEntails E Prop s = Unit {0}
SortEntails E (Of u) Prop = ⊥
SortEntails E (Of u) (Of w) = universes.Entails E.levels E.constraints u w

-- the levels of a sort are declared; a universe has at least one
abbrev pub IsDeclared : Env → Sort → Type 0
IsDeclared E Prop = Unit {0}
IsDeclared E (Of u) = (u ≢ []) × IsOver E.levels u
