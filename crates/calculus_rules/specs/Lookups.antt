-- What an environment keeps by a name or a number, as functions: the newest declaration of a name, its body, its block and families.
use Rattle.std.specs.Prelude.{◌==◌, if◌then◌else◌, List, [], ◌∷◌, Option, Some, None}
use Rattle.pc_terms.specs.declared.leaf.Name.{Name}
use Rattle.pc_terms.specs.declared.leaf.FamilyId.{FamilyId}
use Rattle.pc_terms.specs.Syntax.{Term}
use Rattle.calculus_rules.specs.declared.declaration.Block.{Block}
use Rattle.calculus_rules.specs.declared.declaration.Kept.{Kept}
use Rattle.calculus_rules.specs.declared.declaration.Kept.TheVariants.{Constant, Heads, Block as Whole}
use Rattle.calculus_rules.specs.Environment.{Env, FamilyDecl, name_of, family_at}
use Rattle.calculus_rules.specs.Same.{same_names}

abbrev pub if_some : {A B : Type 0} → Option A → (A → Option B) → Option B
if_some None k = None
if_some (Some a) k = k a

-- the newest declaration of a name
abbrev pub kept_at : List Kept → Name → Option Kept
kept_at [] k = None
kept_at (d ∷ ds) k = if same_names (name_of d) k then Some d else kept_at ds k

abbrev pub body_of : Option Kept → Option Term
body_of (Some (Constant k T b)) = b
body_of _ = None

-- a whole block, or one that is being declared
abbrev pub known_block : Option Kept → Option Block
known_block (Some (Whole B)) = Some B
known_block (Some (Heads B)) = Some B
known_block _ = None

abbrev pub whole_block : Option Kept → Option Block
whole_block (Some (Whole B)) = Some B
whole_block _ = None

abbrev pub family_of : Env → FamilyId → Option FamilyDecl
family_of E f = if_some (whole_block (kept_at E.declarations f.block)) (λ B. family_at B f.family)
