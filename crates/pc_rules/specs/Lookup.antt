-- What is looked up in an environment by a name or a number: the newest declaration of the name.
use Rattle.std.specs.Prelude.{◌≡◌, List, [], ◌∷◌, All, Option, None, slice_get}
use Rattle.std.specs.declared.alloc.Global.{Global}
use Rattle.std.specs.declared.rc.Rc.{Rc}
use Rattle.pc_terms.specs.declared.leaf.Name.{Name}
use Rattle.pc_terms.specs.declared.leaf.FamilyId.{FamilyId}
use Rattle.calculus_rules.specs.declared.declaration.Family.{Family}
use Rattle.calculus_rules.specs.declared.declaration.Block.{Block}
use Rattle.calculus_rules.specs.declared.declaration.Kept.{Kept}
use Rattle.calculus_rules.specs.declared.declaration.Kept.TheVariants.{Heads}
use Rattle.calculus_rules.specs.Environment.{Env}
use Rattle.calculus_rules.specs.Lookups.{if_some, kept_at, known_block}
use Rattle.pc_rules.specs.Trie.{Trie, at}

-- nothing is kept by the name
abbrev pub IsNew : Env → Name → Type 0
IsNew E k = kept_at E.declarations k ≡ None

abbrev pub AreHeads : Kept → Type 0
AreHeads (Heads B) = Unit {0}
AreHeads _ = ⊥

-- a block without constructors
abbrev pub HasNoConstructors : Block → Type 0
HasNoConstructors B = All (λ (F : Family). F.ctors ≡ []) B.families

-- a family of a whole block, or of one that is being declared
abbrev pub family_kept : Env → FamilyId → Option Family
family_kept E f = if_some (known_block (kept_at E.declarations f.block)) (λ B. slice_get B.families f.family)

-- the environment with one declaration more
abbrev pub with_kept : Env → Kept → Env
with_kept E d = record { levels = E.levels; constraints = E.constraints; declarations = d ∷ E.declarations }

-- the map from names to what is kept by them
abbrev pub IsIndex : Trie Kept → List Kept → Type 0
IsIndex t ds = (k : Name) → at t k.0 ≡ kept_at ds k

abbrev pub shared : Rc Kept Global → Kept
shared rc = rc.value
