-- The laws of blocks and of whole environments, as statements.
use Rattle.std.specs.Prelude.{◌≡◌, ℕ, List, [], ◌∷◌, map, reverse, Option, Some, None, length}
use Rattle.universe_levels.specs.declared.level.Level.{Level}
use Rattle.universe_levels.specs.declared.constraint.Constraint.{Constraint}
use Rattle.universe_levels.specs.Consistency.{IsConsistent}
use Rattle.pc_terms.specs.Syntax.{Term}
use Rattle.pc_terms.specs.Formed.{IsFormed}
use Rattle.calculus_rules.specs.declared.declaration.Constructor.{Constructor}
use Rattle.calculus_rules.specs.declared.declaration.Family.{Family}
use Rattle.calculus_rules.specs.declared.declaration.Block.{Block}
use Rattle.calculus_rules.specs.declared.declaration.Kept.{Kept}
use Rattle.calculus_rules.specs.declared.declaration.Kept.TheVariants.{Constant, Heads, Block as Whole}
use Rattle.pc_rules.specs.declared.meter.Account.{Account}
use Rattle.calculus_rules.specs.Environment.{Env, heads_of}
use Rattle.calculus_rules.specs.Accepted.{IsFresh, BlockFits, IsWellFormed, Accepted, env}
use Rattle.pc_rules.specs.DirectedRun.{Done}
use Rattle.pc_rules.specs.DirectedComparison.{Test, IsTest}
use Rattle.pc_rules.specs.DirectedDeclarations.{with_heads, block_rule, Given, GivenConstant, GivenBlock, declaration_rule, Accepts, environment_rule}
use Rattle.pc_rules.specs.WellCounted.{HasCountedDeclarations, IsCountedEnv}
use Rattle.rule_laws.specs.Inference.{AllFormed}

-- declarations whose terms are formed as terms in memory are; none is the heads of a block

abbrev pub ConstructorsFormed : List Constructor → Type 0
ConstructorsFormed [] = Unit {0}
ConstructorsFormed (C ∷ Cs) = (AllFormed C.args × AllFormed C.result) × ConstructorsFormed Cs

abbrev pub FamiliesFormed : List Family → Type 0
FamiliesFormed [] = Unit {0}
FamiliesFormed (F ∷ Fs) = (AllFormed F.indices × ConstructorsFormed F.ctors) × FamiliesFormed Fs

abbrev pub BlockFormed : Block → Type 0
BlockFormed B = AllFormed B.params × FamiliesFormed B.families

abbrev pub BodyFormed : Option Term → Type 0
BodyFormed None = Unit {0}
BodyFormed (Some b) = IsFormed b

abbrev pub GivenFormed : Given → Type 0
GivenFormed (GivenConstant k T b) = IsFormed T × BodyFormed b
GivenFormed (GivenBlock B) = BlockFormed B

abbrev pub AllGivenFormed : List Given → Type 0
AllGivenFormed [] = Unit {0}
AllGivenFormed (d ∷ ds) = GivenFormed d × AllGivenFormed ds

-- declarations without the sorts of constructor arguments

abbrev pub plain_constructor : Constructor → Constructor
plain_constructor C = record { name = C.name; args = C.args; arg_sorts = []; result = C.result }

abbrev pub plain_family : Family → Family
plain_family F = record { name = F.name; sort = F.sort; indices = F.indices; ctors = map plain_constructor F.ctors }

abbrev pub plain_block : Block → Block
plain_block B = record { name = B.name; params = B.params; families = map plain_family B.families }

abbrev pub plain : Kept → Kept
plain (Constant k T b) = Constant k T b
plain (Heads B) = Heads (plain_block B)
plain (Whole B) = Whole (plain_block B)

-- a declaration as it is given
abbrev pub plain_given : Given → Kept
plain_given (GivenConstant k T b) = Constant k T b
plain_given (GivenBlock B) = Whole (plain_block B)

-- a block that the directed rules let pass fits: with the sorts that they find it is kept by the rules of well-formed environments
pub record IsCheckedBlock (E : Env) (B D : Block) : Type 0 where
  pub fits : BlockFits E (with_heads E D) D
  pub heads : heads_of D ≡ heads_of B
  pub same : plain_block D ≡ plain_block B
  pub counted : HasCountedDeclarations (env E.levels E.constraints (Whole D ∷ E.declarations))

abbrev pub BlocksAreSound : Type 0
BlocksAreSound = (E : Env) (q : Test) → IsTest E.levels E.constraints q → HasCountedDeclarations E → (n : ℕ) (B D : Block) (u v : Account) →
    IsFresh B.name E.declarations → BlockFormed B → (block_rule E q n B u).end ≡ Done D v → IsCheckedBlock E B D

-- one more declaration is accepted, with sorts of constructor arguments
pub record IsCheckedDeclaration (levels : ℕ) (cs : List Constraint) (ds : List Kept) (d : Given) (e : Kept) : Type 0 where
  pub accepted : Accepted levels cs (e ∷ ds)
  pub counted : HasCountedDeclarations (env levels cs (e ∷ ds))
  pub same : plain e ≡ plain_given d

abbrev pub DeclarationsAreSound : Type 0
DeclarationsAreSound = (levels : ℕ) (cs : List Constraint) (ds : List Kept) (q : Test) → IsTest levels cs q → Accepted levels cs ds → HasCountedDeclarations (env levels cs ds) →
    (n : ℕ) (d : Given) (e : Kept) (u v : Account) → GivenFormed d → (declaration_rule (env levels cs ds) q n d u).end ≡ Done e v →
    IsCheckedDeclaration levels cs ds d e

-- what is accepted is well formed, and its main term has the type; it has the constraints and the declarations that were given, the newest
-- first, with sorts of constructor arguments
pub record IsCheckedEnvironment (levels : List Level) (cs : List Constraint) (ds : List Given) (main : Term) (E : Env) (T : Term) : Type 0 where
  pub formed : IsWellFormed levels E main T
  pub counted : IsCountedEnv E
  pub constraints : E.constraints ≡ cs
  pub declarations : map plain E.declarations ≡ reverse (map plain_given ds)

abbrev pub EnvironmentsAreSound : Type 0
EnvironmentsAreSound = (levels : List Level) (cs : List Constraint) (cycle : Option (List ℕ)) (q : Test) → IsTest (length levels) cs q →
    (cycle ≡ None → IsConsistent (length levels) cs) → (n : ℕ) (ds : List Given) (main T : Term) (E : Env) (u v : Account) → AllGivenFormed ds → IsFormed main →
    (environment_rule levels cs cycle q n ds main u).outcome ≡ Accepts E T v → IsCheckedEnvironment levels cs ds main E T
