-- Well-formed environments (PCUIC, POPL 2020, section 2.3: well-formed global environments). Each declaration is typed over the ones
-- before it; the newest comes first.
use Rattle.std.specs.Prelude.{ℕ, ◌+◌, ◌≡◌, ◌≢◌, false, List, [], ◌∷◌, Option, Some, None, length, slice_get, AllPairs}
use Rattle.universe_levels.specs.declared.constraint.Constraint.{Constraint}
use Rattle.universe_levels.specs.declared.level.Level.{Level}
use Rattle.universe_levels.specs.declared.sort.Sort.{Sort}
use Rattle.universe_levels.specs.declared.sort.Sort.TheVariants.{Prop}
use Rattle.universe_levels.specs.Consistency.{IsConsistent, AreOver}
use Rattle.pc_terms.specs.declared.leaf.Name.{Name}
use Rattle.pc_terms.specs.Syntax.{Term, Rel, SortT}
use Rattle.calculus_rules.specs.declared.declaration.Constructor.{Constructor}
use Rattle.calculus_rules.specs.declared.declaration.Family.{Family}
use Rattle.calculus_rules.specs.declared.declaration.Block.{Block}
use Rattle.calculus_rules.specs.declared.declaration.Kept.{Kept}
use Rattle.calculus_rules.specs.declared.declaration.Kept.TheVariants.{Constant, Heads, Block as Whole}
use Rattle.calculus_rules.specs.declared.target.Target.TheVariants.{Families}
use Rattle.calculus_rules.specs.Environment.{Env, Has, name_of, heads_of, SortEntails, IsDeclared}
use Rattle.calculus_rules.specs.Context.{extend}
use Rattle.calculus_rules.specs.Typing.{guarded, Types, TypesAll, Entries, EntrySorts}
use Rattle.calculus_rules.specs.Naming.{some_names}
use Rattle.calculus_rules.specs.Positivity.{ArePositive}

-- no declaration has the name
abbrev pub IsFresh : Name → List Kept → Type 0
IsFresh k ds = (d : Kept) → Has ds d → name_of d ≢ k

-- the body, if there is one, has the type
abbrev pub BodyFits : Env → Term → Option Term → Type 0
BodyFits E T None = Unit {0}
BodyFits E T (Some b) = Types guarded E [] b T

-- each sort is at most another
abbrev pub AllAtMost : Env → List Sort → Sort → Type 0
AllAtMost E [] s = Unit {0}
AllAtMost E (u ∷ us) s = SortEntails E u s × AllAtMost E us s

-- a constructor of family F of block B, over the declarations before and the block's families known by their types alone: each argument
-- has its kept sort, which is at most the family's unless that is Prop; the arguments are positive; the result terms have the index
-- types, and name no family of the block
pub record ConstructorFits (H : Env) (B : Block) (F : Family) (C : Constructor) : Type 0 where
  pub arguments : EntrySorts guarded H (extend [] B.params) C.args C.arg_sorts
  pub small : F.sort ≢ Prop → AllAtMost H C.arg_sorts F.sort
  pub positive : ArePositive H B.name C.args
  pub result : TypesAll guarded H (extend (extend [] B.params) C.args) (λ i. Rel (length C.args + i)) C.result F.indices
  pub names_none : some_names (Families B.name) 0 C.result ≡ false

-- a family of block B: over the declarations before, its indices have sorts under the parameters, the levels of its sort are declared, and
-- its constructors have distinct names; and each constructor fits
pub record FamilyFits (E H : Env) (B : Block) (F : Family) : Type 0 where
  pub indices : Entries guarded E (extend [] B.params) F.indices
  pub sort : IsDeclared E F.sort
  pub distinct : AllPairs (λ C D. C.name ≢ D.name) F.ctors
  pub constructors : (n : ℕ) (C : Constructor) → slice_get F.ctors n ≡ Some C → ConstructorFits H B F C

-- a block: its parameters have sorts, and each family fits
pub record BlockFits (E H : Env) (B : Block) : Type 0 where
  pub parameters : Entries guarded E [] B.params
  pub families : (n : ℕ) (F : Family) → slice_get B.families n ≡ Some F → FamilyFits E H B F

abbrev pub env : ℕ → List Constraint → List Kept → Env
env levels cs ds = record { levels = levels; constraints = cs; declarations = ds }

-- declarations over the levels and constraints
pub data Accepted (levels : ℕ) (cs : List Constraint) : List Kept → Type 0 where
  empty : Accepted levels cs []
  constant : {ds : List Kept} {k : Name} {T : Term} {b : Option Term} {s : Sort} → Accepted levels cs ds → IsFresh k ds →
      Types guarded (env levels cs ds) [] T (SortT s) → BodyFits (env levels cs ds) T b → Accepted levels cs (Constant k T b ∷ ds)
  block : {ds : List Kept} {B : Block} → Accepted levels cs ds → IsFresh B.name ds →
      BlockFits (env levels cs ds) (env levels cs (Heads (heads_of B) ∷ ds)) B → Accepted levels cs (Whole B ∷ ds)

-- an accepted environment: its constraints name declared levels and are consistent, and its declarations are accepted
pub record IsAccepted (E : Env) : Type 0 where
  pub over : AreOver E.levels E.constraints
  pub consistent : IsConsistent E.levels E.constraints
  pub declarations : Accepted E.levels E.constraints E.declarations

-- a whole environment, with the levels as they are listed, and with main: the listed levels are distinct, and main has the type. That the
-- listed levels are 1 to n follows from the text that is read, not from this
pub record IsWellFormed (listed : List Level) (E : Env) (main type : Term) : Type 0 where
  pub distinct : AllPairs (λ k l. k ≢ l) listed
  pub count : E.levels ≡ length listed
  pub accepted : IsAccepted E
  pub typed : Types guarded E [] main type
