-- Well counted terms, contexts and environments. Each level number in them is at most that of the last declared level; each match is of a
-- family of a whole block and has as many parameters, variables of its predicate and branches as the rule of matches asks for; and each
-- term has the form that each term in memory has (so to ask for that form asks nothing of a caller, and a proof may use it).
use Rattle.std.specs.Prelude.{ℕ, suc, ◌≡◌, List, [], ◌∷◌, Option, Some, None, length}
use Rattle.universe_levels.specs.declared.sort.Sort.{Sort}
use Rattle.universe_levels.specs.Consistency.{IsSortOver, AreOver}
use Rattle.pc_terms.specs.Syntax.{Label, SortOf, CaseOf, Term}
use Rattle.pc_terms.specs.Formed.{EachNode, HasForm}
use Rattle.calculus_rules.specs.declared.declaration.Constructor.{Constructor}
use Rattle.calculus_rules.specs.declared.declaration.Family.{Family}
use Rattle.calculus_rules.specs.declared.declaration.Block.{Block}
use Rattle.calculus_rules.specs.declared.declaration.Kept.{Kept}
use Rattle.calculus_rules.specs.declared.declaration.Kept.TheVariants.{Constant, Heads, Block as Whole}
use Rattle.calculus_rules.specs.declared.entry.Entry.{Entry}
use Rattle.calculus_rules.specs.declared.entry.Entry.TheVariants.{Assumed, Defined}
use Rattle.calculus_rules.specs.Environment.{Env, FamilyDecl, Has}
use Rattle.calculus_rules.specs.Context.{Context, Values}
use Rattle.calculus_rules.specs.Lookups.{family_of}

-- the number of arguments of each constructor
abbrev pub arities : List Constructor → List ℕ
arities [] = []
arities (C ∷ Cs) = length C.args ∷ arities Cs

-- the levels of a sort are declared; a match is of a family of a kept block: it has a parameter for each of the block's, a variable of its
-- predicate for each index and one for the scrutinee, and a branch for each constructor with a variable for each argument
abbrev pub HasCounts : Env → Label → List (List ℕ) → Type 0
HasCounts E (SortOf s) gs = IsSortOver E.levels s
HasCounts E (CaseOf f n) (ps ∷ bs ∷ gs) =
    (F : FamilyDecl) × (family_of E f ≡ Some F) × (length ps ≡ length F.parameters) × (n ≡ suc (length F.indices)) × (bs ≡ arities F.constructors)
HasCounts E l gs = Unit {0}

abbrev pub IsCountedNode : Env → Label → List (List ℕ) → Type 0
IsCountedNode E l gs = HasForm l gs × HasCounts E l gs

abbrev pub IsCounted : Env → Term → Type 0
IsCounted E t = EachNode (IsCountedNode E) t

abbrev pub AreCounted : Env → List Term → Type 0
AreCounted E [] = Unit {0}
AreCounted E (t ∷ ts) = IsCounted E t × AreCounted E ts

-- contexts, and the values of their entries

abbrev pub IsCountedEntry : Env → Entry → Type 0
IsCountedEntry E (Assumed A) = IsCounted E A
IsCountedEntry E (Defined b B) = IsCounted E b × IsCounted E B

abbrev pub IsCountedContext : Env → Context → Type 0
IsCountedContext E [] = Unit {0}
IsCountedContext E (e ∷ c) = IsCountedEntry E e × IsCountedContext E c

abbrev pub AreCountedValues : Env → Values → Type 0
AreCountedValues E [] = Unit {0}
AreCountedValues E (None ∷ V) = AreCountedValues E V
AreCountedValues E (Some b ∷ V) = IsCounted E b × AreCountedValues E V

-- declarations

abbrev pub AreSortsOver : ℕ → List Sort → Type 0
AreSortsOver n [] = Unit {0}
AreSortsOver n (s ∷ ss) = IsSortOver n s × AreSortsOver n ss

abbrev pub AreCountedConstructors : Env → List Constructor → Type 0
AreCountedConstructors E [] = Unit {0}
AreCountedConstructors E (C ∷ Cs) = (AreCounted E C.args × AreCounted E C.result × AreSortsOver E.levels C.arg_sorts) × AreCountedConstructors E Cs

abbrev pub AreCountedFamilies : Env → List Family → Type 0
AreCountedFamilies E [] = Unit {0}
AreCountedFamilies E (F ∷ Fs) = (AreCounted E F.indices × AreCountedConstructors E F.ctors × IsSortOver E.levels F.sort) × AreCountedFamilies E Fs

abbrev pub IsCountedBlock : Env → Block → Type 0
IsCountedBlock E B = AreCounted E B.params × AreCountedFamilies E B.families

abbrev pub IsCountedBody : Env → Option Term → Type 0
IsCountedBody E None = Unit {0}
IsCountedBody E (Some b) = IsCounted E b

abbrev pub IsCountedKept : Env → Kept → Type 0
IsCountedKept E (Constant k T b) = IsCounted E T × IsCountedBody E b
IsCountedKept E (Heads B) = IsCountedBlock E B
IsCountedKept E (Whole B) = IsCountedBlock E B

-- what an environment keeps is well counted over it
abbrev pub HasCountedDeclarations : Env → Type 0
HasCountedDeclarations E = (d : Kept) → Has E.declarations d → IsCountedKept E d

-- and so are its constraints
pub record IsCountedEnv (E : Env) : Type 0 where
  pub constraints : AreOver E.levels E.constraints
  pub declarations : HasCountedDeclarations E
