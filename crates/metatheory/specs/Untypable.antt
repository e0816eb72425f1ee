-- What has no type, or no derivation, in an accepted environment: each of these statements breaks where a definition of the rules lets too much pass.
use Rattle.std.specs.Prelude.{ℕ, ◌≡◌, ◌≢◌, ◌⊎◌, true, List, [], ◌∷◌, Some, slice_get}
use Rattle.universe_levels.specs.declared.sort.Sort.{Sort}
use Rattle.universe_levels.specs.declared.sort.Sort.TheVariants.{Prop}
use Rattle.pc_terms.specs.declared.leaf.Name.{Name}
use Rattle.pc_terms.specs.declared.leaf.FamilyId.{FamilyId}
use Rattle.pc_terms.specs.Syntax.{Term, Terms, Done, Next, Rel, SortT, Prod, Lambda, App, Ind, Case, Fix, apply}
use Rattle.calculus_rules.specs.declared.declaration.Constructor.{Constructor}
use Rattle.calculus_rules.specs.declared.declaration.Family.{Family}
use Rattle.calculus_rules.specs.declared.declaration.Block.{Block}
use Rattle.calculus_rules.specs.declared.declaration.Kept.TheVariants.{Block as Whole}
use Rattle.calculus_rules.specs.Environment.{Env, Has, FamilyDecl, KeepsFamily}
use Rattle.calculus_rules.specs.Context.{Context, Values}
use Rattle.calculus_rules.specs.Elimination.{AllProp}
use Rattle.calculus_rules.specs.Step.{IsConstructor}
use Rattle.calculus_rules.specs.Naming.{names_block}
use Rattle.calculus_rules.specs.Guardedness.{IsGuarded}
use Rattle.calculus_rules.specs.Typing.{bare, guarded, Types}
use Rattle.calculus_rules.specs.Accepted.{IsAccepted}
use Rattle.type_laws.specs.Contexts.{IsContext}

-- no sort is one of itself: no Type in Type
abbrev pub NoSortInItself : Type 0
NoSortInItself = (E : Env) → IsAccepted E → (c : Context) (s : Sort) → Types bare E c (SortT s) (SortT s) → ⊥

-- a constructor with all its parameters and arguments takes no more: no type of `O O`
abbrev pub BuiltTermsTakeNoMore : Type 0
BuiltTermsTakeNoMore =
    (E : Env) → IsAccepted E → (c : Context) → IsContext E c → (f : FamilyId) (k : ℕ) (v : Term) (qs xs : List Term) → IsConstructor E f k v qs xs →
    (a T : Term) → Types bare E c (App v a) T → ⊥

-- a family in Prop with two constructors or more, as a disjunction is
abbrev pub IsDisjunction : Env → FamilyId → Type 0
IsDisjunction E f =
    (F : FamilyDecl) × KeepsFamily E f F × (F.sort ≡ Prop) × ((C : Constructor) × (D : Constructor) × (Cs : List Constructor) × (F.constructors ≡ C ∷ D ∷ Cs))

-- a family in Prop with one constructor that has an argument whose sort isn't Prop, as an existential is
abbrev pub IsExistential : Env → FamilyId → Type 0
IsExistential E f = (F : FamilyDecl) × KeepsFamily E f F × (F.sort ≡ Prop) × ((C : Constructor) × (F.constructors ≡ C ∷ []) × (AllProp C.arg_sorts → ⊥))

-- a family that isn't in Prop, as data is
abbrev pub IsOutsideProp : Env → FamilyId → Type 0
IsOutsideProp E g = (G : FamilyDecl) × KeepsFamily E g G × (G.sort ≢ Prop)

-- no match on a term of the family has the type of one outside Prop
abbrev pub GivesNoData : Env → FamilyId → Type 0
GivesNoData E f =
    (c : Context) → IsContext E c → (g : FamilyId) → IsOutsideProp E g → (ps bs : Terms) (n : ℕ) (ret t : Term) (xs : List Term) →
    Types bare E c (Case f ps n ret t bs) (apply (Ind g) xs) → ⊥

-- so of a disjunction: which of the two was proved decides nothing outside of proofs
abbrev pub DisjunctionsGiveNoData : Type 0
DisjunctionsGiveNoData = (E : Env) → IsAccepted E → (f : FamilyId) → IsDisjunction E f → GivesNoData E f

-- and of an existential: its witness is nothing outside of proofs
abbrev pub ExistentialsGiveNoData : Type 0
ExistentialsGiveNoData = (E : Env) → IsAccepted E → (f : FamilyId) → IsExistential E f → GivesNoData E f

-- the one body of the fixpoint `f x := f x`, with x of type A
abbrev pub calls_itself : Term → Terms
calls_itself A = Next 1 (Lambda A (App (Rel 1) (Rel 0))) Done

-- it is not guarded, in a context of any values
abbrev pub EndlessCallsAreUnguarded : Type 0
EndlessCallsAreUnguarded = (E : Env) → IsAccepted E → (V : Values) (A : Term) → IsGuarded E V (0 ∷ []) (calls_itself A) → ⊥

-- so it has no guarded type, whatever type is written
abbrev pub EndlessCallsHaveNoType : Type 0
EndlessCallsHaveNoType =
    (E : Env) → IsAccepted E → (c : Context) (types : Terms) (A T : Term) → Types guarded E c (Fix 0 (0 ∷ []) types (calls_itself A)) T → ⊥

-- a type names a family of the block left of an arrow: in the domain of one of its products
abbrev pub NamesOnTheLeft : Name → Term → Type 0
NamesOnTheLeft k (Prod A B) = (names_block k A ≡ true) ⊎ NamesOnTheLeft k B
NamesOnTheLeft k _ = ⊥

-- a block with a constructor one of whose arguments names the block's families on the left, as `c : (D -> nat) -> D` does
pub record IsNegative (B : Block) : Type 0 where
  pub number : ℕ
  pub family : Family
  pub family_at : slice_get B.families number ≡ Some family
  pub place : ℕ
  pub constructor : Constructor
  pub constructor_at : slice_get family.ctors place ≡ Some constructor
  pub argument : Term
  pub among : Has constructor.args argument
  pub left : NamesOnTheLeft B.name argument

-- no environment that keeps one is accepted
abbrev pub NegativeBlocksAreRefused : Type 0
NegativeBlocksAreRefused = (E : Env) → IsAccepted E → (B : Block) → IsNegative B → Has E.declarations (Whole B) → ⊥
