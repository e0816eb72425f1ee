-- Closed declarations: what the laws ask of an environment.
use Rattle.std.proofs.Common.{◌≡◌, ℕ, suc, ◌+◌, List, [], ◌∷◌, length, Option, Some, slice_get}
use Rattle.pc_terms.specs.declared.leaf.Name.{Name}
use Rattle.pc_terms.specs.declared.leaf.FamilyId.{FamilyId}
use Rattle.pc_terms.specs.Syntax.{Term, Closed, ClosedEach}
use Rattle.calculus_rules.specs.declared.declaration.Constructor.{Constructor}
use Rattle.calculus_rules.specs.Environment.{Env, FamilyDecl, KeepsConstant, KeepsFamily, KnowsFamily}

-- a telescope under k variables is closed
abbrev pub ClosedEntries : ℕ → List Term → Type 0
ClosedEntries k [] = Unit {0}
ClosedEntries k (A ∷ As) = Closed k A × ClosedEntries (suc k) As

pub record ClosedConstructor (k : ℕ) (C : Constructor) : Type 0 where
  pub arguments : ClosedEntries k C.args
  pub result : ClosedEach (length C.args + k) C.result

pub record ClosedFamily (F : FamilyDecl) : Type 0 where
  pub parameters : ClosedEntries 0 F.parameters
  pub indices : ClosedEntries (length F.parameters) F.indices
  pub counts : (n : ℕ) (C : Constructor) → slice_get F.constructors n ≡ Some C → length C.result ≡ length F.indices
  pub constructors : (n : ℕ) (C : Constructor) → slice_get F.constructors n ≡ Some C → ClosedConstructor (length F.parameters) C

-- the declarations are closed
pub record ClosedEnv (E : Env) : Type 0 where
  pub types : (k : Name) (T : Term) (b : Option Term) → KeepsConstant E k T b → Closed 0 T
  pub bodies : (k : Name) (T b : Term) → KeepsConstant E k T (Some b) → Closed 0 b
  pub families : (f : FamilyId) (F : FamilyDecl) → KeepsFamily E f F → ClosedFamily F
  pub known : (f : FamilyId) (F : FamilyDecl) → KnowsFamily E f F → ClosedEntries 0 F.parameters × ClosedEntries (length F.parameters) F.indices
