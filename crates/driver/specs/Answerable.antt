-- Plain environments that keep all rules: no two declarations have one name, no two constructors of one family do, and main's constructor is
-- declared. So `exec` answers main's constructor.
use Rattle.std.specs.Prelude.{◌≡◌, ◌≢◌, ℕ, ◌<◌, List, length, Some, slice_get, All, AllPairs}
use Rattle.pc_terms.specs.declared.leaf.FamilyId.{FamilyId}
use Rattle.pc_terms.specs.Syntax.{Term}
use Rattle.dump_reader.specs.declared.declaration.RawFamily.{RawFamily}
use Rattle.dump_reader.specs.declared.declaration.RawDecl.{RawDecl}
use Rattle.dump_reader.specs.declared.declaration.RawDecl.TheVariants.{Constant, Block}
use Rattle.dump_reader.specs.declared.environment.RawEnv.{RawEnv}
use Rattle.driver.specs.Judged.{name_of}
use Rattle.driver.specs.Plain.{IsPlainOf}

-- no two constructors of the family have one name
abbrev pub HasDistinctConstructors : RawFamily → Type 0
HasDistinctConstructors f = AllPairs (λ a b. a.name ≢ b.name) f.ctors

-- so for each family of the declaration
abbrev pub HasDistinctNames : RawDecl → Type 0
HasDistinctNames (Constant k A b) = Unit {0}
HasDistinctNames (Block k ps fs) = All HasDistinctConstructors fs

-- some declaration is the block of this family, which has a constructor of this number
pub record DeclaresConstructor (decls : List RawDecl) (id : FamilyId) (number : ℕ) : Type 0 where
  pub place : ℕ
  pub params : List Term
  pub families : List RawFamily
  pub is_block : slice_get decls place ≡ Some (Block id.block params families)
  pub family : RawFamily
  pub is_family : slice_get families id.family ≡ Some family
  pub below : number < length family.ctors

pub record IsAnswerable (e : RawEnv) : Type 0 where
  pub id : FamilyId
  pub number : ℕ
  pub plain : IsPlainOf e id number
  pub distinct : AllPairs (λ a b. name_of a ≢ name_of b) e.decls
  pub constructors : All HasDistinctNames e.decls
  pub main_declared : DeclaresConstructor e.decls id number
