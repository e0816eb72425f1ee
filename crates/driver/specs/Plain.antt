-- Plain environments: no level and no constraint; each declaration is a block of one family of sort Set, whose constructors take no
-- argument; and main is a constructor.
use Rattle.std.specs.Prelude.{◌≡◌, ℕ, [], ◌∷◌, All}
use Rattle.universe_levels.specs.declared.sort.Sort.{Sort}
use Rattle.universe_levels.specs.declared.sort.Sort.TheVariants.{Of}
use Rattle.pc_terms.specs.declared.leaf.Name.{Name}
use Rattle.pc_terms.specs.declared.leaf.FamilyId.{FamilyId}
use Rattle.pc_terms.specs.Syntax.{Construct}
use Rattle.dump_reader.specs.declared.declaration.RawCtor.{RawCtor}
use Rattle.dump_reader.specs.declared.declaration.RawFamily.{RawFamily}
use Rattle.dump_reader.specs.declared.declaration.RawDecl.{RawDecl}
use Rattle.dump_reader.specs.declared.declaration.RawDecl.TheVariants.{Block}
use Rattle.dump_reader.specs.declared.environment.RawEnv.{RawEnv}

-- the sort Set: the types of the level Set with nothing added
abbrev pub set_sort : Sort
set_sort = Of (record { level = record { 0 = 0 }; add = 0 } ∷ [])

-- a constructor without arguments and without result terms
abbrev pub IsConstant : RawCtor → Type 0
IsConstant c = (c.args ≡ []) × (c.result ≡ [])

-- a family of sort Set, without indices, whose constructors are constants
pub record IsEnumeration (f : RawFamily) : Type 0 where
  pub sort_is_set : f.sort ≡ set_sort
  pub no_index : f.indices ≡ []
  pub constants : All IsConstant f.ctors

-- a block of one such family, without parameters
pub record IsEnumerationBlock (d : RawDecl) : Type 0 where
  pub name : Name
  pub family : RawFamily
  pub is : d ≡ Block name [] (family ∷ [])
  pub enumeration : IsEnumeration family

-- main is constructor c of the family
pub record IsPlainOf (e : RawEnv) (f : FamilyId) (c : ℕ) : Type 0 where
  pub no_level : e.levels ≡ []
  pub no_constraint : e.constraints ≡ []
  pub blocks : All IsEnumerationBlock e.decls
  pub main_is : e.main ≡ Construct f c

abbrev pub IsPlainEnvironment : RawEnv → Type 0
IsPlainEnvironment e = (f : FamilyId) × (c : ℕ) × IsPlainOf e f c
