-- The environment of a text as the typing rules have it: well formed, with exactly the declarations that the text spells, but for the sorts of constructors' arguments, which no text writes.
use Rattle.std.specs.Prelude.{◌≡◌, List, [], map, reverse, Some, slice_get}
use Rattle.pc_terms.specs.declared.leaf.FamilyId.{FamilyId}
use Rattle.pc_terms.specs.Syntax.{Term}
use Rattle.calculus_rules.specs.declared.declaration.Constructor.{Constructor}
use Rattle.calculus_rules.specs.declared.declaration.Family.{Family}
use Rattle.calculus_rules.specs.declared.declaration.Block.{Block}
use Rattle.calculus_rules.specs.declared.declaration.Kept.{Kept}
use Rattle.calculus_rules.specs.declared.declaration.Kept.TheVariants.{Constant, Heads, Block as Whole}
use Rattle.calculus_rules.specs.Environment.{Env, Has}
use Rattle.calculus_rules.specs.Accepted.{IsWellFormed}
use Rattle.dump_reader.specs.declared.declaration.RawCtor.{RawCtor}
use Rattle.dump_reader.specs.declared.declaration.RawFamily.{RawFamily}
use Rattle.dump_reader.specs.declared.declaration.RawDecl.{RawDecl}
use Rattle.dump_reader.specs.declared.declaration.RawDecl.TheVariants as raw
use Rattle.dump_reader.specs.declared.environment.RawEnv.{RawEnv}

-- a declaration that is kept, without the sorts of its constructors' arguments

abbrev pub unsorted_constructor : Constructor → Constructor
unsorted_constructor C = record { name = C.name; args = C.args; arg_sorts = []; result = C.result }

abbrev pub unsorted_family : Family → Family
unsorted_family F = record { name = F.name; sort = F.sort; indices = F.indices; ctors = map unsorted_constructor F.ctors }

abbrev pub unsorted_block : Block → Block
unsorted_block B = record { name = B.name; params = B.params; families = map unsorted_family B.families }

abbrev pub unsorted : Kept → Kept
unsorted (Constant k T b) = Constant k T b
unsorted (Heads B) = Heads (unsorted_block B)
unsorted (Whole B) = Whole (unsorted_block B)

-- a declaration of the text, as one that is kept without these sorts

abbrev pub read_constructor : RawCtor → Constructor
read_constructor C = record { name = C.name; args = C.args; arg_sorts = []; result = C.result }

abbrev pub read_family : RawFamily → Family
read_family F = record { name = F.name; sort = F.sort; indices = F.indices; ctors = map read_constructor F.ctors }

abbrev pub read_declaration : RawDecl → Kept
read_declaration (raw.Constant k T b) = Constant k T b
read_declaration (raw.Block k ps Fs) = Whole (record { name = k; params = ps; families = map read_family Fs })

-- each declaration and main have a derivation by the typing rules; the environment has the constraints and the declarations of the text, the newest first
pub record IsDerived (e : RawEnv) (E : Env) (T : Term) : Type 0 where
  pub formed : IsWellFormed e.levels E e.main T
  pub constraints : E.constraints ≡ e.constraints
  pub declarations : map unsorted E.declarations ≡ reverse (map read_declaration e.decls)

-- the text declares the family without constructors
pub record DeclaresEmptyFamily (e : RawEnv) (f : FamilyId) : Type 0 where
  pub parameters : List Term
  pub families : List RawFamily
  pub declared : Has e.decls (raw.Block f.block parameters families)
  pub family : RawFamily
  pub at : slice_get families f.family ≡ Some family
  pub none : family.ctors ≡ []
