-- A declaration as it is read, as one that is given to the rules: its constructors without the sorts of their arguments.
use Rattle.std.specs.Prelude.{List, [], map}
use Rattle.pc_terms.specs.declared.leaf.Name.{Name}
use Rattle.pc_terms.specs.Syntax.{Term}
use Rattle.dump_reader.specs.declared.declaration.RawCtor.{RawCtor}
use Rattle.dump_reader.specs.declared.declaration.RawFamily.{RawFamily}
use Rattle.dump_reader.specs.declared.declaration.RawDecl.{RawDecl}
use Rattle.dump_reader.specs.declared.declaration.RawDecl.TheVariants as raw
use Rattle.calculus_rules.specs.declared.declaration.Constructor.{Constructor as Ctor}
use Rattle.calculus_rules.specs.declared.declaration.Family.{Family as FamilyOf}
use Rattle.calculus_rules.specs.declared.declaration.Block.{Block as BlockOf}
use Rattle.pc_rules.specs.DirectedDeclarations.{Given, GivenConstant, GivenBlock}

abbrev pub ctor_of : RawCtor → Ctor
ctor_of c = record { name = c.name; args = c.args; arg_sorts = []; result = c.result }

abbrev pub family_of : RawFamily → FamilyOf
family_of f = record { name = f.name; sort = f.sort; indices = f.indices; ctors = map ctor_of f.ctors }

abbrev pub block_from : Name → List Term → List RawFamily → BlockOf
block_from k ps fs = record { name = k; params = ps; families = map family_of fs }

abbrev pub given_of : RawDecl → Given
given_of (raw.Constant k T b) = GivenConstant k T b
given_of (raw.Block k ps fs) = GivenBlock (block_from k ps fs)

abbrev pub IsRawBlock : RawDecl → Type 0
IsRawBlock (raw.Constant k T b) = ⊥
IsRawBlock (raw.Block k ps fs) = Unit {0}

-- a block that is read (of a constant, its name alone)
abbrev pub block_of : RawDecl → BlockOf
block_of (raw.Constant k T b) = record { name = k; params = []; families = [] }
block_of (raw.Block k ps fs) = block_from k ps fs
