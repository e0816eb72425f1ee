-- Environments with numbers for names and levels. Both tables are by first use in the whole text; Set is level 0, and the levels of `levels` come before the
-- others.
use Rattle.std.specs.Prelude.{ℕ, List, map, Option, option_map}
use Rattle.universe_levels.specs.declared.constraint.Constraint.{Constraint}
use Rattle.universe_levels.specs.declared.constraint.Relation.{Relation}
use Rattle.universe_levels.specs.declared.constraint.Relation.TheVariants as relations
use Rattle.dump_grammar.specs.Named.{NamedComparison, Less, AtMost, Equal, NamedConstraint, NamedCtor, NamedFamily, NamedDecl, Constant, Block, NamedEnv}
use Rattle.dump_grammar.specs.Numbering.{name_table, level_table}
use Rattle.dump_reader.specs.declared.declaration.RawCtor.{RawCtor}
use Rattle.dump_reader.specs.declared.declaration.RawFamily.{RawFamily}
use Rattle.dump_reader.specs.declared.declaration.RawDecl.{RawDecl}
use Rattle.dump_reader.specs.declared.declaration.RawDecl.TheVariants as decls
use Rattle.dump_reader.specs.declared.environment.RawEnv.{RawEnv}
use Rattle.dump_reader.specs.Numbered.{name_number, level_number, numbered_sort, numbered_term}

abbrev pub relation_of : NamedComparison → Relation
relation_of Less = relations.Lt
relation_of AtMost = relations.Le
relation_of Equal = relations.Eq

abbrev pub numbered_constraint : (levels : List (List ℕ)) → NamedConstraint → Constraint
numbered_constraint ls c = record { left = level_number ls c.left; relation = relation_of c.relation; right = level_number ls c.right }

abbrev pub numbered_ctor : (names levels : List (List ℕ)) → NamedCtor → RawCtor
numbered_ctor ns ls c = record { name = name_number ns c.name; args = map (numbered_term ns ls) c.args; result = map (numbered_term ns ls) c.result }

abbrev pub numbered_family : (names levels : List (List ℕ)) → NamedFamily → RawFamily
numbered_family ns ls f = record {
  name = name_number ns f.name;
  sort = numbered_sort ls f.sort;
  indices = map (numbered_term ns ls) f.indices;
  ctors = map (numbered_ctor ns ls) f.ctors;
}

abbrev pub numbered_decl : (names levels : List (List ℕ)) → NamedDecl → RawDecl
numbered_decl ns ls (Constant k A b) = decls.Constant (name_number ns k) (numbered_term ns ls A) (option_map (numbered_term ns ls) b)
numbered_decl ns ls (Block k ps fs) = decls.Block (name_number ns k) (map (numbered_term ns ls) ps) (map (numbered_family ns ls) fs)

-- an environment, by tables of names and of levels
abbrev pub numbered_by : (names levels : List (List ℕ)) → NamedEnv → RawEnv
numbered_by ns ls env = record {
  names = ns;
  level_names = ls;
  levels = map (level_number ls) env.levels;
  constraints = map (numbered_constraint ls) env.constraints;
  decls = map (numbered_decl ns ls) env.decls;
  main = numbered_term ns ls env.main;
}

-- an environment, by its own tables
abbrev pub numbered : NamedEnv → RawEnv
numbered env = numbered_by (name_table env) (level_table env) env
