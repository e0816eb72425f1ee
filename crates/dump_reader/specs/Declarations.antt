-- The declarations of a text, as the reader of its head goes on: the verdict on the text, and what is made of them.
use Rattle.std.specs.Prelude.{◌≡◌, ℕ, List, [], map, Vec, Result, Ok, Err}
use Rattle.std.specs.declared.alloc.Global.{Global}
use Rattle.dump_grammar.specs.Named.{NamedConstraint}
use Rattle.dump_grammar.specs.declared.refusal.ReadRefusal.{ReadRefusal}
use Rattle.dump_grammar.specs.declared.refusal.ReadRefusal.TheVariants as refusals
use Rattle.dump_grammar.specs.Judge.{Refuse}
use Rattle.dump_parser.specs.declared.environment.DeclTree.{DeclTree}
use Rattle.dump_parser.specs.declared.parser.Parser.{Parser}
use Rattle.dump_parser.specs.Environment.{named_decl}
use Rattle.dump_parser.specs.Stages.{at_declaration, at_main}
use Rattle.dump_reader.specs.declared.declaration.RawDecl.{RawDecl}
use Rattle.dump_reader.specs.declared.numbering.Tables.{Tables}
use Rattle.dump_reader.specs.Made.{NumbersEach, decl_names, decl_levels, decl_value}

-- Behind any levels and constraints, these declarations stand between the two places of the text.
abbrev pub StandBetween : List DeclTree → Parser → Parser → Type 0
StandBetween ds old new = (ls : List (List ℕ)) (cs : List NamedConstraint) → at_declaration old ls cs [] ≡ at_main new ls cs (map named_decl ds)

-- The declarations up to main are read and numbered, or the text is refused. Want of memory alone is free.
abbrev pub ReadsDeclarations : Result (Vec RawDecl Global) ReadRefusal → Parser → Parser → Tables → Tables → Type 0
ReadsDeclarations (Ok made) old new before after = (ds : List DeclTree) × StandBetween ds old new × NumbersEach decl_names decl_levels decl_value ds before after made.items
ReadsDeclarations (Err refusals.Memory) old new before after = Unit {0}
ReadsDeclarations (Err r) old new before after = (ls : List (List ℕ)) (cs : List NamedConstraint) → at_declaration old ls cs [] ≡ Refuse r
