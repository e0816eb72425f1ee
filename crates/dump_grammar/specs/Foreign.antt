-- Where a form that is known and not read begins: what stands for it in the place of each item.
use Rattle.std.specs.Prelude.{ℕ, List, Option, Some, None, bytes_eq, if◌then◌else◌}
use Rattle.sexp_reader.specs.Text.{Text, Open, Atom}
use Rattle.dump_grammar.specs.Keywords.{spelling}
use Rattle.dump_grammar.specs.declared.keyword.Keyword.{Keyword}
use Rattle.dump_grammar.specs.declared.keyword.Keyword.TheVariants as words
use Rattle.dump_grammar.specs.declared.refusal.Foreign.{Foreign}
use Rattle.dump_grammar.specs.declared.refusal.Foreign.TheVariants as foreigns
use Rattle.dump_grammar.specs.Numbers.{number_of}
use Rattle.dump_grammar.specs.Words.{foreign_of}
use Rattle.dump_grammar.specs.Table.{Item, IEntryEnd, IParams, IVersion, ILevel, ISort, IHead, ITypeHead, ILevels, IDecl, Do}

abbrev pub at_word : Keyword → List ℕ → Foreign → Option Foreign → Option Foreign
at_word w a f other = if bytes_eq a (spelling w) then Some f else other

-- a version other than 1, which `step` takes
abbrev pub at_version : Option ℕ → Option Foreign
at_version None = None
at_version (Some n) = Some foreigns.Version

-- None: no such form begins here.
abbrev pub foreign : Item → Text → Option Foreign
foreign IHead (Atom a) = foreign_of a
foreign ITypeHead (Atom a) = at_word words.Universes a foreigns.Polymorphic (foreign_of a)
foreign IParams (Atom a) = at_word words.Universes a foreigns.Polymorphic None
foreign ISort (Atom a) = at_word words.SProp a foreigns.SProp None
foreign IDecl (Atom a) = at_word words.CoInductiveDecl a foreigns.CoInductive None
foreign IEntryEnd Open = Some foreigns.TelescopeLet
foreign IEntryEnd (Atom a) = Some foreigns.TelescopeLet
foreign ILevel Open = Some foreigns.LevelVariable
foreign ILevels Open = Some foreigns.LevelVariable
foreign IVersion (Atom a) = at_version (number_of a)
foreign (Do d i) t = foreign i t
foreign _ _ = None
