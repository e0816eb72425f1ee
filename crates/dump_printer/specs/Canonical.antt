-- The canonical text of an environment: one form of it for all texts that spell it. Binders and definitions are all named `_`, each run of
-- applications is one, there are no casts, each universe is in normal form, and Set is `Set`. Names and levels stand as in the tables.
use Rattle.std.specs.Prelude.{ℕ, List, [], ◌∷◌, Option, Some, None, false}
use Rattle.sexp_reader.specs.Text.{Text, Open, Close, Atom}
use Rattle.dump_grammar.specs.Numbers.{word}
use Rattle.dump_grammar.specs.declared.keyword.Keyword.{Keyword}
use Rattle.dump_grammar.specs.declared.keyword.Keyword.TheVariants as words
use Rattle.universe_levels.specs.declared.level.Level.{Level}
use Rattle.universe_levels.specs.declared.constraint.Constraint.{Constraint}
use Rattle.universe_levels.specs.declared.constraint.Relation.{Relation}
use Rattle.universe_levels.specs.declared.constraint.Relation.TheVariants as relations
use Rattle.pc_terms.specs.Syntax.{Term}
use Rattle.dump_reader.specs.declared.declaration.RawCtor.{RawCtor}
use Rattle.dump_reader.specs.declared.declaration.RawFamily.{RawFamily}
use Rattle.dump_reader.specs.declared.declaration.RawDecl.{RawDecl}
use Rattle.dump_reader.specs.declared.declaration.RawDecl.TheVariants as decls
use Rattle.dump_reader.specs.declared.environment.RawEnv.{RawEnv}
use Rattle.dump_printer.specs.Layout.{spaced}
use Rattle.dump_printer.specs.CanonicalTerms.{text_of, anonymous, each, sort, term}

-- `(_ type)`
abbrev pub binding : (names levels : List (List ℕ)) → Term → List Text → List Text
binding ns ls A after = Open ∷ anonymous ∷ term false ns ls A (Close ∷ after)

abbrev pub constructor : (names levels : List (List ℕ)) → RawCtor → List Text → List Text
constructor ns ls c after =
    Open ∷ word words.Ctor ∷ Atom (text_of ns c.name.0)
    ∷ Open ∷ word words.Args ∷ each (binding ns ls) c.args (Close
    ∷ Open ∷ word words.Result ∷ each (term false ns ls) c.result (Close ∷ Close ∷ after))

abbrev pub family : (names levels : List (List ℕ)) → RawFamily → List Text → List Text
family ns ls f after =
    Open ∷ word words.Family ∷ Atom (text_of ns f.name.0)
    ∷ Open ∷ word words.Sort ∷ sort ls f.sort (Close
    ∷ Open ∷ word words.Indices ∷ each (binding ns ls) f.indices (Close
    ∷ each (constructor ns ls) f.ctors (Close ∷ after)))

abbrev pub body : (names levels : List (List ℕ)) → Option Term → List Text → List Text
body ns ls None after = word words.NoBody ∷ after
body ns ls (Some t) after = term false ns ls t after

abbrev pub declaration : (names levels : List (List ℕ)) → RawDecl → List Text → List Text
declaration ns ls (decls.Constant k A b) after = Open ∷ word words.ConstantDecl ∷ Atom (text_of ns k.0) ∷ term false ns ls A (body ns ls b (Close ∷ after))
declaration ns ls (decls.Block k ps fs) after =
    Open ∷ word words.InductiveDecl ∷ Atom (text_of ns k.0) ∷ Open ∷ word words.Params ∷ each (binding ns ls) ps (Close ∷ each (family ns ls) fs (Close ∷ after))

abbrev pub level : (levels : List (List ℕ)) → Level → List Text → List Text
level ls l after = Atom (text_of ls l.0) ∷ after

abbrev pub word_of : Relation → Keyword
word_of relations.Lt = words.Lt
word_of relations.Le = words.Le
word_of relations.Eq = words.Eq

abbrev pub constraint : (levels : List (List ℕ)) → Constraint → List Text → List Text
constraint ls c after = Open ∷ word (word_of c.relation) ∷ Atom (text_of ls c.left.0) ∷ Atom (text_of ls c.right.0) ∷ Close ∷ after

-- the tokens of an environment, before those that follow
abbrev pub environment : RawEnv → List Text → List Text
environment e after =
    Open ∷ word words.Env ∷ word words.One
    ∷ Open ∷ word words.Levels ∷ each (level e.level_names) e.levels (Close
    ∷ Open ∷ word words.Constraints ∷ each (constraint e.level_names) e.constraints (Close
    ∷ each (declaration e.names e.level_names) e.decls (Open ∷ word words.Main ∷ term false e.names e.level_names e.main (Close ∷ Close ∷ after))))

-- the canonical text: its tokens, and its bytes
abbrev pub canonical_tokens : RawEnv → List Text
canonical_tokens e = environment e []

abbrev pub canonical_text : RawEnv → List ℕ
canonical_text e = spaced (canonical_tokens e)
