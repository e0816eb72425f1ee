-- The stages of reading a text: the verdict on what is still to come, with the parts that were read among the values, and what each stage promises.
use Rattle.std.specs.Prelude.{◌≡◌, ℕ, ◌<◌, List, [], ◌∷◌, ◌++◌, length, map, Option, Some, None, Result, OnOk}
use Rattle.sexp_reader.specs.Stream.{stream}
use Rattle.dump_grammar.specs.Named.{Named, NamedConstraint, NamedDecl}
use Rattle.dump_grammar.specs.declared.keyword.Opening.TheVariants as openings
use Rattle.dump_grammar.specs.declared.refusal.ReadRefusal.{ReadRefusal}
use Rattle.dump_grammar.specs.Table.{Value, IClose, IDecls, Do, MakeEnv, start, opened, VNames, VConstraints, VDecls, VEnv}
use Rattle.dump_grammar.specs.Judge.{Verdict, Fine}
use Rattle.dump_parser.specs.declared.environment.DeclTree.{DeclTree}
use Rattle.dump_parser.specs.declared.environment.HeadTree.{HeadTree}
use Rattle.dump_parser.specs.declared.parser.Parser.{Parser}
use Rattle.dump_parser.specs.Environment.{named_constraint, named_decl}
use Rattle.dump_parser.specs.Reading.{judged, Goes}

-- at the start of the text
abbrev pub at_start : Parser → Verdict
at_start p = judged p.tokens start []

-- the levels, the constraints and the declarations that were read, as values
abbrev pub values : List (List ℕ) → List NamedConstraint → List NamedDecl → List Value
values ls cs ds = VDecls ds ∷ VConstraints cs ∷ VNames ls ∷ []

-- behind these declarations
abbrev pub at_declaration : Parser → List (List ℕ) → List NamedConstraint → List NamedDecl → Verdict
at_declaration p ls cs ds = judged p.tokens (IDecls ∷ Do MakeEnv IClose ∷ []) (values ls cs ds)

-- behind the word of main
abbrev pub at_main : Parser → List (List ℕ) → List NamedConstraint → List NamedDecl → Verdict
at_main p ls cs ds = judged p.tokens (opened openings.Main ++ Do MakeEnv IClose ∷ []) (values ls cs ds)

-- behind a declaration, or behind the word of main where there was none
abbrev pub at_next : Parser → List (List ℕ) → List NamedConstraint → List NamedDecl → Option DeclTree → Verdict
at_next p ls cs ds None = at_main p ls cs ds
at_next p ls cs ds (Some d) = at_declaration p ls cs (ds ++ named_decl d ∷ [])

-- The head of the text is read.
abbrev pub ReadsHead : Result HeadTree ReadRefusal → Parser → Parser → Type 0
ReadsHead result old new = Goes result (λ h. at_declaration new (map (λ a. a.now) h.levels.items) (map named_constraint h.constraints.items) []) (at_start old)

-- The declaration that follows so many is read, or the word of main, whatever stands before.
abbrev pub ReadsNext : Result (Option DeclTree) ReadRefusal → Parser → Parser → (before : ℕ) → Type 0
ReadsNext result old new before = (ls : List (List ℕ)) (cs : List NamedConstraint) (ds : List NamedDecl) → length ds ≡ before → Goes result (at_next new ls cs ds) (at_declaration old ls cs ds)

-- Fewer tokens are left.
abbrev pub IsShorter : Result (Option DeclTree) ReadRefusal → Parser → Parser → Type 0
IsShorter result old new = OnOk result (length (stream new.tokens) < length (stream old.tokens))

-- Main and the end of the text are read, whatever stands before.
abbrev pub ReadsMain : Result Named ReadRefusal → Parser → Type 0
ReadsMain result old = (ls : List (List ℕ)) (cs : List NamedConstraint) (ds : List NamedDecl) → Goes result (λ t. Fine (VEnv (record { levels = ls; constraints = cs; decls = ds; main = t }) ∷ [])) (at_main old ls cs ds)
