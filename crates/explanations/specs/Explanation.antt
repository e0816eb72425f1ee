-- The text that explains a refusal of the check: lines of a label and a value. Terms, sorts and names are written as in the dump.
use Rattle.std.specs.Prelude.{ℕ, ◌+◌, List, [], ◌∷◌, ◌++◌, length, Option, Some, None, Bool, codes, decimal, slice_get, nat_lt, if◌then◌else◌}
use Rattle.universe_levels.specs.declared.sort.Sort.{Sort}
use Rattle.universe_levels.specs.declared.constraint.Constraint.{Constraint}
use Rattle.universe_levels.specs.declared.constraint.Relation.{Relation}
use Rattle.universe_levels.specs.declared.constraint.Relation.TheVariants as relations
use Rattle.trees.specs.Measures.{depth, loose}
use Rattle.pc_terms.specs.declared.leaf.Name.{Name}
use Rattle.pc_terms.specs.Syntax.{Term}
use Rattle.pc_rules.specs.declared.broken.Broken.{Broken}
use Rattle.pc_rules.specs.declared.broken.Broken.TheVariants as broken
use Rattle.pc_rules.specs.declared.broken.Clash.{Clash}
use Rattle.pc_rules.specs.declared.broken.Clash.TheVariants as clashes
use Rattle.pc_rules.specs.declared.broken.Place.{Place}
use Rattle.pc_rules.specs.declared.broken.Place.TheVariants as at
use Rattle.pc_rules.specs.declared.meter.Account.{Account}
use Rattle.dump_reader.specs.declared.declaration.RawDecl.{RawDecl}
use Rattle.dump_reader.specs.declared.declaration.RawDecl.TheVariants.{Constant, Block}
use Rattle.dump_reader.specs.declared.environment.RawEnv.{RawEnv}
use Rattle.dump_printer.specs.CanonicalTerms.{text_of, sort}
use Rattle.dump_printer.specs.Cut.{cut_depth, shown_tokens}
use Rattle.dump_printer.specs.Layout.{spaced}
use Rattle.explanations.specs.Words.{words_of}

-- a line ends with LF
abbrev pub line_end : List ℕ
line_end = 10 ∷ []

abbrev pub number_line : (label : List ℕ) → ℕ → List ℕ
number_line label n = label ++ (decimal n ++ line_end)

abbrev pub text_line : (label text : List ℕ) → List ℕ
text_line label text = label ++ (text ++ line_end)

-- where a term is cut: at a depth of its own, which is greater
abbrev pub cut_text : (at whole : ℕ) → List ℕ
cut_text at whole = if nat_lt at whole then codes ", cut at depth " ++ (decimal at ++ (codes " of " ++ decimal whole)) else []

-- a term, with how many variables it stands under at least; one with over 200 nodes is cut where it nests deepest
abbrev pub term_line : RawEnv → (label : List ℕ) → Term → List ℕ
term_line e label t =
    label ++ (codes ", under " ++ (decimal (loose t) ++ (codes " variables or more" ++ (cut_text (cut_depth t) (depth t) ++ (codes ": " ++ (spaced (shown_tokens e.names e.level_names t) ++ line_end))))))

abbrev pub sort_text : RawEnv → Sort → List ℕ
sort_text e s = spaced (sort e.level_names s [])

abbrev pub sort_line : RawEnv → (label : List ℕ) → Sort → List ℕ
sort_line e label s = label ++ (sort_text e s ++ line_end)

-- a constraint that the levels would have to meet
abbrev pub missing_line : RawEnv → Sort → Sort → List ℕ
missing_line e s r = codes "missing constraint: " ++ (sort_text e s ++ (codes " at most " ++ (sort_text e r ++ line_end)))

-- the name of a declaration, by its place
abbrev pub declared_name : RawDecl → Name
declared_name (Constant k A b) = k
declared_name (Block k ps fs) = k

abbrev pub name_of : RawEnv → Option RawDecl → List ℕ
name_of e None = []
name_of e (Some d) = text_of e.names (declared_name d).0

-- a place, counted from 0
abbrev pub place_line : RawEnv → (label : List ℕ) → Place → List ℕ
place_line e label (at.Level i) = label ++ (codes "level " ++ (decimal i ++ line_end))
place_line e label (at.Constraint i) = label ++ (codes "constraint " ++ (decimal i ++ line_end))
place_line e label (at.Declaration i) = label ++ (codes "declaration " ++ (decimal i ++ (codes ", " ++ (name_of e (slice_get e.decls i) ++ line_end))))
place_line e label at.Main = label ++ codes "main\n"

-- a constraint of the environment, by its place
abbrev pub relation_text : Relation → List ℕ
relation_text relations.Lt = codes "lt"
relation_text relations.Le = codes "le"
relation_text relations.Eq = codes "eq"

abbrev pub constraint_text : RawEnv → Option Constraint → List ℕ
constraint_text e None = []
constraint_text e (Some c) =
    codes "(" ++ (relation_text c.relation ++ (codes " " ++ (text_of e.level_names c.left.0 ++ (codes " " ++ (text_of e.level_names c.right.0 ++ codes ")")))))

unfoldable pub constraint_lines : RawEnv → List ℕ → List ℕ
constraint_lines e [] = []
constraint_lines e (i ∷ is) = text_line (codes "constraint: ") (constraint_text e (slice_get e.constraints i)) ++ constraint_lines e is

-- two that differ: the weak-head normal forms, mostly parts of the two types, at which a comparison ended; or two sorts (which of the two ways they were to stand
-- isn't kept)
abbrev pub clash_lines : RawEnv → Clash → List ℕ
clash_lines e (clashes.Terms a b) = term_line e (codes "found, where they differ") a ++ term_line e (codes "asked for, where they differ") b
clash_lines e (clashes.Sorts s r) =
    sort_line e (codes "sort found: ") s ++ (sort_line e (codes "sort asked for: ") r ++ codes "needed: the first at most the second, or the same where types are to be equal\n")

-- a name that stands twice: a level's, or another's
abbrev pub name_at : RawEnv → Place → ℕ → List ℕ
name_at e (at.Level i) k = text_of e.level_names k
name_at e _ k = text_of e.names k

-- what a refusal keeps
abbrev pub kept_lines : RawEnv → Place → Broken → List ℕ
kept_lines e p (broken.UnboundRel i n) = number_line (codes "variable: ") i ++ number_line (codes "variables in scope: ") n
kept_lines e p (broken.UnknownName k) = text_line (codes "name: ") (text_of e.names k.0)
kept_lines e p (broken.BadNumber i n) = number_line (codes "number: ") i ++ number_line (codes "there are: ") n
kept_lines e p (broken.LevelUndeclared l) = text_line (codes "level: ") (text_of e.level_names l.0)
kept_lines e p (broken.UniverseCycle cs) = constraint_lines e cs
kept_lines e p (broken.NotASort t) = term_line e (codes "type found") t
kept_lines e p (broken.NotAProduct t) = term_line e (codes "type found") t
kept_lines e p (broken.NotBelow c) = clash_lines e c
kept_lines e p (broken.CountWrong w g) = number_line (codes "asked for: ") w ++ number_line (codes "found: ") g
kept_lines e p (broken.NotTheFamily t) = term_line e (codes "type found") t
kept_lines e p (broken.ElimNotAllowed f) = text_line (codes "family of: ") (text_of e.names f.block.0) ++ number_line (codes "family: ") f.family
kept_lines e p (broken.NotEnoughAbstractions d) = number_line (codes "definition: ") d
kept_lines e p (broken.NotGuarded t) = term_line e (codes "what stands there") t
kept_lines e p (broken.NotPositive f c) = number_line (codes "family: ") f ++ number_line (codes "constructor: ") c
kept_lines e p (broken.SortTooSmall s r) = sort_line e (codes "sort of the argument: ") s ++ (sort_line e (codes "sort of the family: ") r ++ missing_line e s r)
kept_lines e p (broken.DuplicateName k) = text_line (codes "name: ") (name_at e p k)
kept_lines e p (broken.RecArgNotInductive t) = term_line e (codes "type found") t

-- what explains a rule that is broken at a place
abbrev pub explain_broken : RawEnv → Place → Broken → List ℕ
explain_broken e p b = place_line e (codes "place: ") p ++ (text_line (codes "rule: ") (words_of b) ++ kept_lines e p b)

-- the uses of the rules from a number on
unfoldable pub uses_lines : ℕ → List ℕ → List ℕ
uses_lines n [] = []
uses_lines n (k ∷ ks) = (codes "uses of rule " ++ (decimal n ++ (codes " before: " ++ (decimal k ++ line_end)))) ++ uses_lines (n + 1) ks

-- what explains that the units are spent at a place: how many of them, and uses of which rules, were taken before
abbrev pub explain_spent : RawEnv → (taken : ℕ) → Place → Account → List ℕ
explain_spent e taken p u = place_line e (codes "place: ") p ++ (number_line (codes "turns taken before: ") taken ++ uses_lines 1 u.uses)

-- what explains that a limit is passed at a place
abbrev pub explain_deep : RawEnv → Place → List ℕ
explain_deep e p = place_line e (codes "only where: ") p
