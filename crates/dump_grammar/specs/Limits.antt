-- Where a limit is passed: by a token alone, or by what a token adds to what has been read.
use Rattle.std.specs.Prelude.{ℕ, List, ◌∷◌, length, Option, Some, None, Bool, true, false, ◌||◌, bytes_eq, nat_le, nat_lt}
use Rattle.sexp_reader.specs.Text.{Text, Open, Close, Atom}
use Rattle.dump_grammar.specs.Keywords.{spelling}
use Rattle.dump_grammar.specs.declared.keyword.Keyword.TheVariants as words
use Rattle.dump_grammar.specs.declared.refusal.Limit.{Limit}
use Rattle.dump_grammar.specs.declared.refusal.Limit.TheVariants as limits
use Rattle.dump_grammar.specs.Numbers.{number_of}
use Rattle.dump_grammar.specs.Named.{Named, depth}
use Rattle.dump_grammar.specs.Table.{Value, VNames, VTerm, VTypes, VDefs, VCtors, VFamilies, VConstraints, VDecls, act, finish, Kind, Arguments, Branches, Definitions, Telescope, Constructors, Families, Constraints, Item, IEnd, INumber, IAdd, ILevels, IList, IDecls, Do}

-- The limit, unless the test holds.
abbrev pub unless : Bool → Limit → Option Limit
unless true l = None
unless false l = Some l

-- The first of two.
abbrev pub first : Option Limit → Option Limit → Option Limit
first (Some l) m = Some l
first None m = m

abbrev pub token_over : (nesting : ℕ) → Text → Option Limit
token_over d Open = unless (nat_lt d 1000) limits.Nesting
token_over d (Atom a) = unless (nat_le (length a) 255) limits.NameBytes
token_over d _ = None

unfoldable pub number_over : ℕ → Option Limit
number_over n = unless (nat_le n 4294967295) limits.Number

-- what is added to a level
unfoldable pub add_over : ℕ → Option Limit
add_over n = first (number_over n) (unless (nat_le n 1000) limits.LevelAdd)

-- the greatest depth of a term
abbrev pub depth_limit : ℕ
depth_limit = 2048

unfoldable pub depth_over : Named → Option Limit
depth_over t = unless (nat_le (depth t) depth_limit) limits.Depth

-- One more, where there are so many.
abbrev pub one_more_over : (most : ℕ) → Limit → ℕ → Option Limit
one_more_over most l n = unless (nat_lt n most) l

abbrev pub at_numeral : (ℕ → Option Limit) → Option ℕ → Option Limit
at_numeral f None = None
at_numeral f (Some n) = f n

-- the term that was read last
abbrev pub top_over : List Value → Option Limit
top_over (VTerm t ∷ vs) = depth_over t
top_over _ = None

-- a member more of a list
abbrev pub member_over : Kind → List Value → Option Limit
member_over Telescope (VTypes ts ∷ vs) = one_more_over 255 limits.Telescope (length ts)
member_over Definitions (VDefs ds ∷ vs) = one_more_over 255 limits.Definitions (length ds)
member_over Constructors (VCtors cs ∷ vs) = one_more_over 1024 limits.Constructors (length cs)
member_over Families (VFamilies fs ∷ vs) = one_more_over 255 limits.Families (length fs)
member_over Constraints (VConstraints cs ∷ vs) = one_more_over 16384 limits.Constraints (length cs)
member_over _ _ = None

-- the bracket that closes a list, which may close a term
abbrev pub end_over : Kind → List Value → Option Limit
end_over Arguments vs = top_over vs
end_over Branches vs = top_over (act (finish Branches) vs)
end_over _ _ = None

abbrev pub level_over : List Value → Option Limit
level_over (VNames ns ∷ vs) = one_more_over 1024 limits.Levels (length ns)
level_over _ = None

-- A declaration begins with one of these words; main begins with another.
abbrev pub is_declaration : List ℕ → Bool
is_declaration a = bytes_eq a (spelling words.ConstantDecl) || bytes_eq a (spelling words.InductiveDecl) || bytes_eq a (spelling words.CoInductiveDecl)

-- What begins with the bracket is a declaration: that is told by the token after it.
abbrev pub begins_declaration : (rest : List Text) → Bool
begins_declaration (Atom a ∷ rest) = is_declaration a
begins_declaration _ = false

abbrev pub declaration_over : List Value → Option Limit
declaration_over (VDecls ds ∷ vs) = one_more_over 65536 limits.Declarations (length ds)
declaration_over _ = None

abbrev pub if_declaration : Bool → Option Limit → Option Limit
if_declaration true l = l
if_declaration false l = None

-- What a token passes in the place of an item, where these values have been read and this rest follows.
abbrev pub over : Item → Text → List Value → (rest : List Text) → Option Limit
over INumber (Atom a) vs rest = at_numeral number_over (number_of a)
over IAdd (Atom a) vs rest = at_numeral add_over (number_of a)
over IEnd Close vs rest = top_over vs
over ILevels (Atom a) vs rest = level_over vs
over (IList k) Close vs rest = end_over k vs
over (IList k) Open vs rest = member_over k vs
over IDecls Open vs rest = if_declaration (begins_declaration rest) (declaration_over vs)
over (Do d i) t vs rest = over i t (act d vs) rest
over _ _ _ _ = None
