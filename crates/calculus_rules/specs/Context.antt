-- Contexts (PCUIC, POPL 2020, section 2: local contexts). An entry assumes a variable of a type, or defines it as a value of a type.
-- The innermost entry, which is variable 0, comes first. A telescope lists its types from the outermost to the innermost.
use Rattle.std.specs.Prelude.{ℕ, zero, suc, List, [], ◌∷◌, Option, Some, None}
use Rattle.pc_terms.specs.Syntax.{Term, rename}
use Rattle.calculus_rules.specs.declared.entry.Entry.{Entry}
use Rattle.calculus_rules.specs.declared.entry.Entry.TheVariants.{Assumed, Defined}

abbrev pub Context : Type 0
Context = List Entry

-- the values of the entries, which are all that conversion knows of a context
abbrev pub Values : Type 0
Values = List (Option Term)

abbrev pub value_of : Entry → Option Term
value_of (Assumed A) = None
value_of (Defined b B) = Some b

abbrev pub type_of : Entry → Term
type_of (Assumed A) = A
type_of (Defined b B) = B

abbrev pub values : Context → Values
values [] = []
values (e ∷ c) = value_of e ∷ values c

abbrev pub lifted : Option Term → Option Term
lifted None = None
lifted (Some t) = Some (rename suc t)

-- entry i's value, lifted by i + 1
abbrev pub value_at : Values → ℕ → Option Term
value_at [] i = None
value_at (v ∷ vs) zero = lifted v
value_at (v ∷ vs) (suc i) = lifted (value_at vs i)

-- entry i's type, lifted by i + 1
abbrev pub type_at : Context → ℕ → Option Term
type_at [] i = None
type_at (e ∷ c) zero = Some (rename suc (type_of e))
type_at (e ∷ c) (suc i) = lifted (type_at c i)

-- b more assumed entries
abbrev pub under : ℕ → Values → Values
under zero vs = vs
under (suc b) vs = None ∷ under b vs

-- the entries of a telescope, assumed
abbrev pub extend : Context → List Term → Context
extend c [] = c
extend c (A ∷ As) = extend (Assumed A ∷ c) As
