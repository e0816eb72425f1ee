-- Contexts in whose middle entries are put in or a term is put in for an entry.
use Rattle.std.specs.Prelude.{ℕ, ◌≡◌, [], ◌∷◌, Some, length}
use Rattle.pc_terms.specs.Syntax.{Term, overs, put, substitute, shift}
use Rattle.calculus_rules.specs.declared.entry.Entry.{Entry}
use Rattle.calculus_rules.specs.declared.entry.Entry.TheVariants.{Assumed, Defined}
use Rattle.calculus_rules.specs.Environment.{Env}
use Rattle.calculus_rules.specs.Context.{Context, values, value_of, type_of}
use Rattle.calculus_rules.specs.Conversion.{Equal}
use Rattle.calculus_rules.specs.Typing.{Types, bare}

abbrev pub lifted_entry : ℕ → ℕ → Entry → Entry
lifted_entry n k (Assumed A) = Assumed (shift n k A)
lifted_entry n k (Defined b B) = Defined (shift n k b) (shift n k B)

-- the inner entries, when n entries are put in below them
abbrev pub lifted_context : ℕ → Context → Context
lifted_context n [] = []
lifted_context n (e ∷ ds) = lifted_entry n (length ds) e ∷ lifted_context n ds

abbrev pub put_entry : ℕ → Term → Entry → Entry
put_entry k a (Assumed A) = Assumed (substitute (overs k (put a)) A)
put_entry k a (Defined b B) = Defined (substitute (overs k (put a)) b) (substitute (overs k (put a)) B)

-- the inner entries, when a is put in for the entry below them
abbrev pub put_context : Term → Context → Context
put_context a [] = []
put_context a (e ∷ ds) = put_entry (length ds) a e ∷ put_context a ds

-- what may be put in for an entry: a term of its type, equal to its value if it has one
pub record Fits (E : Env) (c : Context) (e : Entry) (a : Term) : Type 0 where
  pub has_type : Types bare E c a (type_of e)
  pub equals : (b : Term) → value_of e ≡ Some b → Equal E (values c) a b
