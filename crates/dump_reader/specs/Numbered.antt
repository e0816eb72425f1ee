-- Terms with numbers for names and levels: what a named term means beside the tables of names and of levels. The number of a text is its place in
-- its table. Universes are in normal form, and a fixpoint's bodies stand under all its definitions.
use Rattle.std.specs.Prelude.{ℕ, List, [], ◌∷◌, length, map}
use Rattle.universe_levels.specs.declared.level.Level.{Level}
use Rattle.universe_levels.specs.declared.level.LevelExpr.{LevelExpr}
use Rattle.universe_levels.specs.declared.sort.Sort.{Sort as Sorts}
use Rattle.universe_levels.specs.declared.sort.Sort.TheVariants as sorts
use Rattle.universe_levels.specs.Maximum.{maximum_of}
use Rattle.pc_terms.specs.declared.leaf.Name.{Name}
use Rattle.pc_terms.specs.declared.leaf.FamilyId.{FamilyId}
use Rattle.pc_terms.specs.Syntax as terms
use Rattle.dump_grammar.specs.Numbering.{place_of}
use Rattle.dump_grammar.specs.Named.{NamedSort, AProp, AType, Named, Rel, Sort, Prod, Lambda, LetIn, App, Const, Ind, Construct, Case, Fix, NamedTerms, NoTerm, OneTerm, NamedBranches, NoBranch, OneBranch, NamedDefs, NoDef, OneDef}

-- the number of a name, by the table of names
abbrev pub name_number : List (List ℕ) → List ℕ → Name
name_number names a = record { 0 = place_of a names }

-- the number of a level, by the table of levels
abbrev pub level_number : List (List ℕ) → List ℕ → Level
level_number levels a = record { 0 = place_of a levels }

-- a family: its block by number, and its place in the block
abbrev pub family_number : List (List ℕ) → List ℕ → ℕ → FamilyId
family_number names k n = record { block = name_number names k; family = n }

abbrev pub level_part : List (List ℕ) → List ℕ × ℕ → LevelExpr
level_part levels p = record { level = level_number levels p.0; add = p.1 }

-- a sort: `Prop`, or the types of the maximum of its parts
abbrev pub numbered_sort : List (List ℕ) → NamedSort → Sorts
numbered_sort levels AProp = sorts.Prop
numbered_sort levels (AType parts) = sorts.Of (maximum_of (map (level_part levels) parts))

-- the recursive arguments of definitions
unfoldable pub recursive_arguments : NamedDefs → List ℕ
recursive_arguments NoDef = []
recursive_arguments (OneDef A b n more) = n ∷ recursive_arguments more

-- a term, by the tables of names and of levels
unfoldable mutual
  pub numbered_term : (names levels : List (List ℕ)) → Named → terms.Term
  numbered_term ns ls (Rel n) = terms.Rel n
  numbered_term ns ls (Sort s) = terms.SortT (numbered_sort ls s)
  numbered_term ns ls (Prod A B) = terms.Prod (numbered_term ns ls A) (numbered_term ns ls B)
  numbered_term ns ls (Lambda A b) = terms.Lambda (numbered_term ns ls A) (numbered_term ns ls b)
  numbered_term ns ls (LetIn b B t) = terms.LetIn (numbered_term ns ls b) (numbered_term ns ls B) (numbered_term ns ls t)
  numbered_term ns ls (App f a) = terms.App (numbered_term ns ls f) (numbered_term ns ls a)
  numbered_term ns ls (Const k) = terms.Const (name_number ns k)
  numbered_term ns ls (Ind k n) = terms.Ind (family_number ns k n)
  numbered_term ns ls (Construct k n c) = terms.Construct (family_number ns k n) c
  numbered_term ns ls (Case k n ps m ret scrut bs) =
      terms.Case (family_number ns k n) (numbered_terms ns ls ps) m (numbered_term ns ls ret) (numbered_term ns ls scrut) (numbered_branches ns ls bs)
  numbered_term ns ls (Fix ds i) =
      terms.Fix i (recursive_arguments ds) (numbered_types ns ls ds) (numbered_bodies ns ls (length (recursive_arguments ds)) ds)

  -- the parameters of a match, under no variables of their own
  pub numbered_terms : (names levels : List (List ℕ)) → NamedTerms → terms.Terms
  numbered_terms ns ls NoTerm = terms.Done
  numbered_terms ns ls (OneTerm t more) = terms.Next 0 (numbered_term ns ls t) (numbered_terms ns ls more)

  -- branches, each under its own variables
  pub numbered_branches : (names levels : List (List ℕ)) → NamedBranches → terms.Terms
  numbered_branches ns ls NoBranch = terms.Done
  numbered_branches ns ls (OneBranch m b more) = terms.Next m (numbered_term ns ls b) (numbered_branches ns ls more)

  -- the types of definitions
  pub numbered_types : (names levels : List (List ℕ)) → NamedDefs → terms.Terms
  numbered_types ns ls NoDef = terms.Done
  numbered_types ns ls (OneDef A b n more) = terms.Next 0 (numbered_term ns ls A) (numbered_types ns ls more)

  -- the bodies of definitions, each under so many variables: one for each definition of the fixpoint
  pub numbered_bodies : (names levels : List (List ℕ)) (count : ℕ) → NamedDefs → terms.Terms
  numbered_bodies ns ls m NoDef = terms.Done
  numbered_bodies ns ls m (OneDef A b n more) = terms.Next m (numbered_term ns ls b) (numbered_bodies ns ls m more)
