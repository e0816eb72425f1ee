-- Where names and levels are used, in the order of the text. An application counts its function before its argument, so the type of a cast counts
-- before its term.
use Rattle.std.specs.Prelude.{ℕ, List, [], ◌∷◌, Option, Some, None}
use Rattle.dump_grammar.specs.Named.{NamedSort, AProp, AType, Named, Rel, Sort, Prod, Lambda, LetIn, App, Const, Ind, Construct, Case, Fix, NamedTerms, NoTerm, OneTerm, NamedBranches, NoBranch, OneBranch, NamedDefs, NoDef, OneDef, NamedConstraint, NamedCtor, NamedFamily, NamedDecl, Constant, Block, NamedEnv}

-- ---- names: those of declarations, families and constructors, and those in terms. Each before the uses that follow.

unfoldable mutual
  pub names : Named → List (List ℕ) → List (List ℕ)
  names (Rel n) after = after
  names (Sort s) after = after
  names (Prod A B) after = names A (names B after)
  names (Lambda A b) after = names A (names b after)
  names (LetIn b B t) after = names b (names B (names t after))
  names (App f a) after = names f (names a after)
  names (Const k) after = k ∷ after
  names (Ind k n) after = k ∷ after
  names (Construct k n c) after = k ∷ after
  names (Case k n ps m ret scrut bs) after = k ∷ names_of_terms ps (names ret (names scrut (names_of_branches bs after)))
  names (Fix ds i) after = names_of_defs ds after

  pub names_of_terms : NamedTerms → List (List ℕ) → List (List ℕ)
  names_of_terms NoTerm after = after
  names_of_terms (OneTerm t more) after = names t (names_of_terms more after)

  pub names_of_branches : NamedBranches → List (List ℕ) → List (List ℕ)
  names_of_branches NoBranch after = after
  names_of_branches (OneBranch m b more) after = names b (names_of_branches more after)

  pub names_of_defs : NamedDefs → List (List ℕ) → List (List ℕ)
  names_of_defs NoDef after = after
  names_of_defs (OneDef A b n more) after = names A (names b (names_of_defs more after))

-- the members of a list, from the first to the last
unfoldable pub each : {X : Type 0} → (X → List (List ℕ) → List (List ℕ)) → List X → List (List ℕ) → List (List ℕ)
each f [] after = after
each f (x ∷ xs) after = f x (each f xs after)

abbrev pub names_of_option : Option Named → List (List ℕ) → List (List ℕ)
names_of_option None after = after
names_of_option (Some t) after = names t after

abbrev pub names_of_ctor : NamedCtor → List (List ℕ) → List (List ℕ)
names_of_ctor c after = c.name ∷ each names c.args (each names c.result after)

abbrev pub names_of_family : NamedFamily → List (List ℕ) → List (List ℕ)
names_of_family f after = f.name ∷ each names f.indices (each names_of_ctor f.ctors after)

unfoldable pub names_of_decl : NamedDecl → List (List ℕ) → List (List ℕ)
names_of_decl (Constant k A b) after = k ∷ names A (names_of_option b after)
names_of_decl (Block k ps fs) after = k ∷ each names ps (each names_of_family fs after)

-- ---- levels: those of `levels`, of constraints and of sorts

abbrev pub level_of_part : List ℕ × ℕ → List (List ℕ) → List (List ℕ)
level_of_part p after = p.0 ∷ after

abbrev pub levels_of_sort : NamedSort → List (List ℕ) → List (List ℕ)
levels_of_sort AProp after = after
levels_of_sort (AType parts) after = each level_of_part parts after

unfoldable mutual
  pub levels : Named → List (List ℕ) → List (List ℕ)
  levels (Rel n) after = after
  levels (Sort s) after = levels_of_sort s after
  levels (Prod A B) after = levels A (levels B after)
  levels (Lambda A b) after = levels A (levels b after)
  levels (LetIn b B t) after = levels b (levels B (levels t after))
  levels (App f a) after = levels f (levels a after)
  levels (Const k) after = after
  levels (Ind k n) after = after
  levels (Construct k n c) after = after
  levels (Case k n ps m ret scrut bs) after = levels_of_terms ps (levels ret (levels scrut (levels_of_branches bs after)))
  levels (Fix ds i) after = levels_of_defs ds after

  pub levels_of_terms : NamedTerms → List (List ℕ) → List (List ℕ)
  levels_of_terms NoTerm after = after
  levels_of_terms (OneTerm t more) after = levels t (levels_of_terms more after)

  pub levels_of_branches : NamedBranches → List (List ℕ) → List (List ℕ)
  levels_of_branches NoBranch after = after
  levels_of_branches (OneBranch m b more) after = levels b (levels_of_branches more after)

  pub levels_of_defs : NamedDefs → List (List ℕ) → List (List ℕ)
  levels_of_defs NoDef after = after
  levels_of_defs (OneDef A b n more) after = levels A (levels b (levels_of_defs more after))

abbrev pub levels_of_constraint : NamedConstraint → List (List ℕ) → List (List ℕ)
levels_of_constraint c after = c.left ∷ c.right ∷ after

abbrev pub levels_of_option : Option Named → List (List ℕ) → List (List ℕ)
levels_of_option None after = after
levels_of_option (Some t) after = levels t after

abbrev pub levels_of_ctor : NamedCtor → List (List ℕ) → List (List ℕ)
levels_of_ctor c after = each levels c.args (each levels c.result after)

abbrev pub levels_of_family : NamedFamily → List (List ℕ) → List (List ℕ)
levels_of_family f after = levels_of_sort f.sort (each levels f.indices (each levels_of_ctor f.ctors after))

unfoldable pub levels_of_decl : NamedDecl → List (List ℕ) → List (List ℕ)
levels_of_decl (Constant k A b) after = levels A (levels_of_option b after)
levels_of_decl (Block k ps fs) after = each levels ps (each levels_of_family fs after)

-- ---- of a whole environment

abbrev pub one_use : List ℕ → List (List ℕ) → List (List ℕ)
one_use a after = a ∷ after

abbrev pub name_uses : NamedEnv → List (List ℕ)
name_uses env = each names_of_decl env.decls (names env.main [])

abbrev pub level_uses : NamedEnv → List (List ℕ)
level_uses env = each one_use env.levels (each levels_of_constraint env.constraints (each levels_of_decl env.decls (levels env.main [])))
