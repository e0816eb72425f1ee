-- What holds of the terms of each text: names and levels are ASCII, a universe has a part, and a fixpoint's index is below the number of its definitions.
use Rattle.std.specs.Prelude.{◌≢◌, ℕ, ◌<◌, List, [], ◌∷◌, length, Option, Some, None}
use Rattle.std.specs.Str.{IsAscii}
use Rattle.dump_grammar.specs.Named.{NamedSort, AProp, AType, Named, Rel, Sort, Prod, Lambda, LetIn, App, Const, Ind, Construct, Case, Fix, NamedTerms, NoTerm, OneTerm, NamedBranches, NoBranch, OneBranch, NamedDefs, NoDef, OneDef, NamedConstraint, NamedCtor, NamedFamily, NamedDecl, Constant, Block, NamedEnv}
use Rattle.dump_reader.specs.Numbered.{recursive_arguments}

-- each of a list
abbrev pub Each : {X : Type 0} → (X → Type 0) → List X → Type 0
Each P [] = Unit {0}
Each P (x ∷ xs) = P x × Each P xs

abbrev pub IsFormedPart : List ℕ × ℕ → Type 0
IsFormedPart p = IsAscii p.0

abbrev pub IsFormedSort : NamedSort → Type 0
IsFormedSort AProp = Unit {0}
IsFormedSort (AType parts) = (parts ≢ []) × Each IsFormedPart parts

unfoldable mutual
  pub IsFormed : Named → Type 0
  IsFormed (Rel n) = Unit {0}
  IsFormed (Sort s) = IsFormedSort s
  IsFormed (Prod A B) = IsFormed A × IsFormed B
  IsFormed (Lambda A b) = IsFormed A × IsFormed b
  IsFormed (LetIn b B t) = IsFormed b × IsFormed B × IsFormed t
  IsFormed (App f a) = IsFormed f × IsFormed a
  IsFormed (Const k) = IsAscii k
  IsFormed (Ind k n) = IsAscii k
  IsFormed (Construct k n c) = IsAscii k
  IsFormed (Case k n ps m ret scrut bs) = IsAscii k × AreFormed ps × IsFormed ret × IsFormed scrut × AreFormedBranches bs
  IsFormed (Fix ds i) = (i < length (recursive_arguments ds)) × AreFormedDefs ds

  pub AreFormed : NamedTerms → Type 0
  AreFormed NoTerm = Unit {0}
  AreFormed (OneTerm t more) = IsFormed t × AreFormed more

  pub AreFormedBranches : NamedBranches → Type 0
  AreFormedBranches NoBranch = Unit {0}
  AreFormedBranches (OneBranch m b more) = IsFormed b × AreFormedBranches more

  pub AreFormedDefs : NamedDefs → Type 0
  AreFormedDefs NoDef = Unit {0}
  AreFormedDefs (OneDef A b n more) = IsFormed A × IsFormed b × AreFormedDefs more

abbrev pub IsFormedOption : Option Named → Type 0
IsFormedOption None = Unit {0}
IsFormedOption (Some t) = IsFormed t

abbrev pub IsFormedConstraint : NamedConstraint → Type 0
IsFormedConstraint c = IsAscii c.left × IsAscii c.right

abbrev pub IsFormedCtor : NamedCtor → Type 0
IsFormedCtor c = IsAscii c.name × Each IsFormed c.args × Each IsFormed c.result

abbrev pub IsFormedFamily : NamedFamily → Type 0
IsFormedFamily f = IsAscii f.name × IsFormedSort f.sort × Each IsFormed f.indices × Each IsFormedCtor f.ctors

abbrev pub IsFormedDecl : NamedDecl → Type 0
IsFormedDecl (Constant k A b) = IsAscii k × IsFormed A × IsFormedOption b
IsFormedDecl (Block k ps fs) = IsAscii k × Each IsFormed ps × Each IsFormedFamily fs

pub record IsFormedEnv (env : NamedEnv) : Type 0 where
  pub levels : Each IsAscii env.levels
  pub constraints : Each IsFormedConstraint env.constraints
  pub decls : Each IsFormedDecl env.decls
  pub main : IsFormed env.main
