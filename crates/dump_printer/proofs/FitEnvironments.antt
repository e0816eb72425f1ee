-- What the canonical text asks of a whole environment: as of its terms.
use Rattle.std.proofs.Common.{◌≡◌, ℕ, List, [], ◌∷◌, Option, Some, None, true}
use Rattle.dump_grammar.specs.Numbering.{is_in}
use Rattle.dump_grammar.specs.Named.{Named, NamedConstraint, NamedCtor, NamedFamily, NamedDecl, Constant, Block, NamedEnv}
use Rattle.dump_grammar.specs.Named.{terms_of}
use Rattle.dump_grammar.specs.Terms.{Forms, NoForm, OneForm, meaning, meanings}
use Rattle.dump_printer.proofs.Fits.{IsName, Fits, FitTerms, FitsSort}

module _ (ns ls : List (List ℕ)) where
  abbrev pub IsLevel : List ℕ → Type 0
  IsLevel a = is_in a ls ≡ true

  abbrev pub FitEach : List Named → Type 0
  FitEach [] = Unit {0}
  FitEach (t ∷ ts) = Fits ns ls t × FitEach ts

  abbrev pub FitsCtor : NamedCtor → Type 0
  FitsCtor c = IsName ns ls c.name × FitEach c.args × FitEach c.result

  abbrev pub FitCtors : List NamedCtor → Type 0
  FitCtors [] = Unit {0}
  FitCtors (c ∷ cs) = FitsCtor c × FitCtors cs

  abbrev pub FitsFamily : NamedFamily → Type 0
  FitsFamily f = IsName ns ls f.name × FitsSort ns ls f.sort × FitEach f.indices × FitCtors f.ctors

  abbrev pub FitFamilies : List NamedFamily → Type 0
  FitFamilies [] = Unit {0}
  FitFamilies (f ∷ fs) = FitsFamily f × FitFamilies fs

  abbrev pub FitsOption : Option Named → Type 0
  FitsOption None = Unit {0}
  FitsOption (Some t) = Fits ns ls t

  abbrev pub FitsDecl : NamedDecl → Type 0
  FitsDecl (Constant k A b) = IsName ns ls k × Fits ns ls A × FitsOption b
  FitsDecl (Block k ps fs) = IsName ns ls k × FitEach ps × FitFamilies fs

  abbrev pub FitDecls : List NamedDecl → Type 0
  FitDecls [] = Unit {0}
  FitDecls (d ∷ ds) = FitsDecl d × FitDecls ds

  abbrev pub FitConstraints : List NamedConstraint → Type 0
  FitConstraints [] = Unit {0}
  FitConstraints (c ∷ cs) = IsLevel c.left × IsLevel c.right × FitConstraints cs

  abbrev pub FitLevels : List (List ℕ) → Type 0
  FitLevels [] = Unit {0}
  FitLevels (l ∷ more) = IsLevel l × FitLevels more

  pub record FitsEnv (env : NamedEnv) : Type 0 where
    pub levels : FitLevels env.levels
    pub constraints : FitConstraints env.constraints
    pub decls : FitDecls env.decls
    pub main : Fits ns ls env.main

-- the result terms of a constructor, as a list of terms
pub results-apart : (ns ls : List (List ℕ)) (fs : Forms) → FitEach ns ls (meanings fs) → FitTerms ns ls (terms_of (meanings fs))
unfolding meaning Fits
results-apart ns ls NoForm h = tt
results-apart ns ls (OneForm f more) h = (h.0, results-apart ns ls more h.1)
