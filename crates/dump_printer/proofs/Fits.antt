-- What the canonical text asks of an environment's terms: names and levels stand in their tables, and numbers are small.
use Rattle.std.proofs.Common.{◌≡◌, ℕ, ◌^◌, ◌<◌, List, [], ◌∷◌, true}
use Rattle.dump_grammar.specs.Numbering.{is_in}
use Rattle.dump_grammar.specs.Named.{NamedSort, AProp, AType, Named, Rel, Sort, Prod, Lambda, LetIn, App, Const, Ind, Construct, Case, Fix, NamedTerms, NoTerm, OneTerm, NamedBranches, NoBranch, OneBranch, NamedDefs, NoDef, OneDef, terms_of}
use Rattle.dump_grammar.specs.Terms.{Forms, NoForm, OneForm, meaning, applied, meanings}

abbrev pub Small : ℕ → Type 0
Small n = n < 2 ^ 64

module _ (ns ls : List (List ℕ)) where
  abbrev pub IsName : List ℕ → Type 0
  IsName k = is_in k ns ≡ true

  abbrev pub FitParts : List (List ℕ × ℕ) → Type 0
  FitParts [] = Unit {0}
  FitParts (p ∷ ps) = (is_in p.0 ls ≡ true) × Small p.1 × FitParts ps

  abbrev pub FitsSort : NamedSort → Type 0
  FitsSort AProp = Unit {0}
  FitsSort (AType ps) = FitParts ps

  unfoldable mutual
    pub Fits : Named → Type 0
    Fits (Rel n) = Small n
    Fits (Sort s) = FitsSort s
    Fits (Prod A B) = Fits A × Fits B
    Fits (Lambda A b) = Fits A × Fits b
    Fits (LetIn b B t) = Fits b × Fits B × Fits t
    Fits (App f a) = Fits f × Fits a
    Fits (Const k) = IsName k
    Fits (Ind k n) = IsName k × Small n
    Fits (Construct k n c) = IsName k × Small n × Small c
    Fits (Case k n ps m ret scrut bs) = IsName k × Small n × FitTerms ps × Fits ret × Fits scrut × FitBranches bs
    Fits (Fix ds i) = Small i × FitDefs ds

    pub FitTerms : NamedTerms → Type 0
    FitTerms NoTerm = Unit {0}
    FitTerms (OneTerm t more) = Fits t × FitTerms more

    pub FitBranches : NamedBranches → Type 0
    FitBranches NoBranch = Unit {0}
    FitBranches (OneBranch m b more) = Fits b × FitBranches more

    pub FitDefs : NamedDefs → Type 0
    FitDefs NoDef = Unit {0}
    FitDefs (OneDef A b n more) = Fits A × Fits b × Small n × FitDefs more

  pub fit-applied : (f : Named) (more : Forms) → Fits (applied f more) → Fits f × FitTerms (terms_of (meanings more))
  unfolding Fits meaning
  fit-applied f NoForm h = (h, tt)
  fit-applied f (OneForm a more) h = let k = fit-applied (App f (meaning a)) more h in (k.0.0, (k.0.1, k.1))
