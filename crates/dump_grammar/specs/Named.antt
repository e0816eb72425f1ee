-- What a text means before its names and levels are numbered: names and levels are texts. Variables are de Bruijn indices, the
-- innermost binder's is 0, and the names of binders are gone.
use Rattle.std.specs.Prelude.{ℕ, suc, max, List, [], ◌∷◌, Option}

pub data NamedSort : Type 0 where
  AProp : NamedSort
  -- the maximum of some levels, each with what is added to it
  AType : (parts : List (List ℕ × ℕ)) → NamedSort

mutual
  pub data Named : Type 0 where
    Rel : (n : ℕ) → Named
    Sort : (s : NamedSort) → Named
    Prod : (A B : Named) → Named
    Lambda : (A b : Named) → Named
    LetIn : (b B t : Named) → Named
    App : (f a : Named) → Named
    Const : (k : List ℕ) → Named
    Ind : (k : List ℕ) (n : ℕ) → Named
    Construct : (k : List ℕ) (n c : ℕ) → Named
    Case : (k : List ℕ) (n : ℕ) (params : NamedTerms) (binders : ℕ) (ret scrut : Named) (branches : NamedBranches) → Named
    Fix : (defs : NamedDefs) (index : ℕ) → Named

  -- lists, from the first to the last
  pub data NamedTerms : Type 0 where
    NoTerm : NamedTerms
    OneTerm : (t : Named) (more : NamedTerms) → NamedTerms

  pub data NamedBranches : Type 0 where
    NoBranch : NamedBranches
    OneBranch : (binders : ℕ) (body : Named) (more : NamedBranches) → NamedBranches

  pub data NamedDefs : Type 0 where
    NoDef : NamedDefs
    OneDef : (type body : Named) (rarg : ℕ) (more : NamedDefs) → NamedDefs

pub record NamedBranch : Type 0 where
  pub binders : ℕ
  pub body : Named

pub record NamedDef : Type 0 where
  pub type : Named
  pub body : Named
  pub rarg : ℕ

abbrev pub terms_of : List Named → NamedTerms
terms_of [] = NoTerm
terms_of (t ∷ ts) = OneTerm t (terms_of ts)

abbrev pub branches_of : List NamedBranch → NamedBranches
branches_of [] = NoBranch
branches_of (b ∷ bs) = OneBranch b.binders b.body (branches_of bs)

abbrev pub defs_of : List NamedDef → NamedDefs
defs_of [] = NoDef
defs_of (d ∷ ds) = OneDef d.type d.body d.rarg (defs_of ds)

-- One more than the deepest part; 1 where there is none.
unfoldable mutual
  pub depth : Named → ℕ
  depth (Rel n) = 1
  depth (Sort s) = 1
  depth (Prod A B) = suc (max (depth A) (depth B))
  depth (Lambda A b) = suc (max (depth A) (depth b))
  depth (LetIn b B t) = suc (max (depth b) (max (depth B) (depth t)))
  depth (App f a) = suc (max (depth f) (depth a))
  depth (Const k) = 1
  depth (Ind k n) = 1
  depth (Construct k n c) = 1
  depth (Case k n ps m r s bs) = suc (max (depth_terms ps) (max (depth r) (max (depth s) (depth_branches bs))))
  depth (Fix ds i) = suc (depth_defs ds)

  -- the deepest of a list
  pub depth_terms : NamedTerms → ℕ
  depth_terms NoTerm = 0
  depth_terms (OneTerm t more) = max (depth t) (depth_terms more)

  pub depth_branches : NamedBranches → ℕ
  depth_branches NoBranch = 0
  depth_branches (OneBranch m b more) = max (depth b) (depth_branches more)

  pub depth_defs : NamedDefs → ℕ
  depth_defs NoDef = 0
  depth_defs (OneDef A b n more) = max (max (depth A) (depth b)) (depth_defs more)

-- ---- environments

pub data NamedComparison : Type 0 where
  Less : NamedComparison
  AtMost : NamedComparison
  Equal : NamedComparison

pub record NamedConstraint : Type 0 where
  pub left : List ℕ
  pub relation : NamedComparison
  pub right : List ℕ

-- Telescopes are the types alone, from the first to the last.
pub record NamedCtor : Type 0 where
  pub name : List ℕ
  pub args : List Named
  pub result : List Named

pub record NamedFamily : Type 0 where
  pub name : List ℕ
  pub sort : NamedSort
  pub indices : List Named
  pub ctors : List NamedCtor

pub data NamedDecl : Type 0 where
  Constant : (name : List ℕ) (type : Named) (body : Option Named) → NamedDecl
  Block : (name : List ℕ) (params : List Named) (families : List NamedFamily) → NamedDecl

pub record NamedEnv : Type 0 where
  pub levels : List (List ℕ)
  pub constraints : List NamedConstraint
  pub decls : List NamedDecl
  pub main : Named
