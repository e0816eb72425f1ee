-- Terms: what each is written like, and what it means.
use Rattle.std.specs.Prelude.{◌≡◌, ℕ, suc, ◌+◌, List, [], ◌∷◌, true, nat_lt}
use Rattle.sexp_reader.specs.Text.{Text, Open, Close, Atom}
use Rattle.dump_grammar.specs.declared.keyword.Keyword.TheVariants as words
use Rattle.dump_grammar.specs.Numbers.{word, Numeral}
use Rattle.dump_grammar.specs.Sorts.{SortForm, sort, sort_meaning}
use Rattle.dump_grammar.specs.Named.{Named, Rel, Sort, Prod, Lambda, LetIn, App, Const, Ind, Construct, Case, Fix, NamedBranch, NamedDef, terms_of, branches_of, defs_of}

mutual
  -- A form keeps what the text chooses: the names of binders, the atoms of numbers, how applications are grouped, casts.
  pub data Form : Type 0 where
    FRel : (n : Numeral) → Form
    FSort : (s : SortForm) → Form
    FProd : (na : List ℕ) (A B : Form) → Form
    FLambda : (na : List ℕ) (A b : Form) → Form
    FLetIn : (na : List ℕ) (b B t : Form) → Form
    FApp : (f a : Form) (more : Forms) → Form
    FConst : (k : List ℕ) → Form
    FInd : (k : List ℕ) (n : Numeral) → Form
    FConstruct : (k : List ℕ) (n c : Numeral) → Form
    FCase : (k : List ℕ) (n : Numeral) (params : Forms) (names : List (List ℕ)) (ret scrut : Form) (branches : BranchForms) → Form
    -- the index is below the number of definitions
    FFix : {m : ℕ} (na : List ℕ) (A b : Form) (rarg : Numeral) (more : Definitions m) (index : Numeral) (below : nat_lt index.value (suc m) ≡ true) → Form
    FCast : (t : Form) (kind : List ℕ) (T : Form) → Form

  pub data Forms : Type 0 where
    NoForm : Forms
    OneForm : (f : Form) (more : Forms) → Forms

  pub data BranchForms : Type 0 where
    NoBranchForm : BranchForms
    BranchForm : (names : List (List ℕ)) (body : Form) (more : BranchForms) → BranchForms

  -- so many definitions
  pub data Definitions : ℕ → Type 0 where
    NoDefinition : Definitions 0
    Definition : {m : ℕ} (na : List ℕ) (A b : Form) (rarg : Numeral) (more : Definitions m) → Definitions (suc m)

-- ---- the tokens of each, before the tokens that follow. The bracket that opens a term is left to the place where it stands.

unfoldable pub atoms : List (List ℕ) → List Text → List Text
atoms [] after = after
atoms (a ∷ more) after = Atom a ∷ atoms more after

unfoldable mutual
  pub form : Form → List Text → List Text
  form (FRel n) after = word words.Rel ∷ Atom n.atom ∷ Close ∷ after
  form (FSort s) after = word words.TermSort ∷ sort s (Close ∷ after)
  form (FProd na A B) after = word words.Prod ∷ Atom na ∷ Open ∷ form A (Open ∷ form B (Close ∷ after))
  form (FLambda na A b) after = word words.Lambda ∷ Atom na ∷ Open ∷ form A (Open ∷ form b (Close ∷ after))
  form (FLetIn na b B t) after = word words.LetIn ∷ Atom na ∷ Open ∷ form b (Open ∷ form B (Open ∷ form t (Close ∷ after)))
  form (FApp f a more) after = word words.App ∷ Open ∷ form f (Open ∷ form a (forms more (Close ∷ after)))
  form (FConst k) after = word words.Const ∷ Atom k ∷ Close ∷ after
  form (FInd k n) after = word words.Ind ∷ Atom k ∷ Atom n.atom ∷ Close ∷ after
  form (FConstruct k n c) after = word words.Construct ∷ Atom k ∷ Atom n.atom ∷ Atom c.atom ∷ Close ∷ after
  form (FCase k n params names ret scrut brs) after =
      word words.Case ∷ Open ∷ Atom k ∷ Atom n.atom ∷ Close
      ∷ Open ∷ word words.Params ∷ forms params (Close
      ∷ Open ∷ word words.Pred ∷ Open ∷ atoms names (Close ∷ Open ∷ form ret (Close
      ∷ Open ∷ form scrut (branches brs (Close ∷ after)))))
  form (FFix na A b n more i below) after =
      word words.Fix ∷ Open ∷ Open ∷ word words.Def ∷ Atom na ∷ Open ∷ form A (Open ∷ form b (Atom n.atom ∷ Close ∷ definitions more (Close ∷ Atom i.atom ∷ Close ∷ after)))
  form (FCast t kind T) after = word words.Cast ∷ Open ∷ form t (Atom kind ∷ Open ∷ form T (Close ∷ after))

  pub forms : Forms → List Text → List Text
  forms NoForm after = after
  forms (OneForm f more) after = Open ∷ form f (forms more after)

  pub branches : BranchForms → List Text → List Text
  branches NoBranchForm after = after
  branches (BranchForm names body more) after = Open ∷ word words.Branch ∷ Open ∷ atoms names (Close ∷ Open ∷ form body (Close ∷ branches more after))

  pub definitions : {m : ℕ} → Definitions m → List Text → List Text
  definitions NoDefinition after = after
  definitions (Definition na A b n more) after = Open ∷ word words.Def ∷ Atom na ∷ Open ∷ form A (Open ∷ form b (Atom n.atom ∷ Close ∷ definitions more after))

-- ---- what each means: an application takes one argument, and a cast is a lambda applied

unfoldable pub count : List (List ℕ) → ℕ → ℕ
count [] n = n
count (a ∷ more) n = count more (n + 1)

abbrev pub cast : Named → Named → Named
cast t T = App (Lambda T (Rel 0)) t

unfoldable mutual
  pub meaning : Form → Named
  meaning (FRel n) = Rel n.value
  meaning (FSort s) = Sort (sort_meaning s)
  meaning (FProd na A B) = Prod (meaning A) (meaning B)
  meaning (FLambda na A b) = Lambda (meaning A) (meaning b)
  meaning (FLetIn na b B t) = LetIn (meaning b) (meaning B) (meaning t)
  meaning (FApp f a more) = applied (App (meaning f) (meaning a)) more
  meaning (FConst k) = Const k
  meaning (FInd k n) = Ind k n.value
  meaning (FConstruct k n c) = Construct k n.value c.value
  meaning (FCase k n params names ret scrut brs) = Case k n.value (terms_of (meanings params)) (count names 0) (meaning ret) (meaning scrut) (branches_of (branch_meanings brs))
  meaning (FFix na A b n more i below) = Fix (defs_of (record { type = meaning A; body = meaning b; rarg = n.value } ∷ definition_meanings more)) i.value
  meaning (FCast t kind T) = cast (meaning t) (meaning T)

  pub applied : Named → Forms → Named
  applied f NoForm = f
  applied f (OneForm a more) = applied (App f (meaning a)) more

  pub meanings : Forms → List Named
  meanings NoForm = []
  meanings (OneForm f more) = meaning f ∷ meanings more

  pub branch_meanings : BranchForms → List NamedBranch
  branch_meanings NoBranchForm = []
  branch_meanings (BranchForm names body more) = record { binders = count names 0; body = meaning body } ∷ branch_meanings more

  pub definition_meanings : {m : ℕ} → Definitions m → List NamedDef
  definition_meanings NoDefinition = []
  definition_meanings (Definition na A b n more) = record { type = meaning A; body = meaning b; rarg = n.value } ∷ definition_meanings more
