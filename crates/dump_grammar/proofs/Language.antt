-- Every text of a form is read.
use Rattle.std.proofs.Common.{◌≡◌, ℕ, suc, List, [], ◌∷◌, ◌++◌, length, true, false, refl, ap}
use Rattle.std.specs.Prelude.{nat_eq, nat_lt, ◌||◌}
use Rattle.sexp_reader.specs.Text.{Text, Open, Close, Atom, Stray}
use Rattle.dump_grammar.specs.declared.keyword.Former.TheVariants as formers
use Rattle.dump_grammar.specs.declared.keyword.Opening.TheVariants as openings
use Rattle.dump_grammar.specs.Numbers.{LevelName}
use Rattle.dump_grammar.specs.Named.{NamedDef}
use Rattle.dump_grammar.specs.Sorts.{PartForm, SortForm, PropForm, SetForm, TypeForm, parts, sort, sort_meaning}
use Rattle.dump_grammar.specs.Terms.{Form, FRel, FSort, FProd, FLambda, FLetIn, FApp, FConst, FInd, FConstruct, FCase, FFix, FCast, Forms, NoForm, OneForm, BranchForms, NoBranchForm, BranchForm, Definitions, NoDefinition, Definition, atoms, form, forms, branches, definitions, meaning, definition_meanings}
use Rattle.dump_grammar.specs.Declarations.{Binding, CtorForm, FamilyForm, BodyForm, NoneForm, SomeForm, DeclForm, ConstantForm, BlockForm, bindings, constructors, families, body, declaration}
use Rattle.dump_grammar.specs.Environments.{ConstraintForm, level_names, constraints, declarations}
use Rattle.dump_grammar.specs.Table.{Value, VSort, VTerm, Action, MakeCase, MakeType, AddBlock, act, Item, IHead, ISort, ITypeHead, IBody, INames, ILevels, IList, IDecls, IDecl, Do, step, Arguments, Terms, Telescope, Constructors, Families, Parts, Constraints, Refused, after, run}
use Rattle.dump_grammar.specs.Table.{Branches as BranchList, Definitions as DefinitionList}
use Rattle.dump_grammar.proofs.Words.{word-is, former-is, comparison-is, opening-is, set-isn't-prop}
use Rattle.dump_grammar.proofs.Values.{counted, with_levels, with_arguments, with_terms, with_branches, with_definitions, with_bindings, with_constructor, with_constructors, with_family, with_families, with_parts, with_constraints, with_body, with_declaration, with_declarations, counted-value, arguments-value, terms-value, branches-value, definitions-value, definitions-number, parts-value}

pub run-step : (i : Item) (k : List Item) (vs : List Value) (t : Text) (ts : List Text) → run (i ∷ k) vs (t ∷ ts) ≡ after (step i t vs) (Refused (t ∷ ts)) (λ js ws. run (js ++ k) ws ts)
unfolding run
run-step i k vs t ts = refl

pub do-then : (d : Action) (i : Item) (k : List Item) (vs : List Value) (ts : List Text) → run (Do d i ∷ k) vs ts ≡ run (i ∷ k) (act d vs) ts
unfolding run
do-then d i k vs [] = refl
do-then d i k vs (t ∷ ts) = refl

pub type-head : (k : List Item) (vs : List Value) (ts : List Text) → run (ITypeHead ∷ k) vs ts ≡ run (IHead ∷ k) vs ts
unfolding run
type-head k vs [] = refl
type-head k vs (Open ∷ ts) = refl
type-head k vs (Close ∷ ts) = refl
type-head k vs (Atom a ∷ ts) = refl
type-head k vs (Stray ∷ ts) = refl

pub names-read : (ns : List (List ℕ)) (k : List Item) (vs : List Value) (r : List Text) → run (INames ∷ k) vs (atoms ns (Close ∷ r)) ≡ run k (counted ns vs) r
unfolding atoms counted
names-read [] k vs r = simp run-step
names-read (a ∷ more) k vs r = simp (run-step, do-then, names-read more)

pub levels-read : (ls : List LevelName) (k : List Item) (vs : List Value) (r : List Text) → run (ILevels ∷ k) vs (atoms (level_names ls) (Close ∷ r)) ≡ run k (with_levels ls vs) r
unfolding atoms with_levels
levels-read [] k vs r = simp run-step
levels-read (l ∷ more) k vs r = simp (run-step, l.other, do-then, levels-read more)

pub parts-read : (ps : List PartForm) (k : List Item) (vs : List Value) (r : List Text) → run (IList Parts ∷ k) vs (parts ps (Close ∷ r)) ≡ run k (act MakeType (with_parts ps vs)) r
unfolding parts with_parts
parts-read [] k vs r = simp run-step
parts-read (p ∷ more) k vs r = let n = p.add in simp (run-step, n.spelled, parts-read more)

pub sort-read : (s : SortForm) (k : List Item) (vs : List Value) (r : List Text) → run (ISort ∷ k) vs (sort s r) ≡ run k (VSort (sort_meaning s) ∷ vs) r
unfolding sort sort_meaning
sort-read PropForm k vs r = simp (run-step, word-is)
sort-read SetForm k vs r = simp (run-step, set-isn't-prop, word-is)
sort-read (TypeForm p more) k vs r = let n = p.add in simp (run-step, word-is, n.spelled, parts-read more, parts-value more)

-- An index below the number of definitions is one.
pub index-is : (i m : ℕ) (ds : List NamedDef) → length ds ≡ suc m → nat_lt i (suc m) ≡ true → (nat_eq i 0 || nat_lt i (length ds)) ≡ true
index-is i m ds e h = rw (e, h) (elim (nat_eq i 0) as (λ b. (b || true) ≡ true) [ true ↦ refl | false ↦ refl ])

mutual
  unfolding form meaning with_arguments with_terms with_branches with_definitions

  pub form-read : (f : Form) (k : List Item) (vs : List Value) (r : List Text) → run (IHead ∷ k) vs (form f r) ≡ run k (VTerm (meaning f) ∷ vs) r
  form-read (FRel n) k vs r = simp (run-step, former-is formers.Rel, n.spelled)
  form-read (FSort s) k vs r = simp (run-step, former-is formers.Sort, sort-read s)
  form-read (FProd na A B) k vs r = simp (run-step, former-is formers.Prod, form-read A, form-read B)
  form-read (FLambda na A b) k vs r = simp (run-step, former-is formers.Lambda, form-read A, form-read b)
  form-read (FLetIn na b B t) k vs r = simp (run-step, former-is formers.LetIn, form-read b, form-read B, form-read t)
  form-read (FApp f a more) k vs r = simp (run-step, former-is formers.App, form-read f, form-read a, do-then, arguments-read more, arguments-value)
  form-read (FConst c) k vs r = simp (run-step, former-is formers.Const)
  form-read (FInd c n) k vs r = simp (run-step, former-is formers.Ind, n.spelled)
  form-read (FConstruct c n m) k vs r = simp (run-step, former-is formers.Construct, n.spelled, m.spelled)
  form-read (FCase c n ps names ret scrut brs) k vs r =
      simp (run-step, former-is formers.Case, n.spelled, word-is, do-then, terms-read ps, terms-value, names-read, counted-value, form-read ret, form-read scrut, branches-read brs, branches-value)
  form-read (FFix na A b n more i below) k vs r =
      let def : NamedDef = record { type = meaning A; body = meaning b; rarg = n.value } in
      let at = index-is i.value _ (def ∷ definition_meanings more) (ap (λ m. suc m) (definitions-number more)) below in
      simp (run-step, former-is formers.Fix, word-is, form-read A, form-read b, n.spelled, definitions-read more, definitions-value, i.spelled, at)
  form-read (FCast t kind T) k vs r = simp (run-step, former-is formers.Cast, form-read t, form-read T)

  pub arguments-read : (fs : Forms) (k : List Item) (vs : List Value) (r : List Text) → run (IList Arguments ∷ k) vs (forms fs (Close ∷ r)) ≡ run k (with_arguments fs vs) r
  arguments-read NoForm k vs r = simp run-step
  arguments-read (OneForm f more) k vs r = simp (run-step, form-read f, do-then, arguments-read more)

  pub terms-read : (fs : Forms) (k : List Item) (vs : List Value) (r : List Text) → run (IList Terms ∷ k) vs (forms fs (Close ∷ r)) ≡ run k (with_terms fs vs) r
  terms-read NoForm k vs r = simp run-step
  terms-read (OneForm f more) k vs r = simp (run-step, form-read f, do-then, terms-read more)

  pub branches-read : (brs : BranchForms) (k : List Item) (vs : List Value) (r : List Text) → run (IList BranchList ∷ k) vs (branches brs (Close ∷ r)) ≡ run k (act MakeCase (with_branches brs vs)) r
  branches-read NoBranchForm k vs r = simp run-step
  branches-read (BranchForm ns b more) k vs r = simp (run-step, word-is, do-then, names-read, form-read b, branches-read more)

  pub definitions-read : {m : ℕ} (ds : Definitions m) (k : List Item) (vs : List Value) (r : List Text) → run (IList DefinitionList ∷ k) vs (definitions ds (Close ∷ r)) ≡ run k (with_definitions ds vs) r
  definitions-read NoDefinition k vs r = simp run-step
  definitions-read (Definition na A b n more) k vs r = simp (run-step, word-is, form-read A, form-read b, n.spelled, definitions-read more)

-- ---- declarations

pub bindings-read : (bs : List Binding) (k : List Item) (vs : List Value) (r : List Text) → run (IList Telescope ∷ k) vs (bindings bs (Close ∷ r)) ≡ run k (with_bindings bs vs) r
unfolding bindings with_bindings
bindings-read [] k vs r = simp run-step
bindings-read (b ∷ more) k vs r = simp (run-step, form-read, bindings-read more)

pub constructors-read : (cs : List CtorForm) (k : List Item) (vs : List Value) (r : List Text) → run (IList Constructors ∷ k) vs (constructors cs (Close ∷ r)) ≡ run k (with_constructors cs vs) r
unfolding constructors with_constructors with_constructor
constructors-read [] k vs r = simp run-step
constructors-read (c ∷ more) k vs r = simp (run-step, word-is, do-then, bindings-read, terms-read, constructors-read more)

pub families-read : (fs : List FamilyForm) (k : List Item) (vs : List Value) (r : List Text) → run (IList Families ∷ k) vs (families fs (Close ∷ r)) ≡ run k (act AddBlock (with_families fs vs)) r
unfolding families with_families with_family
families-read [] k vs r = simp run-step
families-read (f ∷ more) k vs r = simp (run-step, word-is, sort-read, do-then, bindings-read, constructors-read, families-read more)

pub body-read : (b : BodyForm) (k : List Item) (vs : List Value) (r : List Text) → run (IBody ∷ k) vs (body b r) ≡ run k (with_body b vs) r
unfolding body
body-read NoneForm k vs r = simp (run-step, word-is)
body-read (SomeForm f) k vs r = simp (run-step, form-read)

pub constraints-read : (cs : List ConstraintForm) (k : List Item) (vs : List Value) (r : List Text) → run (IList Constraints ∷ k) vs (constraints cs (Close ∷ r)) ≡ run k (with_constraints cs vs) r
unfolding constraints with_constraints
constraints-read [] k vs r = simp run-step
constraints-read (c ∷ more) k vs r = simp (run-step, comparison-is c.relation, constraints-read more)

pub declaration-read : (d : DeclForm) (k : List Item) (vs : List Value) (r : List Text) → run (IDecl ∷ k) vs (declaration d r) ≡ run (IDecls ∷ k) (with_declaration d vs) r
unfolding declaration with_declaration with_family
declaration-read (ConstantForm c A b) k vs r = simp (run-step, opening-is openings.Constant, type-head, form-read, body-read)
declaration-read (BlockForm c ps f more) k vs r = simp (run-step, opening-is openings.Block, word-is, do-then, bindings-read, sort-read, constructors-read, families-read)

pub declarations-read : (ds : List DeclForm) (t : Form) (k : List Item) (vs : List Value) (r : List Text) → run (IDecl ∷ k) vs (declarations ds t r) ≡ run k (VTerm (meaning t) ∷ with_declarations ds vs) r
unfolding declarations with_declarations
declarations-read [] t k vs r = simp (run-step, opening-is openings.Main, form-read)
declarations-read (d ∷ more) t k vs r = simp (declaration-read d, run-step, declarations-read more)
