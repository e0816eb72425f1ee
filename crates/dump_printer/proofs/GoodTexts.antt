-- The names and levels of a good text are good atoms, and canonical tokens of good names and levels are good.
use Rattle.std.proofs.Common.{◌≡◌, ℕ, List, [], ◌∷◌, map, true, ◌||◌, refl, sym, subst, ◌∙◌, inl, inr}
use Rattle.std.specs.Prelude.{bytes_eq}
use Rattle.std.specs.Cmp.Lexicographic.{same_text}
use Rattle.std.proofs.lemmas.Bool.{cases_Bool}
use Rattle.sexp_reader.specs.Text.{Text, Open, Close, Atom}
use Rattle.dump_grammar.specs.Keywords.{spelling}
use Rattle.dump_grammar.specs.declared.keyword.Keyword.TheVariants as words
use Rattle.dump_grammar.specs.Numbering.{is_in}
use Rattle.dump_grammar.specs.Named.{App, terms_of, branches_of, defs_of}
use Rattle.dump_grammar.specs.Numbers.{LevelName}
use Rattle.dump_grammar.specs.Sorts.{PartForm, SortForm, PropForm, SetForm, TypeForm, sort_meaning, part_meaning, parts, sort}
use Rattle.dump_grammar.specs.Terms.{Form, FRel, FSort, FProd, FLambda, FLetIn, FApp, FConst, FInd, FConstruct, FCase, FFix, FCast, Forms, NoForm, OneForm, BranchForms, NoBranchForm, BranchForm, Definitions, NoDefinition, Definition, atoms, form, forms, branches, definitions, meaning, meanings, branch_meanings, definition_meanings}
use Rattle.dump_grammar.specs.Declarations.{Binding, CtorForm, FamilyForm, BodyForm, NoneForm, SomeForm, DeclForm, ConstantForm, BlockForm, bindings, constructors, family, families, body, declaration, binding_meaning, constructor_meaning, family_meaning, body_meaning, declaration_meaning}
use Rattle.dump_grammar.specs.Environments.{ConstraintForm, Dump, level_names, constraints, declarations, dump, constraint_meaning, env_of}
use Rattle.dump_grammar.specs.Uses.{names, names_of_terms, names_of_branches, names_of_defs, names_of_option, names_of_ctor, names_of_family, names_of_decl, levels, levels_of_terms, levels_of_branches, levels_of_defs, level_of_part, levels_of_sort, levels_of_option, levels_of_ctor, levels_of_family, levels_of_decl, levels_of_constraint, one_use, each, name_uses, level_uses}
use Rattle.dump_printer.proofs.Good.{is_good, AreGood}
use Rattle.dump_printer.proofs.Uses.{names-applied, levels-applied}

abbrev pub AllGood : List (List ℕ) → Type 0
AllGood us = (a : List ℕ) → is_in a us ≡ true → is_good a ≡ true

pub good-more : (a : List ℕ) (us : List (List ℕ)) → is_good a ≡ true → AllGood us → AllGood (a ∷ us)
unfolding is_in
good-more a us h k b e =
    elim (cases_Bool (bytes_eq b a)) [
      | inl f ↦ subst (λ x. is_good x ≡ true) (sym (same_text b a (sym f))) h
      | inr f ↦ k b (let g : (bytes_eq b a || is_in b us) ≡ is_in b us = rw f refl in sym g ∙ e)
    ]

-- The tokens go on good, and the uses of a piece before good ones are good.
abbrev Gives : (names levels : List (List ℕ) → List (List ℕ)) → List Text → Type 0
Gives u v after = AreGood after × ((us : List (List ℕ)) → AllGood us → AllGood (u us)) × ((vs : List (List ℕ)) → AllGood vs → AllGood (v vs))

abbrev same : List (List ℕ) → List (List ℕ)
same us = us

atoms-give : (xs : List (List ℕ)) (after : List Text) → AreGood (atoms xs after) → AreGood after
unfolding atoms
atoms-give [] after g = g
atoms-give (a ∷ more) after g = atoms-give more after g.1

parts-give : (ps : List PartForm) (after : List Text) → AreGood (parts ps after) → Gives same (each level_of_part (map part_meaning ps)) after
unfolding parts each
parts-give [] after g = (g, (λ us k. k), (λ vs k. k))
parts-give (p ∷ ps) after g =
    let x = parts-give ps after g.1.1.1.1 in
    (x.0, (λ us k. k), λ vs k. good-more p.level (each level_of_part (map part_meaning ps) vs) g.1.0 (x.2 vs k))

sort-gives : (s : SortForm) (after : List Text) → AreGood (sort s after) → Gives same (levels_of_sort (sort_meaning s)) after
unfolding sort sort_meaning each
sort-gives PropForm after g = (g.1, (λ us k. k), (λ vs k. k))
sort-gives SetForm after g = (g.1, (λ us k. k), λ vs k. good-more (spelling words.Set) vs g.0 k)
sort-gives (TypeForm p more) after g =
    let x = parts-give more (Close ∷ after) g.1.1.1.1.1.1 in
    (x.0.1, (λ us k. k), λ vs k. good-more p.level (each level_of_part (map part_meaning more) vs) g.1.1.1.0 (x.2 vs k))

mutual
  unfolding form meaning names levels

  term-gives : (f : Form) (after : List Text) → AreGood (form f after) → Gives (names (meaning f)) (levels (meaning f)) after
  term-gives (FRel n) after g = (g.1.1.1, (λ us k. k), (λ vs k. k))
  term-gives (FSort s) after g = (let x = sort-gives s (Close ∷ after) g.1 in (x.0.1, (λ us k. k), x.2))
  term-gives (FProd na A B) after g =
      let x = term-gives A (Open ∷ form B (Close ∷ after)) g.1.1.1 in
      let y = term-gives B (Close ∷ after) x.0.1 in
      (y.0.1, (λ us k. x.1 _ (y.1 us k)), λ vs k. x.2 _ (y.2 vs k))
  term-gives (FLambda na A b) after g =
      let x = term-gives A (Open ∷ form b (Close ∷ after)) g.1.1.1 in
      let y = term-gives b (Close ∷ after) x.0.1 in
      (y.0.1, (λ us k. x.1 _ (y.1 us k)), λ vs k. x.2 _ (y.2 vs k))
  term-gives (FLetIn na b B t) after g =
      let x = term-gives b (Open ∷ form B (Open ∷ form t (Close ∷ after))) g.1.1.1 in
      let y = term-gives B (Open ∷ form t (Close ∷ after)) x.0.1 in
      let z = term-gives t (Close ∷ after) y.0.1 in
      (z.0.1, (λ us k. x.1 _ (y.1 _ (z.1 us k))), λ vs k. x.2 _ (y.2 _ (z.2 vs k)))
  term-gives (FApp f a more) after g =
      let x = term-gives f (Open ∷ form a (forms more (Close ∷ after))) g.1.1 in
      let y = term-gives a (forms more (Close ∷ after)) x.0.1 in
      let z = terms-give more (Close ∷ after) y.0 in
      let T = App (meaning f) (meaning a) in
      (z.0.1, (λ us k. subst AllGood (sym (names-applied T more us)) (x.1 _ (y.1 _ (z.1 us k)))), λ vs k. subst AllGood (sym (levels-applied T more vs)) (x.2 _ (y.2 _ (z.2 vs k))))
  term-gives (FConst c) after g = (g.1.1.1, (λ us k. good-more c us g.1.0 k), (λ vs k. k))
  term-gives (FInd c n) after g = (g.1.1.1.1, (λ us k. good-more c us g.1.0 k), (λ vs k. k))
  term-gives (FConstruct c n i) after g = (g.1.1.1.1.1, (λ us k. good-more c us g.1.0 k), (λ vs k. k))
  term-gives (FCase c n ps ms ret scrut brs) after g =
      let x = terms-give ps _ g.1.1.1.1.1.1.1 in
      let y = atoms-give ms _ x.0.1.1.1.1 in
      let z = term-gives ret _ y.1.1 in
      let w = term-gives scrut _ z.0.1.1 in
      let q = branches-give brs (Close ∷ after) w.0 in
      (q.0.1, (λ us k. good-more c _ g.1.1.0 (x.1 _ (z.1 _ (w.1 _ (q.1 us k))))), λ vs k. x.2 _ (z.2 _ (w.2 _ (q.2 vs k))))
  term-gives (FFix na A b n more i below) after g =
      let x = term-gives A _ g.1.1.1.1.1.1 in
      let y = term-gives b _ x.0.1 in
      let z = definitions-give more _ y.0.1.1 in
      (z.0.1.1.1, (λ us k. x.1 _ (y.1 _ (z.1 us k))), λ vs k. x.2 _ (y.2 _ (z.2 vs k)))
  term-gives (FCast t kind T) after g =
      let x = term-gives t (Atom kind ∷ Open ∷ form T (Close ∷ after)) g.1.1 in
      let y = term-gives T (Close ∷ after) x.0.1.1 in
      (y.0.1, (λ us k. y.1 _ (x.1 us k)), λ vs k. y.2 _ (x.2 vs k))

  terms-give : (fs : Forms) (after : List Text) → AreGood (forms fs after) → Gives (names_of_terms (terms_of (meanings fs))) (levels_of_terms (terms_of (meanings fs))) after
  terms-give NoForm after g = (g, (λ us k. k), (λ vs k. k))
  terms-give (OneForm f more) after g =
      let x = term-gives f (forms more after) g.1 in
      let y = terms-give more after x.0 in
      (y.0, (λ us k. x.1 _ (y.1 us k)), λ vs k. x.2 _ (y.2 vs k))

  branches-give : (brs : BranchForms) (after : List Text) → AreGood (branches brs after) → Gives (names_of_branches (branches_of (branch_meanings brs))) (levels_of_branches (branches_of (branch_meanings brs))) after
  branches-give NoBranchForm after g = (g, (λ us k. k), (λ vs k. k))
  branches-give (BranchForm ms b more) after g =
      let w = atoms-give ms _ g.1.1.1 in
      let x = term-gives b (Close ∷ branches more after) w.1.1 in
      let y = branches-give more after x.0.1 in
      (y.0, (λ us k. x.1 _ (y.1 us k)), λ vs k. x.2 _ (y.2 vs k))

  definitions-give : {m : ℕ} (ds : Definitions m) (after : List Text) → AreGood (definitions ds after) → Gives (names_of_defs (defs_of (definition_meanings ds))) (levels_of_defs (defs_of (definition_meanings ds))) after
  definitions-give NoDefinition after g = (g, (λ us k. k), (λ vs k. k))
  definitions-give (Definition na A b n more) after g =
      let x = term-gives A (Open ∷ form b (Atom n.atom ∷ Close ∷ definitions more after)) g.1.1.1.1 in
      let y = term-gives b (Atom n.atom ∷ Close ∷ definitions more after) x.0.1 in
      let z = definitions-give more after y.0.1.1 in
      (z.0, (λ us k. x.1 _ (y.1 _ (z.1 us k))), λ vs k. x.2 _ (y.2 _ (z.2 vs k)))

-- ---- environments

bindings-give : (bs : List Binding) (after : List Text) → AreGood (bindings bs after) → Gives (each names (map binding_meaning bs)) (each levels (map binding_meaning bs)) after
unfolding bindings each
bindings-give [] after g = (g, (λ us k. k), (λ vs k. k))
bindings-give (b ∷ bs) after g =
    let x = term-gives b.type (Close ∷ bindings bs after) g.1.1.1 in
    let y = bindings-give bs after x.0.1 in
    (y.0, (λ us k. x.1 _ (y.1 us k)), λ vs k. x.2 _ (y.2 vs k))

results-give : (fs : Forms) (after : List Text) → AreGood (forms fs after) → Gives (each names (meanings fs)) (each levels (meanings fs)) after
unfolding form each meaning
results-give NoForm after g = (g, (λ us k. k), (λ vs k. k))
results-give (OneForm f more) after g =
    let x = term-gives f (forms more after) g.1 in
    let y = results-give more after x.0 in
    (y.0, (λ us k. x.1 _ (y.1 us k)), λ vs k. x.2 _ (y.2 vs k))

ctors-give : (ks : List CtorForm) (after : List Text) → AreGood (constructors ks after) → Gives (each names_of_ctor (map constructor_meaning ks)) (each levels_of_ctor (map constructor_meaning ks)) after
unfolding constructors each
ctors-give [] after g = (g, (λ us k. k), (λ vs k. k))
ctors-give (c ∷ ks) after g =
    let x = bindings-give c.args _ g.1.1.1.1.1 in
    let y = results-give c.result _ x.0.1.1.1 in
    let z = ctors-give ks after y.0.1.1 in
    (z.0, (λ us k. good-more c.name _ g.1.1.0 (x.1 _ (y.1 _ (z.1 us k)))), λ vs k. x.2 _ (y.2 _ (z.2 vs k)))

family-gives : (f : FamilyForm) (after : List Text) → AreGood (family f after) → Gives (names_of_family (family_meaning f)) (levels_of_family (family_meaning f)) after
family-gives f after g =
    let w = sort-gives f.sort _ g.1.1.1.1 in
    let x = bindings-give f.indices _ w.0.1.1.1 in
    let y = ctors-give f.ctors (Close ∷ after) x.0.1 in
    (y.0.1, (λ us k. good-more f.name _ g.1.0 (x.1 _ (y.1 us k))), λ vs k. w.2 _ (x.2 _ (y.2 vs k)))

families-give : (fs : List FamilyForm) (after : List Text) → AreGood (families fs after) → Gives (each names_of_family (map family_meaning fs)) (each levels_of_family (map family_meaning fs)) after
unfolding families each
families-give [] after g = (g, (λ us k. k), (λ vs k. k))
families-give (f ∷ fs) after g =
    let x = family-gives f (families fs after) g.1 in
    let y = families-give fs after x.0 in
    (y.0, (λ us k. x.1 _ (y.1 us k)), λ vs k. x.2 _ (y.2 vs k))

body-gives : (b : BodyForm) (after : List Text) → AreGood (body b after) → Gives (names_of_option (body_meaning b)) (levels_of_option (body_meaning b)) after
unfolding body
body-gives NoneForm after g = (g.1, (λ us k. k), (λ vs k. k))
body-gives (SomeForm f) after g = term-gives f after g.1

declaration-gives : (d : DeclForm) (after : List Text) → AreGood (declaration d after) → Gives (names_of_decl (declaration_meaning d)) (levels_of_decl (declaration_meaning d)) after
unfolding declaration declaration_meaning names_of_decl levels_of_decl each
declaration-gives (ConstantForm c A b) after g =
    let x = term-gives A (body b (Close ∷ after)) g.1.1.1 in
    let y = body-gives b (Close ∷ after) x.0 in
    (y.0.1, (λ us k. good-more c _ g.1.0 (x.1 _ (y.1 us k))), λ vs k. x.2 _ (y.2 vs k))
declaration-gives (BlockForm c ps f more) after g =
    let x = bindings-give ps _ g.1.1.1.1 in
    let y = family-gives f (families more (Close ∷ after)) x.0.1.1 in
    let z = families-give more (Close ∷ after) y.0 in
    (z.0.1, (λ us k. good-more c _ g.1.0 (x.1 _ (y.1 _ (z.1 us k)))), λ vs k. x.2 _ (y.2 _ (z.2 vs k)))

none-good : AllGood []
unfolding is_in
none-good a e = absurd cc

declarations-give : (xs : List DeclForm) (t : Form) (after : List Text) → AreGood (declarations xs t after) →
    AllGood (each names_of_decl (map declaration_meaning xs) (names (meaning t) [])) × AllGood (each levels_of_decl (map declaration_meaning xs) (levels (meaning t) []))
unfolding declarations each
declarations-give [] t after g = (let x = term-gives t (Close ∷ after) g.1.1 in (x.1 [] none-good, x.2 [] none-good))
declarations-give (d ∷ xs) t after g =
    let x = declaration-gives d (Open ∷ declarations xs t after) g in
    let y = declarations-give xs t after x.0.1 in
    (x.1 _ y.0, x.2 _ y.1)

levels-give : (ks : List LevelName) (after : List Text) → AreGood (atoms (level_names ks) after) → AreGood after × ((vs : List (List ℕ)) → AllGood vs → AllGood (each one_use (level_names ks) vs))
unfolding atoms each
levels-give [] after g = (g, λ vs k. k)
levels-give (l ∷ ks) after g = (let x = levels-give ks after g.1 in (x.0, λ vs k. good-more l.name (each one_use (level_names ks) vs) g.0 (x.1 vs k)))

constraints-give : (ks : List ConstraintForm) (after : List Text) → AreGood (constraints ks after) → AreGood after × ((vs : List (List ℕ)) → AllGood vs → AllGood (each levels_of_constraint (map constraint_meaning ks) vs))
unfolding constraints each
constraints-give [] after g = (g, λ vs k. k)
constraints-give (c ∷ ks) after g =
    let x = constraints-give ks after g.1.1.1.1.1 in
    let us = λ (vs : List (List ℕ)). each levels_of_constraint (map constraint_meaning ks) vs in
    (x.0, λ vs k. good-more c.left (c.right ∷ us vs) g.1.1.0 (good-more c.right (us vs) g.1.1.1.0 (x.1 vs k)))

-- The names and levels of a good text are good.
pub uses-good : (d : Dump) → AreGood (dump d []) → AllGood (name_uses (env_of d)) × AllGood (level_uses (env_of d))
uses-good d g =
    let x = levels-give d.levels _ g.1.1.1.1.1 in
    let y = constraints-give d.constraints _ x.0.1.1.1 in
    let z = declarations-give d.decls d.main (Close ∷ []) y.0.1.1 in
    (z.0, x.1 _ (y.1 _ z.1))
