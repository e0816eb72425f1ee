-- What is within the limits, by tables that have its names and levels, fits.
use Rattle.std.proofs.Common.{◌≡◌, ℕ, suc, ◌+◌, ◌<◌, ◌≤◌, List, [], ◌∷◌, map, Option, None, true, false, ◌||◌, refl, subst, arith}
use Rattle.std.specs.Prelude.{bytes_eq, nat_le, nat_lt}
use Rattle.std.specs.Cmp.Lexicographic.{nat_list_eq_equiv}
use Rattle.std.proofs.lemmas.Bool.{leb-true, ltb-true}
use Rattle.dump_grammar.specs.declared.refusal.Limit.{Limit}
use Rattle.dump_grammar.specs.declared.refusal.Limit.TheVariants as limits
use Rattle.dump_grammar.specs.Limits.{first, number_over, add_over, one_more_over}
use Rattle.dump_grammar.specs.Numbering.{is_in}
use Rattle.dump_grammar.specs.Named.{Named, App, terms_of, branches_of, defs_of}
use Rattle.dump_grammar.specs.Numbers.{LevelName}
use Rattle.dump_grammar.specs.Sorts.{PartForm, SortForm, PropForm, SetForm, TypeForm, sort_meaning, part_meaning}
use Rattle.dump_grammar.specs.Terms.{Form, FRel, FSort, FProd, FLambda, FLetIn, FApp, FConst, FInd, FConstruct, FCase, FFix, FCast, Forms, NoForm, OneForm, BranchForms, NoBranchForm, BranchForm, Definitions, NoDefinition, Definition, meaning, meanings, branch_meanings, definition_meanings, applied}
use Rattle.dump_grammar.specs.Declarations.{Binding, CtorForm, FamilyForm, BodyForm, NoneForm, SomeForm, DeclForm, ConstantForm, BlockForm, binding_meaning, constructor_meaning, family_meaning, body_meaning, declaration_meaning}
use Rattle.dump_grammar.specs.Environments.{ConstraintForm, Dump, level_names, constraint_meaning, env_of}
use Rattle.dump_grammar.specs.Uses.{names, names_of_terms, names_of_branches, names_of_defs, names_of_option, names_of_ctor, names_of_family, names_of_decl, levels, levels_of_terms, levels_of_branches, levels_of_defs, level_of_part, levels_of_sort, levels_of_option, levels_of_ctor, levels_of_family, levels_of_decl, levels_of_constraint, one_use, each, name_uses, level_uses}
use Rattle.dump_grammar.specs.Within.{parts_over, sort_over, form_over, forms_over, branches_over, definitions_over, bindings_over, ctor_over, ctors_over, family_over, families_over, body_over, declaration_over, declarations_over, dump_over}
use Rattle.dump_printer.proofs.Fits.{FitParts, FitsSort, Fits, FitTerms, FitBranches, FitDefs}
use Rattle.dump_printer.proofs.Uses.{names-applied, levels-applied}
use Rattle.dump_printer.proofs.FitEnvironments.{FitEach, FitCtors, FitsFamily, FitFamilies, FitsOption, FitsDecl, FitDecls, FitConstraints, FitLevels, FitsEnv}
use Rattle.dump_grammar.proofs.NoLimit.{none_both, test_holds}

pub rest-over : (a b : Option Limit) → first a b ≡ None → b ≡ None
rest-over a b e = (none_both a b e).1

pub number-small : (n : ℕ) → number_over n ≡ None → n ≤ 4294967295
unfolding number_over
number-small n e = leb-true n 4294967295 (test_holds (nat_le n 4294967295) limits.Number e)

add-small : (n : ℕ) → add_over n ≡ None → n ≤ 4294967295
unfolding add_over
add-small n e = number-small n (none_both _ _ e).0

-- the members that are counted
count-within : (most n : ℕ) (l : Limit) → one_more_over most l n ≡ None → n < most
count-within most n l e = ltb-true n most (test_holds (nat_lt n most) l e)

-- ---- uses that stand in a table

abbrev pub AreIn : List (List ℕ) → List (List ℕ) → Type 0
AreIn us table = (a : List ℕ) → is_in a us ≡ true → is_in a table ≡ true

first-in : (a : List ℕ) (us table : List (List ℕ)) → AreIn (a ∷ us) table → is_in a table ≡ true
unfolding is_in
first-in a us table h = h a (rw (nat_list_eq_equiv.refl a) refl)

rest-in : (a : List ℕ) (us table : List (List ℕ)) → AreIn (a ∷ us) table → AreIn us table
unfolding is_in
rest-in a us table h b e = h b (rw e (elim (bytes_eq b a) as (λ x. (x || true) ≡ true) [ true ↦ refl | false ↦ refl ]))

module _ (ns ls : List (List ℕ)) where
  parts-fit : (ps : List PartForm) → parts_over ps ≡ None → (vs : List (List ℕ)) → AreIn (each level_of_part (map part_meaning ps) vs) ls → FitParts ns ls (map part_meaning ps) × AreIn vs ls
  unfolding parts_over each
  parts-fit [] o vs v = (tt, v)
  parts-fit (p ∷ ps) o vs v =
      let x = none_both _ _ o in
      let small = add-small p.add.value x.0 in
      let more = parts-fit ps x.1 vs (rest-in p.level _ ls v) in
      ((first-in p.level _ ls v, omega arith, more.0), more.1)

  pub sort-fits : (s : SortForm) → sort_over s ≡ None → (vs : List (List ℕ)) → AreIn (levels_of_sort (sort_meaning s) vs) ls → FitsSort ns ls (sort_meaning s) × AreIn vs ls
  unfolding sort_over sort_meaning each
  sort-fits PropForm o vs v = (tt, v)
  sort-fits SetForm o vs v = ((first-in _ _ ls v, omega arith, tt), rest-in _ _ ls v)
  sort-fits (TypeForm p more) o vs v =
      let x = none_both _ _ o in
      let small = add-small p.add.value x.0 in
      let rest = parts-fit more x.1 vs (rest-in p.level _ ls v) in
      ((first-in p.level _ ls v, omega arith, rest.0), rest.1)

  -- ---- terms

  abbrev All : Type 0 → (us vs : List (List ℕ)) → Type 0
  All P us vs = P × AreIn us ns × AreIn vs ls

  fits-applied : (t : Named) (fs : Forms) → Fits ns ls t → FitTerms ns ls (terms_of (meanings fs)) → Fits ns ls (applied t fs)
  unfolding Fits meaning
  fits-applied t NoForm h k = h
  fits-applied t (OneForm a more) h k = fits-applied (App t (meaning a)) more (h, k.0) k.1

  definitions-few : {m : ℕ} (n : ℕ) (ds : Definitions m) → definitions_over n ds ≡ None → n ≤ 255 → n + m ≤ 255
  unfolding form_over
  definitions-few n NoDefinition o h = omega arith
  definitions-few n (Definition {m} na A b r more) o h =
      let x = none_both _ _ o in
      let less = count-within 255 n limits.Definitions x.0 in
      let y = none_both (form_over A) (first (form_over b) (first (number_over r.value) (definitions_over (n + 1) more))) x.1 in
      let z = none_both (form_over b) (first (number_over r.value) (definitions_over (n + 1) more)) y.1 in
      let w = none_both (number_over r.value) (definitions_over (n + 1) more) z.1 in
      let more_few = definitions-few (n + 1) more w.1 (omega arith) in
      omega arith

  mutual
    unfolding form_over meaning names levels Fits

    pub term-fits : (f : Form) → form_over f ≡ None → (us vs : List (List ℕ)) → AreIn (names (meaning f) us) ns → AreIn (levels (meaning f) vs) ls → All (Fits ns ls (meaning f)) us vs
    term-fits (FRel n) o us vs u v = (let small = number-small n.value (none_both _ _ o).0 in (omega arith, u, v))
    term-fits (FSort s) o us vs u v = (let x = sort-fits s (none_both _ _ o).0 vs v in (x.0, u, x.1))
    term-fits (FProd na A B) o us vs u v =
        let x = none_both _ _ o in
        let y = none_both _ _ x.1 in
        let on_A = term-fits A x.0 _ _ u v in
        let on_B = term-fits B y.0 us vs on_A.1 on_A.2 in
        ((on_A.0, on_B.0), on_B.1, on_B.2)
    term-fits (FLambda na A b) o us vs u v =
        let x = none_both _ _ o in
        let y = none_both _ _ x.1 in
        let on_A = term-fits A x.0 _ _ u v in
        let on_b = term-fits b y.0 us vs on_A.1 on_A.2 in
        ((on_A.0, on_b.0), on_b.1, on_b.2)
    term-fits (FLetIn na b B t) o us vs u v =
        let x = none_both _ _ o in
        let y = none_both _ _ x.1 in
        let z = none_both _ _ y.1 in
        let on_b = term-fits b x.0 _ _ u v in
        let on_B = term-fits B y.0 _ _ on_b.1 on_b.2 in
        let on_t = term-fits t z.0 us vs on_B.1 on_B.2 in
        ((on_b.0, on_B.0, on_t.0), on_t.1, on_t.2)
    term-fits (FApp f a more) o us vs u v =
        let x = none_both _ _ o in
        let y = none_both _ _ x.1 in
        let z = none_both _ _ y.1 in
        let T = App (meaning f) (meaning a) in
        let on_f = term-fits f x.0 _ _ (subst (λ (ys : List (List ℕ)). AreIn ys ns) (names-applied T more us) u) (subst (λ (ys : List (List ℕ)). AreIn ys ls) (levels-applied T more vs) v) in
        let on_a = term-fits a y.0 _ _ on_f.1 on_f.2 in
        let on_more = terms-fit more z.0 us vs on_a.1 on_a.2 in
        (fits-applied T more (on_f.0, on_a.0) on_more.0, on_more.1, on_more.2)
    term-fits (FConst k) o us vs u v = (first-in k us ns u, rest-in k us ns u, v)
    term-fits (FInd k n) o us vs u v = (let small = number-small n.value (none_both _ _ o).0 in ((first-in k us ns u, omega arith), rest-in k us ns u, v))
    term-fits (FConstruct k n c) o us vs u v =
        let x = none_both _ _ o in
        let y = none_both _ _ x.1 in
        let small = number-small n.value x.0 in
        let small_c = number-small c.value y.0 in
        ((first-in k us ns u, omega arith, omega arith), rest-in k us ns u, v)
    term-fits (FCase k n ps ms ret scrut brs) o us vs u v =
        let x = none_both _ _ o in
        let small = number-small n.value x.0 in
        let y = none_both _ _ x.1 in
        let z = none_both _ _ y.1 in
        let w = none_both _ _ z.1 in
        let q = none_both _ _ w.1 in
        let on_ps = terms-fit ps y.0 _ _ (rest-in k _ ns u) v in
        let on_ret = term-fits ret z.0 _ _ on_ps.1 on_ps.2 in
        let on_scrut = term-fits scrut w.0 _ _ on_ret.1 on_ret.2 in
        let on_brs = branches-fit brs q.0 us vs on_scrut.1 on_scrut.2 in
        ((first-in k _ ns u, omega arith, on_ps.0, on_ret.0, on_scrut.0, on_brs.0), on_brs.1, on_brs.2)
    term-fits (FFix {m} na A b n more i below) o us vs u v =
        let x = none_both _ _ o in
        let y = none_both _ _ x.1 in
        let z = none_both _ _ y.1 in
        let w = none_both _ _ z.1 in
        let small = number-small n.value z.0 in
        let few = definitions-few 1 more w.0 (omega arith) in
        let index = ltb-true i.value (suc m) below in
        let on_A = term-fits A x.0 _ _ u v in
        let on_b = term-fits b y.0 _ _ on_A.1 on_A.2 in
        let on_more = definitions-fit 1 more w.0 us vs on_b.1 on_b.2 in
        ((omega arith, (on_A.0, on_b.0, omega arith, on_more.0)), on_more.1, on_more.2)
    term-fits (FCast t kind T) o us vs u v =
        let x = none_both _ _ o in
        let y = none_both _ _ x.1 in
        let on_T = term-fits T y.0 _ _ u v in
        let on_t = term-fits t x.0 us vs on_T.1 on_T.2 in
        (((on_T.0, omega arith), on_t.0), on_t.1, on_t.2)

    terms-fit : (fs : Forms) → forms_over fs ≡ None → (us vs : List (List ℕ)) → AreIn (names_of_terms (terms_of (meanings fs)) us) ns → AreIn (levels_of_terms (terms_of (meanings fs)) vs) ls → All (FitTerms ns ls (terms_of (meanings fs))) us vs
    terms-fit NoForm o us vs u v = (tt, u, v)
    terms-fit (OneForm f more) o us vs u v =
        let x = none_both _ _ o in
        let on_f = term-fits f x.0 _ _ u v in
        let on_more = terms-fit more x.1 us vs on_f.1 on_f.2 in
        ((on_f.0, on_more.0), on_more.1, on_more.2)

    branches-fit : (brs : BranchForms) → branches_over brs ≡ None → (us vs : List (List ℕ)) → AreIn (names_of_branches (branches_of (branch_meanings brs)) us) ns → AreIn (levels_of_branches (branches_of (branch_meanings brs)) vs) ls → All (FitBranches ns ls (branches_of (branch_meanings brs))) us vs
    branches-fit NoBranchForm o us vs u v = (tt, u, v)
    branches-fit (BranchForm ms b more) o us vs u v =
        let x = none_both _ _ o in
        let on_b = term-fits b x.0 _ _ u v in
        let on_more = branches-fit more x.1 us vs on_b.1 on_b.2 in
        ((on_b.0, on_more.0), on_more.1, on_more.2)

    definitions-fit : {m : ℕ} (n : ℕ) (ds : Definitions m) → definitions_over n ds ≡ None → (us vs : List (List ℕ)) → AreIn (names_of_defs (defs_of (definition_meanings ds)) us) ns → AreIn (levels_of_defs (defs_of (definition_meanings ds)) vs) ls → All (FitDefs ns ls
        (defs_of (definition_meanings ds))) us vs
    definitions-fit n NoDefinition o us vs u v = (tt, u, v)
    definitions-fit n (Definition na A b r more) o us vs u v =
        let x = none_both _ _ o in
        let y = none_both _ _ x.1 in
        let z = none_both _ _ y.1 in
        let w = none_both _ _ z.1 in
        let small = number-small r.value w.0 in
        let on_A = term-fits A y.0 _ _ u v in
        let on_b = term-fits b z.0 _ _ on_A.1 on_A.2 in
        let on_more = definitions-fit (n + 1) more w.1 us vs on_b.1 on_b.2 in
        ((on_A.0, on_b.0, omega arith, on_more.0), on_more.1, on_more.2)

  -- ---- environments

  bindings-fit : (n : ℕ) (bs : List Binding) → bindings_over n bs ≡ None → (us vs : List (List ℕ)) → AreIn (each names (map binding_meaning bs) us) ns → AreIn (each levels (map binding_meaning bs) vs) ls → All (FitEach ns ls (map binding_meaning bs)) us vs
  unfolding bindings_over each
  bindings-fit n [] o us vs u v = (tt, u, v)
  bindings-fit n (b ∷ bs) o us vs u v =
      let x = none_both _ _ o in
      let y = none_both _ _ x.1 in
      let on_b = term-fits b.type y.0 _ _ u v in
      let more = bindings-fit (n + 1) bs y.1 us vs on_b.1 on_b.2 in
      ((on_b.0, more.0), more.1, more.2)

  results-fit : (fs : Forms) → forms_over fs ≡ None → (us vs : List (List ℕ)) → AreIn (each names (meanings fs) us) ns → AreIn (each levels (meanings fs) vs) ls → All (FitEach ns ls (meanings fs)) us vs
  unfolding form_over each meaning
  results-fit NoForm o us vs u v = (tt, u, v)
  results-fit (OneForm f more) o us vs u v =
      let x = none_both _ _ o in
      let on_f = term-fits f x.0 _ _ u v in
      let rest = results-fit more x.1 us vs on_f.1 on_f.2 in
      ((on_f.0, rest.0), rest.1, rest.2)

  ctors-fit : (n : ℕ) (ks : List CtorForm) → ctors_over n ks ≡ None → (us vs : List (List ℕ)) → AreIn (each names_of_ctor (map constructor_meaning ks) us) ns → AreIn (each levels_of_ctor (map constructor_meaning ks) vs) ls → All (FitCtors ns ls (map constructor_meaning ks)) us vs
  unfolding ctors_over each
  ctors-fit n [] o us vs u v = (tt, u, v)
  ctors-fit n (k ∷ ks) o us vs u v =
      let x = none_both _ _ o in
      let y = none_both (ctor_over k) (ctors_over (n + 1) ks) x.1 in
      let z = none_both (bindings_over 0 k.args) (forms_over k.result) y.0 in
      let on_args = bindings-fit 0 k.args z.0 _ _ (rest-in k.name _ ns u) v in
      let on_result = results-fit k.result z.1 _ _ on_args.1 on_args.2 in
      let more = ctors-fit (n + 1) ks y.1 us vs on_result.1 on_result.2 in
      (((first-in k.name _ ns u, on_args.0, on_result.0), more.0), more.1, more.2)

  family-fits : (f : FamilyForm) → family_over f ≡ None → (us vs : List (List ℕ)) → AreIn (names_of_family (family_meaning f) us) ns → AreIn (levels_of_family (family_meaning f) vs) ls → All (FitsFamily ns ls (family_meaning f)) us vs
  family-fits f o us vs u v =
      let x = none_both (sort_over f.sort) (first (bindings_over 0 f.indices) (ctors_over 0 f.ctors)) o in
      let y = none_both (bindings_over 0 f.indices) (ctors_over 0 f.ctors) x.1 in
      let on_sort = sort-fits f.sort x.0 _ v in
      let on_indices = bindings-fit 0 f.indices y.0 _ _ (rest-in f.name _ ns u) on_sort.1 in
      let on_ctors = ctors-fit 0 f.ctors y.1 us vs on_indices.1 on_indices.2 in
      ((first-in f.name _ ns u, on_sort.0, on_indices.0, on_ctors.0), on_ctors.1, on_ctors.2)

  families-fit : (n : ℕ) (fs : List FamilyForm) → families_over n fs ≡ None → (us vs : List (List ℕ)) → AreIn (each names_of_family (map family_meaning fs) us) ns → AreIn (each levels_of_family (map family_meaning fs) vs) ls → All (FitFamilies ns ls (map family_meaning fs)) us vs
  unfolding families_over each
  families-fit n [] o us vs u v = (tt, u, v)
  families-fit n (f ∷ fs) o us vs u v =
      let x = none_both _ _ o in
      let y = none_both (family_over f) (families_over (n + 1) fs) x.1 in
      let on_f = family-fits f y.0 (each names_of_family (map family_meaning fs) us) (each levels_of_family (map family_meaning fs) vs) u v in
      let more = families-fit (n + 1) fs y.1 us vs on_f.1 on_f.2 in
      ((on_f.0, more.0), more.1, more.2)

  body-fits : (b : BodyForm) → body_over b ≡ None → (us vs : List (List ℕ)) → AreIn (names_of_option (body_meaning b) us) ns → AreIn (levels_of_option (body_meaning b) vs) ls → All (FitsOption ns ls (body_meaning b)) us vs
  body-fits NoneForm o us vs u v = (tt, u, v)
  body-fits (SomeForm f) o us vs u v = term-fits f o us vs u v

  declaration-fits : (d : DeclForm) → declaration_over d ≡ None → (us vs : List (List ℕ)) → AreIn (names_of_decl (declaration_meaning d) us) ns → AreIn (levels_of_decl (declaration_meaning d) vs) ls → All (FitsDecl ns ls (declaration_meaning d)) us vs
  unfolding declaration_over declaration_meaning names_of_decl levels_of_decl each
  declaration-fits (ConstantForm k A b) o us vs u v =
      let x = none_both (form_over A) (body_over b) o in
      let on_A = term-fits A x.0 (names_of_option (body_meaning b) us) (levels_of_option (body_meaning b) vs) (rest-in k _ ns u) v in
      let on_b = body-fits b x.1 us vs on_A.1 on_A.2 in
      ((first-in k _ ns u, on_A.0, on_b.0), on_b.1, on_b.2)
  declaration-fits (BlockForm k ps f more) o us vs u v =
      let x = none_both (bindings_over 0 ps) (first (family_over f) (families_over 1 more)) o in
      let y = none_both (family_over f) (families_over 1 more) x.1 in
      let fs = map family_meaning more in
      let on_ps = bindings-fit 0 ps x.0 (names_of_family (family_meaning f) (each names_of_family fs us)) (levels_of_family (family_meaning f) (each levels_of_family fs vs)) (rest-in k _ ns u) v in
      let on_f = family-fits f y.0 (each names_of_family fs us) (each levels_of_family fs vs) on_ps.1 on_ps.2 in
      let on_more = families-fit 1 more y.1 us vs on_f.1 on_f.2 in
      ((first-in k _ ns u, on_ps.0, (on_f.0, on_more.0)), on_more.1, on_more.2)

  declarations-fit : (n : ℕ) (xs : List DeclForm) (t : Form) → declarations_over n xs t ≡ None →
      AreIn (each names_of_decl (map declaration_meaning xs) (names (meaning t) [])) ns → AreIn (each levels_of_decl (map declaration_meaning xs) (levels (meaning t) [])) ls →
      FitDecls ns ls (map declaration_meaning xs) × Fits ns ls (meaning t)
  unfolding declarations_over each
  declarations-fit n [] t o u v = (tt, (term-fits t o [] [] u v).0)
  declarations-fit n (d ∷ xs) t o u v =
      let x = none_both _ _ o in
      let y = none_both (declaration_over d) (declarations_over (n + 1) xs t) x.1 in
      let on_d = declaration-fits d y.0 (each names_of_decl (map declaration_meaning xs) (names (meaning t) [])) (each levels_of_decl (map declaration_meaning xs) (levels (meaning t) [])) u v in
      let more = declarations-fit (n + 1) xs t y.1 on_d.1 on_d.2 in
      ((on_d.0, more.0), more.1)

  levels-fit : (ks : List LevelName) (vs : List (List ℕ)) → AreIn (each one_use (level_names ks) vs) ls → FitLevels ns ls (level_names ks) × AreIn vs ls
  unfolding each
  levels-fit [] vs v = (tt, v)
  levels-fit (k ∷ ks) vs v = (let more = levels-fit ks vs (rest-in k.name (each one_use (level_names ks) vs) ls v) in ((first-in k.name (each one_use (level_names ks) vs) ls v, more.0), more.1))

  constraints-fit : (ks : List ConstraintForm) (vs : List (List ℕ)) → AreIn (each levels_of_constraint (map constraint_meaning ks) vs) ls → FitConstraints ns ls (map constraint_meaning ks) × AreIn vs ls
  unfolding each
  constraints-fit [] vs v = (tt, v)
  constraints-fit (k ∷ ks) vs v =
      let us = each levels_of_constraint (map constraint_meaning ks) vs in
      let rest = rest-in k.left (k.right ∷ us) ls v in
      let more = constraints-fit ks vs (rest-in k.right us ls rest) in
      ((first-in k.left (k.right ∷ us) ls v, first-in k.right us ls rest, more.0), more.1)

  pub dump-fits : (d : Dump) → dump_over d ≡ None → AreIn (name_uses (env_of d)) ns → AreIn (level_uses (env_of d)) ls → FitsEnv ns ls (env_of d)
  dump-fits d o u v =
      let x = none_both _ _ o in
      let y = none_both _ _ x.1 in
      let on_levels = levels-fit d.levels (each levels_of_constraint (map constraint_meaning d.constraints) (each levels_of_decl (map declaration_meaning d.decls) (levels (meaning d.main) []))) v in
      let on_constraints = constraints-fit d.constraints (each levels_of_decl (map declaration_meaning d.decls) (levels (meaning d.main) [])) on_levels.1 in
      let on_decls = declarations-fit 0 d.decls d.main y.1 u on_constraints.1 in
      record { levels = on_levels.0; constraints = on_constraints.0; decls = on_decls.0; main = on_decls.1 }
