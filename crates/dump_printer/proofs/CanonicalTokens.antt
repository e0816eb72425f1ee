-- The canonical tokens of what a form means are the tokens of its canonical form.
use Rattle.std.proofs.Common.{◌≡◌, ℕ, List, [], ◌∷◌, map, Bool, true, false, cond, refl, sym, ap, ◌∙◌, arith}
use Rattle.sexp_reader.specs.Text.{Text, Open, Close, Atom}
use Rattle.universe_levels.specs.declared.level.LevelExpr.{LevelExpr}
use Rattle.universe_levels.specs.declared.sort.Sort.{Sort as Sorts}
use Rattle.universe_levels.specs.declared.sort.Sort.TheVariants as sorts
use Rattle.std.proofs.Common.{◌≢◌, max, inl, inr}
use Rattle.std.proofs.lemmas.Bool.{cases_order}
use Rattle.universe_levels.specs.Maximum.{with_part, with_parts, maximum_of}
use Rattle.universe_levels.proofs.MaximumLemmas.{with_part-before, with_part-at, with_part-after, with_parts-some}
use Rattle.dump_grammar.specs.declared.keyword.Keyword.TheVariants as words
use Rattle.dump_grammar.specs.Numbers.{word}
use Rattle.dump_grammar.specs.Named.{Named, App, terms_of, branches_of, defs_of}
use Rattle.dump_grammar.specs.Sorts.{SortForm, PropForm, SetForm, TypeForm, sort_meaning, part_meaning, parts}
use Rattle.dump_grammar.specs.Sorts as grammar
use Rattle.dump_grammar.specs.Terms.{Form, FRel, FSort, FProd, FLambda, FLetIn, FApp, FConst, FInd, FConstruct, FCase, FFix, FCast, Forms, NoForm, OneForm, BranchForms, NoBranchForm, BranchForm, Definitions, NoDefinition, Definition, atoms, form, forms, meaning, meanings, branch_meanings, definition_meanings, applied, count}
use Rattle.dump_grammar.specs.Terms as g
use Rattle.dump_reader.specs.Numbered.{level_part, numbered_sort, numbered_term, numbered_terms, numbered_branches, numbered_types, numbered_bodies, recursive_arguments}
use Rattle.dump_printer.specs.CanonicalTerms.{text_of, each, is_set, part, sort, term, terms, branches, pieces, definitions}
use Rattle.dump_printer.proofs.Fits.{Small, Fits, FitParts, FitTerms, FitBranches, FitDefs, FitsSort, fit-applied}
use Rattle.dump_printer.proofs.CanonicalForms.{numeral-of, numeral-is, text-back, blanks-tokens, part_form, sort_form, canon, canon_forms, canon_branches, canon_definitions}

-- each addition is small
abbrev pub SmallParts : List LevelExpr → Type 0
SmallParts [] = Unit {0}
SmallParts (e ∷ es) = Small e.add × SmallParts es

abbrev pub SmallSort : Sorts → Type 0
SmallSort sorts.Prop = Unit {0}
SmallSort (sorts.Of []) = ⊥
SmallSort (sorts.Of (e ∷ es)) = Small e.add × SmallParts es

small-max : (m n : ℕ) → Small m → Small n → Small (max m n)
small-max m n h k = omega arith

small-with : (e : LevelExpr) (ps : List LevelExpr) → Small e.add → SmallParts ps → SmallParts (with_part e ps)
small-with e [] h k = (h, tt)
small-with e (p ∷ ps) h k =
    elim (cases_order e.level.0 p.level.0) [
      | inl l ↦ rw (with_part-at e p ps l) (small-max p.add e.add k.0 h, k.1)
      | inr q ↦ elim q [
        | inl l ↦ rw (with_part-before e p ps l) (h, (k.0, k.1))
        | inr l ↦ rw (with_part-after e p ps l) (k.0, small-with e ps h k.1)
      ]
    ]

module _ (ns ls : List (List ℕ)) where
  pub small-parts : (ps : List LevelExpr) (xs : List (List ℕ × ℕ)) → SmallParts ps → FitParts ns ls xs → SmallParts (with_parts ps (map (level_part ls) xs))
  small-parts ps [] h k = h
  small-parts ps (x ∷ xs) h k = small-parts (with_part (level_part ls x) ps) xs (small-with (level_part ls x) ps k.1 h) k.2

  small-some : (u : List LevelExpr) → u ≢ [] → SmallParts u → SmallSort (sorts.Of u)
  small-some [] some h = elim (some refl) [ ]
  small-some (e ∷ es) some h = h

  pub small-sort : (s : SortForm) → FitsSort ns ls (sort_meaning s) → SmallSort (numbered_sort ls (sort_meaning s))
  unfolding sort_meaning
  small-sort PropForm h = tt
  small-sort SetForm h = (h.1, tt)
  small-sort (TypeForm p more) h =
      small-some (maximum_of (map (level_part ls) (part_meaning p ∷ map part_meaning more))) (with_parts-some (level_part ls (part_meaning p) ∷ []) (map (level_part ls) (map part_meaning more)) (λ e. cc))
      (small-parts [] (part_meaning p ∷ map part_meaning more) tt h)

  parts-tokens : (es : List LevelExpr) (after : List Text) → SmallParts es → each (part ls) es after ≡ parts (map (part_form ls) es) after
  unfolding each parts
  parts-tokens [] after h = refl
  parts-tokens (e ∷ es) after h =
      ap (λ (ts : List Text). part ls e ts) (parts-tokens es after h.1)
      ∙ ap (λ a. Open ∷ Atom (text_of ls e.level.0) ∷ Atom a ∷ Close ∷ parts (map (part_form ls) es) after) (sym (numeral-of e.add h.0).0)

  pub sort-tokens : (s : Sorts) (after : List Text) → SmallSort s → sort ls s after ≡ grammar.sort (sort_form ls s) after
  unfolding grammar.sort each
  sort-tokens sorts.Prop after h = refl
  sort-tokens (sorts.Of []) after h = elim h [ ]
  sort-tokens (sorts.Of (e ∷ es)) after h =
      let P : Bool → Type 0 = λ b. cond b (word words.Set ∷ after) (Open ∷ word words.Type ∷ each (part ls) (e ∷ es) (Close ∷ after)) ≡ grammar.sort (cond b SetForm (TypeForm (part_form ls e) (map (part_form ls) es))) after in
      let on : (b : Bool) → P b = λ b. elim b as P [
        | true ↦ refl
        | false ↦
            ap (λ (ts : List Text). Open ∷ word words.Type ∷ part ls e ts) (parts-tokens es (Close ∷ after) h.1)
            ∙ ap (λ a. Open ∷ word words.Type ∷ Open ∷ Atom (text_of ls e.level.0) ∷ Atom a ∷ Close ∷ parts (map (part_form ls) es) (Close ∷ after)) (sym (numeral-of e.add h.0).0)
      ] in
      on (is_set (e ∷ es))

  -- ---- applications

  app-false : (f a : Named) (fs : Forms) (after : List Text) →
      term false ns ls (numbered_term ns ls (applied (App f a) fs)) after ≡ Open ∷ word words.App ∷ term true ns ls (numbered_term ns ls (applied (App f a) fs)) (Close ∷ after)
  unfolding term numbered_term meaning
  app-false f a NoForm after = refl
  app-false f a (OneForm b more) after = app-false (App f a) (meaning b) more after

  forms-append : (fs args : Forms) (after : List Text) → forms (canon_forms ls fs args) after ≡ forms (canon_forms ls fs NoForm) (forms args after)
  unfolding canon form
  forms-append NoForm args after = refl
  forms-append (OneForm f more) args after = ap (λ (ts : List Text). Open ∷ form (canon ls f NoForm) ts) (forms-append more args after)

  -- ---- terms

  abbrev tree : Named → List Text → List Text
  tree t after = term false ns ls (numbered_term ns ls t) after

  abbrev run : Named → List Text → List Text
  run t after = term true ns ls (numbered_term ns ls t) after

  abbrev put : Form → List Text → List Text
  put f after = Open ∷ form (canon ls f NoForm) after

  abbrev FitsHere : Named → Type 0
  FitsHere t = Fits ns ls t

  -- The tokens of a form, by itself; and within a run, before arguments that are canonical.
  abbrev pub Tokens : Form → Type 0
  Tokens f =
      ((after : List Text) → tree (meaning f) after ≡ put f after)
      × ((x : Form) (xs : Forms) (after : List Text) → Open ∷ word words.App ∷ run (meaning f) (forms (OneForm x xs) (Close ∷ after)) ≡ Open ∷ form (canon ls f (OneForm x xs)) after)

  -- what is no application
  plain : (f : Form) → ((after : List Text) → tree (meaning f) after ≡ put f after) → ((after : List Text) → run (meaning f) after ≡ tree (meaning f) after)
      → ((x : Form) (xs : Forms) (after : List Text) → Open ∷ form (canon ls f (OneForm x xs)) after ≡ Open ∷ word words.App ∷ put f (forms (OneForm x xs) (Close ∷ after))) → Tokens f
  plain f alone same applied_ = (
    alone,
    λ x xs after.
        ap (λ (ts : List Text). Open ∷ word words.App ∷ ts) (same (forms (OneForm x xs) (Close ∷ after)) ∙ alone (forms (OneForm x xs) (Close ∷ after))) ∙ sym (applied_ x xs after),
  )

  mutual
    unfolding term numbered_term recursive_arguments meaning canon form Fits

    pub tokens : (f : Form) → FitsHere (meaning f) → Tokens f
    tokens (FRel n) h = plain (FRel n) (λ after. simp (numeral-is n h)) (λ after. refl) (λ x xs after. refl)
    tokens (FSort s) h = plain (FSort s) (λ after. ap (λ (ts : List Text). Open ∷ word words.TermSort ∷ ts) (sort-tokens (numbered_sort ls (sort_meaning s)) (Close ∷ after) (small-sort s h))) (λ after. refl) (λ x xs after. refl)
    tokens (FProd na A B) h = plain (FProd na A B) (λ after. simp ((tokens A h.0).0, (tokens B h.1).0)) (λ after. refl) (λ x xs after. refl)
    tokens (FLambda na A b) h = plain (FLambda na A b) (λ after. simp ((tokens A h.0).0, (tokens b h.1).0)) (λ after. refl) (λ x xs after. refl)
    tokens (FLetIn na b B t) h = plain (FLetIn na b B t) (λ after. simp ((tokens b h.0).0, (tokens B h.1).0, (tokens t h.2).0)) (λ after. refl) (λ x xs after. refl)
    tokens (FConst k) h = plain (FConst k) (λ after. simp (text-back k ns h)) (λ after. refl) (λ x xs after. refl)
    tokens (FInd k n) h = plain (FInd k n) (λ after. simp (text-back k ns h.0, numeral-is n h.1)) (λ after. refl) (λ x xs after. refl)
    tokens (FConstruct k n c) h = plain (FConstruct k n c) (λ after. simp (text-back k ns h.0, numeral-is n h.1, numeral-is c h.2)) (λ after. refl) (λ x xs after. refl)
    tokens (FCase k n ps names ret scrut brs) h = plain (FCase k n ps names ret scrut brs) (λ after. simp (text-back k ns h.0, numeral-is n h.1, terms-tokens ps h.2, blanks-tokens names, (tokens ret h.3).0, (tokens scrut h.4).0, branches-tokens brs h.5)) (λ after. refl) (λ x xs after. refl)
    tokens (FFix na A b n more i below) h = plain (FFix na A b n more i below) (λ after. simp ((tokens A h.1.0).0, (tokens b h.1.1).0, numeral-is n h.1.2, definitions-tokens more h.1.3, numeral-is i h.0)) (λ after. refl) (λ x xs after. refl)
    tokens (FApp f a more) h =
        let k = fit-applied ns ls (App (meaning f) (meaning a)) more h in
        let on_f = tokens f k.0.0 in
        let on_a = tokens a k.0.1 in (
          λ after.
              app-false (meaning f) (meaning a) more after
              ∙ ap (λ (ts : List Text). Open ∷ word words.App ∷ ts) (run-tokens more k.1 (App (meaning f) (meaning a)) (Close ∷ after) ∙ ap (λ (ts : List Text). run (meaning f) ts) (on_a.0 (forms (canon_forms ls more NoForm) (Close ∷ after))))
              ∙ on_f.1 (canon ls a NoForm) (canon_forms ls more NoForm) after,
          λ x xs after.
              let args = forms (OneForm x xs) (Close ∷ after) in
              ap (λ (ts : List Text). Open ∷ word words.App ∷ ts)
              (run-tokens more k.1 (App (meaning f) (meaning a)) args
              ∙ ap (λ (ts : List Text). run (meaning f) ts) (on_a.0 (forms (canon_forms ls more NoForm) args) ∙ ap (λ (ts : List Text). put a ts) (sym (forms-append more (OneForm x xs) (Close ∷ after)))))
              ∙ on_f.1 (canon ls a NoForm) (canon_forms ls more (OneForm x xs)) after,
        )
    tokens (FCast t kind T) h = (
      λ after. simp ((tokens T h.0.0).0, (tokens t h.1).0),
      λ x xs after. ap (λ (ts : List Text). Open ∷ word words.App ∷ ts) (simp ((tokens T h.0.0).0, (tokens t h.1).0)),
    )

    run-tokens : (fs : Forms) → FitTerms ns ls (terms_of (meanings fs)) → (t : Named) (after : List Text) → run (applied t fs) after ≡ run t (forms (canon_forms ls fs NoForm) after)
    run-tokens NoForm h t after = refl
    run-tokens (OneForm f more) h t after =
        run-tokens more h.1 (App t (meaning f)) after ∙ ap (λ (ts : List Text). run t ts) ((tokens f h.0).0 (forms (canon_forms ls more NoForm) after))

    terms-tokens : (fs : Forms) → FitTerms ns ls (terms_of (meanings fs)) → (after : List Text) → terms ns ls (numbered_terms ns ls (terms_of (meanings fs))) after ≡ forms (canon_forms ls fs NoForm) after
    terms-tokens NoForm h after = refl
    terms-tokens (OneForm f more) h after = simp ((tokens f h.0).0, terms-tokens more h.1)

    branches-tokens : (brs : BranchForms) → FitBranches ns ls (branches_of (branch_meanings brs)) → (after : List Text) →
        branches ns ls (numbered_branches ns ls (branches_of (branch_meanings brs))) after ≡ g.branches (canon_branches ls brs) after
    branches-tokens NoBranchForm h after = refl
    branches-tokens (BranchForm names b more) h after = simp (blanks-tokens names, (tokens b h.0).0, branches-tokens more h.1)

    definitions-tokens : {m : ℕ} (ds : Definitions m) → FitDefs ns ls (defs_of (definition_meanings ds)) → (k : ℕ) (after : List Text) →
        definitions (recursive_arguments (defs_of (definition_meanings ds))) (pieces ns ls (numbered_types ns ls (defs_of (definition_meanings ds)))) (pieces ns ls (numbered_bodies ns ls k (defs_of (definition_meanings ds)))) after
        ≡ g.definitions (canon_definitions ls ds) after
    definitions-tokens NoDefinition h k after = refl
    definitions-tokens (Definition na A b n more) h k after = simp ((tokens A h.0).0, (tokens b h.1).0, numeral-is n h.2, definitions-tokens more h.3)
