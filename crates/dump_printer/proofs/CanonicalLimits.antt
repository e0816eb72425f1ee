-- Canonical forms pass no limit where the forms that they are made of pass none.
use Rattle.std.proofs.Common.{◌≡◌, ℕ, ◌+◌, ◌≤◌, max, List, [], ◌∷◌, map, length, Option, None, Bool, true, false, cond, refl, sym, ap, subst, ◌∙◌, arith, inl, inr}
use Rattle.std.specs.Prelude.{nat_le}
use Rattle.std.proofs.lemmas.Bool.{cases_order, le-leb, leb-true, lt-ltb}
use Rattle.sexp_reader.specs.Text.{Text, Open, Close, Atom, Stray}
use Rattle.sexp_reader.specs.Lex.{nesting_after_text}
use Rattle.universe_levels.specs.declared.level.LevelExpr.{LevelExpr}
use Rattle.universe_levels.specs.Maximum.{with_part, with_parts, maximum_of}
use Rattle.universe_levels.proofs.MaximumLemmas.{with_part-before, with_part-at, with_part-after}
use Rattle.dump_grammar.specs.Keywords.{spelling}
use Rattle.dump_grammar.specs.declared.keyword.Keyword.TheVariants as words
use Rattle.dump_grammar.specs.declared.refusal.Limit.{Limit}
use Rattle.dump_grammar.specs.declared.refusal.Limit.TheVariants as limits
use Rattle.dump_grammar.specs.Limits.{unless, first, number_over, add_over, depth_over, depth_limit}
use Rattle.dump_grammar.specs.Named.{Named, Rel, Sort, Prod, Lambda, LetIn, App, Const, Ind, Construct, Case, Fix, NamedTerms, NoTerm, OneTerm, NamedBranches, NoBranch, OneBranch, NamedDefs, NoDef, OneDef, terms_of, branches_of, defs_of, depth, depth_terms, depth_branches, depth_defs}
use Rattle.dump_grammar.specs.Sorts.{PartForm, SortForm, PropForm, SetForm, TypeForm, sort_meaning, part_meaning}
use Rattle.dump_grammar.specs.Terms.{Form, FRel, FSort, FProd, FLambda, FLetIn, FApp, FConst, FInd, FConstruct, FCase, FFix, FCast, Forms, NoForm, OneForm, BranchForms, NoBranchForm, BranchForm, Definitions, NoDefinition, Definition, meaning, meanings, branch_meanings, definition_meanings, applied}
use Rattle.dump_grammar.specs.Within.{parts_over, sort_over, form_over, forms_over, branches_over, definitions_over, tokens_over}
use Rattle.dump_reader.specs.Numbered.{level_part, numbered_sort}
use Rattle.dump_printer.specs.CanonicalTerms.{text_of, is_set}
use Rattle.dump_printer.specs.Nesting.{deepest}
use Rattle.dump_printer.proofs.Fits.{Fits, FitTerms, FitBranches, FitDefs, FitsSort, fit-applied}
use Rattle.dump_printer.proofs.CanonicalForms.{numeral-of, blank, zero_numeral, part_form, universe_form, sort_form, canon, canon_forms, canon_branches, canon_definitions}
use Rattle.dump_printer.proofs.CanonicalTokens.{SmallParts, small-parts}
use Rattle.dump_printer.proofs.Normal.{normal, normal_terms, normal_branches, normal_defs, canon-meaning}
use Rattle.dump_printer.proofs.Good.{AreGood, good-length}
use Rattle.dump_printer.proofs.Fitting.{rest-over}
use Rattle.dump_printer.proofs.Heights.{deepest-le}
use Rattle.dump_grammar.proofs.NoLimit.{none_both, test_holds}

pub join : (a b : Option Limit) → a ≡ None → b ≡ None → first a b ≡ None
join a b e f = ap (λ x. first x b) e ∙ f

-- ---- tokens

pub tokens-within : (d : ℕ) (ts : List Text) → AreGood ts → deepest d ts ≤ 1000 → tokens_over d ts ≡ None
unfolding tokens_over deepest
tokens-within d [] g h = refl
tokens-within d (Open ∷ ts) g h =
    let under = deepest-le (d + 1) ts in
    join _ _ (ap (λ b. unless b limits.Nesting) (lt-ltb d 1000 (omega arith))) (tokens-within (d + 1) ts g.1 (omega arith))
tokens-within d (Close ∷ ts) g h = tokens-within (nesting_after_text d Close) ts g.1 (omega arith)
tokens-within d (Atom a ∷ ts) g h = join _ _ (ap (λ b. unless b limits.NameBytes) (le-leb (length a) 255 (good-length a g.0))) (tokens-within d ts g.1 (omega arith))
tokens-within d (Stray ∷ ts) g h = elim g.0 [ ]

-- ---- depth

shallow : (t : Named) → depth_over t ≡ None → depth t ≤ depth_limit
unfolding depth_over
shallow t e = leb-true (depth t) depth_limit (test_holds (nat_le (depth t) depth_limit) limits.Depth e)

module _ (ls : List (List ℕ)) where
  mutual
    unfolding depth normal

    depth-normal : (t : Named) → depth (normal ls t) ≡ depth t
    depth-normal (Rel n) = refl
    depth-normal (Sort s) = refl
    depth-normal (Prod A B) = simp (depth-normal A, depth-normal B)
    depth-normal (Lambda A b) = simp (depth-normal A, depth-normal b)
    depth-normal (LetIn b B t) = simp (depth-normal b, depth-normal B, depth-normal t)
    depth-normal (App f a) = simp (depth-normal f, depth-normal a)
    depth-normal (Const k) = refl
    depth-normal (Ind k n) = refl
    depth-normal (Construct k n c) = refl
    depth-normal (Case k n ps m ret scrut bs) = simp (depth-terms ps, depth-normal ret, depth-normal scrut, depth-branches bs)
    depth-normal (Fix ds i) = simp (depth-defs ds)

    depth-terms : (ts : NamedTerms) → depth_terms (normal_terms ls ts) ≡ depth_terms ts
    depth-terms NoTerm = refl
    depth-terms (OneTerm t more) = simp (depth-normal t, depth-terms more)

    depth-branches : (bs : NamedBranches) → depth_branches (normal_branches ls bs) ≡ depth_branches bs
    depth-branches NoBranch = refl
    depth-branches (OneBranch m b more) = simp (depth-normal b, depth-branches more)

    depth-defs : (ds : NamedDefs) → depth_defs (normal_defs ls ds) ≡ depth_defs ds
    depth-defs NoDef = refl
    depth-defs (OneDef A b n more) = simp (depth-normal A, depth-normal b, depth-defs more)

lambda-depth : (T t : Named) → depth_over (App (Lambda T (Rel 0)) t) ≡ None → depth_over (Lambda T (Rel 0)) ≡ None
unfolding depth depth_over
lambda-depth T t e = (let k = shallow (App (Lambda T (Rel 0)) t) e in ap (λ b. unless b limits.Depth) (le-leb (depth (Lambda T (Rel 0))) depth_limit (omega arith)))

no-args : (t : Named) → applied t NoForm ≡ t
unfolding meaning
no-args t = refl

form-depth : (f : Form) → form_over f ≡ None → depth_over (meaning f) ≡ None
unfolding form_over
form-depth (FRel n) o = rest-over (number_over n.value) _ o
form-depth (FSort s) o = rest-over (sort_over s) _ o
form-depth (FProd na A B) o = rest-over (form_over B) _ (rest-over (form_over A) _ o)
form-depth (FLambda na A b) o = rest-over (form_over b) _ (rest-over (form_over A) _ o)
form-depth (FLetIn na b B t) o = rest-over (form_over t) _ (rest-over (form_over B) _ (rest-over (form_over b) _ o))
form-depth (FApp f a more) o = rest-over (forms_over more) _ (rest-over (form_over a) _ (rest-over (form_over f) _ o))
form-depth (FConst k) o = o
form-depth (FInd k n) o = rest-over (number_over n.value) _ o
form-depth (FConstruct k n c) o = rest-over (number_over c.value) _ (rest-over (number_over n.value) _ o)
form-depth (FCase k n ps names ret scrut brs) o =
    rest-over (branches_over brs) _ (rest-over (form_over scrut) _ (rest-over (form_over ret) _ (rest-over (forms_over ps) _ (rest-over (number_over n.value) _ o))))
form-depth (FFix na A b n more i below) o =
    rest-over (definitions_over 1 more) _ (rest-over (number_over n.value) _ (rest-over (form_over b) _ (rest-over (form_over A) _ o)))
form-depth (FCast t kind T) o = rest-over (form_over T) _ (rest-over (form_over t) _ o)

-- ---- sorts

abbrev FineParts : List LevelExpr → Type 0
FineParts [] = Unit {0}
FineParts (e ∷ es) = (add_over e.add ≡ None) × FineParts es

fine-max : (m n : ℕ) → add_over m ≡ None → add_over n ≡ None → add_over (max m n) ≡ None
fine-max m n h k =
    let P : ℕ → Type 0 = λ x. add_over x ≡ None in
    elim (cases_order m n) [
      | inl l ↦ (let e : max m n ≡ m = omega arith in subst P (sym e) h)
      | inr q ↦ elim q [
        | inl l ↦ (let e : max m n ≡ n = omega arith in subst P (sym e) k)
        | inr l ↦ (let e : max m n ≡ m = omega arith in subst P (sym e) h)
      ]
    ]

fine-with : (e : LevelExpr) (ps : List LevelExpr) → add_over e.add ≡ None → FineParts ps → FineParts (with_part e ps)
fine-with e [] h k = (h, tt)
fine-with e (p ∷ ps) h k =
    elim (cases_order e.level.0 p.level.0) [
      | inl l ↦ rw (with_part-at e p ps l) (fine-max p.add e.add k.0 h, k.1)
      | inr q ↦ elim q [
        | inl l ↦ rw (with_part-before e p ps l) (h, (k.0, k.1))
        | inr l ↦ rw (with_part-after e p ps l) (k.0, fine-with e ps h k.1)
      ]
    ]

module _ (ls : List (List ℕ)) where
  fine-parts : (ps : List LevelExpr) (xs : List PartForm) → FineParts ps → parts_over xs ≡ None → FineParts (with_parts ps (map (level_part ls) (map part_meaning xs)))
  unfolding parts_over
  fine-parts ps [] h o = h
  fine-parts ps (x ∷ xs) h o = (let k = none_both _ _ o in fine-parts (with_part (level_part ls (part_meaning x)) ps) xs (fine-with (level_part ls (part_meaning x)) ps k.0 h) k.1)

  parts-over : (es : List LevelExpr) → SmallParts es → FineParts es → parts_over (map (part_form ls) es) ≡ None
  unfolding parts_over
  parts-over [] s h = refl
  parts-over (e ∷ es) s h = join _ _ (ap add_over (numeral-of e.add s.0).1 ∙ h.0) (parts-over es s.1 h.1)

  universe-over : (u : List LevelExpr) → SmallParts u → FineParts u → sort_over (universe_form ls u) ≡ None
  unfolding sort_over
  universe-over [] s h = refl
  universe-over (e ∷ es) s h =
      let P : Bool → Type 0 = λ b. sort_over (cond b SetForm (TypeForm (part_form ls e) (map (part_form ls) es))) ≡ None in
      let on : (b : Bool) → P b = λ b. elim b as P [ true ↦ refl | false ↦ join _ _ (ap add_over (numeral-of e.add s.0).1 ∙ h.0) (parts-over es s.1 h.1) ] in
      on (is_set (e ∷ es))

  set-fine : add_over 0 ≡ None
  unfolding add_over number_over
  set-fine = refl

  pub sort-over : (ns : List (List ℕ)) (s : SortForm) → FitsSort ns ls (sort_meaning s) → sort_over s ≡ None → sort_over (sort_form ls (numbered_sort ls (sort_meaning s))) ≡ None
  unfolding sort_over sort_meaning
  sort-over ns PropForm h o = refl
  sort-over ns SetForm h o = universe-over (maximum_of (map (level_part ls) ((spelling words.Set, 0) ∷ []))) (small-parts ns ls [] ((spelling words.Set, 0) ∷ []) tt h) (set-fine, tt)
  sort-over ns (TypeForm p more) h o =
      let x = none_both _ _ o in
      universe-over (maximum_of (map (level_part ls) (part_meaning p ∷ map part_meaning more))) (small-parts ns ls [] (part_meaning p ∷ map part_meaning more) tt h)
      (fine-parts (level_part ls (part_meaning p) ∷ []) more (x.0, tt) x.1)

  -- ---- terms

  module _ (ns : List (List ℕ)) (set : text_of ls 0 ≡ spelling words.Set) where
    depth-alone : (f : Form) → Fits ns ls (meaning f) → form_over f ≡ None → depth_over (meaning (canon ls f NoForm)) ≡ None
    unfolding depth_over
    depth-alone f h o =
        let m = canon-meaning ls ns set f h NoForm in
        let e : depth (meaning (canon ls f NoForm)) ≡ depth (meaning f) = ap depth (m ∙ no-args (normal ls (meaning f))) ∙ depth-normal ls (meaning f) in
        ap (λ d. unless (nat_le d depth_limit) limits.Depth) e ∙ form-depth f o

    -- The form by itself; and before arguments that are canonical.
    abbrev Over : Form → Type 0
    Over f =
        (form_over (canon ls f NoForm) ≡ None)
        × ((x : Form) (xs : Forms) → form_over x ≡ None → forms_over xs ≡ None → depth_over (meaning (canon ls f (OneForm x xs))) ≡ None → form_over (canon ls f (OneForm x xs)) ≡ None)

    app-over : (f x : Form) (xs : Forms) → form_over f ≡ None → form_over x ≡ None → forms_over xs ≡ None → depth_over (meaning (FApp f x xs)) ≡ None → form_over (FApp f x xs) ≡ None
    unfolding form_over
    app-over f x xs a b c d = join _ _ a (join _ _ b (join _ _ c d))

    zero-over : form_over (FRel zero_numeral) ≡ None
    unfolding form_over number_over depth_over meaning depth
    zero-over = refl

    mutual
      unfolding form_over meaning canon Fits

      pub canon-over : (f : Form) → Fits ns ls (meaning f) → form_over f ≡ None → Over f
      canon-over (FRel n) h o = (o, λ x xs a b d. app-over (FRel n) x xs o a b d)
      canon-over (FSort s) h o =
          let alone : form_over (canon ls (FSort s) NoForm) ≡ None = join _ _ (sort-over ns s h (none_both _ _ o).0) (depth-alone (FSort s) h o) in
          (alone, λ x xs a b d. app-over (canon ls (FSort s) NoForm) x xs alone a b d)
      canon-over (FProd na A B) h o =
          let x = none_both _ _ o in
          let y = none_both _ _ x.1 in
          let alone : form_over (canon ls (FProd na A B) NoForm) ≡ None = join _ _ (canon-over A h.0 x.0).0 (join _ _ (canon-over B h.1 y.0).0 (depth-alone (FProd na A B) h o)) in
          (alone, λ x xs a b d. app-over (canon ls (FProd na A B) NoForm) x xs alone a b d)
      canon-over (FLambda na A b) h o =
          let x = none_both _ _ o in
          let y = none_both _ _ x.1 in
          let alone : form_over (canon ls (FLambda na A b) NoForm) ≡ None = join _ _ (canon-over A h.0 x.0).0 (join _ _ (canon-over b h.1 y.0).0 (depth-alone (FLambda na A b) h o)) in
          (alone, λ x xs a c d. app-over (canon ls (FLambda na A b) NoForm) x xs alone a c d)
      canon-over (FLetIn na b B t) h o =
          let x = none_both _ _ o in
          let y = none_both _ _ x.1 in
          let z = none_both _ _ y.1 in
          let alone : form_over (canon ls (FLetIn na b B t) NoForm) ≡ None =
          join _ _ (canon-over b h.0 x.0).0 (join _ _ (canon-over B h.1 y.0).0 (join _ _ (canon-over t h.2 z.0).0 (depth-alone (FLetIn na b B t) h o))) in
          (alone, λ x xs a c d. app-over (canon ls (FLetIn na b B t) NoForm) x xs alone a c d)
      canon-over (FApp f a more) h o =
          let x = none_both _ _ o in
          let y = none_both _ _ x.1 in
          let z = none_both _ _ y.1 in
          let k = fit-applied ns ls (App (meaning f) (meaning a)) more h in
          let on_f = canon-over f k.0.0 x.0 in
          let on_a = canon-over a k.0.1 y.0 in (
            on_f.1 (canon ls a NoForm) (canon_forms ls more NoForm) on_a.0 (forms-over more k.1 z.0 NoForm refl) (depth-alone (FApp f a more) h o),
            λ x xs b c d. on_f.1 (canon ls a NoForm) (canon_forms ls more (OneForm x xs)) on_a.0 (forms-over more k.1 z.0 (OneForm x xs) (join _ _ b c)) d,
          )
      canon-over (FConst k) h o = (o, λ x xs a b d. app-over (FConst k) x xs o a b d)
      canon-over (FInd k n) h o = (o, λ x xs a b d. app-over (FInd k n) x xs o a b d)
      canon-over (FConstruct k n c) h o = (o, λ x xs a b d. app-over (FConstruct k n c) x xs o a b d)
      canon-over (FCase k n ps names ret scrut brs) h o =
          let x = none_both _ _ o in
          let y = none_both _ _ x.1 in
          let z = none_both _ _ y.1 in
          let w = none_both _ _ z.1 in
          let q = none_both _ _ w.1 in
          let whole = FCase k n ps names ret scrut brs in
          let alone : form_over (canon ls whole NoForm) ≡ None =
          join _ _ x.0 (join _ _ (forms-over ps h.2 y.0 NoForm refl) (join _ _ (canon-over ret h.3 z.0).0 (join _ _ (canon-over scrut h.4 w.0).0 (join _ _ (branches-over brs h.5 q.0) (depth-alone whole h o))))) in
          (alone, λ x xs a b d. app-over (canon ls whole NoForm) x xs alone a b d)
      canon-over (FFix na A b n more i below) h o =
          let x = none_both _ _ o in
          let y = none_both _ _ x.1 in
          let z = none_both _ _ y.1 in
          let w = none_both _ _ z.1 in
          let whole = FFix na A b n more i below in
          let alone : form_over (canon ls whole NoForm) ≡ None =
          join _ _ (canon-over A h.1.0 x.0).0 (join _ _ (canon-over b h.1.1 y.0).0 (join _ _ z.0 (join _ _ (definitions-over 1 more h.1.3 w.0) (depth-alone whole h o)))) in
          (alone, λ x xs a c d. app-over (canon ls whole NoForm) x xs alone a c d)
      canon-over (FCast t kind T) h o =
          let x = none_both _ _ o in
          let y = none_both _ _ x.1 in
          let on_t = canon-over t h.1 x.0 in
          let on_T = canon-over T h.0.0 y.0 in
          let inner : form_over (FLambda blank (canon ls T NoForm) (FRel zero_numeral)) ≡ None =
          join _ _ on_T.0 (join _ _ zero-over (lambda-depth (meaning (canon ls T NoForm)) (meaning (canon ls t NoForm)) (depth-alone (FCast t kind T) h o))) in (
            app-over (FLambda blank (canon ls T NoForm) (FRel zero_numeral)) (canon ls t NoForm) NoForm inner on_t.0 refl (depth-alone (FCast t kind T) h o),
            λ x xs a c d. app-over (FLambda blank (canon ls T NoForm) (FRel zero_numeral)) (canon ls t NoForm) (OneForm x xs) inner on_t.0 (join _ _ a c) d,
          )

      pub forms-over : (fs : Forms) → FitTerms ns ls (terms_of (meanings fs)) → forms_over fs ≡ None → (args : Forms) → forms_over args ≡ None → forms_over (canon_forms ls fs args) ≡ None
      forms-over NoForm h o args k = k
      forms-over (OneForm f more) h o args k = (let x = none_both _ _ o in join _ _ (canon-over f h.0 x.0).0 (forms-over more h.1 x.1 args k))

      branches-over : (brs : BranchForms) → FitBranches ns ls (branches_of (branch_meanings brs)) → branches_over brs ≡ None → branches_over (canon_branches ls brs) ≡ None
      branches-over NoBranchForm h o = refl
      branches-over (BranchForm names b more) h o = (let x = none_both _ _ o in join _ _ (canon-over b h.0 x.0).0 (branches-over more h.1 x.1))

      definitions-over : {m : ℕ} (n : ℕ) (ds : Definitions m) → FitDefs ns ls (defs_of (definition_meanings ds)) → definitions_over n ds ≡ None → definitions_over n (canon_definitions ls ds) ≡ None
      definitions-over n NoDefinition h o = refl
      definitions-over n (Definition na A b r more) h o =
          let x = none_both _ _ o in
          let y = none_both _ _ x.1 in
          let z = none_both _ _ y.1 in
          let w = none_both _ _ z.1 in
          join _ _ x.0 (join _ _ (canon-over A h.0 y.0).0 (join _ _ (canon-over b h.1 z.0).0 (join _ _ w.0 (definitions-over (n + 1) more h.3 w.1))))
