-- What a canonical form means: the same with each universe in normal form.
use Rattle.std.proofs.Common.{◌≡◌, ℕ, ◌+◌, List, [], ◌∷◌, map, Bool, true, false, cond, ◌&&◌, refl, sym, ap, ◌∙◌}
use Rattle.std.specs.Prelude.{nat_eq}
use Rattle.std.proofs.lemmas.Bool.{cases_Bool, eqb-true}
use Rattle.std.proofs.Common.{inl, inr}
use Rattle.universe_levels.specs.declared.level.LevelExpr.{LevelExpr}
use Rattle.universe_levels.specs.declared.sort.Sort.{Sort as Sorts}
use Rattle.universe_levels.specs.declared.sort.Sort.TheVariants as sorts
use Rattle.dump_grammar.specs.Keywords.{spelling}
use Rattle.dump_grammar.specs.declared.keyword.Keyword.TheVariants as words
use Rattle.dump_grammar.specs.Named.{NamedSort, AProp, AType, Named, Rel, Sort, Prod, Lambda, LetIn, App, Const, Ind, Construct, Case, Fix, NamedTerms, NoTerm, OneTerm, NamedBranches, NoBranch, OneBranch, NamedDefs, NoDef, OneDef, terms_of, branches_of, defs_of}
use Rattle.dump_grammar.specs.Sorts.{SetForm, TypeForm, sort_meaning, part_meaning}
use Rattle.dump_grammar.specs.Terms.{Form, FRel, FSort, FProd, FLambda, FLetIn, FApp, FConst, FInd, FConstruct, FCase, FFix, FCast, Forms, NoForm, OneForm, BranchForms, NoBranchForm, BranchForm, Definitions, NoDefinition, Definition, meaning, meanings, branch_meanings, definition_meanings, applied, count}
use Rattle.dump_reader.specs.Numbered.{numbered_sort}
use Rattle.dump_printer.specs.CanonicalTerms.{text_of, is_set}
use Rattle.dump_printer.proofs.Fits.{Fits, FitTerms, FitBranches, FitDefs, fit-applied}
use Rattle.dump_printer.proofs.CanonicalForms.{numeral-of, blanks, part_form, sort_form, applied_form, canon, canon_forms, canon_branches, canon_definitions}
use Rattle.dump_printer.proofs.CanonicalTokens.{SmallParts, SmallSort, small-sort}

module _ (ls : List (List ℕ)) where
  abbrev pub named_part : LevelExpr → List ℕ × ℕ
  named_part e = (text_of ls e.level.0, e.add)

  abbrev pub named_sort : Sorts → NamedSort
  named_sort sorts.Prop = AProp
  named_sort (sorts.Of u) = AType (map named_part u)

  -- each universe in normal form
  unfoldable mutual
    pub normal : Named → Named
    normal (Rel n) = Rel n
    normal (Sort s) = Sort (named_sort (numbered_sort ls s))
    normal (Prod A B) = Prod (normal A) (normal B)
    normal (Lambda A b) = Lambda (normal A) (normal b)
    normal (LetIn b B t) = LetIn (normal b) (normal B) (normal t)
    normal (App f a) = App (normal f) (normal a)
    normal (Const k) = Const k
    normal (Ind k n) = Ind k n
    normal (Construct k n c) = Construct k n c
    normal (Case k n ps m ret scrut bs) = Case k n (normal_terms ps) m (normal ret) (normal scrut) (normal_branches bs)
    normal (Fix ds i) = Fix (normal_defs ds) i

    pub normal_terms : NamedTerms → NamedTerms
    normal_terms NoTerm = NoTerm
    normal_terms (OneTerm t more) = OneTerm (normal t) (normal_terms more)

    pub normal_branches : NamedBranches → NamedBranches
    normal_branches NoBranch = NoBranch
    normal_branches (OneBranch m b more) = OneBranch m (normal b) (normal_branches more)

    pub normal_defs : NamedDefs → NamedDefs
    normal_defs NoDef = NoDef
    normal_defs (OneDef A b n more) = OneDef (normal A) (normal b) n (normal_defs more)

  parts-meaning : (es : List LevelExpr) → SmallParts es → map part_meaning (map (part_form ls) es) ≡ map named_part es
  parts-meaning [] h = refl
  parts-meaning (e ∷ es) h =
      ap (λ n. (text_of ls e.level.0, n) ∷ map part_meaning (map (part_form ls) es)) (numeral-of e.add h.0).1
      ∙ ap (λ ps. named_part e ∷ ps) (parts-meaning es h.1)

  set-alone : (e : LevelExpr) (es : List LevelExpr) → is_set (e ∷ es) ≡ true → (es ≡ []) × (e.level.0 ≡ 0) × (e.add ≡ 0)
  set-alone e [] h =
      elim (cases_Bool (nat_eq e.level.0 0)) [
        | inr f ↦ absurd (let g : (nat_eq e.level.0 0 && nat_eq e.add 0) ≡ false = rw f refl in cc)
        | inl f ↦ (refl, eqb-true e.level.0 0 f, eqb-true e.add 0 (let g : (nat_eq e.level.0 0 && nat_eq e.add 0) ≡ nat_eq e.add 0 = rw f refl in sym g ∙ h))
      ]
  set-alone e (x ∷ es) h = absurd cc

  pub sort-meaning : (s : Sorts) → text_of ls 0 ≡ spelling words.Set → SmallSort s → sort_meaning (sort_form ls s) ≡ named_sort s
  unfolding sort_meaning
  sort-meaning sorts.Prop set h = refl
  sort-meaning (sorts.Of []) set h = elim h [ ]
  sort-meaning (sorts.Of (e ∷ es)) set h =
      let P : Bool → Type 0 = λ b. is_set (e ∷ es) ≡ b → sort_meaning (cond b SetForm (TypeForm (part_form ls e) (map (part_form ls) es))) ≡ AType (map named_part (e ∷ es)) in
      let on : (b : Bool) → P b = λ b. elim b as P [
        | true ↦ λ x. (let k = set-alone e es x in
            let level : spelling words.Set ≡ text_of ls e.level.0 = sym set ∙ sym (ap (text_of ls) k.1) in
            ap (λ l. AType ((l, 0) ∷ [])) level ∙ ap (λ n. AType ((text_of ls e.level.0, n) ∷ [])) (sym k.2) ∙ ap (λ (xs : List LevelExpr). AType (named_part e ∷ map named_part xs)) (sym k.0))
        | false ↦ λ x.
            ap (λ n. AType ((text_of ls e.level.0, n) ∷ map part_meaning (map (part_form ls) es))) (numeral-of e.add h.0).1
            ∙ ap (λ ps. AType (named_part e ∷ ps)) (parts-meaning es h.1)
      ] in
      on (is_set (e ∷ es)) refl

  -- ---- terms

  form-applied : (f : Form) (args : Forms) → meaning (applied_form ls f args) ≡ applied (meaning f) args
  unfolding meaning
  form-applied f NoForm = refl
  form-applied f (OneForm a more) = refl

  applied-append : (t : Named) (fs args : Forms) → applied t (canon_forms ls fs args) ≡ applied (applied t (canon_forms ls fs NoForm)) args
  unfolding canon meaning
  applied-append t NoForm args = refl
  applied-append t (OneForm f more) args = applied-append (App t (meaning (canon ls f NoForm))) more args

  blanks-count : (names : List (List ℕ)) (n : ℕ) → count (blanks names) n ≡ count names n
  unfolding count
  blanks-count [] n = refl
  blanks-count (a ∷ more) n = blanks-count more (n + 1)

  module _ (ns : List (List ℕ)) (set : text_of ls 0 ≡ spelling words.Set) where
    mutual
      unfolding meaning canon normal Fits

      pub canon-meaning : (f : Form) → Fits ns ls (meaning f) → (args : Forms) → meaning (canon ls f args) ≡ applied (normal (meaning f)) args
      canon-meaning (FRel n) h args = form-applied (FRel n) args
      canon-meaning (FSort s) h args = form-applied _ args ∙ ap (λ m. applied (Sort m) args) (sort-meaning (numbered_sort ls (sort_meaning s)) set (small-sort ns ls s h))
      canon-meaning (FProd na A B) h args = form-applied _ args ∙ ap (λ t. applied t args) (simp (canon-meaning A h.0, canon-meaning B h.1))
      canon-meaning (FLambda na A b) h args = form-applied _ args ∙ ap (λ t. applied t args) (simp (canon-meaning A h.0, canon-meaning b h.1))
      canon-meaning (FLetIn na b B t) h args = form-applied _ args ∙ ap (λ t. applied t args) (simp (canon-meaning b h.0, canon-meaning B h.1, canon-meaning t h.2))
      canon-meaning (FApp f a more) h args =
          let k = fit-applied ns ls (App (meaning f) (meaning a)) more h in
          canon-meaning f k.0.0 (OneForm (canon ls a NoForm) (canon_forms ls more args))
          ∙ ap (λ t. applied (App (normal (meaning f)) t) (canon_forms ls more args)) (canon-meaning a k.0.1 NoForm)
          ∙ applied-append (App (normal (meaning f)) (normal (meaning a))) more args
          ∙ ap (λ t. applied t args) (applied-forms more k.1 (App (meaning f) (meaning a)))
      canon-meaning (FConst k) h args = form-applied (FConst k) args
      canon-meaning (FInd k n) h args = form-applied (FInd k n) args
      canon-meaning (FConstruct k n c) h args = form-applied (FConstruct k n c) args
      canon-meaning (FCase k n ps names ret scrut brs) h args =
          form-applied _ args
          ∙ ap (λ t. applied t args) (simp (terms-meaning ps h.2, blanks-count names, canon-meaning ret h.3, canon-meaning scrut h.4, branches-meaning brs h.5))
      canon-meaning (FFix na A b n more i below) h args =
          form-applied _ args ∙ ap (λ t. applied t args) (simp (canon-meaning A h.1.0, canon-meaning b h.1.1, definitions-meaning more h.1.3))
      canon-meaning (FCast t kind T) h args = simp (canon-meaning T h.0.0, canon-meaning t h.1)

      applied-forms : (fs : Forms) → FitTerms ns ls (terms_of (meanings fs)) → (t : Named) → applied (normal t) (canon_forms ls fs NoForm) ≡ normal (applied t fs)
      applied-forms NoForm h t = refl
      applied-forms (OneForm f more) h t =
          ap (λ u. applied (App (normal t) u) (canon_forms ls more NoForm)) (canon-meaning f h.0 NoForm) ∙ applied-forms more h.1 (App t (meaning f))

      pub terms-meaning : (fs : Forms) → FitTerms ns ls (terms_of (meanings fs)) → terms_of (meanings (canon_forms ls fs NoForm)) ≡ normal_terms (terms_of (meanings fs))
      terms-meaning NoForm h = refl
      terms-meaning (OneForm f more) h = simp (canon-meaning f h.0, terms-meaning more h.1)

      branches-meaning : (brs : BranchForms) → FitBranches ns ls (branches_of (branch_meanings brs)) → branches_of (branch_meanings (canon_branches ls brs)) ≡ normal_branches (branches_of (branch_meanings brs))
      branches-meaning NoBranchForm h = refl
      branches-meaning (BranchForm names b more) h = simp (blanks-count names, canon-meaning b h.0, branches-meaning more h.1)

      definitions-meaning : {m : ℕ} (ds : Definitions m) → FitDefs ns ls (defs_of (definition_meanings ds)) → defs_of (definition_meanings (canon_definitions ls ds)) ≡ normal_defs (defs_of (definition_meanings ds))
      definitions-meaning NoDefinition h = refl
      definitions-meaning (Definition na A b n more) h = simp (canon-meaning A h.0, canon-meaning b h.1, definitions-meaning more h.3)
