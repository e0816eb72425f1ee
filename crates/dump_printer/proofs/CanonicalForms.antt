-- The canonical form of a form, and its tokens.
use Rattle.std.proofs.Common.{◌≡◌, ℕ, suc, ◌+◌, ◌^◌, ◌<◌, List, [], ◌∷◌, map, length, Some, Bool, true, false, cond, ◌||◌, refl, sym, ap, ◌∙◌, arith, decimal, slice_get}
use Rattle.std.specs.Prelude.{nat_lt, bytes_eq}
use Rattle.std.proofs.lemmas.Bool.{ltb-true, lt-ltb}
use Rattle.std.specs.Cmp.Lexicographic.{same_text}
use Rattle.sexp_reader.specs.Text.{Text}
use Rattle.universe_levels.specs.declared.level.LevelExpr.{LevelExpr}
use Rattle.universe_levels.specs.declared.sort.Sort.{Sort as Sorts}
use Rattle.universe_levels.specs.declared.sort.Sort.TheVariants as sorts
use Rattle.dump_grammar.specs.Numbers.{Numeral}
use Rattle.dump_grammar.specs.Numbering.{is_in, place_of}
use Rattle.dump_grammar.specs.Sorts.{PartForm, SortForm, PropForm, SetForm, TypeForm, sort_meaning}
use Rattle.dump_grammar.specs.Terms.{Form, FRel, FSort, FProd, FLambda, FLetIn, FApp, FConst, FInd, FConstruct, FCase, FFix, FCast, Forms, NoForm, OneForm, BranchForms, NoBranchForm, BranchForm, Definitions, NoDefinition, Definition, atoms, count}
use Rattle.dump_reader.specs.Numbered.{numbered_sort}
use Rattle.dump_printer.specs.CanonicalTerms.{or_empty, text_of, anonymous, anonymous_names, is_set}
use Rattle.dump_printer.proofs.Decimals.{decimal-read, decimal-is}
use Rattle.dump_printer.proofs.Fits.{Small}

-- ---- numerals and names

abbrev numeral_if : (n : ℕ) (b : Bool) → nat_lt n (2 ^ 64) ≡ b → Numeral
numeral_if n true e = record { atom = decimal n; value = n; spelled = decimal-read n (ltb-true n (2 ^ 64) e) }
numeral_if n false e = record { atom = decimal 0; value = 0; spelled = decimal-read 0 (omega arith) }

unfoldable pub numeral_of : ℕ → Numeral
numeral_of n = numeral_if n (nat_lt n (2 ^ 64)) refl

numeral-if : (n : ℕ) (b : Bool) (e : nat_lt n (2 ^ 64) ≡ b) → n < 2 ^ 64 → ((numeral_if n b e).atom ≡ decimal n) × ((numeral_if n b e).value ≡ n)
numeral-if n true e h = (refl, refl)
numeral-if n false e h = absurd (let f : nat_lt n (2 ^ 64) ≡ true = lt-ltb n (2 ^ 64) h in cc)

pub numeral-of : (n : ℕ) → Small n → ((numeral_of n).atom ≡ decimal n) × ((numeral_of n).value ≡ n)
unfolding numeral_of
numeral-of n h = numeral-if n (nat_lt n (2 ^ 64)) refl h

pub numeral-is : (n : Numeral) → Small n.value → decimal n.value ≡ n.atom
numeral-is n h = decimal-is n.atom n.value h n.spelled

found : (a : List ℕ) (xs : List (List ℕ)) → is_in a xs ≡ true → slice_get xs (place_of a xs) ≡ Some a
unfolding is_in place_of
found a [] e = absurd cc
found a (b ∷ bs) e =
    let P : Bool → Type 0 = λ x. bytes_eq a b ≡ x → (x || is_in a bs) ≡ true → slice_get (b ∷ bs) (cond x 0 (suc (place_of a bs))) ≡ Some a in
    let on : (x : Bool) → P x = λ x. elim x as P [
      | true ↦ λ f k. ap Some (sym (same_text a b (sym f)))
      | false ↦ λ f k. found a bs k
    ] in
    on (bytes_eq a b) refl e

pub text-back : (a : List ℕ) (xs : List (List ℕ)) → is_in a xs ≡ true → text_of xs (place_of a xs) ≡ a
text-back a xs e = ap or_empty (found a xs e)

abbrev pub blank : List ℕ
blank = 95 ∷ []

abbrev pub blanks : List (List ℕ) → List (List ℕ)
blanks [] = []
blanks (a ∷ more) = blank ∷ blanks more

count-plus : (names : List (List ℕ)) (n : ℕ) → count names n ≡ length names + n
unfolding count
count-plus [] n = omega arith
count-plus (a ∷ more) n = omega (arith, count-plus more (n + 1))

blanks-length : (names : List (List ℕ)) (after : List Text) → anonymous_names (length names) after ≡ atoms (blanks names) after
unfolding anonymous_names atoms
blanks-length [] after = refl
blanks-length (a ∷ more) after = ap (λ (ts : List Text). anonymous ∷ ts) (blanks-length more after)

pub blanks-tokens : (names : List (List ℕ)) (after : List Text) → anonymous_names (count names 0) after ≡ atoms (blanks names) after
blanks-tokens names after =
    let e : count names 0 ≡ length names = omega (arith, count-plus names 0) in
    ap (λ n. anonymous_names n after) e ∙ blanks-length names after

abbrev pub zero_numeral : Numeral
zero_numeral = record { atom = decimal 0; value = 0; spelled = decimal-read 0 (omega arith) }

-- ---- sorts

module _ (ls : List (List ℕ)) where
  abbrev pub part_form : LevelExpr → PartForm
  part_form e = record { level = text_of ls e.level.0; add = numeral_of e.add }

  abbrev pub universe_form : List LevelExpr → SortForm
  universe_form [] = SetForm
  universe_form (e ∷ es) = cond (is_set (e ∷ es)) SetForm (TypeForm (part_form e) (map part_form es))

  abbrev pub sort_form : Sorts → SortForm
  sort_form sorts.Prop = PropForm
  sort_form (sorts.Of u) = universe_form u

  -- ---- terms: `canon f args` is the canonical form of f applied to arguments that are canonical

  abbrev pub applied_form : Form → Forms → Form
  applied_form f NoForm = f
  applied_form f (OneForm a more) = FApp f a more

  unfoldable mutual
    pub canon : Form → Forms → Form
    canon (FRel n) args = applied_form (FRel n) args
    canon (FSort s) args = applied_form (FSort (sort_form (numbered_sort ls (sort_meaning s)))) args
    canon (FProd na A B) args = applied_form (FProd blank (canon A NoForm) (canon B NoForm)) args
    canon (FLambda na A b) args = applied_form (FLambda blank (canon A NoForm) (canon b NoForm)) args
    canon (FLetIn na b B t) args = applied_form (FLetIn blank (canon b NoForm) (canon B NoForm) (canon t NoForm)) args
    canon (FApp f a more) args = canon f (OneForm (canon a NoForm) (canon_forms more args))
    canon (FConst k) args = applied_form (FConst k) args
    canon (FInd k n) args = applied_form (FInd k n) args
    canon (FConstruct k n c) args = applied_form (FConstruct k n c) args
    canon (FCase k n ps names ret scrut brs) args =
        applied_form (FCase k n (canon_forms ps NoForm) (blanks names) (canon ret NoForm) (canon scrut NoForm) (canon_branches brs)) args
    canon (FFix na A b n more i below) args = applied_form (FFix blank (canon A NoForm) (canon b NoForm) n (canon_definitions more) i below) args
    canon (FCast t kind T) args = FApp (FLambda blank (canon T NoForm) (FRel zero_numeral)) (canon t NoForm) args

    pub canon_forms : Forms → Forms → Forms
    canon_forms NoForm args = args
    canon_forms (OneForm f more) args = OneForm (canon f NoForm) (canon_forms more args)

    pub canon_branches : BranchForms → BranchForms
    canon_branches NoBranchForm = NoBranchForm
    canon_branches (BranchForm names b more) = BranchForm (blanks names) (canon b NoForm) (canon_branches more)

    pub canon_definitions : {m : ℕ} → Definitions m → Definitions m
    canon_definitions NoDefinition = NoDefinition
    canon_definitions (Definition na A b n more) = Definition blank (canon A NoForm) (canon b NoForm) n (canon_definitions more)
