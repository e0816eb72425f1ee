-- Universes in normal form have the same names, and by the same tables the same numbers.
use Rattle.std.proofs.Common.{◌≡◌, ℕ, zero, suc, ◌<◌, List, [], ◌∷◌, map, length, Some, Bool, true, false, cond, ◌||◌, refl, ap, ◌∙◌, arith, slice_get, inl, inr}
use Rattle.std.specs.Prelude.{bytes_eq}
use Rattle.std.specs.Cmp.Lexicographic.{nat_list_eq_equiv}
use Rattle.std.proofs.lemmas.Bool.{cases_order}
use Rattle.universe_levels.specs.declared.level.LevelExpr.{LevelExpr}
use Rattle.universe_levels.specs.declared.sort.Sort.TheVariants as sorts
use Rattle.universe_levels.specs.Maximum.{with_part, with_parts, maximum_of}
use Rattle.universe_levels.proofs.MaximumLemmas.{with_part-before, with_part-at, with_part-after, with_parts-normal, rising-with_parts, rising-nil}
use Rattle.dump_grammar.specs.Numbering.{is_in, place_of, firsts, text_at}
use Rattle.dump_grammar.proofs.Numbering.{numbering}
use Rattle.dump_grammar.specs.Uses.{names, names_of_terms, names_of_branches, names_of_defs}
use Rattle.dump_grammar.specs.Named.{NamedSort, AProp, AType, Named, Rel, Sort, Prod, Lambda, LetIn, App, Const, Ind, Construct, Case, Fix, NamedTerms, NoTerm, OneTerm, NamedBranches, NoBranch, OneBranch, NamedDefs, NoDef, OneDef}
use Rattle.dump_reader.specs.Numbered.{level_part, numbered_sort, numbered_term, numbered_terms, numbered_branches, numbered_types, numbered_bodies, recursive_arguments}
use Rattle.dump_printer.specs.CanonicalTerms.{text_of}
use Rattle.dump_printer.proofs.Fits.{Fits, FitParts, FitTerms, FitBranches, FitDefs, FitsSort}
use Rattle.dump_printer.proofs.Normal.{named_part, named_sort, normal, normal_terms, normal_branches, normal_defs}

-- ---- tables

pub text-get : (xs : List (List ℕ)) (n : ℕ) → text_at n xs ≡ slice_get xs n
unfolding text_at
text-get [] zero = refl
text-get [] (suc n) = refl
text-get (x ∷ xs) zero = refl
text-get (x ∷ xs) (suc n) = text-get xs n

get-within : (xs : List (List ℕ)) (n : ℕ) → n < length xs → slice_get xs n ≡ Some (text_of xs n)
get-within [] n h = absurd (omega arith)
get-within (x ∷ xs) zero h = refl
get-within (x ∷ xs) (suc n) h = get-within xs n (omega arith)

-- Each number below the length is that of its text.
abbrev pub IsTable : List (List ℕ) → Type 0
IsTable xs = (n : ℕ) → n < length xs → place_of (text_of xs n) xs ≡ n

pub firsts-table : (uses : List (List ℕ)) → IsTable (firsts uses)
firsts-table uses n h = numbering.one uses n (text_of (firsts uses) n) (text-get (firsts uses) n ∙ get-within (firsts uses) n h)

pub place-within : (a : List ℕ) (xs : List (List ℕ)) → is_in a xs ≡ true → place_of a xs < length xs
unfolding is_in place_of
place-within a [] e = absurd cc
place-within a (b ∷ bs) e =
    let P : Bool → Type 0 = λ x. (x || is_in a bs) ≡ true → cond x 0 (suc (place_of a bs)) < suc (length bs) in
    let on : (x : Bool) → P x = λ x. elim x as P [ true ↦ λ k. omega arith | false ↦ λ k. omega (arith, place-within a bs k) ] in
    on (bytes_eq a b) e

pub text-in : (n : ℕ) (xs : List (List ℕ)) → n < length xs → is_in (text_of xs n) xs ≡ true
unfolding is_in
text-in n [] h = absurd (omega arith)
text-in zero (x ∷ xs) h = rw (nat_list_eq_equiv.refl x) refl
text-in (suc n) (x ∷ xs) h = rw (text-in n xs (omega arith)) (elim (bytes_eq (text_of xs n) x) as (λ b. (b || true) ≡ true) [ true ↦ refl | false ↦ refl ])

-- ---- levels of parts

-- the levels' numbers are below this one
abbrev pub Below : ℕ → List LevelExpr → Type 0
Below m [] = Unit {0}
Below m (e ∷ es) = (e.level.0 < m) × Below m es

below-with : (m : ℕ) (e : LevelExpr) (ps : List LevelExpr) → e.level.0 < m → Below m ps → Below m (with_part e ps)
below-with m e [] h k = (h, tt)
below-with m e (p ∷ ps) h k =
    elim (cases_order e.level.0 p.level.0) [
      | inl l ↦ rw (with_part-at e p ps l) (k.0, k.1)
      | inr q ↦ elim q [
        | inl l ↦ rw (with_part-before e p ps l) (h, (k.0, k.1))
        | inr l ↦ rw (with_part-after e p ps l) (k.0, below-with m e ps h k.1)
      ]
    ]

module _ (ns ls : List (List ℕ)) where
  below-parts : (ps : List LevelExpr) (xs : List (List ℕ × ℕ)) → Below (length ls) ps → FitParts ns ls xs → Below (length ls) (with_parts ps (map (level_part ls) xs))
  below-parts ps [] h k = h
  below-parts ps (x ∷ xs) h k = below-parts (with_part (level_part ls x) ps) xs (below-with (length ls) (level_part ls x) ps (place-within x.0 ls k.0) h) k.2

  pub below-maximum : (xs : List (List ℕ × ℕ)) → FitParts ns ls xs → Below (length ls) (maximum_of (map (level_part ls) xs))
  below-maximum xs k = below-parts [] xs tt k

  module _ (table : IsTable ls) where
    parts-back : (es : List LevelExpr) → Below (length ls) es → map (level_part ls) (map (named_part ls) es) ≡ es
    parts-back [] h = refl
    parts-back (e ∷ es) h =
        ap (λ n. record { level = record { 0 = n }; add = e.add } ∷ map (level_part ls) (map (named_part ls) es)) (table e.level.0 h.0) ∙ ap (λ (xs : List LevelExpr). e ∷ xs) (parts-back es h.1)

    pub sort-back : (s : NamedSort) → FitsSort ns ls s → numbered_sort ls (named_sort ls (numbered_sort ls s)) ≡ numbered_sort ls s
    sort-back AProp h = refl
    sort-back (AType ps) h =
        let u = maximum_of (map (level_part ls) ps) in
        ap (λ (es : List LevelExpr). sorts.Of (maximum_of es)) (parts-back u (below-maximum ps h))
        ∙ ap sorts.Of (with_parts-normal u (rising-with_parts [] (map (level_part ls) ps) rising-nil))

    mutual
      unfolding normal numbered_term recursive_arguments Fits

      pub term-back : (t : Named) → Fits ns ls t → numbered_term ns ls (normal ls t) ≡ numbered_term ns ls t
      term-back (Rel n) h = refl
      term-back (Sort s) h = simp (sort-back s h)
      term-back (Prod A B) h = simp (term-back A h.0, term-back B h.1)
      term-back (Lambda A b) h = simp (term-back A h.0, term-back b h.1)
      term-back (LetIn b B t) h = simp (term-back b h.0, term-back B h.1, term-back t h.2)
      term-back (App f a) h = simp (term-back f h.0, term-back a h.1)
      term-back (Const k) h = refl
      term-back (Ind k n) h = refl
      term-back (Construct k n c) h = refl
      term-back (Case k n ps m ret scrut bs) h = simp (terms-back ps h.2, term-back ret h.3, term-back scrut h.4, branches-back bs h.5)
      term-back (Fix ds i) h = simp (arguments-back ds, types-back ds h.1, bodies-back (length (recursive_arguments ds)) ds h.1)

      terms-back : (ts : NamedTerms) → FitTerms ns ls ts → numbered_terms ns ls (normal_terms ls ts) ≡ numbered_terms ns ls ts
      terms-back NoTerm h = refl
      terms-back (OneTerm t more) h = simp (term-back t h.0, terms-back more h.1)

      branches-back : (bs : NamedBranches) → FitBranches ns ls bs → numbered_branches ns ls (normal_branches ls bs) ≡ numbered_branches ns ls bs
      branches-back NoBranch h = refl
      branches-back (OneBranch m b more) h = simp (term-back b h.0, branches-back more h.1)

      arguments-back : (ds : NamedDefs) → recursive_arguments (normal_defs ls ds) ≡ recursive_arguments ds
      arguments-back NoDef = refl
      arguments-back (OneDef A b n more) = simp (arguments-back more)

      types-back : (ds : NamedDefs) → FitDefs ns ls ds → numbered_types ns ls (normal_defs ls ds) ≡ numbered_types ns ls ds
      types-back NoDef h = refl
      types-back (OneDef A b n more) h = simp (term-back A h.0, types-back more h.3)

      bodies-back : (k : ℕ) (ds : NamedDefs) → FitDefs ns ls ds → numbered_bodies ns ls k (normal_defs ls ds) ≡ numbered_bodies ns ls k ds
      bodies-back k NoDef h = refl
      bodies-back k (OneDef A b n more) h = simp (term-back b h.1, bodies-back k more h.3)

-- ---- names

module _ (ls : List (List ℕ)) where
  mutual
    unfolding normal names

    pub names-normal : (t : Named) (after : List (List ℕ)) → names (normal ls t) after ≡ names t after
    names-normal (Rel n) after = refl
    names-normal (Sort s) after = refl
    names-normal (Prod A B) after = simp (names-normal A, names-normal B)
    names-normal (Lambda A b) after = simp (names-normal A, names-normal b)
    names-normal (LetIn b B t) after = simp (names-normal b, names-normal B, names-normal t)
    names-normal (App f a) after = simp (names-normal f, names-normal a)
    names-normal (Const k) after = refl
    names-normal (Ind k n) after = refl
    names-normal (Construct k n c) after = refl
    names-normal (Case k n ps m ret scrut bs) after = simp (names-terms ps, names-normal ret, names-normal scrut, names-branches bs)
    names-normal (Fix ds i) after = simp (names-defs ds)

    names-terms : (ts : NamedTerms) (after : List (List ℕ)) → names_of_terms (normal_terms ls ts) after ≡ names_of_terms ts after
    names-terms NoTerm after = refl
    names-terms (OneTerm t more) after = simp (names-normal t, names-terms more)

    names-branches : (bs : NamedBranches) (after : List (List ℕ)) → names_of_branches (normal_branches ls bs) after ≡ names_of_branches bs after
    names-branches NoBranch after = refl
    names-branches (OneBranch m b more) after = simp (names-normal b, names-branches more)

    names-defs : (ds : NamedDefs) (after : List (List ℕ)) → names_of_defs (normal_defs ls ds) after ≡ names_of_defs ds after
    names-defs NoDef after = refl
    names-defs (OneDef A b n more) after = simp (names-normal A, names-normal b, names-defs more)
