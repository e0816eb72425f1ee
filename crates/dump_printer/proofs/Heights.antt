-- How deep the brackets of forms stand: without a cast a canonical form's are no deeper.
use Rattle.std.proofs.Common.{◌≡◌, ℕ, ◌+◌, ◌-◌, ◌≤◌, max, List, [], ◌∷◌, map, Bool, true, false, cond, refl, ap, ◌∙◌, arith}
use Rattle.sexp_reader.specs.Text.{Text, Open, Close, Atom}
use Rattle.universe_levels.specs.declared.level.LevelExpr.{LevelExpr}
use Rattle.universe_levels.specs.Maximum.{maximum_of}
use Rattle.dump_grammar.specs.Keywords.{spelling}
use Rattle.dump_grammar.specs.Numbering.{place_of}
use Rattle.dump_grammar.specs.declared.keyword.Keyword.TheVariants as words
use Rattle.dump_grammar.specs.Numbers.{word}
use Rattle.dump_grammar.specs.Sorts.{PartForm, SortForm, PropForm, SetForm, TypeForm, sort, parts, sort_meaning, part_meaning}
use Rattle.dump_grammar.specs.Terms.{Form, FRel, FSort, FProd, FLambda, FLetIn, FApp, FConst, FInd, FConstruct, FCase, FFix, FCast, Forms, NoForm, OneForm, BranchForms, NoBranchForm, BranchForm, Definitions, NoDefinition, Definition, atoms, form, forms, branches, definitions}
use Rattle.dump_reader.specs.Numbered.{level_part, numbered_sort}
use Rattle.dump_printer.specs.CanonicalTerms.{is_set}
use Rattle.dump_printer.specs.Nesting.{deepest}
use Rattle.dump_printer.specs.Casts.{HasNoCast, HaveNoCast, BranchesHaveNoCast, DefinitionsHaveNoCast}
use Rattle.dump_printer.proofs.CanonicalForms.{part_form, universe_form, sort_form, canon, canon_forms, canon_branches, canon_definitions}

-- brackets of a sort inside the one that it stands in
abbrev pub sort_height : SortForm → ℕ
sort_height PropForm = 0
sort_height SetForm = 0
sort_height (TypeForm p more) = 2

-- brackets inside a form's own
unfoldable mutual
  pub height : Form → ℕ
  height (FRel n) = 0
  height (FSort s) = sort_height s
  height (FProd na A B) = max (1 + height A) (1 + height B)
  height (FLambda na A b) = max (1 + height A) (1 + height b)
  height (FLetIn na b B t) = max (1 + height b) (max (1 + height B) (1 + height t))
  height (FApp f a more) = max (1 + height f) (max (1 + height a) (heights more))
  height (FConst k) = 0
  height (FInd k n) = 0
  height (FConstruct k n c) = 0
  height (FCase k n ps names ret scrut brs) = max (1 + heights ps) (max (max 2 (2 + height ret)) (max (1 + height scrut) (branches_height brs)))
  height (FFix na A b n more i below) = max (max (3 + height A) (3 + height b)) (1 + definitions_height more)
  height (FCast t kind T) = max (1 + height t) (1 + height T)

  -- of a list inside the brackets that it stands in
  pub heights : Forms → ℕ
  heights NoForm = 0
  heights (OneForm f more) = max (1 + height f) (heights more)

  pub branches_height : BranchForms → ℕ
  branches_height NoBranchForm = 0
  branches_height (BranchForm names b more) = max (max 2 (2 + height b)) (branches_height more)

  pub definitions_height : {m : ℕ} → Definitions m → ℕ
  definitions_height NoDefinition = 0
  definitions_height (Definition na A b n more) = max (max (2 + height A) (2 + height b)) (definitions_height more)

back : (n : ℕ) (Y : List Text) → deepest (n + 1 - 1) Y ≡ deepest n Y
back n Y = (let e : n + 1 - 1 ≡ n = omega arith in ap (λ m. deepest m Y) e)

pub deepest-le : (n : ℕ) (Y : List Text) → n ≤ deepest n Y
unfolding deepest
deepest-le n [] = omega arith
deepest-le n (t ∷ ts) = omega arith

pub open-deep : (n : ℕ) (Y : List Text) → deepest n (Open ∷ Y) ≡ deepest (n + 1) Y
unfolding deepest
open-deep n Y = omega (arith, deepest-le (n + 1) Y)

pub close-deep : (n : ℕ) (Y : List Text) → deepest (n + 1) (Close ∷ Y) ≡ max (n + 1) (deepest n Y)
unfolding deepest
close-deep n Y = omega (arith, back n Y)

pub atom-deep : (n : ℕ) (a : List ℕ) (Y : List Text) → deepest n (Atom a ∷ Y) ≡ deepest n Y
unfolding deepest
atom-deep n a Y = omega (arith, deepest-le n Y)

pub atoms-deep : (n : ℕ) (xs : List (List ℕ)) (Y : List Text) → deepest n (atoms xs Y) ≡ deepest n Y
unfolding atoms
atoms-deep n [] Y = refl
atoms-deep n (x ∷ xs) Y = atom-deep n x (atoms xs Y) ∙ atoms-deep n xs Y

parts-deep : (n : ℕ) (ps : List PartForm) (Y : List Text) → deepest n (parts ps (Close ∷ Y)) ≤ max (n + 1) (deepest n (Close ∷ Y))
unfolding parts
parts-deep n [] Y = omega arith
parts-deep n (p ∷ ps) Y =
    let a = open-deep n (Atom p.level ∷ Atom p.add.atom ∷ Close ∷ parts ps (Close ∷ Y)) in
    let b = atom-deep (n + 1) p.level (Atom p.add.atom ∷ Close ∷ parts ps (Close ∷ Y)) in
    let c = atom-deep (n + 1) p.add.atom (Close ∷ parts ps (Close ∷ Y)) in
    let d = close-deep n (parts ps (Close ∷ Y)) in
    omega (arith, parts-deep n ps Y)

parts-least : (n : ℕ) (ps : List PartForm) (Y : List Text) → deepest n (Close ∷ Y) ≤ deepest n (parts ps (Close ∷ Y))
unfolding parts
parts-least n [] Y = omega arith
parts-least n (p ∷ ps) Y =
    let a = open-deep n (Atom p.level ∷ Atom p.add.atom ∷ Close ∷ parts ps (Close ∷ Y)) in
    let b = atom-deep (n + 1) p.level (Atom p.add.atom ∷ Close ∷ parts ps (Close ∷ Y)) in
    let c = atom-deep (n + 1) p.add.atom (Close ∷ parts ps (Close ∷ Y)) in
    let d = close-deep n (parts ps (Close ∷ Y)) in
    omega (arith, parts-least n ps Y)

pub sort-deep : (n : ℕ) (s : SortForm) (Y : List Text) → deepest n (sort s Y) ≡ max (n + sort_height s) (deepest n Y)
unfolding sort
sort-deep n PropForm Y = omega (arith, atom-deep n (spelling words.Prop) Y, deepest-le n Y)
sort-deep n SetForm Y = omega (arith, atom-deep n (spelling words.Set) Y, deepest-le n Y)
sort-deep n (TypeForm p more) Y =
    let rest = parts more (Close ∷ Y) in
    let a = open-deep n (word words.Type ∷ Open ∷ Atom p.level ∷ Atom p.add.atom ∷ Close ∷ rest) in
    let b = atom-deep (n + 1) (spelling words.Type) (Open ∷ Atom p.level ∷ Atom p.add.atom ∷ Close ∷ rest) in
    let c = open-deep (n + 1) (Atom p.level ∷ Atom p.add.atom ∷ Close ∷ rest) in
    let d = atom-deep (n + 1 + 1) p.level (Atom p.add.atom ∷ Close ∷ rest) in
    let e = atom-deep (n + 1 + 1) p.add.atom (Close ∷ rest) in
    let f = close-deep (n + 1) rest in
    let g = close-deep n Y in
    let h = parts-deep (n + 1) more Y in
    let i = parts-least (n + 1) more Y in
    omega arith

-- numbers of a match
scrut-numbers : (n s b D : ℕ) → max (n + 1 + 1) (max (n + 1 + 1 + s) (max (n + 1 + b) (max (n + 1) D))) ≡ max (n + 1 + max (1 + s) b) D
scrut-numbers n s b D = omega arith

ret-numbers : (n r Z : ℕ) → max (n + 1 + 1) (max (n + 1 + 1 + 1) (max (n + 1 + 1 + 1 + r) Z)) ≡ max (n + 1 + max 2 (2 + r)) Z
ret-numbers n r Z = omega arith

params-numbers : (n p Z : ℕ) → max (n + 1 + 1) (max (n + 1 + 1 + p) Z) ≡ max (n + 1 + (1 + p)) Z
params-numbers n p Z = omega arith

three-numbers : (n A B C D : ℕ) → max (n + 1 + A) (max (n + 1 + B) (max (n + 1 + C) D)) ≡ max (n + 1 + max A (max B C)) D
three-numbers n A B C D = omega arith

case-numbers : (n p r s b D : ℕ) →
    max (n + 1 + 1) (max (n + 1 + 1 + p) (max (n + 1 + 1) (max (n + 1 + 1 + 1) (max (n + 1 + 1 + 1 + r) (max (n + 1 + 1) (max (n + 1 + 1 + s) (max (n + 1 + b) (max (n + 1) D))))))))
    ≡ max (n + 1 + max (1 + p) (max (max 2 (2 + r)) (max (1 + s) b))) D
case-numbers n p r s b D =
    let X = max (n + 1 + 1) (max (n + 1 + 1 + s) (max (n + 1 + b) (max (n + 1) D))) in
    let Y = max (n + 1 + 1) (max (n + 1 + 1 + 1) (max (n + 1 + 1 + 1 + r) X)) in
    params-numbers n p Y ∙ ap (max (n + 1 + (1 + p))) (ret-numbers n r X ∙ ap (max (n + 1 + max 2 (2 + r))) (scrut-numbers n s b D))
    ∙ three-numbers n (1 + p) (max 2 (2 + r)) (max (1 + s) b) D

pub max-mono : (a b c d : ℕ) → a ≤ c → b ≤ d → max a b ≤ max c d
max-mono a b c d h k = omega arith

more-mono : (m a b : ℕ) → a ≤ b → m + a ≤ m + b
more-mono m a b h = omega arith

app-mono : (a b c : ℕ) → a ≤ b → max (1 + a) c ≤ max (1 + b) c
app-mono a b c h = omega arith

mutual
  unfolding form height

  pub form-deep : (f : Form) (n : ℕ) (Y : List Text) → deepest (n + 1) (form f Y) ≡ max (n + 1 + height f) (deepest n Y)
  form-deep (FRel k) n Y = simp (open-deep, atom-deep, close-deep) (omega arith)
  form-deep (FSort s) n Y = simp (open-deep, atom-deep, close-deep, sort-deep) (omega arith)
  form-deep (FProd na A B) n Y = simp (open-deep, atom-deep, close-deep, form-deep A, form-deep B) (omega arith)
  form-deep (FLambda na A b) n Y = simp (open-deep, atom-deep, close-deep, form-deep A, form-deep b) (omega arith)
  form-deep (FLetIn na b B t) n Y = simp (open-deep, atom-deep, close-deep, form-deep b, form-deep B, form-deep t) (omega arith)
  form-deep (FApp f a more) n Y = simp (open-deep, atom-deep, close-deep, form-deep f, form-deep a, forms-deep more) (omega arith)
  form-deep (FConst k) n Y = simp (open-deep, atom-deep, close-deep) (omega arith)
  form-deep (FInd k i) n Y = simp (open-deep, atom-deep, close-deep) (omega arith)
  form-deep (FConstruct k i c) n Y = simp (open-deep, atom-deep, close-deep) (omega arith)
  form-deep (FCase k i ps names ret scrut brs) n Y = simp (open-deep, atom-deep, close-deep, atoms-deep, forms-deep ps, form-deep ret, form-deep scrut, branches-deep brs) (case-numbers n (heights ps) (height ret) (height scrut) (branches_height brs) (deepest n Y))
  form-deep (FFix na A b k more i below) n Y = simp (open-deep, atom-deep, close-deep, form-deep A, form-deep b, definitions-deep more) (omega arith)
  form-deep (FCast t kind T) n Y = simp (open-deep, atom-deep, close-deep, form-deep t, form-deep T) (omega arith)

  pub forms-deep : (fs : Forms) (n : ℕ) (Y : List Text) → deepest n (forms fs Y) ≡ max (n + heights fs) (deepest n Y)
  forms-deep NoForm n Y = omega (arith, deepest-le n Y)
  forms-deep (OneForm f more) n Y = simp (open-deep, form-deep f, forms-deep more) (omega arith)

  branches-deep : (brs : BranchForms) (n : ℕ) (Y : List Text) → deepest n (branches brs Y) ≡ max (n + branches_height brs) (deepest n Y)
  branches-deep NoBranchForm n Y = omega (arith, deepest-le n Y)
  branches-deep (BranchForm names b more) n Y = simp (open-deep, atom-deep, close-deep, atoms-deep, form-deep b, branches-deep more) (omega arith)

  definitions-deep : {m : ℕ} (ds : Definitions m) (n : ℕ) (Y : List Text) → deepest n (definitions ds Y) ≡ max (n + definitions_height ds) (deepest n Y)
  definitions-deep NoDefinition n Y = omega (arith, deepest-le n Y)
  definitions-deep (Definition na A b k more) n Y = simp (open-deep, atom-deep, close-deep, form-deep A, form-deep b, definitions-deep more) (omega arith)

-- ---- canonical forms are no higher

set-part : (e : LevelExpr) (es : List LevelExpr) (ls : List (List ℕ)) → sort_height (universe_form ls (e ∷ es)) ≤ 2
set-part e es ls =
    let P : Bool → Type 0 = λ b. sort_height (cond b SetForm (TypeForm (part_form ls e) (map (part_form ls) es))) ≤ 2 in
    elim (is_set (e ∷ es)) as P [ true ↦ omega arith | false ↦ omega arith ]

universe-height : (u : List LevelExpr) (ls : List (List ℕ)) → sort_height (universe_form ls u) ≤ 2
universe-height [] ls = omega arith
universe-height (e ∷ es) ls = set-part e es ls

pub sort-height : (ls : List (List ℕ)) (s : SortForm) → place_of (spelling words.Set) ls ≡ 0 → sort_height (sort_form ls (numbered_sort ls (sort_meaning s))) ≤ sort_height s
unfolding sort_meaning
sort-height ls PropForm set = omega arith
sort-height ls SetForm set = rw set (omega arith)
sort-height ls (TypeForm p more) set = universe-height (maximum_of (map (level_part ls) (part_meaning p ∷ map part_meaning more))) ls

module _ (ls : List (List ℕ)) (set : place_of (spelling words.Set) ls ≡ 0) where
  -- by itself, and before arguments that are canonical
  abbrev Lower : Form → Type 0
  Lower f = (height (canon ls f NoForm) ≤ height f) × ((x : Form) (xs : Forms) → height (canon ls f (OneForm x xs)) ≤ max (1 + height f) (max (1 + height x) (heights xs)))

  mutual
    unfolding canon height HasNoCast

    pub lower : (f : Form) → HasNoCast f → Lower f
    lower (FRel n) h = (omega arith, λ x xs. omega arith)
    lower (FSort s) h = (let a = sort-height ls s set in (omega arith, λ x xs. omega arith))
    lower (FProd na A B) h = (let a = (lower A h.0).0 in let b = (lower B h.1).0 in (omega arith, λ x xs. omega arith))
    lower (FLambda na A b) h = (let a = (lower A h.0).0 in let c = (lower b h.1).0 in (omega arith, λ x xs. omega arith))
    lower (FLetIn na b B t) h = (let a = (lower b h.0).0 in let c = (lower B h.1).0 in let d = (lower t h.2).0 in (omega arith, λ x xs. omega arith))
    lower (FApp f a more) h =
        let on_f = (lower f h.0).1 in
        let on_a = (lower a h.1).0 in
        let here = on_f (canon ls a NoForm) (canon_forms ls more NoForm) in
        let rest = lower-forms more h.2 NoForm in
        (omega arith, λ x xs. (let there = on_f (canon ls a NoForm) (canon_forms ls more (OneForm x xs)) in let all = lower-forms more h.2 (OneForm x xs) in omega arith))
    lower (FConst k) h = (omega arith, λ x xs. omega arith)
    lower (FInd k n) h = (omega arith, λ x xs. omega arith)
    lower (FConstruct k n c) h = (omega arith, λ x xs. omega arith)
    lower (FCase k n ps names ret scrut brs) h =
        let a = lower-forms ps h.0 NoForm in
        let b = (lower ret h.1).0 in
        let c = (lower scrut h.2).0 in
        let d = lower-branches brs h.3 in
        let alone : height (canon ls (FCase k n ps names ret scrut brs) NoForm) ≤ height (FCase k n ps names ret scrut brs) =
        max-mono _ _ _ _ (omega arith) (max-mono _ _ _ _ (max-mono 2 _ 2 _ (omega arith) (omega arith)) (max-mono _ _ _ _ (omega arith) d)) in
        (alone, λ x xs. app-mono _ _ _ alone)
    lower (FFix na A b n more i below) h =
        let a = (lower A h.0).0 in
        let c = (lower b h.1).0 in
        let d = lower-definitions more h.2 in
        let alone : height (canon ls (FFix na A b n more i below) NoForm) ≤ height (FFix na A b n more i below) =
        max-mono _ _ _ _ (max-mono _ _ _ _ (omega arith) (omega arith)) (omega arith) in
        (alone, λ x xs. app-mono _ _ _ alone)
    lower (FCast t kind T) h = elim h [ ]

    pub lower-forms : (fs : Forms) → HaveNoCast fs → (args : Forms) → heights (canon_forms ls fs args) ≤ max (heights fs) (heights args)
    lower-forms NoForm h args = omega arith
    lower-forms (OneForm f more) h args = (let a = (lower f h.0).0 in let b = lower-forms more h.1 args in omega arith)

    lower-branches : (brs : BranchForms) → BranchesHaveNoCast brs → branches_height (canon_branches ls brs) ≤ branches_height brs
    lower-branches NoBranchForm h = omega arith
    lower-branches (BranchForm names b more) h = (let a = (lower b h.0).0 in let c = lower-branches more h.1 in omega arith)

    lower-definitions : {m : ℕ} (ds : Definitions m) → DefinitionsHaveNoCast ds → definitions_height (canon_definitions ls ds) ≤ definitions_height ds
    lower-definitions NoDefinition h = omega arith
    lower-definitions (Definition na A b n more) h = (let a = (lower A h.0).0 in let c = (lower b h.1).0 in let d = lower-definitions more h.2 in omega arith)

pub forms-none : heights NoForm ≡ 0
unfolding height
forms-none = refl
