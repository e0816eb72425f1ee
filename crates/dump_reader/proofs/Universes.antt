-- What is made of a sort, from what is made of its parts.
use Rattle.std.proofs.Common.{◌≡◌, ◌≢◌, ℕ, zero, suc, ◌+◌, ◌<◌, List, [], ◌∷◌, ◌++◌, map, length, take, get_or, refl, sym, ap, subst, ◌∙◌, arith}
use Rattle.std.proofs.lemmas.List.{take_more}
use Rattle.universe_levels.specs.declared.level.Level.{Level}
use Rattle.universe_levels.specs.declared.level.LevelExpr.{LevelExpr}
use Rattle.universe_levels.specs.declared.sort.Sort.TheVariants as sorts
use Rattle.universe_levels.specs.Maximum.{maximum_of}
use Rattle.dump_grammar.specs.Named.{NamedSort, AType}
use Rattle.dump_grammar.specs.Uses.{levels_of_sort, level_of_part, each}
use Rattle.dump_parser.specs.declared.tree.LevelPart.{LevelPart}
use Rattle.dump_parser.specs.Tree.{part_of}
use Rattle.dump_reader.specs.declared.numbering.Tables.{Tables}
use Rattle.dump_reader.specs.Numbered.{level_number, level_part, numbered_sort}
use Rattle.dump_reader.specs.Growth.{unused, Numbers}
use Rattle.dump_reader.specs.Made.{NumbersEach, part_names, part_levels, numbered_part}
use Rattle.dump_reader.proofs.Growth.{on, restated, none-yet, one-more}

pub same-item : {X : Type 0} (xs : List X) (i : ℕ) (d e : X) → i < length xs → get_or xs i d ≡ get_or xs i e
same-item [] i d e h = absurd (omega arith)
same-item (x ∷ xs) zero d e h = refl
same-item (x ∷ xs) (suc i) d e h = same-item xs i d e (omega arith)

pub expression-made : (p : LevelPart) (l : Level) {old new : Tables} → Numbers unused (λ after. p.level.now ∷ after) (λ ns ls. level_number ls p.level.now) old new l
    → Numbers (part_names p) (part_levels p) (λ ns ls. numbered_part ns ls p) old new (record { level = l; add = p.add })
expression-made p l made = restated (on made (λ m. record { level = m; add = p.add })) (λ after. refl) (λ after. refl) (λ ns ls. refl) refl

pub first-part : (p : LevelPart) (zs : List LevelExpr) (e : LevelExpr) {old new : Tables} → zs ≡ e ∷ [] → Numbers (part_names p) (part_levels p) (λ ns ls. numbered_part ns ls p) old new e
    → NumbersEach part_names part_levels numbered_part (p ∷ []) old new zs
first-part p zs e {old} {new} put one =
    subst (λ (z : List LevelExpr). NumbersEach part_names part_levels numbered_part (p ∷ []) old new z) (sym put)
    (one-more part_names part_levels numbered_part [] p [] e (none-yet part_names part_levels numbered_part old) one)

-- a further part, at an item that a loop has read
pub next-part : (p : LevelPart) (ps : List LevelPart) (i : ℕ) (d : LevelPart) (ys zs : List LevelExpr) (e : LevelExpr) {old mid new : Tables} → i < length ps → zs ≡ ys ++ e ∷ []
    → NumbersEach part_names part_levels numbered_part (p ∷ take i ps) old mid ys → Numbers (part_names (get_or ps i d)) (part_levels (get_or ps i d)) (λ ns ls. numbered_part ns ls (get_or ps i d)) mid new e
    → NumbersEach part_names part_levels numbered_part (p ∷ take (i + 1) ps) old new zs
next-part p ps i d ys zs e {old} {mid} {new} within put made one =
    let q : LevelPart = get_or ps i d in
    let longer : take (i + 1) ps ≡ take i ps ++ q ∷ [] = take_more ps i d within in
    subst (λ (z : List LevelExpr). NumbersEach part_names part_levels numbered_part (p ∷ take (i + 1) ps) old new z) (sym put)
    (subst (λ (z : List LevelPart). NumbersEach part_names part_levels numbered_part (p ∷ z) old new (ys ++ e ∷ [])) (sym longer) (one-more part_names part_levels numbered_part (p ∷ take i ps) q ys e made one))

not-empty : {X : Type 0} (x : X) (xs ys : List X) → ys ≡ x ∷ xs → ys ≢ []
not-empty x xs ys e = λ f. cc

-- what is made of a first part and of further ones is not empty
pub some-made : (p : LevelPart) (ps : List LevelPart) (xs : List LevelExpr) {old new : Tables} → NumbersEach part_names part_levels numbered_part (p ∷ ps) old new xs → xs ≢ []
some-made p ps xs made = not-empty _ _ xs (made.is_value [] [])

no-names : (ps : List LevelPart) (after : List (List ℕ)) → after ≡ each part_names ps after
unfolding each
no-names [] after = refl
no-names (p ∷ ps) after = no-names ps after

sort-levels : (ps : List LevelPart) (after : List (List ℕ)) → each level_of_part (map part_of ps) after ≡ each part_levels ps after
unfolding each
sort-levels [] after = refl
sort-levels (p ∷ ps) after = ap (λ more. p.level.now ∷ more) (sort-levels ps after)

part-values : (ns ls : List (List ℕ)) (ps : List LevelPart) → map (numbered_part ns ls) ps ≡ map (level_part ls) (map part_of ps)
part-values ns ls [] = refl
part-values ns ls (p ∷ ps) = ap (λ (more : List LevelExpr). numbered_part ns ls p ∷ more) (part-values ns ls ps)

pub sort-made : (s : NamedSort) (ps us : List LevelPart) (xs ys u : List LevelExpr) {old new : Tables} → s ≡ AType (map part_of ps) → us ≡ ps → ys ≡ xs → u ≡ maximum_of ys
    → NumbersEach part_names part_levels numbered_part us old new xs → Numbers unused (levels_of_sort s) (λ ns ls. numbered_sort ls s) old new (sorts.Of u)
sort-made s ps us xs ys u {old} {new} e f g h p =
    let same : s ≡ AType (map part_of us) = e ∙ ap (λ (z : List LevelPart). AType (map part_of z)) (sym f) in
    let made : Numbers unused (levels_of_sort (AType (map part_of us))) (λ ns ls. numbered_sort ls (AType (map part_of us))) old new (sorts.Of u) =
    restated (on p (λ (z : List LevelExpr). sorts.Of (maximum_of z))) (no-names us) (sort-levels us) (λ ns ls. ap (λ (z : List LevelExpr). sorts.Of (maximum_of z)) (part-values ns ls us))
    (ap sorts.Of (h ∙ ap maximum_of g)) in
    subst (λ (z : NamedSort). Numbers unused (levels_of_sort z) (λ ns ls. numbered_sort ls z) old new (sorts.Of u)) (sym same) made
