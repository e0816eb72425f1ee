-- The tables of words, in both directions.
use Rattle.std.proofs.Common.{◌≡◌, ℕ, List, [], ◌∷◌, Some, Bool, true, false, cond, refl, sym, ap, ◌∙◌}
use Rattle.std.specs.Prelude.{bytes_eq}
use Rattle.std.specs.Cmp.Lexicographic.{nat_list_eq_equiv, same_text}
use Rattle.dump_grammar.specs.Keywords.{spelling}
use Rattle.dump_grammar.specs.declared.keyword.Keyword.{Keyword}
use Rattle.dump_grammar.specs.declared.keyword.Keyword.TheVariants as words
use Rattle.dump_grammar.specs.declared.keyword.Former.{Former}
use Rattle.dump_grammar.specs.declared.keyword.Former.TheVariants as formers
use Rattle.dump_grammar.specs.declared.keyword.Opening.{Opening}
use Rattle.dump_grammar.specs.declared.keyword.Opening.TheVariants as openings
use Rattle.dump_grammar.specs.Named.{NamedComparison, Less, AtMost, Equal}
use Rattle.dump_grammar.specs.Environments.{word_of_comparison}
use Rattle.dump_grammar.specs.Words.{find, former_words, former_of, comparison_words, comparison_of, opening_words, opening_of}

abbrev pub word_of_former : Former → Keyword
word_of_former formers.Rel = words.Rel
word_of_former formers.Sort = words.TermSort
word_of_former formers.Prod = words.Prod
word_of_former formers.Lambda = words.Lambda
word_of_former formers.LetIn = words.LetIn
word_of_former formers.App = words.App
word_of_former formers.Const = words.Const
word_of_former formers.Ind = words.Ind
word_of_former formers.Construct = words.Construct
word_of_former formers.Case = words.Case
word_of_former formers.Fix = words.Fix
word_of_former formers.Cast = words.Cast

abbrev pub word_of_opening : Opening → Keyword
word_of_opening openings.Constant = words.ConstantDecl
word_of_opening openings.Block = words.InductiveDecl
word_of_opening openings.Main = words.Main

pub word-is : (w : Keyword) → bytes_eq (spelling w) (spelling w) ≡ true
word-is w = nat_list_eq_equiv.refl (spelling w)

pub same_bytes : (a b : List ℕ) → bytes_eq a b ≡ true → a ≡ b
same_bytes a b e = same_text a b (sym e)

pub former-is : (f : Former) → former_of (spelling (word_of_former f)) ≡ Some f
unfolding former_of spelling
former-is formers.Rel = refl
former-is formers.Sort = refl
former-is formers.Prod = refl
former-is formers.Lambda = refl
former-is formers.LetIn = refl
former-is formers.App = refl
former-is formers.Const = refl
former-is formers.Ind = refl
former-is formers.Construct = refl
former-is formers.Case = refl
former-is formers.Fix = refl
former-is formers.Cast = refl

pub comparison-is : (c : NamedComparison) → comparison_of (spelling (word_of_comparison c)) ≡ Some c
unfolding comparison_of spelling
comparison-is Less = refl
comparison-is AtMost = refl
comparison-is Equal = refl

pub opening-is : (o : Opening) → opening_of (spelling (word_of_opening o)) ≡ Some o
unfolding opening_of spelling
opening-is openings.Constant = refl
opening-is openings.Block = refl
opening-is openings.Main = refl

pub set-isn't-prop : bytes_eq (spelling words.Set) (spelling words.Prop) ≡ false
unfolding spelling
set-isn't-prop = refl

-- ---- what is found stands in a row

abbrev Rows : {X : Type 0} → (X → Keyword) → List (Keyword × X) → Type 0
Rows f [] = Unit {0}
Rows f (row ∷ rows) = (row.0 ≡ f row.1) × Rows f rows

found : {X : Type 0} (f : X → Keyword) (rows : List (Keyword × X)) (a : List ℕ) (x : X) → Rows f rows → find a rows ≡ Some x → a ≡ spelling (f x)
found f [] a x h e = absurd cc
found {X = X} f (row ∷ rows) a x h e =
    let P : Bool → Type 0 = λ b. bytes_eq a (spelling row.0) ≡ b → cond b (Some row.1) (find a rows) ≡ Some x → a ≡ spelling (f x) in
    let on : (b : Bool) → P b = λ b. elim b as P [
      | true ↦ λ at e. (let same : row.1 ≡ x = cc in same_bytes a (spelling row.0) at ∙ ap spelling (h.0 ∙ ap f same))
      | false ↦ λ at e. found f rows a x h.1 e
    ] in
    on (bytes_eq a (spelling row.0)) refl e

pub former-found : (a : List ℕ) (f : Former) → former_of a ≡ Some f → a ≡ spelling (word_of_former f)
unfolding former_of
former-found a f e = found word_of_former former_words a f (refl, (refl, (refl, (refl, (refl, (refl, (refl, (refl, (refl, (refl, (refl, (refl, tt)))))))))))) e

pub comparison-found : (a : List ℕ) (c : NamedComparison) → comparison_of a ≡ Some c → a ≡ spelling (word_of_comparison c)
unfolding comparison_of
comparison-found a c e = found word_of_comparison comparison_words a c (refl, (refl, (refl, tt))) e

pub opening-found : (a : List ℕ) (o : Opening) → opening_of a ≡ Some o → a ≡ spelling (word_of_opening o)
unfolding opening_of
opening-found a o e = found word_of_opening opening_words a o (refl, (refl, (refl, tt))) e
