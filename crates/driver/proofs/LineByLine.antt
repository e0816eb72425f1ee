-- The lines of reports, one by one.
use Rattle.std.proofs.Common.{◌≡◌, ℕ, zero, suc, ◌<◌, List, [], ◌∷◌, ◌++◌, map, length, take, drop, get_or, append_assoc, refl, sym, ap, ◌∙◌, arith}
use Rattle.std.specs.Prelude.{min}
use Rattle.std.proofs.lemmas.List.{append-nil}
use Rattle.reports.specs.Counting.{after_all, last}
use Rattle.reports.specs.Shown.{Shown}
use Rattle.reports.specs.declared.fact.Fact.{Fact}
use Rattle.module_run.specs.RunFacts.{AreTold}
use Rattle.driver.specs.ReportLines.{line, line_of, lines, told_lines}

-- the lines of reports that are told facts
pub lines_told : {X : Type 0} (shown : X → Shown) (facts : List Fact) (old new : List X) → AreTold shown facts old new → lines (map shown new) ≡ told_lines facts (map shown old)
lines_told shown facts [] [] t = refl
lines_told shown facts [] (y ∷ ys) t = absurd t
lines_told shown facts (x ∷ xs) [] t = absurd t
lines_told shown facts (x ∷ xs) (y ∷ ys) t =
    ap (λ l. l ++ lines (map shown ys)) (ap (λ n. line n (min (shown y).counted last)) (t.0).named ∙ ap (λ n. line (shown x).named n) (t.0).counted)
    ∙ ap (λ l. line (shown x).named (after_all (shown x).wanted facts (shown x).counted) ++ l) (lines_told shown facts xs ys t.1)

lines_next : {X : Type 0} (shown : X → Shown) (xs : List X) (i : ℕ) (x : X) → i < length xs → x ≡ get_or xs i x → lines (map shown (take i xs)) ++ line_of (shown x) ≡ lines (map shown (take (suc i) xs))
lines_next shown [] i x lt is = absurd (omega (arith, lt))
lines_next shown (y ∷ ys) zero x lt is = ap (λ z. line_of (shown z)) is ∙ sym (append-nil (line_of (shown y)))
lines_next shown (y ∷ ys) (suc i) x lt is =
    append_assoc (line_of (shown y)) (lines (map shown (take i ys))) (line_of (shown x)) ∙ ap (λ l. line_of (shown y) ++ l) (lines_next shown ys i x (omega (arith, lt)) is)

-- the lines of the first reports, and of one more
pub lines_more : {X : Type 0} (shown : X → Shown) (xs : List X) (i j : ℕ) (x : X) → i < length xs → x ≡ get_or xs i x → j ≡ suc i → lines (map shown (take i xs)) ++ line_of (shown x) ≡ lines (map shown (take j xs))
lines_more shown xs i j x lt is next = lines_next shown xs i x lt is ∙ ap (λ k. lines (map shown (take k xs))) (sym next)

-- and those of the others
pub lines_split : {X : Type 0} (shown : X → Shown) (xs : List X) (i : ℕ) (x : X) → i < length xs → x ≡ get_or xs i x →
    lines (map shown (take i xs)) ++ (line_of (shown x) ++ lines (map shown (drop (suc i) xs))) ≡ lines (map shown xs)
lines_split shown [] i x lt is = absurd (omega (arith, lt))
lines_split shown (y ∷ ys) zero x lt is = ap (λ z. line_of (shown z) ++ lines (map shown ys)) is
lines_split shown (y ∷ ys) (suc i) x lt is =
    append_assoc (line_of (shown y)) (lines (map shown (take i ys))) (line_of (shown x) ++ lines (map shown (drop (suc i) ys))) ∙ ap (λ l. line_of (shown y) ++ l) (lines_split shown ys i x (omega (arith, lt)) is)

-- only no report has no line
pub no_lines : {X : Type 0} (shown : X → Shown) (xs : List X) → lines (map shown xs) ≡ [] → xs ≡ []
no_lines shown [] e = refl
no_lines shown (x ∷ xs) e = absurd cc
