-- Lines that are written item by item, and where a term is cut.
use Rattle.std.proofs.Common.{◌≡◌, ◌∙◌, sym, ap, refl, ℕ, ◌+◌, ◌<◌, ◌≤◌, List, [], ◌∷◌, ◌++◌, length, drop, get_or, Bool, true, if◌then◌else◌, decimal}
use Rattle.std.specs.Prelude.{codes, slice_get}
use Rattle.std.proofs.lemmas.Bool.{lt-ltb}
use Rattle.std.proofs.lemmas.List.{drop_more, drop_all}
use Rattle.dump_reader.specs.declared.environment.RawEnv.{RawEnv}
use Rattle.explanations.specs.Explanation.{constraint_lines, constraint_text, cut_text, line_end, text_line, uses_lines}

pub next_constraint : (e : RawEnv) (xs : List ℕ) (i x : ℕ) → i < length xs →
    constraint_lines e (drop i xs) ≡ text_line (codes "constraint: ") (constraint_text e (slice_get e.constraints (get_or xs i x))) ++ constraint_lines e (drop (i + 1) xs)
unfolding constraint_lines
next_constraint e xs i x l = ap (λ ys. constraint_lines e ys) (drop_more xs i x l)

pub no_constraint : (e : RawEnv) (xs : List ℕ) (i : ℕ) → length xs ≤ i → constraint_lines e (drop i xs) ≡ []
unfolding constraint_lines
no_constraint e xs i l = ap (λ ys. constraint_lines e ys) (drop_all i xs l)

pub next_use : (us : List ℕ) (i n : ℕ) → i < length us →
    uses_lines n (drop i us) ≡ (codes "uses of rule " ++ (decimal n ++ (codes " before: " ++ (decimal (get_or us i 0) ++ line_end)))) ++ uses_lines (n + 1) (drop (i + 1) us)
unfolding uses_lines
next_use us i n l = ap (λ ys. uses_lines n ys) (drop_more us i 0 l)

pub no_use : (us : List ℕ) (i n : ℕ) → length us ≤ i → uses_lines n (drop i us) ≡ []
unfolding uses_lines
no_use us i n l = ap (λ ys. uses_lines n ys) (drop_all i us l)

pub cut_yes : (a w : ℕ) → a < w → codes ", cut at depth " ++ (decimal a ++ (codes " of " ++ decimal w)) ≡ cut_text a w
cut_yes a w h = sym (ap (λ (b : Bool). if b then codes ", cut at depth " ++ (decimal a ++ (codes " of " ++ decimal w)) else []) (lt-ltb a w h))
