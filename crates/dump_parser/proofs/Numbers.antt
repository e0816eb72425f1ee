-- The limits of numbers.
use Rattle.std.proofs.Common.{◌≡◌, ℕ, ◌<◌, ◌≤◌, List, ◌∷◌, length, map, Some, None, Bool, true, false, ◌||◌, refl, arith}
use Rattle.std.specs.Prelude.{nat_eq}
use Rattle.std.proofs.lemmas.Bool.{le-leb, lt-leb, lt-ltb, le-ltb, ne_eqb}
use Rattle.std.proofs.lemmas.List.{length-map}
use Rattle.dump_grammar.specs.Table.{Value, VDefs, is_index}
use Rattle.dump_parser.specs.declared.tree.Def.{Def}
use Rattle.dump_parser.specs.Tree.{named_def}
use Rattle.dump_grammar.specs.declared.refusal.Limit.TheVariants as limits
use Rattle.dump_grammar.specs.Limits.{number_over, add_over}

pub number-fits : (n : ℕ) → n ≤ 4294967295 → number_over n ≡ None
unfolding number_over
number-fits n h = rw (le-leb n 4294967295 h) refl

pub number-great : (n : ℕ) → 4294967295 < n → number_over n ≡ Some limits.Number
unfolding number_over
number-great n h = rw (lt-leb n 4294967295 h) refl

pub add-fits : (n : ℕ) → n ≤ 1000 → add_over n ≡ None
unfolding number_over add_over
add-fits n h = rw (le-leb n 4294967295 (omega (arith, h)), le-leb n 1000 h) refl

pub add-great : (n : ℕ) → 4294967295 < n → add_over n ≡ Some limits.Number
unfolding number_over add_over
add-great n h = rw (lt-leb n 4294967295 h) refl

pub add-over : (n : ℕ) → n ≤ 4294967295 → 1000 < n → add_over n ≡ Some limits.LevelAdd
unfolding number_over add_over
add-over n fits h = rw (le-leb n 4294967295 fits, lt-leb n 1000 h) refl

pub ruleset number_limits = (number-fits, number-great, add-fits, add-great, add-over)

-- ---- the index of a fixpoint

or-true : (b : Bool) → (b || true) ≡ true
or-true true = refl
or-true false = refl

pub index-below : (n : ℕ) (ds : List Def) (vs : List Value) → n < length ds → is_index n (VDefs (map named_def ds) ∷ vs) ≡ true
index-below n ds vs h =
    let same : length (map named_def ds) ≡ length ds = length-map ds named_def in
    rw (lt-ltb n (length (map named_def ds)) (omega (arith, h, same))) (or-true (nat_eq n 0))

pub index-above : (n : ℕ) (ds : List Def) (vs : List Value) → 0 < length ds → length ds ≤ n → is_index n (VDefs (map named_def ds) ∷ vs) ≡ false
index-above n ds vs some h =
    let same : length (map named_def ds) ≡ length ds = length-map ds named_def in
    rw (le-ltb n (length (map named_def ds)) (omega (arith, h, same)), ne_eqb n 0 (λ e. omega (arith, some, h, e))) refl

pub ruleset index_limits = (index-below, index-above)
