-- Levels that were listed before.
use Rattle.std.proofs.Common.{◌≡◌, ℕ, suc, ◌+◌, ◌<◌, ◌==◌, ◌||◌, not, Bool, true, false, cond, if◌then◌else◌, List, [], ◌∷◌, drop, drop-cons, get_or, length, Some, refl, sym, ap, ◌∙◌, add-one, arith}
use Rattle.std.proofs.lemmas.Bool.{not-true, not-false}
use Rattle.std.proofs.lemmas.Bool.Decides.{nat_tests}
use Rattle.universe_levels.specs.declared.level.Level.{Level}
use Rattle.pc_rules.specs.DirectedDeclarations.{has_level, first_repeated}

-- a level of this number is among them
abbrev pub is_listed : ℕ → List Level → Bool
is_listed q [] = false
is_listed q (m ∷ ms) = (m.0 == q) || is_listed q ms

either_way : (m n : ℕ) → (m == n) ≡ (n == m)
either_way m n = grind (arith, nat_tests)

listed_is : (l : Level) (ls : List Level) → has_level l ls ≡ is_listed l.0 ls
listed_is l [] = refl
listed_is l (m ∷ ms) = ap (λ b. b || has_level l ms) (either_way l.0 m.0) ∙ ap (λ b. (m.0 == l.0) || b) (listed_is l ms)

pub listed_more : (q : ℕ) (l : Level) (ls : List Level) (b : Bool) → b ≡ is_listed q ls → cond (l.0 == q) true b ≡ is_listed q (l ∷ ls)
listed_more q l ls b h = either (l.0 == q) h where
  either : (c : Bool) → b ≡ is_listed q ls → cond c true b ≡ c || is_listed q ls
  either true h = refl
  either false h = h

-- the next level is new, or it is the first that is repeated

repeated_next : (b : Bool) (i : ℕ) (before : List Level) (l : Level) (ls : List Level) → b ≡ false →
    (if b then Some (i, l) else first_repeated (suc i) (l ∷ before) ls) ≡ first_repeated (suc i) (l ∷ before) ls
repeated_next true i before l ls h = absurd (cc)
repeated_next false i before l ls h = refl

new_level : (i : ℕ) (before : List Level) (l : Level) (ls : List Level) → has_level l before ≡ false →
    first_repeated i before (l ∷ ls) ≡ first_repeated (suc i) (l ∷ before) ls
new_level i before l ls h = repeated_next (has_level l before) i before l ls h

-- level i is new, so the first repeated one is sought among the later ones
pub new_at : (levels before : List Level) (i : ℕ) (d : Level) (b : Bool) → i < length levels → not b ≡ true → b ≡ is_listed (get_or levels i d).0 before →
    first_repeated i before (drop i levels) ≡ first_repeated (i + 1) (get_or levels i d ∷ before) (drop (i + 1) levels)
new_at levels before i d b within added is =
    let l : Level = get_or levels i d in
    rw (add-one, drop-cons levels i d within) (new_level i before l (drop (suc i) levels) (listed_is l before ∙ sym is ∙ not-true b added))

-- level i was listed before, so it is the first repeated one

repeated_here : (b : Bool) (i : ℕ) (before : List Level) (l : Level) (ls : List Level) → b ≡ true →
    (if b then Some (i, l) else first_repeated (suc i) (l ∷ before) ls) ≡ Some (i, l)
repeated_here true i before l ls h = refl
repeated_here false i before l ls h = absurd (cc)

pub repeated_at : (levels before : List Level) (i : ℕ) (d : Level) (b : Bool) → i < length levels → not b ≡ false → b ≡ is_listed (get_or levels i d).0 before →
    first_repeated i before (drop i levels) ≡ Some (i, get_or levels i d)
repeated_at levels before i d b within added is =
    let l : Level = get_or levels i d in
    rw (drop-cons levels i d within) (repeated_here (has_level l before) i before l (drop (suc i) levels) (listed_is l before ∙ sym is ∙ not-false b added))
