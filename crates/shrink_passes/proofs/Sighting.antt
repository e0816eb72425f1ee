-- What the walk notes of a constant says how many uses it has, and how many nodes stand above the only one.
use Rattle.std.proofs.Common.{◌≡◌, ℕ, ◌+◌, ◌≤◌, max, Bool, true, false, Option, Some, None, refl, arith}
use Rattle.std.specs.Prelude.{nat_eq, if◌then◌else◌}
use Rattle.trees.specs.Tree.{Rel, Done, Next}
use Rattle.box_terms.specs.BoxSyntax.{BoxTerm, BoxTerms, Box, BLambda, BLetIn, BApp, BConst, BConstruct, BCase, BFix}
use Rattle.shrink_passes.specs.declared.counting.Sight.{Sight}
use Rattle.shrink_passes.specs.declared.counting.Sight.TheVariants.{Once, Often}
use Rattle.shrink_passes.specs.Uses.{uses, uses_terms}
use Rattle.shrink_passes.specs.Sights.{seen, sight, sight_terms}
use Rattle.shrink_passes.proofs.Putting.{level, levels}

-- u uses, and at most l nodes above each
abbrev pub Shows : Option Sight → ℕ → ℕ → Type 0
Shows None u l = (u ≡ 0) × (l ≡ 0)
Shows (Some (Once x)) u l = (u ≡ 1) × (x ≡ l)
Shows (Some Often) u l = 2 ≤ u

seen_shows : (n : ℕ) (s : Option Sight) (u l u' l' : ℕ) → Shows s u l → u' ≡ u + 1 → l' ≡ max l n → Shows (seen n s) u' l'
seen_shows n None u l u' l' h p q = (omega (arith, h.0), omega (arith, h.1))
seen_shows n (Some (Once x)) u l u' l' h p q = omega (arith, h.0)
seen_shows n (Some Often) u l u' l' h p q = omega arith

pub looser : (s : Option Sight) (u l u' l' : ℕ) → Shows s u l → u' ≡ u → l' ≡ l → Shows s u' l'
looser None u l u' l' h p q = (omega (arith, h.0), omega (arith, h.1))
looser (Some (Once x)) u l u' l' h p q = (omega (arith, h.0), omega (arith, h.1))
looser (Some Often) u l u' l' h p q = omega arith

module _ (k : ℕ) where
  mutual
    pub sight_shows : (n : ℕ) (t : BoxTerm) (s : Option Sight) (u l u' l' : ℕ) → Shows s u l → u' ≡ u + uses k t → l' ≡ max l (level k n t) → Shows (sight k n t s) u' l'
    sight_shows n (Rel i) s u l u' l' h p q = looser s u l u' l' h (omega arith) (omega arith)
    sight_shows n Box s u l u' l' h p q = looser s u l u' l' h (omega arith) (omega arith)
    sight_shows n (BLambda t) s u l u' l' h p q = sight_shows (n + 1) t s u l u' l' h p q
    sight_shows n (BLetIn a t) s u l u' l' h p q =
        sight_shows (n + 1) t (sight k (n + 1) a s) (u + uses k a) (max l (level k (n + 1) a)) u' l' (sight_shows (n + 1) a s u l (u + uses k a) (max l (level k (n + 1) a)) h refl refl) (omega arith) (omega arith)
    sight_shows n (BApp f a) s u l u' l' h p q =
        sight_shows (n + 1) a (sight k (n + 1) f s) (u + uses k f) (max l (level k (n + 1) f)) u' l' (sight_shows (n + 1) f s u l (u + uses k f) (max l (level k (n + 1) f)) h refl refl) (omega arith) (omega arith)
    sight_shows n (BConst c) s u l u' l' h p q = either (nat_eq c.0 k) p q
      where
        either : (z : Bool) → u' ≡ u + (if◌then◌else◌ {A = ℕ} z 1 0) → l' ≡ max l (if◌then◌else◌ {A = ℕ} z n 0) → Shows (if z then seen n s else s) u' l'
        either true p q = seen_shows n s u l u' l' h p q
        either false p q = looser s u l u' l' h (omega arith) (omega arith)
    sight_shows n (BConstruct f c) s u l u' l' h p q = looser s u l u' l' h (omega arith) (omega arith)
    sight_shows n (BCase f t bs) s u l u' l' h p q =
        sight_shows_terms (n + 1) bs (sight k (n + 1) t s) (u + uses k t) (max l (level k (n + 1) t)) u' l' (sight_shows (n + 1) t s u l (u + uses k t) (max l (level k (n + 1) t)) h refl refl) (omega arith) (omega arith)
    sight_shows n (BFix i rargs bodies) s u l u' l' h p q = sight_shows_terms (n + 1) bodies s u l u' l' h p q

    pub sight_shows_terms : (n : ℕ) (ts : BoxTerms) (s : Option Sight) (u l u' l' : ℕ) → Shows s u l → u' ≡ u + uses_terms k ts → l' ≡ max l (levels k n ts) → Shows (sight_terms k n ts s) u' l'
    sight_shows_terms n Done s u l u' l' h p q = looser s u l u' l' h (omega arith) (omega arith)
    sight_shows_terms n (Next m t ts) s u l u' l' h p q =
        sight_shows_terms n ts (sight k n t s) (u + uses k t) (max l (level k n t)) u' l' (sight_shows n t s u l (u + uses k t) (max l (level k n t)) h refl refl) (omega arith) (omega arith)
