-- Terms applied to lists of arguments.
use Rattle.std.specs.List.{All}
use Rattle.std.proofs.Common.{map, ◌≡◌, ℕ, zero, suc, List, [], ◌∷◌, refl, ap, ◌∙◌, arith}
use Rattle.std.proofs.lemmas.List.Elements.{All-append, All-nil}
use Rattle.trees.specs.Substitution.{walk}
use Rattle.pc_terms.specs.Syntax as s
use Rattle.pc_terms.specs.Formed.{IsFormed}
use Rattle.pc_terms.proofs.Applied.{apply-append}

pub spine-whole : (t : s.Term) → s.apply (s.head t) (s.args t) ≡ t
spine-whole (s.App f a) = apply-append (s.head f) (s.args f) (a ∷ []) ∙ ap (λ g. s.App g a) (spine-whole f)
spine-whole _ = refl

pub walk-apply : (g : ℕ → ℕ → s.Term) (k : ℕ) (f : s.Term) (xs : List s.Term) → walk g k (s.apply f xs) ≡ s.apply (walk g k f) (map (walk g k) xs)
walk-apply g k f [] = refl
walk-apply g k f (x ∷ xs) = walk-apply g k (s.App f x) xs

pub apply-formed : (f : s.Term) (xs : List s.Term) → IsFormed f → All IsFormed xs → IsFormed (s.apply f xs)
apply-formed f [] h k = h
apply-formed f (x ∷ xs) h k = apply-formed (s.App f x) xs ((tt, tt), (h, (k 0 x (omega arith), tt))) (λ i o l. k (suc i) o (omega (arith, l)))

pub head-formed : (t : s.Term) → IsFormed t → IsFormed (s.head t)
head-formed (s.App f a) h = head-formed f h.1.0
head-formed t h = h

one-formed : (t : s.Term) → IsFormed t → All IsFormed (t ∷ [])
one-formed t h zero o l = h
one-formed t h (suc i) o l = absurd (omega (arith, l))

pub args-formed : (t : s.Term) → IsFormed t → All IsFormed (s.args t)
args-formed (s.App f a) h = All-append IsFormed (s.args f) (a ∷ []) (args-formed f h.1.0) (one-formed a h.1.1.0)
args-formed t h = All-nil IsFormed
