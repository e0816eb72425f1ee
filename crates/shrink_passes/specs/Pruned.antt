-- Arguments and leading lambdas dropped all at once, as a table of places tells.
use Rattle.std.specs.Prelude.{ℕ, zero, suc, ◌+◌, Bool, false, if◌then◌else◌, List, [], ◌∷◌, Option, Some, None}
use Rattle.trees.specs.Tree.{Rel, Done, Next}
use Rattle.trees.specs.Parallel.{first, over, substitute}
use Rattle.box_terms.specs.BoxSyntax.{BoxTerm, BoxTerms, Box, BLambda, BLetIn, BApp, BConst, BConstruct, BCase, BFix}
use Rattle.lambda_box.specs.BoxProgram.{BoxConstant}
use Rattle.shrink_passes.specs.declared.noting.Use.{Use}
use Rattle.shrink_passes.specs.DeadPlaces.{spine}

-- whether the next argument of a head is dropped
abbrev pub is_dropped : (ℕ → ℕ → Bool) → Option Use → Bool
is_dropped D None = false
is_dropped D (Some u) = D u.name.0 u.arguments

-- a term without the arguments at the places
abbrev mutual
  pub pruned : (ℕ → ℕ → Bool) → BoxTerm → BoxTerm
  pruned D (Rel i) = Rel i
  pruned D Box = Box
  pruned D (BLambda b) = BLambda (pruned D b)
  pruned D (BLetIn a t) = BLetIn (pruned D a) (pruned D t)
  pruned D (BApp f a) = if is_dropped D (spine f) then pruned D f else BApp (pruned D f) (pruned D a)
  pruned D (BConst c) = BConst c
  pruned D (BConstruct f c) = BConstruct f c
  pruned D (BCase f s bs) = BCase f (pruned D s) (pruned_terms D bs)
  pruned D (BFix i rargs bodies) = BFix i rargs (pruned_terms D bodies)

  pub pruned_terms : (ℕ → ℕ → Bool) → BoxTerms → BoxTerms
  pruned_terms D Done = Done
  pruned_terms D (Next n t ts) = Next n (pruned D t) (pruned_terms D ts)

-- a term without the leading lambdas at the places, of which p stand before these; s is what became of the variables so far
abbrev pub unwrapped : (ℕ → Bool) → ℕ → (ℕ → BoxTerm) → BoxTerm → BoxTerm
unwrapped D p s (BLambda b) = if D p then unwrapped D (suc p) (first Box s) b else BLambda (unwrapped D (suc p) (over s) b)
unwrapped D p s t = substitute s t

-- a constant without its parameters and the arguments at the places
abbrev pub pruned_constant : (ℕ → ℕ → Bool) → BoxConstant → BoxConstant
pruned_constant D d = record { name = d.name; body = unwrapped (D d.name.0) 0 Rel (pruned D d.body) }

-- how many of n places from p on aren't dropped, and what stands for their variables, the last one for the innermost
abbrev pub kept : (ℕ → Bool) → ℕ → ℕ → ℕ
kept D p zero = 0
kept D p (suc n) = (if D p then 0 else 1) + kept D (suc p) n

abbrev pub variables : (ℕ → Bool) → ℕ → ℕ → List BoxTerm
variables D p zero = []
variables D p (suc n) = (if D p then Box else Rel (kept D (suc p) n)) ∷ variables D (suc p) n

-- n leading lambdas from place p on, without those at the places, round the term inside, in which s stands for all variables
abbrev pub wrapped : (ℕ → Bool) → ℕ → ℕ → (ℕ → BoxTerm) → BoxTerm → BoxTerm
wrapped D p zero s t = substitute s t
wrapped D p (suc n) s (BLambda b) = if D p then wrapped D (suc p) n s b else BLambda (wrapped D (suc p) n s b)
wrapped D p (suc n) s t = substitute s t
