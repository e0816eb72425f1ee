-- The greatest number of binders that a lambda of a program after erasure is under: one for each variable of a lambda, of a let, of a branch or of a fixpoint that is bound outside it.
use Rattle.std.specs.Prelude.{ℕ, suc, ◌+◌, max, List, [], ◌∷◌}
use Rattle.trees.specs.Tree.{Rel, Done, Next}
use Rattle.box_terms.specs.BoxSyntax.{BoxTerm, BoxTerms, Box, BLambda, BLetIn, BApp, BConst, BConstruct, BCase, BFix}
use Rattle.lambda_box.specs.BoxProgram.{BoxConstant, BoxProgram}

-- of a term under d binders; 0 where it has no lambda
abbrev mutual
  pub lambda_binders : ℕ → BoxTerm → ℕ
  lambda_binders d (Rel i) = 0
  lambda_binders d Box = 0
  lambda_binders d (BLambda b) = max d (lambda_binders (suc d) b)
  lambda_binders d (BLetIn a b) = max (lambda_binders d a) (lambda_binders (suc d) b)
  lambda_binders d (BApp f a) = max (lambda_binders d f) (lambda_binders d a)
  lambda_binders d (BConst k) = 0
  lambda_binders d (BConstruct f c) = 0
  lambda_binders d (BCase f s bs) = max (lambda_binders d s) (lambda_binders_terms d bs)
  lambda_binders d (BFix i rargs bodies) = lambda_binders_terms d bodies

  -- each term of the list stands under as many more as it binds
  pub lambda_binders_terms : ℕ → BoxTerms → ℕ
  lambda_binders_terms d Done = 0
  lambda_binders_terms d (Next n t ts) = max (lambda_binders (n + d) t) (lambda_binders_terms d ts)

abbrev pub constants_binders : List BoxConstant → ℕ
constants_binders [] = 0
constants_binders (c ∷ cs) = max (lambda_binders 0 c.body) (constants_binders cs)

-- of main and of all constants
abbrev pub program_binders : BoxProgram → ℕ
program_binders P = max (lambda_binders 0 P.main) (constants_binders P.constants)
