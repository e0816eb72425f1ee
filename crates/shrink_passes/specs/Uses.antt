-- How often constants are named, and how deep terms are, in a program after erasure.
use Rattle.std.specs.Prelude.{ℕ, ◌+◌, max, nat_eq, if◌then◌else◌, List, [], ◌∷◌}
use Rattle.trees.specs.Tree.{Rel, Done, Next}
use Rattle.trees.specs.Measures.{depth}
use Rattle.box_terms.specs.BoxSyntax.{BoxTerm, BoxTerms, Box, BLambda, BLetIn, BApp, BConst, BConstruct, BCase, BFix}
use Rattle.lambda_box.specs.BoxProgram.{BoxConstant, BoxProgram}

-- how often a term names constant k
abbrev mutual
  pub uses : ℕ → BoxTerm → ℕ
  uses k (Rel i) = 0
  uses k Box = 0
  uses k (BLambda b) = uses k b
  uses k (BLetIn b t) = uses k b + uses k t
  uses k (BApp f a) = uses k f + uses k a
  uses k (BConst c) = if nat_eq c.0 k then 1 else 0
  uses k (BConstruct f c) = 0
  uses k (BCase f s bs) = uses k s + uses_terms k bs
  uses k (BFix i rargs bodies) = uses_terms k bodies

  pub uses_terms : ℕ → BoxTerms → ℕ
  uses_terms k Done = 0
  uses_terms k (Next n t ts) = uses k t + uses_terms k ts

-- the sum of a measure of all constants' bodies, and its greatest value
abbrev pub total : (BoxTerm → ℕ) → List BoxConstant → ℕ
total h [] = 0
total h (d ∷ ds) = h d.body + total h ds

abbrev pub greatest : (BoxTerm → ℕ) → List BoxConstant → ℕ
greatest h [] = 0
greatest h (d ∷ ds) = max (h d.body) (greatest h ds)

-- how often a program names constant k
abbrev pub uses_program : ℕ → BoxProgram → ℕ
uses_program k P = total (uses k) P.constants + uses k P.main

-- the greatest depth among the constants' bodies and main
abbrev pub deepest : BoxProgram → ℕ
deepest P = max (greatest depth P.constants) (depth P.main)
