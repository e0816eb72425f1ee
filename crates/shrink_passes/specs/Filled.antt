-- Constants put in place of their uses all at once.
use Rattle.std.specs.Prelude.{ℕ, Option}
use Rattle.std.specs.Option.{unwrap_or}
use Rattle.trees.specs.Tree.{Rel, Done, Next}
use Rattle.box_terms.specs.BoxSyntax.{BoxTerm, BoxTerms, Box, BLambda, BLetIn, BApp, BConst, BConstruct, BCase, BFix}

-- a term with the bodies that a table has in place of the constants' uses
abbrev mutual
  pub filled : (ℕ → Option BoxTerm) → BoxTerm → BoxTerm
  filled m (Rel i) = Rel i
  filled m Box = Box
  filled m (BLambda t) = BLambda (filled m t)
  filled m (BLetIn a t) = BLetIn (filled m a) (filled m t)
  filled m (BApp f a) = BApp (filled m f) (filled m a)
  filled m (BConst c) = unwrap_or (m c.0) (BConst c)
  filled m (BConstruct f c) = BConstruct f c
  filled m (BCase f s bs) = BCase f (filled m s) (filled_terms m bs)
  filled m (BFix i rargs bodies) = BFix i rargs (filled_terms m bodies)

  pub filled_terms : (ℕ → Option BoxTerm) → BoxTerms → BoxTerms
  filled_terms m Done = Done
  filled_terms m (Next n t ts) = Next n (filled m t) (filled_terms m ts)
