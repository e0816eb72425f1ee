-- Kinds of weak-head normal forms (PCUIC, POPL 2020: conversion of sorts, products and lambdas, and of spines).
use Rattle.std.specs.Prelude.{◌≡◌, Bool, true, ◌∷◌}
use Rattle.pc_terms.specs.Syntax.{Term, SortT, Prod, Lambda}
use Rattle.calculus_rules.specs.Context.{Context}
use Rattle.calculus_rules.specs.declared.entry.Entry.TheVariants.{Assumed}
use Rattle.pc_rules.specs.DirectedRun.{Act, bind}
use Rattle.pc_rules.specs.DirectedComparison.{Comparison}
use Rattle.lazy_conversion.specs.Parts.{read_part}
use Rattle.lazy_conversion.specs.declared.shapes.Binder.{Binder}
use Rattle.lazy_conversion.specs.declared.shapes.Shape.{Shape}
use Rattle.lazy_conversion.specs.declared.shapes.Shape.TheVariants as shape

abbrev pub product_of : Binder → Term
product_of b = Prod (read_part b.domain) (read_part b.body)

abbrev pub lambda_of : Binder → Term
lambda_of b = Lambda (read_part b.domain) (read_part b.body)

-- no sort, no product and no lambda
abbrev pub IsSpine : Term → Type 0
IsSpine (SortT s) = ⊥
IsSpine (Prod A B) = ⊥
IsSpine (Lambda A b) = ⊥
IsSpine t = Unit {0}

-- the kind of t
abbrev pub IsShape : Term → Shape → Type 0
IsShape t (shape.Sort s) = t ≡ SortT s.now
IsShape t (shape.Product b) = t ≡ product_of b
IsShape t (shape.Lambda b) = t ≡ lambda_of b
IsShape t shape.Spine = IsSpine t

-- domains, then what is below their variables, in a context that is longer by the left domain
abbrev pub binders_equal : Comparison → Bool → Binder → Binder → Context → Act
binders_equal cmp equal f g c u =
    bind (cmp c true (read_part f.domain) (read_part g.domain) u) (λ _ v. cmp (Assumed (read_part f.domain) ∷ c) equal (read_part f.body) (read_part g.body) v)
