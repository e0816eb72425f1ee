-- Which terms of a list name a target, one by one.
use Rattle.std.proofs.Common.{◌≡◌, ◌∙◌, ℕ, ◌||◌, List, [], ◌∷◌, ◌++◌, refl, sym, ap}
use Rattle.std.proofs.Math.Bool.{or_assoc}
use Rattle.calculus_rules.specs.declared.target.Target.{Target}
use Rattle.pc_terms.specs.Syntax.{Term}
use Rattle.calculus_rules.specs.Naming.{names, some_names}

pub some_append : (g : Target) (j : ℕ) (ts us : List Term) → some_names g j (ts ++ us) ≡ (some_names g j ts || some_names g j us)
some_append g j [] us = refl
some_append g j (t ∷ ts) us = ap (λ b. names g j t || b) (some_append g j ts us) ∙ sym (or_assoc (names g j t) (some_names g j ts) (some_names g j us))

pub ruleset naming_laws = (some_append)
