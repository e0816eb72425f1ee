-- Recursive arguments of two lists of definitions, from an item on.
use Rattle.std.proofs.Common.{◌≡◌, ◌≢◌, ◌∙◌, ap, refl, ℕ, ◌<◌, ◌≤◌, ◌+◌, ◌==◌, ◌&&◌, Bool, true, false, List, length, drop, get_or, eq-eqb}
use Rattle.std.proofs.lemmas.Bool.{ne_eqb}
use Rattle.pc_terms.specs.Lists.{rargs_of}
use Rattle.pc_terms.specs.declared.term.Def.{Def}
use Rattle.calculus_rules.specs.Same.{same_numbers}
use Rattle.pc_rules.proofs.ListSteps.{next_is, none_left}

module _ (ds es : List Def) (i : ℕ) (d e : Def) (h : i < length ds) (k : i < length es) (p : d ≡ get_or ds i d) (p' : e ≡ get_or es i e) where
  abbrev rest_rargs : ℕ → Bool
  rest_rargs j = same_numbers (rargs_of (drop j ds)) (rargs_of (drop j es))

  rargs_next : rest_rargs i ≡ ((d.rarg == e.rarg) && rest_rargs (i + 1))
  rargs_next = rw (next_is ds i d h p, next_is es i e k p') refl

  pub rargs_same : d.rarg ≡ e.rarg → rest_rargs i ≡ rest_rargs (i + 1)
  rargs_same q = rargs_next ∙ ap (λ b. b && rest_rargs (i + 1)) (eq-eqb d.rarg e.rarg q)

  pub rargs_differ : d.rarg ≢ e.rarg → rest_rargs i ≡ false
  rargs_differ q = rargs_next ∙ ap (λ b. b && rest_rargs (i + 1)) (ne_eqb d.rarg e.rarg q)

pub rargs_end : (ds es : List Def) (i : ℕ) → length ds ≤ i → length es ≤ i → same_numbers (rargs_of (drop i ds)) (rargs_of (drop i es)) ≡ true
rargs_end ds es i h k = λ j. same_numbers (rargs_of (none_left ds i h j)) (rargs_of (none_left es i k j))
