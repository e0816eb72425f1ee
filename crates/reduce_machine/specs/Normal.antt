-- Heads by which a term is seen to have no step.
use Rattle.std.specs.Prelude.{ℕ, ◌≡◌, ◌≤◌, Option, Some, None, slice_get}
use Rattle.pc_terms.specs.Syntax.{Term, Rel, Lambda, LetIn, App, Const, Case, Fix}
use Rattle.calculus_rules.specs.Environment.{Env}
use Rattle.calculus_rules.specs.Context.{Values, value_at}
use Rattle.calculus_rules.specs.Lookups.{kept_at, body_of}

-- n arguments are those before the recursive one, or fewer
abbrev pub IsWaiting : Option ℕ → ℕ → Type 0
IsWaiting (Some r) n = n ≤ r
IsWaiting None n = ⊥

-- a head with n arguments
abbrev pub IsNormalHead : Env → Values → Term → ℕ → Type 0
IsNormalHead E V (Rel i) n = value_at V i ≡ None
IsNormalHead E V (Const k) n = body_of (kept_at E.declarations k) ≡ None
IsNormalHead E V (Lambda A b) n = n ≡ 0
IsNormalHead E V (Fix i rargs types bodies) n = IsWaiting (slice_get rargs i) n
IsNormalHead E V (LetIn b B t) n = ⊥
IsNormalHead E V (App g a) n = ⊥
IsNormalHead E V (Case f ps m ret s bs) n = ⊥
IsNormalHead E V h n = Unit {0}

abbrev pub IsLambda : Term → Type 0
IsLambda (Lambda A b) = Unit {0}
IsLambda t = ⊥
