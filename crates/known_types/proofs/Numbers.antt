-- No two environments have the same number, and no two contexts: so what is known is so wherever its stamps are known again.
use Rattle.std.proofs.Common.{◌≡◌, ◌∙◌, ℕ, sym, subst}
use Rattle.stamps.proofs.Numbers.{number-inj}
use Rattle.pc_terms.specs.Syntax.{Term}
use Rattle.calculus_rules.specs.Environment.{Env}
use Rattle.calculus_rules.specs.Context.{Context}
use Rattle.pc_rules.specs.contracts.environment.Env as environment
use Rattle.pc_rules.specs.contracts.context.Ctx as context
use Rattle.pc_rules.specs.declared.meter.Account.{Account}
use Rattle.run_costs.specs.Costs.{AreUnder}
use Rattle.known_types.specs.Sites.{environment_number, context_number, IsWorldOf}
use Rattle.known_types.specs.Knowing.{IsRun, HasRun, IsKnown}
use Rattle.known_types.specs.declared.world.World.{World}

environment_found : (E F : Env) → environment_number E ≡ environment_number F → E ≡ F
unfolding environment_number
environment_found E F p = environment.the_row.coded.inj E F (number-inj (environment.the_row.coded.code E) (environment.the_row.coded.code F) p)

pub context_found : (c d : Context) → context_number c ≡ context_number d → c ≡ d
unfolding context_number
context_found c d p = context.the_row.coded.inj c d (number-inj (context.the_row.coded.code c) (context.the_row.coded.code d) p)

-- a run that is had is one of each environment and context of the stamps
run_everywhere : (w : World) (n : ℕ) (t T : Term) (u v : Account) → HasRun (IsWorldOf w) n t T u v → (E : Env) (c : Context) → IsWorldOf w E c → IsRun E c n t T u v
run_everywhere w n t T u v h F d x =
    subst (λ G. IsRun G d n t T u v) (environment_found h.0 F (sym h.2.0 ∙ x.0))
    (subst (λ e. IsRun h.0 e n t T u v) (context_found h.1 d (sym h.2.1 ∙ x.1)) h.3)

-- what is kept of a run is known
pub known_from : (w w' : World) (n : ℕ) (t t' T T' : Term) (u v u' v' : Account) → w' ≡ w → t' ≡ t → T' ≡ T → u' ≡ u → v' ≡ v → HasRun (IsWorldOf w) n t T u v → AreUnder v.uses →
    IsKnown w' n t' T' u' v'
known_from w w' n t t' T T' u v u' v' p q r a b h l = rw (p, q, r, a, b) (record { run = run_everywhere w n t T u v h; under = l })
