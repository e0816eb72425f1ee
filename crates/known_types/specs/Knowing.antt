-- What is known of a term: a run of inference by the directed rules, in the environment and the context of two stamps, with its accounts at the start and at
-- the end. It says what each other run of inference does that has as much room and as many units.
use Rattle.std.specs.Prelude.{ℕ, ◌≡◌, Option, Some, None, Result, Ok}
use Rattle.pc_terms.specs.Syntax.{Term}
use Rattle.calculus_rules.specs.Environment.{Env}
use Rattle.calculus_rules.specs.Context.{Context}
use Rattle.pc_rules.specs.declared.meter.Account.{Account}
use Rattle.pc_rules.specs.declared.meter.Meter.{Meter}
use Rattle.pc_rules.specs.DirectedRun.{Done}
use Rattle.pc_rules.specs.DirectedTyping.{infer}
use Rattle.pc_rules.specs.Entailment.{test_of}
use Rattle.pc_rules.specs.Follows.{Follows}
use Rattle.run_costs.specs.Costs.{AreUnder}
use Rattle.known_types.specs.Sites.{IsWorldOf}
use Rattle.known_types.specs.declared.world.World.{World}

-- inference of a term with so much room leads from one account to the other, and gives the type
abbrev pub IsRun : Env → Context → ℕ → Term → Term → Account → Account → Type 0
IsRun E c n t T u v = (infer E (test_of E) n c t u).end ≡ Done T v

-- that is so in the environment and in the context of the stamps, and no count of uses stands at its last value
pub record IsKnown (w : World) (n : ℕ) (t T : Term) (u v : Account) : Type 0 where
  pub run : (E : Env) (c : Context) → IsWorldOf w E c → IsRun E c n t T u v
  pub under : AreUnder v.uses

-- the run of an environment and a context of which something holds
abbrev pub HasRun : (Env → Context → Type 0) → ℕ → Term → Term → Account → Account → Type 0
HasRun P n t T u v = (E : Env) × (c : Context) × P E c × IsRun E c n t T u v

-- a type that is given follows the directed rules, in each environment and context of which that holds; where none is given, the meter is as it was
abbrev pub Gives : (Env → Context → Type 0) → ℕ → Term → Option Term → Meter → Meter → Type 0
Gives P n t None old new = new ≡ old
Gives P n t (Some T) old new = (E : Env) (c : Context) → P E c → Follows (infer E (test_of E) n c t old.account) (Ok T) old new
