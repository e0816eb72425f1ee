-- Numbers of environments and of contexts, and tables that outlive a reduction. What such a table has is true where it is used again: in the environment and in the
-- context of its numbers.
use Rattle.std.specs.Prelude.{ℕ, ◌≡◌, List, Option, Some, None}
use Rattle.std.specs.declared.alloc.Global.{Global}
use Rattle.std.specs.declared.rc.Rc.{Rc}
use Rattle.stamps.specs.Number.{number}
use Rattle.calculus_rules.specs.Environment.{Env}
use Rattle.calculus_rules.specs.Context.{Context, values}
use Rattle.pc_rules.specs.contracts.environment.Env as environment
use Rattle.pc_rules.specs.contracts.context.Ctx as context
use Rattle.reduce_machine.specs.Reducts.{AreReducts}
use Rattle.reduce_machine.specs.declared.reducts.Reduct.{Reduct}
use Rattle.reduce_machine.specs.declared.setting.World.{World}

-- the number of an environment, which no other has
unfoldable pub number_of_environment : Env → ℕ
number_of_environment E = number (environment.the_row.coded.code E)

-- the number of a context, which no other has
unfoldable pub number_of_context : Context → ℕ
number_of_context c = number (context.the_row.coded.code c)

-- the numbers of two stamps, where they are there
abbrev pub environment_of : Option (Rc World Global) → ℕ → ℕ
environment_of None n = n
environment_of (Some w) n = w.value.env

abbrev pub context_of : Option (Rc World Global) → ℕ → ℕ
context_of None n = n
context_of (Some w) n = w.value.ctx

-- entries that are true in the environment and in the context of these numbers
abbrev pub AreKept : ℕ → ℕ → List Reduct → Type 0
AreKept n m rs = (E : Env) (c : Context) → n ≡ number_of_environment E → m ≡ number_of_context c → AreReducts E (values c) rs
