-- Sites: an environment and a context that are known again by the numbers of two stamps. A site without stamps is one of any environment and any context.
use Rattle.std.specs.Prelude.{ℕ, ◌≡◌, ◌++◌, List, Option, Some, None, length}
use Rattle.std.specs.declared.alloc.Global.{Global}
use Rattle.std.specs.declared.rc.Rc.{Rc}
use Rattle.stamps.specs.Number.{number}
use Rattle.calculus_rules.specs.declared.entry.Entry.{Entry}
use Rattle.calculus_rules.specs.Environment.{Env}
use Rattle.calculus_rules.specs.Context.{Context}
use Rattle.pc_rules.specs.contracts.environment.Env as environment
use Rattle.pc_rules.specs.contracts.context.Ctx as context
use Rattle.known_types.specs.declared.world.World.{World}

-- the number of an environment, which no other has
unfoldable pub environment_number : Env → ℕ
environment_number E = number (environment.the_row.coded.code E)

-- the number of a context, which no other has
unfoldable pub context_number : Context → ℕ
context_number c = number (context.the_row.coded.code c)

-- the stamps are those of the environment and of the context
abbrev pub IsWorldOf : World → Env → Context → Type 0
IsWorldOf w E c = (w.env ≡ environment_number E) × (w.ctx ≡ context_number c)

abbrev pub AreWorldsOf : Option (Rc World Global) → Env → Context → Type 0
AreWorldsOf None E c = Unit {0}
AreWorldsOf (Some w) E c = IsWorldOf w.value E c

-- a context is another with some entries more
abbrev pub Longer : Context → Context → Type 0
Longer c d = (es : List Entry) × (d ≡ es ++ c)

-- the stamps are of one environment, and those of the second of a context that is the first one's with so many entries more
abbrev pub IsLonger : World → World → ℕ → Context → Type 0
IsLonger v w n d = (w.env ≡ v.env) × (w.ctx ≡ context_number d) × ((c : Context) → v.ctx ≡ context_number c → (es : List Entry) × (d ≡ es ++ c) × (length es ≡ n))
