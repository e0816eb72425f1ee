-- The entries of a telescope, entered one after the other: each has a sort under those before it.
use Rattle.std.specs.Prelude.{List}
use Rattle.pc_terms.specs.Syntax.{Term}
use Rattle.pc_rules.specs.declared.meter.Account.{Account}
use Rattle.calculus_rules.specs.Environment.{Env}
use Rattle.calculus_rules.specs.Context.{Context, extend}
use Rattle.pc_rules.specs.DirectedRun.{Run, done, bind}
use Rattle.pc_rules.specs.DirectedTyping.{Typing, sorts_of}

-- the context with all entries, where each has a sort
abbrev pub entries_entered : Env → Typing → Context → List Term → Account → Run Context
entries_entered E inf c As u = bind (sorts_of E inf c As u) (λ _ v. done (extend c As) v)
