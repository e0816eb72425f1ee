-- Runs that begin with terms that were made before, which may be beyond the limits of terms in memory: a term under bindings need never have been in memory.
use Rattle.std.specs.Prelude.{Bool, ◌||◌, Result, Ok, Err}
use Rattle.pc_terms.specs.Syntax.{Term}
use Rattle.calculus_rules.specs.Environment.{Env}
use Rattle.calculus_rules.specs.Context.{Values}
use Rattle.pc_rules.specs.declared.meter.Account.{Account}
use Rattle.pc_rules.specs.DirectedRun.{Run, is_beyond}
use Rattle.pc_rules.specs.DirectedWeakHead.{whnf}

-- a run before which a limit was passed where b is true
abbrev pub having_passed : {A : Type 0} → Bool → Run A → Run A
having_passed b d = record { end = d.end; deep = b || d.deep }

-- a term is made and then reduced
abbrev pub reduced : Env → Values → Term → Account → Run Term
reduced E V t u = having_passed (is_beyond t) (whnf E V t u)

-- an answer, by what it stands for
abbrev pub map_ok : {A B X : Type 0} → (A → B) → Result A X → Result B X
map_ok f (Ok a) = Ok (f a)
map_ok f (Err e) = Err e
