-- What may be compared: any term under bindings, and values, which have no weak-head step.
use Rattle.std.specs.Prelude.{ℕ, ◌≡◌, ◌+◌, ◌*◌, length, None}
use Rattle.calculus_rules.specs.Environment.{Env}
use Rattle.calculus_rules.specs.Context.{Values}
use Rattle.pc_rules.specs.DirectedWeakHead.{weak_next}
use Rattle.reduce_machine.specs.Seen.{seen_term, IsSeen}
use Rattle.reduce_machine.specs.declared.seen.Seen.{Seen}
use Rattle.reduce_machine.specs.declared.seen.Argument.{Argument}
use Rattle.reduce_machine.specs.declared.seen.Argument.TheVariants.{Lazy, Value}

pub record IsNormal (E : Env) (V : Values) (s : Seen) : Type 0 where
  pub seen : IsSeen s
  pub normal : weak_next E V (seen_term s) ≡ None

abbrev pub IsSound : Env → Values → Argument → Type 0
IsSound E V (Lazy l) = Unit {0}
IsSound E V (Value s) = IsNormal E V s

-- a value whose spines stand in one another
abbrev pub IsSeenArgument : Argument → Type 0
IsSeenArgument (Lazy l) = Unit {0}
IsSeenArgument (Value s) = IsSeen s

-- how far a walk over an argument may go inwards: three steps for each spine below a value, and two for the value itself
abbrev pub size_of : Argument → ℕ
size_of (Lazy l) = 0
size_of (Value s) = length s.below.now * 3 + 2
