-- What a term without a step makes of the frame around it.
use Rattle.std.specs.Prelude.{ℕ, ◌≡◌, ◌+◌, ◌≤◌, List, Option, Some, None, drop, map}
use Rattle.pc_terms.specs.Syntax.{Term, Lambda, App, apply, put_all, substitute}
use Rattle.calculus_rules.specs.Environment.{Env}
use Rattle.calculus_rules.specs.Context.{Values}
use Rattle.pc_rules.specs.DirectedWeakHead.{weak_next}
use Rattle.reduction.specs.Frames.{with_scrutinee, missing, work}
use Rattle.reduce_machine.specs.declared.values.Value.{Value}
use Rattle.reduce_machine.specs.declared.bindings.Lazy.{Lazy}
use Rattle.reduce_machine.specs.declared.meeting.Branching.{Branching}
use Rattle.reduce_machine.specs.declared.meeting.Met.{Met}
use Rattle.reduce_machine.specs.declared.meeting.Met.TheVariants.{Step, Inward, Stuck}
use Rattle.reduce_machine.specs.Reads.{stands, read}
use Rattle.reduce_machine.specs.Steps.{contractum, IsStepIn}
use Rattle.reduce_machine.specs.Layers.{IsFixNode}
use Rattle.reduce_machine.specs.Values.{term_of, IsValue}

-- t is a lambda of this body, which stands under bindings
abbrev pub IsBodyIn : List Term → Term → Term → Type 0
IsBodyIn xs t b = (A : Term) × (t ≡ substitute (stands xs) (Lambda A b))

-- t steps, or it has no step; where it is a fixpoint with its recursive argument, that argument decides
abbrev pub IsMet : Env → Values → Term → Met → Type 0
IsMet E V t (Step s) = weak_next E V t ≡ Some (contractum s)
IsMet E V t (Inward f xs a) = Unit {0}
IsMet E V t (Stuck v) = weak_next E V t ≡ None

-- t is a fixpoint with its recursive argument, which has less work than w; or it is the value
abbrev pub Keeps : Term → ℕ → Met → Type 0
Keeps t w (Step s) = IsStepIn t s
Keeps t w (Inward f xs a) = (t ≡ App (apply (read f) (map read xs.items)) (read a)) × (missing (apply (read f) (map read xs.items)) ≡ Some 0) × IsFixNode f.term × (work (read a) + 2 ≤ w)
Keeps t w (Stuck v) = (term_of v ≡ t) × IsValue v

-- a match on v steps to the branch, or has no step
abbrev pub IsBranching : Env → Values → Lazy → Value → Option Branching → Type 0
IsBranching E V l v None = weak_next E V (with_scrutinee (read l) (term_of v)) ≡ None
IsBranching E V l v (Some b) = weak_next E V (with_scrutinee (read l) (term_of v)) ≡ Some (substitute (put_all (drop b.params (map read v.spine.args.items)) (stands l.env.items)) b.body)
