-- What comes of the search for a step.
use Rattle.std.specs.Prelude.{ℕ, suc, ◌≡◌, ◌+◌, ◌*◌, ◌^◌, ◌<◌, ◌++◌, List, length, Option, Some, None}
use Rattle.pc_terms.specs.Syntax.{Term}
use Rattle.calculus_rules.specs.Environment.{Env}
use Rattle.calculus_rules.specs.Context.{Values}
use Rattle.pc_rules.specs.DirectedWeakHead.{weak_next}
use Rattle.reduction.specs.Frames.{work}
use Rattle.reduce_machine.specs.Layered.{plug, weights, AreFrames}
use Rattle.reduce_machine.specs.declared.bindings.Lazy.{Lazy}
use Rattle.reduce_machine.specs.declared.frames.Frame.{Frame}
use Rattle.reduce_machine.specs.declared.reducts.Known.{Known}
use Rattle.reduce_machine.specs.declared.machine.Machine.{Machine}
use Rattle.reduce_machine.specs.declared.machine.Root.{Root}
use Rattle.reduce_machine.specs.declared.machine.Settled.{Settled}
use Rattle.reduce_machine.specs.declared.machine.Settled.TheVariants.{Step as Stepped, Inward, Whole}
use Rattle.reduce_machine.specs.declared.machine.Sought.{Sought}
use Rattle.reduce_machine.specs.declared.machine.Sought.TheVariants.{Step as FoundStep, Known as FoundKnown, Value as FoundValue}
use Rattle.reduce_machine.specs.declared.steps.Step.{Step}
use Rattle.reduce_machine.specs.Reads.{read}
use Rattle.reduce_machine.specs.Layers.{layers, AreLayers, IsOpen}
use Rattle.reduce_machine.specs.Steps.{contractum, IsStepIn}
use Rattle.reduce_machine.specs.Values.{term_of, IsValue}
use Rattle.reduce_machine.specs.Reducts.{ComesTo, IsKnown, AreWaiting, AreWaitingFor}
use Rattle.reduce_machine.specs.declared.machine.Entered.{Entered}
use Rattle.reduce_machine.specs.declared.machine.Entered.TheVariants.{Deeper, Open as Opened, Known as KnownFocus}

-- the term that a machine has taken apart
abbrev pub whole : Machine → Term
whole m = plug (layers m.frames.items) (read m.focus)

abbrev pub load : Machine → ℕ
load m = work (read m.focus) + weights (layers m.frames.items)

-- what is left till a head is seen
abbrev pub way : Lazy → ℕ
way l = work (read l) * 2 ^ 32 + l.env.rank

-- frames that stand as they should
pub record AreSound (fs : List Frame) : Type 0 where
  pub frames : AreFrames (layers fs)
  pub nodes : AreLayers fs

-- t in the frames behind the first n is the term r
abbrev pub IsBehind : List Frame → ℕ → Term → Term → Type 0
IsBehind fs n t r = (os : List Frame) × (is : List Frame) × (fs ≡ os ++ is) × (length os ≡ n) × (plug (layers is) t ≡ r)

-- the root of the innermost frames, where there is one
abbrev pub IsRoot : List Frame → Term → Option Root → Type 0
IsRoot fs t None = Unit {0}
IsRoot fs t (Some r) = r.below < length fs → IsBehind fs (suc r.below) t (read r.term)

abbrev pub IsStart : List Frame → Term → Option Root → Type 0
IsStart fs t None = Unit {0}
IsStart fs t (Some r) = (length fs ≡ suc r.below) × (read r.term ≡ t)

-- frames that were put around the focus, which is the same term with them
abbrev pub IsGrown : Machine → Machine → Type 0
IsGrown m n = (is : List Frame) × (n.frames.items ≡ m.frames.items ++ is) × (plug (layers is) (read n.focus) ≡ read m.focus)

-- t steps in the frames of m, or it has no step, or another focus decides
abbrev pub IsSettled : Env → Values → Term → Machine → Settled → Type 0
IsSettled E V t m (Stepped s) = weak_next E V t ≡ Some (plug (layers m.frames.items) (contractum s))
IsSettled E V t m Inward = Unit {0}
IsSettled E V t m (Whole v) = weak_next E V t ≡ None

-- t is the term of m, in which less work is left than w; or it is the value
abbrev pub KeepsWhole : Term → ℕ → Machine → Settled → Type 0
KeepsWhole t w m (Stepped s) = IsStepIn t s
KeepsWhole t w m Inward = (whole m ≡ t) × (load m < w)
KeepsWhole t w m (Whole v) = (term_of v ≡ t) × IsValue v

-- t steps in the frames of m; or it is the term of m, and its focus is known after so many steps; or it is the value, which has no step
abbrev pub IsSought : Env → Values → Term → Machine → Sought → Type 0
IsSought E V t m (FoundStep s) = (weak_next E V t ≡ Some (plug (layers m.frames.items) (contractum s))) × IsStepIn t s
IsSought E V t m (FoundKnown k) = (whole m ≡ t) × ComesTo E V (read m.focus) k
IsSought E V t m (FoundValue v) = (term_of v ≡ t) × IsValue v × (weak_next E V t ≡ None)

-- the root that is there, where so many frames are below its fixpoint's
abbrev pub IsRooted : Option Root → ℕ → Option Lazy → Type 0
IsRooted r n None = Unit {0}
IsRooted None n (Some l) = ⊥
IsRooted (Some r) n (Some l) = (r.below ≡ n) × (l ≡ r.term)

-- what comes of going inwards: another focus on a shorter way, or the same one, which is open or known
abbrev pub IsFalling : Lazy → Lazy → Entered → Type 0
IsFalling l x Deeper = way x < way l
IsFalling l x e = Unit {0}

abbrev pub IsOpened : Lazy → Entered → Type 0
IsOpened l Opened = IsOpen l
IsOpened l e = Unit {0}

abbrev pub IsKnownFocus : Env → Values → Term → Entered → Type 0
IsKnownFocus E V t (KnownFocus k) = ComesTo E V t k
IsKnownFocus E V t e = Unit {0}

-- the focus at the end of the way
abbrev pub IsEnd : Lazy → Option Known → Type 0
IsEnd l None = IsOpen l
IsEnd l (Some k) = Unit {0}

-- the frames that are left wait for what stands in them
abbrev pub WaitsSettled : Env → Values → ℕ → Machine → Settled → Type 0
WaitsSettled E V u m (Stepped s) = AreWaitingFor E V u m.frames.items s
WaitsSettled E V u m Inward = AreWaiting E V u m.frames.items (read m.focus)
WaitsSettled E V u m (Whole v) = Unit {0}

abbrev pub WaitsSought : Env → Values → ℕ → Machine → Sought → Type 0
WaitsSought E V u m (FoundStep s) = AreWaitingFor E V u m.frames.items s
WaitsSought E V u m (FoundKnown k) = AreWaiting E V u m.frames.items (read m.focus)
WaitsSought E V u m (FoundValue v) = Unit {0}
