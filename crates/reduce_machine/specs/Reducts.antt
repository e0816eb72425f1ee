-- What terms were reduced to, and frames that wait for it. An entry of a table says that so many weak-head steps (PCUIC, POPL 2020, section 2.2) lead from the
-- term of its place to the term that it has; so its units are those of these steps. An entry never changes; another may take its place.
use Rattle.std.specs.Prelude.{ℕ, zero, suc, ◌≡◌, ◌<◌, ◌≤◌, ◌-◌, List, [], ◌∷◌, Option, Some, None}
use Rattle.pc_terms.specs.Syntax.{Term, Rel, apply, variables}
use Rattle.pc_terms.specs.Counted.{number_of}
use Rattle.calculus_rules.specs.Environment.{Env}
use Rattle.calculus_rules.specs.Context.{Values}
use Rattle.calculus_rules.specs.Lookups.{if_some}
use Rattle.pc_rules.specs.declared.meter.Account.{Account}
use Rattle.pc_rules.specs.DirectedRun.{ticked}
use Rattle.pc_rules.specs.DirectedWeakHead.{weak_next}
use Rattle.reduce_machine.specs.Layered.{plug}
use Rattle.reduce_machine.specs.Layers.{layers}
use Rattle.reduce_machine.specs.Reads.{read}
use Rattle.reduce_machine.specs.Steps.{contractum}
use Rattle.reduce_machine.specs.declared.bindings.Lazy.{Lazy}
use Rattle.reduce_machine.specs.declared.frames.Frame.{Frame}
use Rattle.reduce_machine.specs.declared.frames.Frame.TheVariants.{Update}
use Rattle.reduce_machine.specs.declared.reducts.Reduct.{Reduct}
use Rattle.reduce_machine.specs.declared.reducts.Reducts.{Reducts}
use Rattle.reduce_machine.specs.declared.reducts.Made.{Made}
use Rattle.reduce_machine.specs.declared.reducts.Known.{Known}
use Rattle.reduce_machine.specs.declared.reducts.Looked.{Looked}
use Rattle.reduce_machine.specs.declared.reducts.Looked.TheVariants.{Known as KnownItem, Wanted, Plain}
use Rattle.reduce_machine.specs.declared.steps.Step.{Step}

-- what t is after n weak-head steps; none where it has not so many
abbrev pub after : Env → Values → ℕ → Term → Option Term
after E V zero t = Some t
after E V (suc n) t = if_some (weak_next E V t) (after E V n)

-- n units taken, one after the other
abbrev pub ticks : ℕ → Account → Account
ticks zero u = u
ticks (suc n) u = ticks n (ticked u)

-- so many steps, and at least one, lead from t to what is known of it
pub record ComesTo (E : Env) (V : Values) (t : Term) (k : Known) : Type 0 where
  pub some : 0 < k.units
  pub steps : after E V k.units t ≡ Some (read k.term)

-- so many steps, and at least one, lead from the term of the place to the term that is kept
pub record IsReduct (E : Env) (V : Values) (r : Reduct) : Type 0 where
  pub some : 0 < r.units
  pub steps : (t : Term) → r.own.value ≡ number_of t → after E V r.units t ≡ Some (read r.term)

abbrev pub AreReducts : Env → Values → List Reduct → Type 0
AreReducts E V [] = Unit {0}
AreReducts E V (r ∷ rs) = IsReduct E V r × AreReducts E V rs

-- what a table has besides: variable 0, and a head that is applied to variables
abbrev pub IsMade : Option Made → Type 0
IsMade None = Unit {0}
IsMade (Some m) = m.whole ≡ apply m.head (variables m.count)

abbrev pub IsReady : Reducts → Type 0
IsReady k = (k.variable ≡ Rel 0) × IsMade k.made

-- what is known of t
abbrev pub IsKnown : Env → Values → Term → Option Known → Type 0
IsKnown E V t None = Unit {0}
IsKnown E V t (Some k) = ComesTo E V t k

-- what is known of the term of an item, and the item itself where nothing is
abbrev pub IsLooked : Env → Values → Term → Looked → Type 0
IsLooked E V t (KnownItem k) = ComesTo E V t k
IsLooked E V t o = Unit {0}

abbrev pub IsItem : Lazy → Looked → Type 0
IsItem l (KnownItem k) = Unit {0}
IsItem l (Wanted x) = x ≡ l
IsItem l (Plain x) = x ≡ l

-- the item is the same term as l, and its bindings lie less deep
abbrev pub IsItemOf : Lazy → Looked → Type 0
IsItemOf l (KnownItem k) = Unit {0}
IsItemOf l (Wanted x) = (read l ≡ read x) × (x.env.rank < l.env.rank)
IsItemOf l (Plain x) = (read l ≡ read x) × (x.env.rank < l.env.rank)

-- a frame waits for what a variable is reduced to, which is t now, where u units are left
abbrev pub IsWaiting : Env → Values → ℕ → Frame → Term → Type 0
IsWaiting E V u (Update l b) t = (u ≤ b) × (after E V (b - u) (read l) ≡ Some t)
IsWaiting E V u f t = Unit {0}

-- each frame that waits for what a variable is reduced to waits for what stands in it, where t stands in the frames
abbrev pub AreWaiting : Env → Values → ℕ → List Frame → Term → Type 0
AreWaiting E V u [] t = Unit {0}
AreWaiting E V u (f ∷ fs) t = IsWaiting E V u f (plug (layers fs) t) × AreWaiting E V u fs t

-- the same, where a term with this step stands in the frames
abbrev pub AreWaitingFor : Env → Values → ℕ → List Frame → Step → Type 0
AreWaitingFor E V u fs s = (r : Term) × (weak_next E V r ≡ Some (contractum s)) × AreWaiting E V u fs r
