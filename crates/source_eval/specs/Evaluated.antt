-- What an evaluation answers, as what directed rules answer: no rule for a term is a result of theirs. And what its answers mean by the
-- relation of evaluation.
use Rattle.std.specs.Prelude.{ℕ, ◌≡◌, ◌<◌, ◌≤◌, Result, Ok, Err}
use Rattle.pc_terms.specs.Syntax.{Term}
use Rattle.pc_terms.specs.declared.term.MakeFault.{MakeFault}
use Rattle.pc_terms.specs.declared.term.MakeFault.TheVariants.{TooDeep as DeepTerm, Memory as NoTerm}
use Rattle.pc_rules.specs.declared.stop.Stop.TheVariants.{Spent, TooDeep, Memory}
use Rattle.pc_rules.specs.declared.stop.Halt.{Halt}
use Rattle.pc_rules.specs.declared.stop.Halt.TheVariants.{Stop}
use Rattle.calculus_rules.specs.Environment.{Env}
use Rattle.calculus_rules.specs.Accepted.{IsAccepted}
use Rattle.calculus_rules.specs.Evaluation.{Evaluates}
use Rattle.pc_rules.specs.DirectedEvaluation.{Evaluated, Value, Stuck}
use Rattle.source_eval.specs.StaysWithin.{StaysWithin}
use Rattle.source_eval.specs.declared.evaluation.EvalStop.{EvalStop}
use Rattle.source_eval.specs.declared.evaluation.EvalStop.TheVariants.{Spent as NoUnits, TooDeep as Deep, Stuck as Without, Memory as NoMemory}

abbrev pub eval_stop : MakeFault → EvalStop
eval_stop DeepTerm = Deep
eval_stop NoTerm = NoMemory

abbrev pub evaluated : Result Term EvalStop → Result Evaluated Halt
evaluated (Ok v) = Ok (Value v)
evaluated (Err NoUnits) = Err (Stop Spent)
evaluated (Err Deep) = Err (Stop TooDeep)
evaluated (Err (Without t)) = Ok (Stuck t)
evaluated (Err NoMemory) = Err (Stop Memory)

-- the term has no value
abbrev pub HasNoValue : Env → Term → Type 0
HasNoValue E t = (v : Term) (n : ℕ) → Evaluates E t v n → ⊥

-- where the evaluation of t is stuck, t has no value, over an accepted environment
abbrev pub StuckHasNoValue : Env → Term → Result Term EvalStop → Type 0
StuckHasNoValue E t (Ok v) = Unit {0}
StuckHasNoValue E t (Err NoUnits) = Unit {0}
StuckHasNoValue E t (Err Deep) = Unit {0}
StuckHasNoValue E t (Err (Without s)) = IsAccepted E → HasNoValue E t
StuckHasNoValue E t (Err NoMemory) = Unit {0}

-- where no unit is left, each value of t has more nodes than there were units, over an accepted environment
abbrev pub SpentIsTooMany : Env → Term → ℕ → Result Term EvalStop → Type 0
SpentIsTooMany E t units (Ok v) = Unit {0}
SpentIsTooMany E t units (Err NoUnits) = IsAccepted E → (v : Term) (n : ℕ) → Evaluates E t v n → units < n
SpentIsTooMany E t units (Err Deep) = Unit {0}
SpentIsTooMany E t units (Err (Without s)) = Unit {0}
SpentIsTooMany E t units (Err NoMemory) = Unit {0}

-- the answer is v, or there was no memory
abbrev pub IsValueOr : Term → Result Term EvalStop → Type 0
IsValueOr v (Ok w) = w ≡ v
IsValueOr v (Err NoUnits) = ⊥
IsValueOr v (Err Deep) = ⊥
IsValueOr v (Err (Without s)) = ⊥
IsValueOr v (Err NoMemory) = Unit {0}

-- where t has a value, with a unit for each node, and what its evaluation makes is within the limits, that is the answer, over an accepted
-- environment
abbrev pub GivesTheValue : Env → Term → ℕ → Result Term EvalStop → Type 0
GivesTheValue E t units r = IsAccepted E → (v : Term) (n : ℕ) (e : Evaluates E t v n) → n ≤ units → StaysWithin e → IsValueOr v r
