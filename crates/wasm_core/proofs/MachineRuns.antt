-- What the runs of a machine say of a module whose runs answer.
use Rattle.std.proofs.Common.{◌≡◌, ℕ, Some, ap, sym, ◌∙◌, subst}
use Rattle.std.proofs.lemmas.Option.{same_Some}
use Rattle.wasm_core.specs.declared.ended.Ended.{Ended}
use Rattle.wasm_core.specs.Parts.{Parts}
use Rattle.wasm_core.specs.MachineStep.{State, At, Over, Reach}
use Rattle.wasm_core.specs.Runs.{Moves, main_start}
use Rattle.wasm_core.specs.Answer.{IsAtEnd}
use Rattle.wasm_core.specs.MachineRun.{MachineShown, IsFreshMachine, HasEndedAs}
use Rattle.wasm_core.specs.Laws.{EndedAnswers, SpentIsFew, EndedAnswersFrom, SpentIsFewFrom}
use Rattle.wasm_core.proofs.Trees.{moves_are_steps}

over_ends : (m : Parts) (e : Ended) (s : State) → HasEndedAs e s → IsAtEnd m s
over_ends m e (At c) h = absurd h
over_ends m e (Over f store) h = λ granted t st. st

-- the run that a machine made from the start
ran_from : (m : Parts) (cap : ℕ) (a b : MachineShown) (k : ℕ) (first : State) → IsFreshMachine m cap a → main_start m ≡ Some first → Moves a.program a.cap k a.state b.state → Reach m k first b.state
ran_from m cap a b k first (s, e, is) h moves =
    let p : a.program ≡ m = ap (λ (x : MachineShown). x.program) is in
    let q : a.state ≡ first = ap (λ (x : MachineShown). x.state) is ∙ same_Some _ _ (sym e ∙ h) in
    subst (λ x. Reach m k x b.state) q (subst (λ x. Reach x k a.state b.state) p (moves_are_steps a.program a.cap k a.state b.state moves))

pub ended_answers : EndedAnswers
ended_answers m cap most k d a b e fresh ran over h =
    let r = ran_from m cap a b k h.first fresh h.starts ran.moves in (h.bounded k b.state r, h.answers k b.state r (over_ends m e b.state over))

pub spent_few : SpentIsFew
spent_few m cap most k d a b fresh ran h = h.bounded k b.state (ran_from m cap a b k h.first fresh h.starts ran.moves)

pub ended_from : EndedAnswersFrom
ended_from most k d a b e ran over h =
    let r = moves_are_steps a.program a.cap k a.state b.state ran.moves in (h.bounded k b.state r, h.answers k b.state r (over_ends a.program e b.state over))

pub spent_from : SpentIsFewFrom
spent_from most k d a b ran h = h.bounded k b.state (moves_are_steps a.program a.cap k a.state b.state ran.moves)
