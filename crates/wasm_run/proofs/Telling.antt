-- Counts of what the steps of a run tell.
use Rattle.std.proofs.Common.{◌≡◌, ℕ, zero, suc, ◌+◌, ◌*◌, ◌-◌, ◌^◌, ◌<◌, List, [], ◌∷◌, ◌++◌, length, replicate, get_or, set, Bool, true, false, refl, sym, ap, subst, ◌∙◌, arith, append_assoc}
use Rattle.std.specs.Prelude.{min, count_by, cond, slice_get, Option, Some, None, Result, Ok, Err}
use Rattle.std.proofs.lemmas.List.Sums.{sum_by-append}
use Rattle.std.proofs.lemmas.List.Folds.{sum_by-replicate}
use Rattle.reports.specs.Counting.{last, numbered}
use Rattle.reports.specs.declared.fact.Fact.{Fact}
use Rattle.reports.specs.declared.fact.Fact.TheVariants.{StepDone, Grew}
use Rattle.reports.proofs.FactByFact.{numbered_set}
use Rattle.wasm_core.specs.declared.ended.Ended.{Ended}
use Rattle.wasm_core.specs.declared.ended.RunFault.{RunFault}
use Rattle.wasm_core.specs.declared.ended.RunFault.TheVariants as faults
use Rattle.wasm_core.specs.Parts.{Parts}
use Rattle.wasm_core.specs.declared.instrs.Instr.{Instr}
use Rattle.wasm_core.specs.MachineStep.{State, At}
use Rattle.wasm_core.specs.MachineRun.{MachineShown, MachineSays, GoesOn}
use Rattle.wasm_core.specs.Runs.{Move, Moves}
use Rattle.wasm_run.specs.Tallies.{IsTally}
use Rattle.wasm_run.specs.ToldSteps.{Tells, class_of, facts_at, grow_facts, is_grow, step_facts}
use Rattle.wasm_run.specs.Programs.{code_of}
use Rattle.wasm_run.specs.Threads.{conf_of, state_of}
use Rattle.wasm_run.specs.declared.thread.Thread.{Thread}
use Rattle.wasm_run.proofs.Bodies.{drop_here}
use Rattle.wasm_run.specs.ToldRuns.{SaysTold, Told}
use Rattle.wasm_run.specs.declared.tally.Tally.{Tally}

counted : (w : Fact → Bool) (xs ys : List Fact) → count_by w (xs ++ ys) ≡ count_by w xs + count_by w ys
counted w xs ys = sum_by-append (λ x. cond (w x) 1 0) xs ys

-- one fact more on both sides
one_side : (n a b x : ℕ) → min (n + a) last ≡ min (n + b) last → min (n + (a + x)) last ≡ min (n + (b + x)) last
one_side n a b x e = omega (arith, e)

grown : (n a g b : ℕ) → min (n + (a + g + b)) last ≡ min (n + (a + (b + g))) last
grown n a g b = omega arith

grown_in : (n g x a b : ℕ) → min (n + g + x) last ≡ min (n + g + (a + b)) last → min (n + (x + g)) last ≡ min (n + (a + g + b)) last
grown_in n g x a b e = omega (arith, e)

-- a step is counted
pub step_tallied : (t s : Tally) (i d r : ℕ) → i < length t.steps → r ≡ 1 + i → s.steps ≡ set t.steps i (min (get_or t.steps i d + 1) last) → s.grows ≡ t.grows → (facts : List Fact) → IsTally t facts → IsTally s (facts ++ StepDone r ∷ [])
step_tallied t s i d r lt e steps grows facts h w n =
    let g = count_by w (replicate t.grows Grew) in
    let a = count_by w (numbered StepDone 1 t.steps) in
    let b = cond (w (StepDone r)) 1 0 in
    let more = numbered StepDone 1 (set t.steps i (min (get_or t.steps i d + 1) last)) in
    let was : min (n + (a + g)) last ≡ min (n + count_by w facts) last = ap (λ k. min (n + k) last) (sym (counted w (numbered StepDone 1 t.steps) (replicate t.grows Grew))) ∙ h w n in
    let one : count_by w (StepDone r ∷ []) ≡ b = omega arith in
    ap (λ fs. min (n + count_by w fs) last) (ap (λ ns. numbered StepDone 1 ns ++ replicate s.grows Grew) steps ∙ ap (λ k. more ++ replicate k Grew) grows)
    ∙ ap (λ k. min (n + k) last) (counted w more (replicate t.grows Grew))
    ∙ grown_in n g (count_by w more) a b (numbered_set StepDone w 1 i t.steps d r (n + g) lt e)
    ∙ one_side n (a + g) (count_by w facts) b was
    ∙ ap (λ k. min (n + (count_by w facts + k)) last) (sym one)
    ∙ ap (λ k. min (n + k) last) (sym (counted w facts (StepDone r ∷ [])))

grow_counted : (b : Bool) (n a g : ℕ) → min (n + (a + min (g + 1) last * cond b 1 0)) last ≡ min (n + (a + g * cond b 1 0 + cond b 1 0)) last
grow_counted true n a g = omega arith
grow_counted false n a g = omega arith

-- a grow is counted
pub grow_tallied : (t s : Tally) → s.steps ≡ t.steps → s.grows ≡ min (t.grows + 1) last → (facts : List Fact) → IsTally t facts → IsTally s (facts ++ Grew ∷ [])
grow_tallied t s steps grows facts h w n =
    let c = cond (w Grew) 1 0 in
    let a = count_by w (numbered StepDone 1 t.steps) in
    let all : (k : ℕ) → count_by w (replicate k Grew) ≡ k * c = λ k. sum_by-replicate (λ x. cond (w x) 1 0) k Grew in
    let was : min (n + (a + t.grows * c)) last ≡ min (n + count_by w facts) last = ap (λ k. min (n + (a + k)) last) (sym (all t.grows)) ∙ ap (λ k. min (n + k) last) (sym (counted w (numbered StepDone 1 t.steps) (replicate t.grows Grew))) ∙ h w n in
    let one : count_by w (Grew ∷ []) ≡ c = omega arith in
    ap (λ fs. min (n + count_by w fs) last) (ap (λ ns. numbered StepDone 1 ns ++ replicate s.grows Grew) steps ∙ ap (λ k. numbered StepDone 1 t.steps ++ replicate k Grew) grows)
    ∙ ap (λ k. min (n + k) last) (counted w (numbered StepDone 1 t.steps) (replicate (min (t.grows + 1) last) Grew) ∙ ap (λ k. a + k) (all (min (t.grows + 1) last)))
    ∙ grow_counted (w Grew) n a t.grows
    ∙ one_side n (a + t.grows * c) (count_by w facts) c was
    ∙ ap (λ k. min (n + (count_by w facts + k)) last) (sym one)
    ∙ ap (λ k. min (n + k) last) (sym (counted w facts (Grew ∷ [])))

-- two parts of one step
pub tallied_both : (t : Tally) (facts xs : List Fact) (x : Fact) → IsTally t ((facts ++ x ∷ []) ++ xs) → IsTally t (facts ++ x ∷ xs)
tallied_both t facts xs x h = subst (IsTally t) (append_assoc facts (x ∷ []) xs) h

-- the steps of a run that tells are steps
pub tells_moves : (m : Parts) (cap k : ℕ) (s t : State) (facts : List Fact) → Tells m cap k s t facts → Moves m cap k s t
tells_moves m cap zero s t facts h = h.0
tells_moves m cap (suc k) s t facts (mid, before, h, move, is) = (mid, tells_moves m cap k s mid before h, move)

-- what is told says what `run` says
pub says_told : (old new : MachineShown) (n : ℕ) (r : Result Ended RunFault) (facts : List Fact) → SaysTold old new n r facts → MachineSays old new n r
says_told old new n (Ok e) facts (sound, still, (k, few, told, over)) = (sound, still, (k, few, told.ran, over))
says_told old new n (Err faults.StepsSpent) facts (sound, still, told, on) = (sound, still, told.ran, on)
says_told old new n (Err faults.Failed) facts (failed, same, none) = (failed, same)
says_told old new n (Err faults.Memory) facts (sound, failed, until) = (sound, failed)

-- the facts of the step from a place of a function
pub read_facts : (m : Parts) (cap : ℕ) (t : Thread) (i : Instr) → slice_get (code_of m t.current.func) t.current.at ≡ Some i →
    step_facts m cap (At (conf_of m t)) ≡ StepDone (class_of i) ∷ grow_facts (is_grow m cap i (conf_of m t))
read_facts m cap t i h = ap (λ r. facts_at m cap r (conf_of m t)) (drop_here (code_of m t.current.func) t.current.at i h)

-- a machine that goes on is at a place
pub at_place : (m : Parts) (e : Option Ended) (t : Thread) → GoesOn (state_of m e t) → state_of m e t ≡ At (conf_of m t)
at_place m None t on = refl
at_place m (Some e) t on = absurd on

-- one step more, and what it tells
pub tells_more : (m : Parts) (cap k j : ℕ) (s mid t : State) (facts more : List Fact) → j ≡ suc k → Tells m cap k s mid facts → Move m cap mid t → step_facts m cap mid ≡ more → Tells m cap j s t (facts ++ more)
tells_more m cap k j s mid t facts more next h move is = subst (λ i. Tells m cap i s t (facts ++ more)) (sym next) (mid, facts, h, move, ap (λ x. facts ++ x) (sym is))

-- so many steps were made, and these are their facts
pub told_is : (old new : MachineShown) (k : ℕ) (facts : List Fact) → Tells old.program old.cap k old.state new.state facts → new.made ≡ min (old.made + k) (2 ^ 64 - 1) → new.program ≡ old.program → new.cap ≡ old.cap → Told old new k facts
told_is old new k facts h counted program cap = record { ran = record { moves = tells_moves old.program old.cap k old.state new.state facts h; counted = counted; same_program = program; same_cap = cap }; tells = h }
