use Rattle.std.proofs.Common.{◌≡◌, ◌∙◌, ◌+◌, ◌++◌, ◌∷◌, ◌≤◌, ◌<◌, sym, ap, subst, arith}
use Rattle.reports.specs.declared.fact.Fact.TheVariants.{StepDone}
use Rattle.wasm_core.specs.MachineRun.{MachineShown}
use Rattle.wasm_core.specs.Runs.{Move}
use Rattle.wasm_run.specs.ToldRuns.{Told}
use Rattle.wasm_run.specs.ToldSteps.{grow_facts, step_facts}
use Rattle.wasm_run.proofs.Telling.{tells_more, told_is}
use Rattle.wasm_run.proofs.machine.Machine.run_counted.Goals as goal

pub returns-in-Some-clause-says : goal.returns-in-Some-clause-says
returns-in-Some-clause-says c =
    let i = c.loop-made.invariant in
    let (facts, tells, tallied) = i.told in
    let few : c.loop-made._made ≤ c.args.steps = grind arith in
    let sound = ap (λ (s : MachineShown). s.failed) (sym c.self.view_is) ∙ c.if-self.false in
    (facts, (sound, i.sound, (c.loop-made._made, few, told_is c.args.self.now c.loop-made.self c.loop-made._made facts tells i.counted i.program i.cap, c.in-Some.ensures.is)), tallied)

pub returns-in-Some-end-clause-says : goal.returns-in-Some-end-clause-says
returns-in-Some-end-clause-says c =
    let i = c.loop-made.invariant in
    let (facts, tells, tallied) = i.told in
    let few : c.loop-made._made ≤ c.args.steps = grind arith in
    let sound = ap (λ (s : MachineShown). s.failed) (sym c.self.view_is) ∙ c.if-self.false in
    (facts, (sound, i.sound, (c.loop-made._made, few, told_is c.args.self.now c.loop-made.self c.loop-made._made facts tells i.counted i.program i.cap, c.in-Some-end.ensures.is)), tallied)

pub returns-in-None-clause-says : goal.returns-in-None-clause-says
returns-in-None-clause-says c =
    let i = c.loop-made.invariant in
    let (facts, tells, tallied) = i.told in
    let all : c.loop-made._made ≡ c.args.steps = grind arith in
    let sound = ap (λ (s : MachineShown). s.failed) (sym c.self.view_is) ∙ c.if-self.false in
    (facts, (sound, i.sound, subst (λ k. Told c.args.self.now c.loop-made.self k facts) all (told_is c.args.self.now c.loop-made.self c.loop-made._made facts tells i.counted i.program i.cap), c.in-None.ensures.is), tallied)

pub returns-in-Err-clause-says : goal.returns-in-Err-clause-says
returns-in-Err-clause-says c =
    let i = c.loop-made.invariant in
    let (facts, tells, tallied) = i.told in
    let few : c.loop-made._made < c.args.steps = grind arith in
    let sound = ap (λ (s : MachineShown). s.failed) (sym c.self.view_is) ∙ c.if-self.false in
    (facts, (sound, c.in-Err.ensures.err, record { steps = c.loop-made._made; few = few; last = c.loop-made.self.state; tells = tells; counted = c.in-Err.ensures.unmade ∙ i.counted }), tallied)

pub loop-made-preserved : goal.loop-made-preserved
loop-made-preserved c =
    let i = c.loop-made.invariant in
    let (facts, tells, tallied) = i.told in
    let S = c.loop-made.self in
    let A = c.args.self.now in
    let e = c.in-Ok.ensures in
    let k = c.loop-made._made in
    let step = c.coming-step.result in
    let moved = subst (λ m. Move m A.cap S.state c.advance.new.self.state) i.program (subst (λ x. Move S.program x S.state c.advance.new.self.state) i.cap e.ok) in
    let e_program = c.advance.ensures.kept.0 ∙ i.program in
    let e_cap = c.advance.ensures.kept.1 ∙ i.cap in
    let here = subst (λ x. step_facts S.program x S.state ≡ StepDone step.class ∷ grow_facts step.grows) i.cap c.coming-step.ensures.is in
    let facts_are = subst (λ m. step_facts m A.cap S.state ≡ StepDone step.class ∷ grow_facts step.grows) i.program here in
    record {
      program = e_program;
      cap = e_cap;
      sound = e.sound;
      told = (
        facts ++ StepDone step.class ∷ grow_facts step.grows,
        tells_more A.program A.cap k (k + 1) A.state S.state c.advance.new.self.state facts (StepDone step.class ∷ grow_facts step.grows) (omega arith) tells moved facts_are,
        c.note.ensures.more facts tallied,
      );
      counted = omega (arith, e.made, i.counted);
    }
