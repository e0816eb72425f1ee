use Rattle.std.proofs.Common.{◌++◌, refl, sym, subst, arith}
use Rattle.wasm_run.specs.Tallies.{IsTally}
use Rattle.wasm_run.specs.ToldSteps.{grow_facts}
use Rattle.wasm_run.proofs.Telling.{grow_tallied}
use Rattle.wasm_run.proofs.tally.Tally.note_grow.Goals as goal

pub returns-then-grows : goal.returns-then-grows
returns-then-grows c = record {
  more = λ facts h. subst (λ b. IsTally (record { steps = c.args.self.now.steps; grows = c.saturating_add-self.result }) (facts ++ grow_facts b)) (sym c.if-grows.true)
      (grow_tallied c.args.self.now (record { steps = c.args.self.now.steps; grows = c.saturating_add-self.result }) refl (grind arith) facts h);
}
