use Rattle.std.proofs.Common.{◌++◌, ◌∷◌, []}
use Rattle.reports.specs.declared.fact.Fact.TheVariants.{StepDone}
use Rattle.wasm_run.specs.ToldSteps.{grow_facts}
use Rattle.wasm_run.proofs.Telling.{tallied_both}
use Rattle.wasm_run.proofs.tally.Tally.note.Goals as goal

pub returns : goal.returns
returns c = record { more = λ facts h. tallied_both c.note_grow.new.self facts (grow_facts c.args.step.grows) (StepDone c.args.step.class) (c.note_grow.ensures.more (facts ++ StepDone c.args.step.class ∷ []) (c.note_step.ensures.more facts h)) }
