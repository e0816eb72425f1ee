use Rattle.std.proofs.Common.{◌∙◌, ◌≡◌, ◌∷◌, sym, ap, subst, Option, true}
use Rattle.std.specs.Prelude.{is_some}
use Rattle.reports.specs.declared.fact.Fact.TheVariants.{StepDone}
use Rattle.wasm_core.specs.MachineStep.{State}
use Rattle.wasm_core.specs.Runs.{grants}
use Rattle.wasm_run.specs.Threads.{conf_of}
use Rattle.wasm_run.specs.ToldSteps.{grow_facts, is_grow}
use Rattle.wasm_run.proofs.Threads.{read_step}
use Rattle.wasm_run.proofs.Telling.{read_facts}
use Rattle.wasm_run.proofs.exec.next_facts.Goals as goal

pub instr_facts-requires : goal.instr_facts-requires
instr_facts-requires c =
    let m = c.args.program.now in let t = c.args.thread.now in
    record { some = subst (λ (o : Option State). is_some o ≡ true) (read_step m (grants c.args.cap (conf_of m t)) t c.instr_at-instr.result.now c.instr_at-instr.ensures.is) c.requires.some }

pub returns : goal.returns
returns c =
    let m = c.args.program.now in let t = c.args.thread.now in let i = c.instr_at-instr.result.now in
    let f = c.instr_facts in
    record {
      range = f.ensures.range;
      is = read_facts m c.args.cap t i c.instr_at-instr.ensures.is
          ∙ ap (λ k. StepDone k ∷ grow_facts (is_grow m c.args.cap i (conf_of m t))) (sym f.ensures.class)
          ∙ ap (λ b. StepDone f.result.class ∷ grow_facts b) (sym f.ensures.grows);
    }
