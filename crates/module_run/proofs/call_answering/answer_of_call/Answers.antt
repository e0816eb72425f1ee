use Rattle.std.proofs.Common.{sym, subst}
use Rattle.std.specs.Prelude.{OnOk}
use Rattle.wasm_core.specs.ModuleGrammar.{SpellsModule}
use Rattle.wasm_core.specs.ModuleTyping.{IsValid}
use Rattle.module_run.specs.CallFacts.{CallRunIsTold}
use Rattle.module_run.proofs.call_answering.answer_of_call.Goals as goal

pub loaded-requires : goal.loaded-requires
loaded-requires g c = record { spelled = (c.args.m.now, subst (λ b. SpellsModule b c.args.m.now) (sym c.as_slice.ensures.value) c.in_ok-bytes.ensures.says.2, subst IsValid c.module-module.ensures.module c.module-module.ensures.valid) }

pub returns-clause-told : goal.returns-clause-told
returns-clause-told g c =
    let spells = subst (λ b. SpellsModule b c.args.m.now) (sym c.as_slice.ensures.value) c.in_ok-bytes.ensures.says.2 in
    subst (λ p. OnOk c.run_call.result (CallRunIsTold g.R.Report.shown p c.args.cap c.args.steps c.args.arguments.now c.args.reports.now.items c.run_call.new.reports.items)) (c.in_ok-program.ensures.program c.args.m.now spells) c.run_call.ensures.told
