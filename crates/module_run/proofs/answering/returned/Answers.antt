use Rattle.std.proofs.Common.{◌≤◌, Ok, arith, subst}
use Rattle.wasm_core.specs.MachineRun.{MachineSays}
use Rattle.wasm_run.specs.ToldRuns.{SaysTold}
use Rattle.module_run.proofs.Returning.{has_returned, run_facts}
use Rattle.module_run.proofs.answering.returned.Goals as goal

pub returns-in-Ok-Returned : goal.returns-in-Ok-Returned
returns-in-Ok-Returned g c =
    let few : c.args.steps ≤ 18446744073709551615 = grind arith in
    let says = subst (λ e. MachineSays c.args.machine.now c.run_told.new.self c.args.steps (Ok e)) c.in-Ok-Returned.field-0-is c.in-Ok-Returned.ensures.says in
    let (facts, of, told) = c.in-Ok-Returned.ensures.told in
    let made = subst (λ e. SaysTold c.args.machine.now c.run_told.new.self c.args.steps (Ok e) facts) c.in-Ok-Returned.field-0-is of in
    record {
      says = λ o m cap fresh. has_returned o m cap c.args.steps c.args.machine.now c.run_told.new.self fresh few says;
      told = λ o m cap fresh. (facts, run_facts o m cap c.args.steps c.args.machine.now c.run_told.new.self facts fresh made, told);
    }
