use Rattle.std.proofs.Common.{◌≡◌, sym, subst, Some, Option, true}
use Rattle.std.specs.Prelude.{IfOk, is_some}
use Rattle.wasm_core.specs.MachineStep.{State}
use Rattle.wasm_core.specs.Runs.{grants}
use Rattle.wasm_run.specs.Threads.{conf_of, state_of}
use Rattle.wasm_run.proofs.Threads.{read_step}
use Rattle.wasm_run.proofs.exec.run_step.Goals as goal

pub run_instr-requires-clause-some : goal.run_instr-requires-clause-some
run_instr-requires-clause-some c =
    let m = c.args.program.now in let t = c.args.thread.now in
    subst (λ (o : Option State). is_some o ≡ true) (read_step m (grants c.args.cap (conf_of m t)) t c.instr_at-instr.result.now c.instr_at-instr.ensures.is) c.requires.some

pub returns : goal.returns
returns c =
    let m = c.args.program.now in let t = c.args.thread.now in
    record { is = subst (λ (o : Option State). IfOk c.run_instr.result (λ r. o ≡ Some (state_of m r c.run_instr.new.thread))) (sym (read_step m (grants c.args.cap (conf_of m t)) t c.instr_at-instr.result.now c.instr_at-instr.ensures.is)) c.run_instr.ensures.is }
