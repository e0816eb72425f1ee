use Rattle.std.proofs.lemmas.Result.{err_from_is_err_and}
use Rattle.module_run.specs.CallEnds.{start_with}
use Rattle.module_run.proofs.CallEnding.{call_answer_ends, call_run_ends, exit_call, of_storing, told_anyway}
use Rattle.module_run.proofs.call_answering.run_call.Goals as goal

pub returns-in_err-machine-clause-says : goal.returns-in_err-machine-clause-says
returns-in_err-machine-clause-says g c =
    let exit = err_from_is_err_and c.from_residual.result c.from_residual.ensures.1 in
    let r = c.in_err-machine.field-0.0 in
    exit_call c.args.program.now c.args.cap c.args.steps c.args.arguments.now c.from_residual.result r exit (of_storing c.args.program.now c.args.cap c.args.steps c.args.arguments.now r c.requires.small c.in_err-machine.ensures.says)

pub returned-requires : goal.returned-requires
returned-requires g c = record { start = (start_with c.args.program.now c.args.cap c.args.arguments.now, c.args.program.now, c.args.cap, c.in_ok-machine.ensures.says) }

pub returns-in_err-returned-clause-says : goal.returns-in_err-returned-clause-says
returns-in_err-returned-clause-says g c =
    let exit = err_from_is_err_and c.from_residual-in_err-returned.result c.from_residual-in_err-returned.ensures.1 in
    let o = start_with c.args.program.now c.args.cap c.args.arguments.now in
    let r = c.in_err-returned.field-0.0 in
    exit_call c.args.program.now c.args.cap c.args.steps c.args.arguments.now c.from_residual-in_err-returned.result r exit
    (call_run_ends c.args.program.now c.args.cap c.args.steps c.args.arguments.now c.requires.small c.returned.new.machine r (c.in_err-returned.ensures.says o c.args.program.now c.args.cap c.in_ok-machine.ensures.says))

pub returns-clause-says : goal.returns-clause-says
returns-clause-says g c =
    let o = start_with c.args.program.now c.args.cap c.args.arguments.now in
    call_answer_ends c.args.program.now c.args.cap c.args.steps c.args.arguments.now c.requires.small c.returned.new.machine (c.in_ok-returned.ensures.says o c.args.program.now c.args.cap c.in_ok-machine.ensures.says) c.answered.result c.answered.ensures.says

pub returns-clause-told : goal.returns-clause-told
returns-clause-told g c =
    let o = start_with c.args.program.now c.args.cap c.args.arguments.now in
    told_anyway c.answered.result (c.in_ok-returned.ensures.told o c.args.program.now c.args.cap c.in_ok-machine.ensures.says)
