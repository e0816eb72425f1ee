use Rattle.std.proofs.lemmas.Result.{err_from_is_err_and}
use Rattle.wasm_core.specs.Runs.{main_start}
use Rattle.module_run.proofs.Ending.{answer_measured, exit_answer, exit_ends}
use Rattle.module_run.proofs.answering.run.Goals as goal

pub returned-requires : goal.returned-requires
returned-requires g c = record { start = (main_start c.args.program.now, c.args.program.now, c.args.cap, c.in_ok-machine.ensures.fresh) }

pub returns-in_err-returned-clause-says : goal.returns-in_err-returned-clause-says
returns-in_err-returned-clause-says g c =
    let exit = err_from_is_err_and c.from_residual-in_err-returned.result c.from_residual-in_err-returned.ensures.1 in
    exit_ends (main_start c.args.program.now) c.args.program.now c.args.cap c.args.steps c.requires.small c.returned.new.machine c.from_residual-in_err-returned.result c.in_err-returned.field-0.0 exit (c.in_err-returned.ensures.says (main_start c.args.program.now) c.args.program.now c.args.cap c.in_ok-machine.ensures.fresh)

pub returns-in_err-answer-clause-says : goal.returns-in_err-answer-clause-says
returns-in_err-answer-clause-says g c =
    let exit = err_from_is_err_and c.from_residual-in_err-answer.result c.from_residual-in_err-answer.ensures.1 in
    let back = c.in_ok-returned.ensures.says (main_start c.args.program.now) c.args.program.now c.args.cap c.in_ok-machine.ensures.fresh in
    exit_answer (main_start c.args.program.now) c.args.program.now c.args.cap c.args.steps c.requires.small c.returned.new.machine back c.from_residual-in_err-answer.result c.in_err-answer.field-0.0 exit c.in_err-answer.ensures.says

pub returns-clause-says : goal.returns-clause-says
returns-clause-says g c =
    let back = c.in_ok-returned.ensures.says (main_start c.args.program.now) c.args.program.now c.args.cap c.in_ok-machine.ensures.fresh in
    answer_measured (main_start c.args.program.now) c.args.program.now c.args.cap c.args.steps c.requires.small c.returned.new.machine back c.in_ok-answer.answer c.in_ok-answer.ensures.says _ _ _ c.requires.length c.steps.ensures.is c.pages.ensures.is

pub returns-clause-told : goal.returns-clause-told
returns-clause-told g c = c.in_ok-returned.ensures.told (main_start c.args.program.now) c.args.program.now c.args.cap c.in_ok-machine.ensures.fresh
