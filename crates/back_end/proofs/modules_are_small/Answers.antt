use Rattle.back_end.proofs.Sizes.{call_modules_are_small, locals_are_few, modules_are_small}
use Rattle.back_end.proofs.modules_are_small.Goals as goal

pub returns-clause-bytes : goal.returns-clause-bytes
returns-clause-bytes c = modules_are_small

pub returns-clause-calls : goal.returns-clause-calls
returns-clause-calls c = call_modules_are_small

pub returns-clause-locals : goal.returns-clause-locals
returns-clause-locals c = locals_are_few
