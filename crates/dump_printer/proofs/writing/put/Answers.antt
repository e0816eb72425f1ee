use Rattle.std.proofs.Common.{rules}
use Rattle.dump_printer.proofs.Written.{went, failed}
use Rattle.dump_printer.proofs.writing.put.Goals as goal

pub returns-in-Ok-clause-goes : goal.returns-in-Ok-clause-goes
returns-in-Ok-clause-goes g c = λ s rest h.
    went s _ _ _ _ _ _ c.args.bytes.now rest c.in-Ok.ensures.all c.in-Ok.ensures.tells c.in-Ok.ensures.cause.later (search rules) (search rules) (search rules) h

pub returns-in-Err-clause-goes : goal.returns-in-Err-clause-goes
returns-in-Err-clause-goes g c = λ s rest h.
    failed s _ _ _ _ _ _ c.args.bytes.now rest c.in-Err.fault.written c.in-Err.ensures.part.0 c.in-Err.ensures.part.1 c.in-Err.ensures.tells c.in-Err.ensures.cause.later c.in-Err.ensures.cause.failed (search rules) (search rules) (search rules) h
