use Rattle.std.proofs.Common.{subst}
use Rattle.compile.specs.Passes.{CompileIsRefused}
use Rattle.driver.proofs.callable.call_compiled.Goals as goal

pub returns-in-Err-Depth : goal.returns-in-Err-Depth
returns-in-Err-Depth c = record { says = subst (CompileIsRefused c.args.program.now) c.in-Err-Depth.field-0-is c.in-Err-Depth.ensures.refused }

pub returns-in-Err-Captured : goal.returns-in-Err-Captured
returns-in-Err-Captured c = record { says = subst (CompileIsRefused c.args.program.now) c.in-Err-Captured.field-0-is c.in-Err-Captured.ensures.refused }

pub returns-in-Err-Functions : goal.returns-in-Err-Functions
returns-in-Err-Functions c = record { says = subst (CompileIsRefused c.args.program.now) c.in-Err-Functions.field-0-is c.in-Err-Functions.ensures.refused }

pub returns-in-Err-Locals : goal.returns-in-Err-Locals
returns-in-Err-Locals c = record { says = subst (CompileIsRefused c.args.program.now) c.in-Err-Locals.field-0-is c.in-Err-Locals.ensures.refused }
