use Rattle.std.proofs.Common.{arith}
use Rattle.closure_lift.specs.LiftedProgram.{lifted_of}
use Rattle.wasm_emit.specs.EmittedModule.{body}
use Rattle.wasm_emit.proofs.Listed.{same_made}
use Rattle.known_calls.specs.KnownCalls.{call_function}
use Rattle.known_calls.proofs.KnownBuilt.{call_made}
use Rattle.known_calls.proofs.bodies.call_body.Goals as goal

pub returns-clause-is : goal.returns-clause-is
returns-clause-is c =
    let Q = c.args.p.now in
    let e = call_made Q c.args.k c.in_ok-count.count c.max-locals.result c.in_ok-code.code.items c.push_arguments.new.out.items c.push.new.out.items c.push-2.new.out.items c.in_ok-count.ensures.ok.0 (omega arith) c.in_ok-code.ensures.is
    c.in_ok-push_arguments.ensures.pushed c.in_ok-push.ensures.pushed c.in_ok-push-2.ensures.pushed in
    same_made c.body_of.result (body c.max-locals.result c.push-2.new.out.items) (call_function (lifted_of Q) c.args.k) e c.body_of.ensures.is
