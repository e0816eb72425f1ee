use Rattle.closure_lift.specs.LiftedProgram.{lifted_of}
use Rattle.wasm_emit.specs.EmittedModule.{body}
use Rattle.wasm_emit.proofs.Listed.{same_made}
use Rattle.known_calls.specs.KnownModule.{main_function}
use Rattle.known_calls.proofs.KnownBuilt.{main_made}
use Rattle.known_calls.proofs.bodies.main_body.Goals as goal

pub returns-clause-is : goal.returns-clause-is
returns-clause-is c =
    let Q = c.args.p.now in
    let e = main_made Q c.in_ok-count.count c.in_ok-code.code.items c.push.new.out.items c.push-2.new.out.items c.in_ok-count.ensures.ok.0 c.in_ok-code.ensures.is c.in_ok-push.ensures.pushed c.in_ok-push-2.ensures.pushed in
    same_made c.body_of.result (body c.in_ok-count.count c.push-2.new.out.items) (main_function (lifted_of Q)) e c.body_of.ensures.is
