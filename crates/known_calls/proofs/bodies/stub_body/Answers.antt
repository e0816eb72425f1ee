use Rattle.closure_lift.specs.LiftedProgram.{lifted_of}
use Rattle.wasm_emit.specs.EmittedModule.{body}
use Rattle.wasm_emit.proofs.Listed.{same_made}
use Rattle.known_calls.specs.KnownModule.{stub_code}
use Rattle.known_calls.proofs.KnownBuilt.{stub_made}
use Rattle.known_calls.proofs.bodies.stub_body.Goals as goal

pub returns-clause-is : goal.returns-clause-is
returns-clause-is c =
    let P = lifted_of c.args.p.now in
    let e = stub_made P c.args.g c.args.captured c.in_ok-index.index c.new-code.result.items c.push_captured.new.out.items c.push.new.out.items c.push-2.new.out.items c.push-3.new.out.items c.new-code.ensures.items c.in_ok-index.ensures.is
    c.in_ok-push_captured.ensures.pushed c.in_ok-push.ensures.pushed c.in_ok-push-2.ensures.pushed c.in_ok-push-3.ensures.pushed in
    same_made c.body_of.result (body 0 c.push-3.new.out.items) (body 0 (stub_code P c.args.g c.args.captured)) e c.body_of.ensures.is
