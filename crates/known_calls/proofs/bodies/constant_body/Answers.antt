use Rattle.closure_lift.specs.LiftedProgram.{renumber, place_in, lifted_of}
use Rattle.wasm_emit.specs.EmittedModule.{body}
use Rattle.wasm_emit.proofs.Listed.{same_made}
use Rattle.known_calls.specs.KnownModule.{constant}
use Rattle.known_calls.proofs.KnownBuilt.{constant_made}
use Rattle.known_calls.proofs.bodies.constant_body.Goals as goal

pub returns-clause-is : goal.returns-clause-is
returns-clause-is c =
    let Q = c.args.p.now in
    let e = constant_made Q c.args.b.now c.in_ok-count.count c.in_ok-code.code.items c.push.new.out.items c.in_ok-count.ensures.ok.0 c.in_ok-code.ensures.is c.in_ok-push.ensures.pushed in
    same_made c.body_of.result (body c.in_ok-count.count c.push.new.out.items) (constant (lifted_of Q) (renumber (place_in Q.constants) c.args.b.now)) e c.body_of.ensures.is
