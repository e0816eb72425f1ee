use Rattle.std.proofs.Common.{arith, ◌-◌}
use Rattle.closure_lift.specs.LiftedProgram.{lifted_of}
use Rattle.wasm_emit.specs.EmittedModule.{body}
use Rattle.wasm_emit.specs.Pushed.{function_in}
use Rattle.wasm_emit.proofs.Listed.{same_made}
use Rattle.wasm_emit.proofs.Pushing.{top_least}
use Rattle.known_calls.specs.KnownModule.{wide_body}
use Rattle.known_calls.proofs.KnownBuilt.{wide_made}
use Rattle.known_calls.proofs.bodies.wide_body.Goals as goal

pub overflow_sub-count : goal.overflow_sub-count
overflow_sub-count c = omega (arith, c.in_ok-count.ensures.ok.0, top_least 2 c.args.f.now.body)

pub returns-clause-is : goal.returns-clause-is
returns-clause-is c =
    let Q = c.args.p.now in
    let e = wide_made Q c.args.f.now c.new-places.result.items c.push_field_places.new.places.items c.push.new.self.items c.in_ok-count.count c.new-code.result.items c.push_whole.new.out.items c.push-2.new.out.items c.new-places.ensures.items
    c.in_ok-push_field_places.ensures.is c.in_ok-push.ensures.items c.new-code.ensures.items c.in_ok-count.ensures.ok.0 c.in_ok-push_whole.ensures.pushed c.in_ok-push-2.ensures.pushed in
    same_made c.body_of.result (body (c.in_ok-count.count - 2) c.push-2.new.out.items) (wide_body (lifted_of Q) (function_in Q c.args.f.now)) e c.body_of.ensures.is
