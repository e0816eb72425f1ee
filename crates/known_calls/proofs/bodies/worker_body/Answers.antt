use Rattle.std.proofs.Common.{arith, ◌-◌, sym, ◌∙◌}
use Rattle.closure_lift.specs.LiftedProgram.{lifted_of}
use Rattle.wasm_emit.specs.EmittedModule.{body}
use Rattle.wasm_emit.specs.Pushed.{function_in}
use Rattle.wasm_emit.proofs.Listed.{same_made}
use Rattle.wasm_emit.proofs.Pushing.{top_least}
use Rattle.known_calls.specs.KnownModule.{worker}
use Rattle.known_calls.proofs.KnownBuilt.{worker_done}
use Rattle.known_calls.proofs.bodies.worker_body.Goals as goal

pub overflow_sub-count : goal.overflow_sub-count
overflow_sub-count c = omega (arith, c.in_ok-count.ensures.ok.0, top_least 2 c.args.f.now.body)

pub returns-clause-is : goal.returns-clause-is
returns-clause-is c =
    let Q = c.args.p.now in
    let e = worker_done Q c.args.g c.args.f.now c.in_ok-count.count c.in_ok-code.code.items c.in_ok-count.ensures.ok.0 (sym c.is_wide.ensures.is ∙ c.if-is_wide.false) c.in_ok-code.ensures.is in
    same_made c.body_of.result (body (c.in_ok-count.count - 2) c.in_ok-code.code.items) (worker (lifted_of Q) c.args.g (function_in Q c.args.f.now)) e c.body_of.ensures.is
