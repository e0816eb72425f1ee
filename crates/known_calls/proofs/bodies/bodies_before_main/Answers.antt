use Rattle.std.proofs.lemmas.Result.{err_from_is_err_and}
use Rattle.closure_lift.specs.LiftedProgram.{lifted_of}
use Rattle.wasm_emit.specs.EmittedBodies.{FewLocals}
use Rattle.wasm_emit.proofs.Listed.{refused_more}
use Rattle.known_calls.proofs.KnownBuilt.{before_made}
use Rattle.known_calls.proofs.bodies.bodies_before_main.Goals as goal

pub returns-clause-is : goal.returns-clause-is
returns-clause-is c =
    before_made (lifted_of c.args.p.now) c.new-bodies.result.items c.push.new.self.items c.push-2.new.self.items c.push_entries.new.bodies.items c.push_constants.new.bodies.items c.in_ok-first.first c.in_ok-second.second
    c.new-bodies.ensures.items c.in_ok-push.ensures.items c.in_ok-first.ensures.is c.in_ok-push-2.ensures.items c.in_ok-second.ensures.is c.in_ok-push_entries.ensures.pushed c.in_ok-push_constants.ensures.pushed

pub returns-in_err-push_entries-clause-refused : goal.returns-in_err-push_entries-clause-refused
returns-in_err-push_entries-clause-refused c =
    let p = err_from_is_err_and c.from_residual-in_err-push_entries.result c.from_residual-in_err-push_entries.ensures.1 in
    rw (p.1, p.2) (refused_more _ (λ (x : FewLocals (lifted_of c.args.p.now)). x.functions) c.in_err-push_entries.ensures.refused)

pub returns-in_err-push_constants-clause-refused : goal.returns-in_err-push_constants-clause-refused
returns-in_err-push_constants-clause-refused c =
    let p = err_from_is_err_and c.from_residual-in_err-push_constants.result c.from_residual-in_err-push_constants.ensures.1 in
    rw (p.1, p.2) (refused_more _ (λ (x : FewLocals (lifted_of c.args.p.now)). x.constants) c.in_err-push_constants.ensures.refused)
