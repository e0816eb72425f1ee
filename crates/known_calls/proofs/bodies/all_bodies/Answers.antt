use Rattle.std.proofs.lemmas.Result.{err_from_is_err_and}
use Rattle.closure_lift.specs.LiftedProgram.{lifted_of}
use Rattle.wasm_emit.specs.EmittedBodies.{FewLocals}
use Rattle.wasm_emit.proofs.Listed.{main_refused, refused_more}
use Rattle.known_calls.specs.KnownModule.{main_function}
use Rattle.known_calls.proofs.KnownBuilt.{bodies_made, few_locals}
use Rattle.known_calls.proofs.bodies.all_bodies.Goals as goal

pub returns-clause-is : goal.returns-clause-is
returns-clause-is c =
    bodies_made (lifted_of c.args.p.now) (main_function (lifted_of c.args.p.now)) c.in_ok-bodies.bodies.items c.push.new.self.items c.push_workers.new.bodies.items c.in_ok-main.main c.in_ok-bodies.ensures.is c.in_ok-push.ensures.items c.in_ok-main.ensures.is c.in_ok-push_workers.ensures.pushed

pub returns-clause-few : goal.returns-clause-few
returns-clause-few c = few_locals c.args.p.now c.in_ok-push_workers.ensures.few c.in_ok-bodies.ensures.few c.in_ok-main.ensures.few

pub returns-in_err-main-clause-refused : goal.returns-in_err-main-clause-refused
returns-in_err-main-clause-refused c =
    let p = err_from_is_err_and c.from_residual-in_err-main.result c.from_residual-in_err-main.ensures.1 in
    rw (p.1, p.2) (main_refused c.args.p.now _ c.in_err-main.ensures.refused)

pub returns-in_err-push_workers-clause-refused : goal.returns-in_err-push_workers-clause-refused
returns-in_err-push_workers-clause-refused c =
    let p = err_from_is_err_and c.from_residual-in_err-push_workers.result c.from_residual-in_err-push_workers.ensures.1 in
    rw (p.1, p.2) (refused_more _ (λ (x : FewLocals (lifted_of c.args.p.now)). x.functions) c.in_err-push_workers.ensures.refused)
