use Rattle.std.proofs.Common.{◌≡◌, ℕ, ◌++◌, List, append-nil, ap, sym, subst, ◌∙◌}
use Rattle.std.proofs.Math.ListN.{drop_of_length-le}
use Rattle.std.proofs.lemmas.Result.{err_from_is_err_and}
use Rattle.closure_lift.specs.Lifted.{Fn}
use Rattle.closure_lift.specs.LiftedProgram.{renumber_functions, place_in, lifted_of}
use Rattle.closure_lift.specs.declared.program.Function.{Function}
use Rattle.wasm_core.specs.ModuleCondition.{All}
use Rattle.wasm_emit.specs.EmittedBodies.{FewInFunction}
use Rattle.wasm_emit.specs.Pushed.{function_in}
use Rattle.wasm_emit.proofs.Listed.{functions_in, functions_few, functions_only, functions_refused}
use Rattle.known_calls.specs.KnownModule.{worker, numbered}
use Rattle.known_calls.proofs.KnownBuilt.{numbered_more}
use Rattle.known_calls.proofs.bodies.push_workers.Goals as goal

pub loop-g-init : goal.loop-g-init
loop-g-init c =
    let Q = c.args.p.now in
    let e : functions_in Q c.as_slice-functions.result.now ≡ ((lifted_of Q).functions) = ap (λ (fs : List Fn). renumber_functions (place_in Q.constants) fs) c.as_slice-functions.ensures.is in
    record {
      pushed = ap (λ (fs : List Fn). c.args.bodies.now.items ++ numbered (worker (lifted_of Q)) 0 fs) e;
      few = λ a. subst (λ fs. All FewInFunction fs) e a;
      only = λ a. subst (λ fs. All FewInFunction fs) (sym e) a;
    }

pub loop-g-preserved : goal.loop-g-preserved
loop-g-preserved c =
    let Q = c.args.p.now in
    let fs = c.as_slice-functions.result.now in
    record {
      pushed = numbered_more Q (worker (lifted_of Q)) fs c.loop-g.g c.index-functions-g.result c.loop-g-test.true c.index-functions-g.is c.in_ok-body.body c.loop-g.bodies.items c.push.new.self.items _
          (subst (λ (j : ℕ). c.in_ok-body.body ≡ worker (lifted_of Q) j (function_in Q c.index-functions-g.result)) c.in_ok-number.ensures.is c.in_ok-body.ensures.is) c.in_ok-push.ensures.items c.loop-g.invariant.pushed;
      few = functions_few Q fs c.loop-g.g c.index-functions-g.result c.loop-g-test.true c.index-functions-g.is c.in_ok-body.ensures.few c.loop-g.invariant.few;
      only = functions_only Q fs c.loop-g.g c.index-functions-g.result c.loop-g-test.true c.index-functions-g.is c.loop-g.invariant.only;
    }

pub returns-clause-pushed : goal.returns-clause-pushed
returns-clause-pushed c =
    let Q = c.args.p.now in
    let end = drop_of_length-le c.as_slice-functions.result.now c.loop-g-test.false in
    sym (append-nil c.loop-g.bodies.items) ∙ ap (λ (fs : List Function). c.loop-g.bodies.items ++ numbered (worker (lifted_of Q)) c.loop-g.g (functions_in Q fs)) (sym end) ∙ c.loop-g.invariant.pushed

pub returns-clause-few : goal.returns-clause-few
returns-clause-few c =
    let Q = c.args.p.now in
    let end = drop_of_length-le c.as_slice-functions.result.now c.loop-g-test.false in
    c.loop-g.invariant.few (subst (λ fs. All FewInFunction (functions_in Q fs)) (sym end) tt)

pub returns-in_err-body-clause-refused : goal.returns-in_err-body-clause-refused
returns-in_err-body-clause-refused c =
    let p = err_from_is_err_and c.from_residual-in_err-body.result c.from_residual-in_err-body.ensures.1 in
    rw (p.1, p.2) (functions_refused c.args.p.now c.as_slice-functions.result.now c.loop-g.g c.index-functions-g.result c.loop-g-test.true c.index-functions-g.is _ c.loop-g.invariant.only c.in_err-body.ensures.refused)
