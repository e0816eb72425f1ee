use Rattle.std.proofs.Common.{◌++◌, List, map, append-nil, ap, sym, subst, ◌∙◌}
use Rattle.std.proofs.lemmas.Result.{err_from_is_err_and}
use Rattle.closure_lift.specs.LiftedProgram.{lifted_of}
use Rattle.closure_lift.specs.declared.program.LiftedConstant.{LiftedConstant}
use Rattle.wasm_core.specs.ModuleCondition.{All}
use Rattle.wasm_emit.specs.EmittedBodies.{FewInBlock}
use Rattle.wasm_emit.proofs.Listed.{constants_in, constants_few, constants_only, constants_refused, constants_end}
use Rattle.known_calls.specs.KnownModule.{constant}
use Rattle.known_calls.proofs.KnownBuilt.{constants_more}
use Rattle.known_calls.proofs.bodies.push_constants.Goals as goal

pub loop-k-preserved : goal.loop-k-preserved
loop-k-preserved c =
    let Q = c.args.p.now in
    let cs = c.as_slice-constants.result.now in
    record {
      pushed = constants_more Q (constant (lifted_of Q)) cs c.loop-k.k c.index-constants-n.result c.as_slice-constants.ensures.is c.loop-k-test.true c.index-constants-n.is c.in_ok-body.body c.loop-k.bodies.items c.push.new.self.items _ c.in_ok-body.ensures.is c.in_ok-push.ensures.items c.loop-k.invariant.pushed;
      few = constants_few Q cs c.loop-k.k c.index-constants-n.result c.as_slice-constants.ensures.is c.loop-k-test.true c.index-constants-n.is c.in_ok-body.ensures.few c.loop-k.invariant.few;
      only = constants_only Q cs c.loop-k.k c.index-constants-n.result c.as_slice-constants.ensures.is c.loop-k-test.true c.index-constants-n.is c.loop-k.invariant.only;
    }

pub returns-clause-pushed : goal.returns-clause-pushed
returns-clause-pushed c =
    let Q = c.args.p.now in
    let end = constants_end Q c.as_slice-constants.result.now c.loop-k.k c.as_slice-constants.ensures.is c.loop-k-test.false in
    sym (append-nil c.loop-k.bodies.items) ∙ ap (λ (cs : List LiftedConstant). c.loop-k.bodies.items ++ map (constant (lifted_of Q)) (constants_in Q cs)) (sym end) ∙ c.loop-k.invariant.pushed

pub returns-clause-few : goal.returns-clause-few
returns-clause-few c =
    let Q = c.args.p.now in
    let end = constants_end Q c.as_slice-constants.result.now c.loop-k.k c.as_slice-constants.ensures.is c.loop-k-test.false in
    c.loop-k.invariant.few (subst (λ cs. All FewInBlock (constants_in Q cs)) (sym end) tt)

pub returns-in_err-body-clause-refused : goal.returns-in_err-body-clause-refused
returns-in_err-body-clause-refused c =
    let p = err_from_is_err_and c.from_residual.result c.from_residual.ensures.1 in
    rw (p.1, p.2) (constants_refused c.args.p.now c.as_slice-constants.result.now c.loop-k.k c.index-constants-n.result c.as_slice-constants.ensures.is c.loop-k-test.true c.index-constants-n.is _ c.loop-k.invariant.only c.in_err-body.ensures.refused)
