use Rattle.std.proofs.Common.{ap, ◌∙◌}
use Rattle.std.proofs.lemmas.Result.{err_from_is_err_and}
use Rattle.closure_lift.specs.LiftedProgram.{lifted_of}
use Rattle.known_calls.specs.KnownCalls.{module_of_call}
use Rattle.compile.specs.Passes.{of_emission}
use Rattle.compile.proofs.Emitting.{none_ok, refused_at, all_fit, not_emitted}
use Rattle.compile.proofs.passes.compile_call.Goals as goal

pub returns-in_err-lifted : goal.returns-in_err-lifted
returns-in_err-lifted c =
    let P = c.args.p.now in
    let f = c.in_err-lifted.field-0.0 in
    let r = c.from_residual.result in
    let exit = err_from_is_err_and r c.from_residual.ensures.1 in
    record { is = none_ok _ r f exit; fits = none_ok _ r f exit; refused = refused_at P r f exit c.in_err-lifted.ensures.refused }

pub emit_call-requires-clause-form : goal.emit_call-requires-clause-form
emit_call-requires-clause-form c = c.in_ok-lifted.ensures.emits

pub returns-in_err-module : goal.returns-in_err-module
returns-in_err-module c =
    let P = c.args.p.now in
    let l = c.in_ok-lifted.ensures in
    let f = c.in_err-module.field-0.0 in
    let r = c.from_residual-in_err-module.result in
    let exit = err_from_is_err_and r c.from_residual-in_err-module.ensures.1 in
    let h = not_emitted P (lifted_of c.in_ok-lifted.lifted) l.is l.lowers f c.in_err-module.ensures.refused in
    record { is = none_ok _ r (of_emission f) exit; fits = none_ok _ r (of_emission f) exit; refused = refused_at P r (of_emission f) exit h }

pub returns : goal.returns
returns c =
    let l = c.in_ok-lifted.ensures in
    let m = c.in_ok-module.ensures in
    record {
      is = m.is ∙ ap (λ x. module_of_call x c.args.k c.args.pages) l.is;
      fits = all_fit c.args.p.now (lifted_of c.in_ok-lifted.lifted) l.is l.lowers m.few;
      refused = tt;
    }
