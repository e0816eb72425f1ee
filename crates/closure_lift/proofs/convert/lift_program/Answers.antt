use Rattle.std.proofs.lemmas.Result.{IfOk-weaker}
use Rattle.closure_lift.proofs.Converting.{is_lift, keeps, has_form, is_within, has_constants, has_few}
use Rattle.closure_lift.proofs.convert.lift_program.Goals as goal

pub returns-clause-exact : goal.returns-clause-exact
returns-clause-exact c = IfOk-weaker c.lift_named.result _ _ (λ q h. h.exact) c.lift_named.ensures.lifted

pub returns-clause-is : goal.returns-clause-is
returns-clause-is c = IfOk-weaker c.lift_named.result _ _ (λ q h. is_lift c.args.p.now q h) c.lift_named.ensures.lifted

pub returns-clause-data_kept : goal.returns-clause-data_kept
returns-clause-data_kept c = IfOk-weaker c.lift_named.result _ _ (λ q h. keeps c.args.p.now q h) c.lift_named.ensures.lifted

pub returns-clause-form : goal.returns-clause-form
returns-clause-form c = IfOk-weaker c.lift_named.result _ _ (λ q h. has_form c.args.p.now q h) c.lift_named.ensures.lifted

pub returns-clause-within : goal.returns-clause-within
returns-clause-within c = IfOk-weaker c.lift_named.result _ _ (λ q h. is_within c.args.p.now q h) c.lift_named.ensures.lifted

pub returns-clause-captures : goal.returns-clause-captures
returns-clause-captures c = IfOk-weaker c.lift_named.result _ _ (λ q h. h.captures) c.lift_named.ensures.lifted

pub returns-clause-constants : goal.returns-clause-constants
returns-clause-constants c = IfOk-weaker c.lift_named.result _ _ (λ q h. has_constants c.args.p.now q h) c.lift_named.ensures.lifted

pub returns-clause-functions : goal.returns-clause-functions
returns-clause-functions c = IfOk-weaker c.lift_named.result _ _ (λ q h. has_few c.args.p.now q h) c.lift_named.ensures.lifted
