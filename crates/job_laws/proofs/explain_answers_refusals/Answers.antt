use Rattle.job_laws.proofs.ExplainedRefusals.{explain_has_no_such_status, explain_refuses_beside_check}
use Rattle.job_laws.proofs.explain_answers_refusals.Goals as goal

pub returns : goal.returns
returns g c = record { beside = explain_refuses_beside_check; statuses = explain_has_no_such_status }
