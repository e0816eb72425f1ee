use Rattle.known_calls.proofs.KnownComposition.{anf_answers_known, anf_known_valid}
use Rattle.known_calls.proofs.laws.known_programs_in_normal_form_answer.Goals as goal

pub returns-clause-runs : goal.returns-clause-runs
returns-clause-runs c = anf_answers_known

pub returns-clause-valid : goal.returns-clause-valid
returns-clause-valid c = anf_known_valid
