use Rattle.call_answers.proofs.CalledPrograms.{called_programs_answer, call_modules_are_valid, call_status_tells}
use Rattle.call_answers.proofs.called_programs_answer.Goals as goal

pub returns : goal.returns
returns c = record { runs = called_programs_answer; valid = call_modules_are_valid; status = call_status_tells }
