use Rattle.call_laws.proofs.FormBreaks.{syntax_of_form}
use Rattle.call_laws.proofs.syntax_faults_break_the_form.Goals as goal

pub returns : goal.returns
returns c = record { syntax = syntax_of_form }
