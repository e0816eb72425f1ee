use Rattle.sparing_exec.proofs.Owing.{jobs_answer_over_lemmas}
use Rattle.sparing_exec.proofs.jobs_answer_over_lemmas.Goals as goal

pub returns : goal.returns
returns g c = record { serves = jobs_answer_over_lemmas }
