use Rattle.calculus_rules.proofs.WeakHead.{weak_step}
use Rattle.pc_rules.proofs.WeakNext.{weak_next_found}
use Rattle.pc_rules.proofs.FairReduction.{steps_lead}
use Rattle.pc_rules.proofs.directed_laws.directed_steps_are_steps.Goals as goal

pub returns : goal.returns
returns c = record {
  steps = λ E V t w e. weak_step (weak_next_found E V t w e);
  weak_steps = weak_next_found;
  reached = λ E V t w u v h. steps_lead E V u.left t w u v h;
}
