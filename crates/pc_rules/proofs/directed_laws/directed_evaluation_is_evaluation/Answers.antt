use Rattle.std.proofs.Common.{◌+◌, arith}
use Rattle.pc_rules.proofs.EvaluationRuns.{evaluate_sound}
use Rattle.pc_rules.proofs.EvaluationReached.{reached}
use Rattle.pc_rules.proofs.directed_laws.directed_evaluation_is_evaluation.Goals as goal

pub returns : goal.returns
returns c = record {
  sound = λ E t v u w h. evaluate_sound E u.left t v u w h;
  complete = λ E a t v n e w. reached E a (w.left + n) t v n e (omega arith) w;
}
