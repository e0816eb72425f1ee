use Rattle.rule_laws.proofs.KeepCounts.{steps_counted}
use Rattle.rule_laws.proofs.Comparing.{compare_sound}
use Rattle.rule_laws.proofs.comparison.comparison_is_sound.Goals as goal

pub returns : goal.returns
returns c = record {
  sound = λ E q t w n c equal a b u v vs h k e. compare_sound E q t w n c equal a b u v vs h k e;
  counts = λ E w V t u v h p. steps_counted E w v p h;
}
