use Rattle.pc_rules.specs.DirectedComparison.{compare}
use Rattle.pc_rules.specs.DirectedTyping.{infer}
use Rattle.rule_laws.proofs.Comparing.{compare_sound}
use Rattle.rule_laws.proofs.SimpleRules.{sort_sound, check_sound}
use Rattle.rule_laws.proofs.Inferring.{infer_sound}
use Rattle.rule_laws.proofs.inference.inference_is_sound.Goals as goal

pub returns : goal.returns
returns c = record {
  infer = λ E q test w n c t T u v k f h. infer_sound E w q test n c t T u v k f h;
  sort_of = λ E q test w n c t s u v k f h. (sort_sound E w (infer E q n) (infer_sound E w q test n) c t s u v k f h).0;
  check = λ E q test w n c t T u v k f f' h.
      (check_sound E w (infer E q n) (infer_sound E w q test n) (compare E q n) (compare_sound E q test w n) c t T u v k f f' h).0;
}
