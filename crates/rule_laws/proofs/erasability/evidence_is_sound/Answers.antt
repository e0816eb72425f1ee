use Rattle.pc_rules.specs.DirectedTyping.{infer}
use Rattle.rule_laws.proofs.Inferring.{infer_sound}
use Rattle.rule_laws.proofs.Evidence.{evidence_sound}
use Rattle.rule_laws.proofs.erasability.evidence_is_sound.Goals as goal

pub returns : goal.returns
returns c = record { sound = λ E q test w n c t k u v kc wt h. evidence_sound E w (infer E q n) (infer_sound E w q test n) c t k u v kc wt h }
