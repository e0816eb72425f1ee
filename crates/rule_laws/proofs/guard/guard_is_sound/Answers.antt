use Rattle.rule_laws.proofs.Guarding.{guard_sound}
use Rattle.rule_laws.proofs.guard.guard_is_sound.Goals as goal

pub returns : goal.returns
returns c = record { sound = λ E w V vs i rargs types bodies u v k l h. guard_sound E w V vs rargs bodies u v k.1.1.0 l h }
