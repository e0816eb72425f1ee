use Rattle.cert_rules.proofs.SoundScripts.{script_sound}
use Rattle.cert_rules.proofs.soundness.scripts_are_sound.Goals as goal

pub returns : goal.returns
returns c = record { sound = λ cert E q test n V equal a b s s' h. script_sound E q test cert n V equal a b s s' h }
