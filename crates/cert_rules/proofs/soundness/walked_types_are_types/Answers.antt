use Rattle.cert_rules.specs.Scripts.{script}
use Rattle.cert_rules.specs.WalkTyping.{walk_infer}
use Rattle.cert_rules.proofs.SoundScripts.{script_sound}
use Rattle.cert_rules.proofs.SoundSimple.{sort_sound, check_sound}
use Rattle.cert_rules.proofs.SoundTyping.{infer_sound}
use Rattle.cert_rules.proofs.soundness.walked_types_are_types.Goals as goal

pub returns : goal.returns
returns c = record {
  infer = λ cert E q test w n c t T s s' k f h. infer_sound cert E w q test n c t T s s' k f h;
  sort_of = λ cert E q test w n c t x s s' k f h. (sort_sound cert E w (walk_infer cert E q n) (infer_sound cert E w q test n) c t x s s' k f h).0;
  check = λ cert E q test w n c t T s s' k f f' h.
      (check_sound cert E w (walk_infer cert E q n) (infer_sound cert E w q test n) (script cert E q n) (script_sound E q test cert n) c t T s s' k f f' h).0;
}
