use Rattle.calculus_rules.proofs.WeakHead.{weak_step, weak_equal, weak_determined, whnf_determined}
use Rattle.calculus_rules.proofs.laws.weak_head_normal_form_is_unique.Goals as goal

pub returns : goal.returns
returns c = record {
  steps = λ E V t u p. weak_step p;
  equal = λ E V t u h. weak_equal h.0;
  step = λ E o V t u w p q. weak_determined o p q;
  unique = λ E o V t u w h h'. whnf_determined o h.0 h.1 h'.0 h'.1;
}
