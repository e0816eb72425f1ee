use Rattle.rule_laws.proofs.Names.{accepted_once, heads_once}
use Rattle.rule_laws.proofs.NoStep.{no_step_is_normal, directed_whnf}
use Rattle.rule_laws.proofs.reduction.directed_whnf_is_whnf.Goals as goal

pub returns : goal.returns
returns c = record { normal = no_step_is_normal; whnf = directed_whnf; accepted = accepted_once; heads = heads_once }
