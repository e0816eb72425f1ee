-- Each evaluation is a sparing one.
use Rattle.std.proofs.Common.{ℕ}
use Rattle.pc_terms.specs.Syntax.{Term}
use Rattle.calculus_rules.specs.Environment.{Env}
use Rattle.calculus_rules.specs.Evaluation.{Evaluates, value, constant, let_in, beta, extend, unfold_fix, enter}
use Rattle.sparing_laws.specs.SparingEvaluation.{EvaluatesSparingly, EvaluatesSparingly.value, EvaluatesSparingly.constant, EvaluatesSparingly.let_in, EvaluatesSparingly.beta, EvaluatesSparingly.extend, EvaluatesSparingly.unfold_fix, EvaluatesSparingly.enter, evaluated}
use Rattle.sparing_laws.specs.Laws.{EvaluationsAreSparing}

included : {E : Env} {t v : Term} {n : ℕ} → Evaluates E t v n → EvaluatesSparingly E t v n
included (value i) = EvaluatesSparingly.value i
included (constant k e) = EvaluatesSparingly.constant k (included e)
included (let_in e e') = EvaluatesSparingly.let_in (evaluated (included e)) (included e')
included (beta e e' e'') = EvaluatesSparingly.beta (included e) (evaluated (included e')) (included e'')
included (extend e e' m) = EvaluatesSparingly.extend (included e) (evaluated (included e')) m
included (unfold_fix e e' u e'') = EvaluatesSparingly.unfold_fix (included e) (included e') u (included e'')
included (enter e c b e') = EvaluatesSparingly.enter (included e) c b (included e')

pub evaluations_are_sparing : EvaluationsAreSparing
evaluations_are_sparing E t v n e = included e
