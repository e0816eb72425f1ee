use Rattle.cert_rules.specs.WalkSteps.{reduced}
use Rattle.type_cert.proofs.Retracing.{retraces_on, retraces_err, retraces_pass, retraces_number}
use Rattle.type_cert.proofs.numbers.reduced.Goals as goal

pub returns-in_err-count-clause-retraces : goal.returns-in_err-count-clause-retraces
unfolding reduced
returns-in_err-count-clause-retraces c = retraces_number _ c.from_residual.result c.from_residual.ensures.1 (retraces_err _ c.in_err-count.ensures.retraces)

pub returns-in_err-term-clause-retraces : goal.returns-in_err-term-clause-retraces
unfolding reduced
returns-in_err-term-clause-retraces c =
    retraces_number _ c.from_residual-in_err-term.result c.from_residual-in_err-term.ensures.1 (retraces_on _ c.in_ok-count.ensures.retraces (retraces_err _ c.in_err-term.ensures.retraces))

pub returns-clause-retraces : goal.returns-clause-retraces
unfolding reduced
returns-clause-retraces c = retraces_on _ c.in_ok-count.ensures.retraces (retraces_on _ c.in_ok-term.ensures.retraces (retraces_pass _ _))
