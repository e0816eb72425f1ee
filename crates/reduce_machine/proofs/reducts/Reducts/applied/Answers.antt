use Rattle.std.proofs.Common.{◌∙◌, ap, sym}
use Rattle.pc_terms.specs.Syntax.{apply, variables}
use Rattle.reduce_machine.proofs.reducts.Reducts.applied.Goals as goal

pub returns-in-Some-clause-ok : goal.returns-in-Some-clause-ok
returns-in-Some-clause-ok c = let h = rw c.in-Some.is at c.in_ok-made.ensures.ok in h

pub returns-clause-ok : goal.returns-clause-ok
returns-clause-ok c = c.in_ok-again.ensures.ok ∙ c.in_ok-whole.ensures.ok ∙ ap (λ t. apply t (variables c.args.count)) c.in_ok-first.ensures.ok

pub returns-clause-ready : goal.returns-clause-ready
returns-clause-ready c =
    (c.requires.ready.0, c.in_ok-whole.ensures.ok ∙ ap (λ t. apply t (variables c.args.count)) (c.in_ok-first.ensures.ok ∙ sym c.in_ok-head.ensures.ok))
