use Rattle.std.proofs.Common.{ap}
use Rattle.reduce_machine.proofs.Closing.{first_read}
use Rattle.reduce_machine.proofs.reducts.Reducts.argument.Goals as goal

pub returns-then-is_wanted-clause-ok : goal.returns-then-is_wanted-clause-ok
returns-then-is_wanted-clause-ok c =
    let e = rw c.in-Rel.is at c.view.ensures.is in
    first_read c.in_ok-first.first c.in-Some.behind.now.items c.args.env.now.items c.in-Rel.i c.args.part.now c.args.self.now.variable c.in_ok-first.ensures.term
    c.requires.ready.0 (ap (λ b. b.items) c.in_ok-first.ensures.env) c.in-Some.ensures.items c.in-Some.ensures.some e
