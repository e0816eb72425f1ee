use Rattle.std.proofs.Common.{rules, ◌≤◌, refl}
use Rattle.calculus_rules.specs.Context.{values}
use Rattle.pc_rules.specs.DirectedWeakHead.{weak_next}
use Rattle.reduce_machine.specs.Reads.{read}
use Rattle.reduce_machine.specs.Values.{term_of}
use Rattle.type_cert.specs.Passes.{paced}
use Rattle.type_cert.proofs.Stepping.{after_walks}
use Rattle.type_cert.proofs.taken.stepped_value.Goals as goal

pub returns-in-Some-clause-walks : goal.returns-in-Some-clause-walks
returns-in-Some-clause-walks c item u =
    let E = c.args.env.now in
    let V = values c.args.ctx.now in
    let l : c.args.n ≤ c.args.pace.now.left = search rules in
    rw c.in-Lazy.is (after_walks E V item c.args.n (read c.in-Lazy.l.now) (term_of c.in-Some.value) (paced u c.args.pace.now) (weak_next E V (read c.in-Lazy.l.now)) refl c.in-Some.ensures.after l)
