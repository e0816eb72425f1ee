use Rattle.std.proofs.Common.{◌≡◌, ◌∙◌, ap, None, arith}
use Rattle.std.proofs.lemmas.List.{drop_all}
use Rattle.pc_rules.specs.DirectedDeclarations.{first_undeclared_end}
use Rattle.rule_laws.proofs.Environments.{are_over}
use Rattle.env_check.proofs.constraints.check_constraints.Goals as goal

pub returns-clause-over : goal.returns-clause-over
returns-clause-over c =
    let n = c.args.levels in
    let cs = c.args.constraints.now in
    let e = ap (λ rest. first_undeclared_end n c.loop-i.i rest) (drop_all c.loop-i.i cs (omega arith)) in
    let none : first_undeclared_end n 0 cs ≡ None = c.loop-i.invariant ∙ e in
    are_over n 0 cs none
