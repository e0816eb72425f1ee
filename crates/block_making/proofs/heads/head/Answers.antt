use Rattle.std.proofs.Common.{[]}
use Rattle.pc_rules.specs.DirectedTyping.{levels_declared, undeclared_in}
use Rattle.pc_rules.specs.DirectedDeclarations.{distinct_names}
use Rattle.rule_laws.proofs.SimpleRules.{levels_are_declared, declared_over}
use Rattle.inductive_check.specs.Given.{family_of}
use Rattle.script_making.proofs.Making.{makes_on, makes_err, makes_passed, makes_answers}
use Rattle.block_making.proofs.heads.head.Goals as goal

pub returns-in_err-are_distinct-clause-makes : goal.returns-in_err-are_distinct-clause-makes
returns-in_err-are_distinct-clause-makes g c = λ B ep.
    let F = family_of c.args.family.now in
    let a1 = rw c.as_slice.ensures.is at c.in_err-are_distinct.ensures.answers c.args.draft.now.meter.account in
    makes_passed c.from_residual.ensures.1 (makes_err _ (makes_answers (distinct_names [] F.ctors) a1))

pub returns-in_err-are_declared-clause-makes : goal.returns-in_err-are_declared-clause-makes
returns-in_err-are_declared-clause-makes g c = λ B ep.
    let F = family_of c.args.family.now in
    let E = c.args.typer.now.maker.env.now in
    let u = c.args.draft.now.meter.account in
    let a1 = rw c.as_slice.ensures.is at c.in_ok-are_distinct.ensures.answers u in
    let a2 = rw (c.levels.ensures.value, c.graph.ensures.levels) at c.in_err-are_declared.ensures.answers u in
    makes_passed c.from_residual-in_err-are_declared.ensures.1
    (makes_on _ (makes_answers (distinct_names [] F.ctors) a1) (makes_err _ (makes_answers (levels_declared (undeclared_in E.levels F.sort)) a2)))

pub returns-in_err-_inner-clause-makes : goal.returns-in_err-_inner-clause-makes
returns-in_err-_inner-clause-makes g c = λ B ep.
    let F = family_of c.args.family.now in
    let E = c.args.typer.now.maker.env.now in
    let u = c.args.draft.now.meter.account in
    let a1 = rw c.as_slice.ensures.is at c.in_ok-are_distinct.ensures.answers u in
    let a2 = rw (c.levels.ensures.value, c.graph.ensures.levels) at c.in_ok-are_declared.ensures.answers u in
    rw ep (makes_passed c.from_residual-in_err-_inner.ensures.1
    (makes_on _ (makes_answers (distinct_names [] F.ctors) a1) (makes_on _ (makes_answers (levels_declared (undeclared_in E.levels F.sort)) a2) c.in_err-_inner.ensures.makes)))

pub returns-clause-makes : goal.returns-clause-makes
returns-clause-makes g c = λ B ep.
    let F = family_of c.args.family.now in
    let E = c.args.typer.now.maker.env.now in
    let u = c.args.draft.now.meter.account in
    let a1 = rw c.as_slice.ensures.is at c.in_ok-are_distinct.ensures.answers u in
    let a2 = rw (c.levels.ensures.value, c.graph.ensures.levels) at c.in_ok-are_declared.ensures.answers u in
    rw ep (makes_on _ (makes_answers (distinct_names [] F.ctors) a1) (makes_on _ (makes_answers (levels_declared (undeclared_in E.levels F.sort)) a2) c.in_ok-_inner.ensures.makes))

pub returns-clause-counted : goal.returns-clause-counted
returns-clause-counted g c =
    let E = c.args.typer.now.maker.env.now in
    let F = c.args.family.now in
    let u = c.args.draft.now.meter.account in
    let a2 = rw (c.levels.ensures.value, c.graph.ensures.levels) at c.in_ok-are_declared.ensures.answers u in
    let over = declared_over E F.sort (levels_are_declared E F.sort u u a2) in
    ((c.in_ok-_inner.ensures.counted, tt, over), tt)
