use Rattle.std.proofs.lemmas.Result.{err_from_is_err_and}
use Rattle.calculus_rules.specs.Environment.{FamilyDecl, with_parameters}
use Rattle.type_infer.proofs.MatchLists.{parameters_stop, indices_stop, branches_stop, names_go}
use Rattle.type_infer.proofs.counts.match_counted.Goals as goal

pub returns-in_err-counted-clause-answers : goal.returns-in_err-counted-clause-answers
returns-in_err-counted-clause-answers c =
    let p = err_from_is_err_and c.from_residual.result c.from_residual.ensures.1 in
    let F : FamilyDecl = with_parameters c.args.block.now.params c.args.family.now in
    let f1 = rw (c.len.ensures.is, c.len-2.ensures.is) at c.in_err-counted.ensures.answers in
    rw (p.1, p.2) (λ u. parameters_stop F c.args.x.now.binders c.args.x.now.params c.args.x.now.branches u c.in_err-counted.field-0.0 (f1 u))

pub returns-in_err-counted-2-clause-answers : goal.returns-in_err-counted-2-clause-answers
returns-in_err-counted-2-clause-answers c =
    let p = err_from_is_err_and c.from_residual-in_err-counted-2.result c.from_residual-in_err-counted-2.ensures.1 in
    let F : FamilyDecl = with_parameters c.args.block.now.params c.args.family.now in
    let f1 = rw (c.len.ensures.is, c.len-2.ensures.is) at c.in_ok-counted.ensures.answers in
    let f2 = rw (c.len-indices.ensures.is) at c.in_err-counted-2.ensures.answers in
    rw (p.1, p.2) (λ u. indices_stop F c.args.x.now.binders c.args.x.now.params c.args.x.now.branches u (f1 u) c.in_err-counted-2.field-0.0 (f2 u))

pub returns-in_err-counted-3-clause-answers : goal.returns-in_err-counted-3-clause-answers
returns-in_err-counted-3-clause-answers c =
    let p = err_from_is_err_and c.from_residual-in_err-counted-3.result c.from_residual-in_err-counted-3.ensures.1 in
    let F : FamilyDecl = with_parameters c.args.block.now.params c.args.family.now in
    let f1 = rw (c.len.ensures.is, c.len-2.ensures.is) at c.in_ok-counted.ensures.answers in
    let f2 = rw (c.len-indices.ensures.is) at c.in_ok-counted-2.ensures.answers in
    let f3 = rw (c.len-3.ensures.is, c.len-4.ensures.is) at c.in_err-counted-3.ensures.answers in
    rw (p.1, p.2) (λ u. branches_stop F c.args.x.now.binders c.args.x.now.params c.args.x.now.branches u (f1 u) (f2 u) c.in_err-counted-3.field-0.0 (f3 u))

pub returns-clause-answers : goal.returns-clause-answers
returns-clause-answers c =
    let F : FamilyDecl = with_parameters c.args.block.now.params c.args.family.now in
    let f1 = rw (c.len.ensures.is, c.len-2.ensures.is) at c.in_ok-counted.ensures.answers in
    let f2 = rw (c.len-indices.ensures.is) at c.in_ok-counted-2.ensures.answers in
    let f3 = rw (c.len-3.ensures.is, c.len-4.ensures.is) at c.in_ok-counted-3.ensures.answers in
    λ u. names_go F c.args.x.now.binders c.args.x.now.params c.args.x.now.branches u (f1 u) (f2 u) c.names_counted.result (f3 u) (c.names_counted.ensures.answers u)
