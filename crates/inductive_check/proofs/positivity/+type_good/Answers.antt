use Rattle.std.proofs.Common.{true, false, map}
use Rattle.inductive_check.specs.Waiting.{waiting, type_waits}
use Rattle.inductive_check.proofs.Going.{goes_by, variable_holds, domain_fails, product_then, none_named, not_variable, not_product}
use Rattle.inductive_check.proofs.positivity.+type_good.Goals as goal

pub returns-in-Rel-clause-goes : goal.returns-in-Rel-clause-goes
returns-in-Rel-clause-goes t c =
    let e = rw c.in-Rel.is at c.view.ensures.is in
    rw (← e) (λ m. goes_by c.args.env.now (map waiting c.args.tests.now.items) _ (map waiting c.args.tests.now.items) true m (variable_holds c.args.env.now (map waiting c.args.tests.now.items) c.args.target c.args.under _ m.account))

pub returns-then-names-clause-goes : goal.returns-then-names-clause-goes
returns-then-names-clause-goes t c =
    let e = rw c.in-Prod.is at c.view.ensures.is in
    rw (← e) (λ m. goes_by c.args.env.now (map waiting c.args.tests.now.items) _ (map waiting c.args.tests.now.items) false m (domain_fails c.args.env.now (map waiting c.args.tests.now.items) c.args.target c.args.under c.in-Prod.domain c.in-Prod.codomain m.account c.if-names.ensures.is))

pub returns-then-not-names : goal.returns-then-not-names
returns-then-not-names t c = record {
  goes = λ m. goes_by c.args.env.now (map waiting c.args.tests.now.items) (type_waits c.args.target c.args.under c.args.ty.now) (map waiting c.args.tests.now.items) true m (none_named c.args.env.now (map waiting c.args.tests.now.items) c.args.target c.args.under c.args.ty.now m.account
      (not_variable c.view.result.now c.args.ty.now c.view.ensures.is c.in_default.not-Rel) (not_product c.view.result.now c.args.ty.now c.view.ensures.is c.in_default.not-Prod) c.if-not-names.ensures.is);
  only_memory = tt;
}

pub returns-in-Some-clause-goes : goal.returns-in-Some-clause-goes
returns-in-Some-clause-goes t c =
    let e = rw c.in-Prod.is at c.view.ensures.is in
    rw (← e) (product_then c.args.env.now (map waiting c.args.tests.now.items) c.args.target c.args.under c.in-Prod.domain c.in-Prod.codomain (map waiting c.type_good.new.tests.items) c.type_good.result c.in-Some.inner c.in-Some.ensures.1 c.if-names.ensures.is
    c.type_good.ensures.goes)
