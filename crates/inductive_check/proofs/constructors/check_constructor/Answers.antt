use Rattle.std.proofs.Common.{◌∙◌, length, ap}
use Rattle.calculus_rules.specs.Context.{extend}
use Rattle.pc_rules.specs.DirectedTyping.{counted}
use Rattle.pc_rules.specs.DirectedDeclarations.{result_names}
use Rattle.pc_rules.proofs.Following.{follows_bind, follows_halted, follows_memory, follows_done}
use Rattle.pc_rules.proofs.Leaving.{leaving}
use Rattle.inductive_check.proofs.Leading.{still_bind, still_stops}
use Rattle.std.proofs.lemmas.Result.{err_from_is_err_and}
use Rattle.inductive_check.proofs.constructors.check_constructor.Goals as goal

pub returns-in_err-arg_sorts-clause-follows : goal.returns-in_err-arg_sorts-clause-follows
returns-in_err-arg_sorts-clause-follows g c = λ B en ep.
    let f1 = rw c.in_ok-inner.ensures.same at c.in_err-arg_sorts.ensures.follows in
    rw (en, ep) (follows_halted _ _ _ _ _ _ c.from_residual-in_err-arg_sorts.ensures.1 f1 (search leaving depth 8))

pub returns-in_err-counted-clause-follows : goal.returns-in_err-counted-clause-follows
returns-in_err-counted-clause-follows g c = λ B en ep.
    let f1 = rw c.in_ok-inner.ensures.same at c.in_ok-arg_sorts.ensures.follows in
    let m = c.arguments.new.m in
    let ans = rw (c.len.ensures.is, c.len-2.ensures.is) at c.in_err-counted.ensures.answers m.account in
    let f2 = still_stops (counted (length c.args.family.now.indices) (length c.args.ctor.now.result) m.account) c.in_err-counted.field-0.0 m ans (search leaving) in
    rw (en, ep) (follows_bind _ _ _ _ _ _ _ f1 (follows_halted _ _ _ _ _ _ c.from_residual-in_err-counted.ensures.1 f2 (search leaving depth 8)))

pub returns-in_err-check_results-clause-follows : goal.returns-in_err-check_results-clause-follows
returns-in_err-check_results-clause-follows g c = λ B en ep.
    let f1 = rw c.in_ok-inner.ensures.same at c.in_ok-arg_sorts.ensures.follows in
    let m = c.arguments.new.m in
    let a2 = rw (c.len.ensures.is, c.len-2.ensures.is) at c.in_ok-counted.ensures.answers m.account in
    let longer = c.in_ok-arg_sorts.ensures.longer ∙ ap (λ d. extend d c.args.ctor.now.args) c.in_ok-inner.ensures.same in
    let f3 = rw (longer, c.in_ok-args.ensures.is ∙ c.len-3.ensures.is) at c.in_err-check_results.ensures.follows in
    rw (en, ep) (follows_bind _ _ _ _ _ _ _ f1 (still_bind _ _ _ _ m c.check_results.new.m a2
    (follows_halted _ _ _ _ _ _ c.from_residual-in_err-check_results.ensures.1 f3 (search leaving))))

pub returns-in_err-names_none-clause-follows : goal.returns-in_err-names_none-clause-follows
returns-in_err-names_none-clause-follows g c = λ B en ep.
    let f1 = rw c.in_ok-inner.ensures.same at c.in_ok-arg_sorts.ensures.follows in
    let m = c.arguments.new.m in
    let a2 = rw (c.len.ensures.is, c.len-2.ensures.is) at c.in_ok-counted.ensures.answers m.account in
    let longer = c.in_ok-arg_sorts.ensures.longer ∙ ap (λ d. extend d c.args.ctor.now.args) c.in_ok-inner.ensures.same in
    let f3 = rw (longer, c.in_ok-args.ensures.is ∙ c.len-3.ensures.is) at c.in_ok-check_results.ensures.follows in
    let m2 = c.check_results.new.m in
    let at = c.args.at in
    let f4 = still_stops (result_names c.args.setting.now.block at.family at.ctor c.args.ctor.now.result m2.account) c.in_err-names_none.field-0.0 m2 (c.in_err-names_none.ensures.answers m2.account) (search leaving) in
    rw (en, ep) (follows_bind _ _ _ _ _ _ _ f1 (still_bind _ _ _ _ m m2 a2 (follows_bind _ _ _ _ _ _ _ f3
    (follows_halted _ _ _ _ _ _ c.from_residual-in_err-names_none.ensures.1 f4 (search leaving)))))

pub returns-clause-follows : goal.returns-clause-follows
returns-clause-follows g c = λ B en ep.
    let f1 = rw c.in_ok-inner.ensures.same at c.in_ok-arg_sorts.ensures.follows in
    let m = c.arguments.new.m in
    let a2 = rw (c.len.ensures.is, c.len-2.ensures.is) at c.in_ok-counted.ensures.answers m.account in
    let longer = c.in_ok-arg_sorts.ensures.longer ∙ ap (λ d. extend d c.args.ctor.now.args) c.in_ok-inner.ensures.same in
    let f3 = rw (longer, c.in_ok-args.ensures.is ∙ c.len-3.ensures.is) at c.in_ok-check_results.ensures.follows in
    let m2 = c.check_results.new.m in
    rw (en, ep, c.in_ok-with_sorts.ensures.ok)
    (follows_bind _ _ _ _ _ _ _ f1 (still_bind _ _ _ _ m m2 a2
    (follows_bind _ _ _ _ _ _ _ f3 (still_bind _ _ _ _ m2 m2 (c.in_ok-names_none.ensures.answers m2.account) (follows_done _ m2)))))

pub returns-in_err-inner-clause-follows : goal.returns-in_err-inner-clause-follows
returns-in_err-inner-clause-follows g c = λ B en ep.
    let p = err_from_is_err_and c.from_residual.result c.from_residual.ensures.1 in
    rw (en, ep, p.1, p.2, c.in_err-inner.ensures.only_memory) (follows_memory _ c.args.m.now (search leaving depth 8))

pub returns-in_err-args-clause-follows : goal.returns-in_err-args-clause-follows
returns-in_err-args-clause-follows g c = λ B en ep.
    let f1 = rw c.in_ok-inner.ensures.same at c.in_ok-arg_sorts.ensures.follows in
    let m = c.arguments.new.m in
    let a2 = rw (c.len.ensures.is, c.len-2.ensures.is) at c.in_ok-counted.ensures.answers m.account in
    let p = err_from_is_err_and c.from_residual-in_err-args.result c.from_residual-in_err-args.ensures.1 in
    rw (en, ep, p.1, p.2, c.in_err-args.ensures.only_memory) (follows_bind _ _ _ _ _ _ _ f1 (still_bind _ _ _ _ m m a2 (follows_memory _ m (search leaving depth 8))))

pub returns-in_err-with_sorts-clause-follows : goal.returns-in_err-with_sorts-clause-follows
returns-in_err-with_sorts-clause-follows g c = λ B en ep.
    let f1 = rw c.in_ok-inner.ensures.same at c.in_ok-arg_sorts.ensures.follows in
    let m = c.arguments.new.m in
    let a2 = rw (c.len.ensures.is, c.len-2.ensures.is) at c.in_ok-counted.ensures.answers m.account in
    let longer = c.in_ok-arg_sorts.ensures.longer ∙ ap (λ d. extend d c.args.ctor.now.args) c.in_ok-inner.ensures.same in
    let f3 = rw (longer, c.in_ok-args.ensures.is ∙ c.len-3.ensures.is) at c.in_ok-check_results.ensures.follows in
    let m2 = c.check_results.new.m in
    let p = err_from_is_err_and c.from_residual-in_err-with_sorts.result c.from_residual-in_err-with_sorts.ensures.1 in
    rw (en, ep, p.1, p.2, c.in_err-with_sorts.ensures.only_memory)
    (follows_bind _ _ _ _ _ _ _ f1 (still_bind _ _ _ _ m m2 a2
    (follows_bind _ _ _ _ _ _ _ f3 (still_bind _ _ _ _ m2 m2 (c.in_ok-names_none.ensures.answers m2.account) (follows_memory _ m2 (search leaving))))))
