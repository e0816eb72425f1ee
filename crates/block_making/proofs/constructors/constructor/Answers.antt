use Rattle.std.proofs.Common.{rules, ◌∙◌, length, ap}
use Rattle.calculus_rules.specs.Context.{extend}
use Rattle.pc_rules.specs.DirectedTyping.{counted}
use Rattle.pc_rules.specs.DirectedDeclarations.{result_names}
use Rattle.type_infer.specs.Ready.{IsReady}
use Rattle.script_making.proofs.Making.{makes_on, makes_err, makes_done, makes_memory, makes_passed, makes_answers}
use Rattle.block_making.proofs.constructors.constructor.Goals as goal

pub arguments-requires : goal.arguments-requires
arguments-requires g c =
    let r : IsReady c.args.typer.now.maker.env.now c.in_ok-inner.inner = rw c.in_ok-inner.ensures.same c.requires.ready in
    search rules

pub returns-in_err-sorts-clause-makes : goal.returns-in_err-sorts-clause-makes
returns-in_err-sorts-clause-makes g c = λ B en ep.
    let f1 = rw c.in_ok-inner.ensures.same at c.in_err-sorts.ensures.makes in
    rw (en, ep) (makes_passed c.from_residual-in_err-sorts.ensures.1 (makes_err _ f1))

pub returns-in_err-counted-clause-makes : goal.returns-in_err-counted-clause-makes
returns-in_err-counted-clause-makes g c = λ B en ep.
    let f1 = rw c.in_ok-inner.ensures.same at c.in_ok-sorts.ensures.makes in
    let want = counted (length c.args.family.now.indices) (length c.args.ctor.now.result) in
    let a2 = rw (c.len.ensures.is, c.len-2.ensures.is) at c.in_err-counted.ensures.answers c.arguments.new.draft.meter.account in
    rw (en, ep) (makes_passed c.from_residual-in_err-counted.ensures.1 (makes_on _ f1 (makes_err _ (makes_answers want a2))))

pub returns-in_err-args-clause-makes : goal.returns-in_err-args-clause-makes
returns-in_err-args-clause-makes g c = λ B en ep.
    let f1 = rw c.in_ok-inner.ensures.same at c.in_ok-sorts.ensures.makes in
    let want = counted (length c.args.family.now.indices) (length c.args.ctor.now.result) in
    let a2 = rw (c.len.ensures.is, c.len-2.ensures.is) at c.in_ok-counted.ensures.answers c.arguments.new.draft.meter.account in
    rw (en, ep) (makes_passed c.from_residual-in_err-args.ensures.1 (rw c.in_err-args.ensures.only_memory (makes_on _ f1 (makes_on _ (makes_answers want a2) (makes_memory _ _)))))

pub check_all-requires : goal.check_all-requires
check_all-requires g c =
    let l = rw (c.len.ensures.is, c.len-2.ensures.is) at c.in_ok-counted.ensures.equal in
    let r = c.in_ok-sorts.ensures.ready in
    let n = c.in_ok-sorts.ensures.makes.after.nest in
    search rules

pub returns-in_err-check_all-clause-makes : goal.returns-in_err-check_all-clause-makes
returns-in_err-check_all-clause-makes g c = λ B en ep.
    let f1 = rw c.in_ok-inner.ensures.same at c.in_ok-sorts.ensures.makes in
    let want = counted (length c.args.family.now.indices) (length c.args.ctor.now.result) in
    let a2 = rw (c.len.ensures.is, c.len-2.ensures.is) at c.in_ok-counted.ensures.answers c.arguments.new.draft.meter.account in
    let longer = c.in_ok-sorts.ensures.longer ∙ ap (λ d. extend d c.args.ctor.now.args) c.in_ok-inner.ensures.same in
    let f3 = rw (longer, c.in_ok-args.ensures.is ∙ c.len-3.ensures.is) at c.in_err-check_all.ensures.makes in
    rw (en, ep) (makes_passed c.from_residual-in_err-check_all.ensures.1 (makes_on _ f1 (makes_on _ (makes_answers want a2) (makes_err _ f3))))

pub returns-in_err-names_none-clause-makes : goal.returns-in_err-names_none-clause-makes
returns-in_err-names_none-clause-makes g c = λ B en ep.
    let f1 = rw c.in_ok-inner.ensures.same at c.in_ok-sorts.ensures.makes in
    let want = counted (length c.args.family.now.indices) (length c.args.ctor.now.result) in
    let a2 = rw (c.len.ensures.is, c.len-2.ensures.is) at c.in_ok-counted.ensures.answers c.arguments.new.draft.meter.account in
    let longer = c.in_ok-sorts.ensures.longer ∙ ap (λ d. extend d c.args.ctor.now.args) c.in_ok-inner.ensures.same in
    let f3 = rw (longer, c.in_ok-args.ensures.is ∙ c.len-3.ensures.is) at c.in_ok-check_all.ensures.makes in
    let names = result_names c.args.block c.args.at.family c.args.at.ctor c.args.ctor.now.result in
    let a4 = c.in_err-names_none.ensures.answers c.check_all.new.draft.meter.account in
    rw (en, ep) (makes_passed c.from_residual-in_err-names_none.ensures.1 (makes_on _ f1 (makes_on _ (makes_answers want a2) (makes_on _ f3 (makes_err _ (makes_answers names a4))))))

pub returns-in_err-with_sorts-clause-makes : goal.returns-in_err-with_sorts-clause-makes
returns-in_err-with_sorts-clause-makes g c = λ B en ep.
    let f1 = rw c.in_ok-inner.ensures.same at c.in_ok-sorts.ensures.makes in
    let want = counted (length c.args.family.now.indices) (length c.args.ctor.now.result) in
    let a2 = rw (c.len.ensures.is, c.len-2.ensures.is) at c.in_ok-counted.ensures.answers c.arguments.new.draft.meter.account in
    let longer = c.in_ok-sorts.ensures.longer ∙ ap (λ d. extend d c.args.ctor.now.args) c.in_ok-inner.ensures.same in
    let f3 = rw (longer, c.in_ok-args.ensures.is ∙ c.len-3.ensures.is) at c.in_ok-check_all.ensures.makes in
    let names = result_names c.args.block c.args.at.family c.args.at.ctor c.args.ctor.now.result in
    let a4 = c.in_ok-names_none.ensures.answers c.check_all.new.draft.meter.account in
    rw (en, ep) (makes_passed c.from_residual-in_err-with_sorts.ensures.1 (rw c.in_err-with_sorts.ensures.only_memory
    (makes_on _ f1 (makes_on _ (makes_answers want a2) (makes_on _ f3 (makes_on _ (makes_answers names a4) (makes_memory _ _)))))))

pub returns-clause-makes : goal.returns-clause-makes
returns-clause-makes g c = λ B en ep.
    let f1 = rw c.in_ok-inner.ensures.same at c.in_ok-sorts.ensures.makes in
    let want = counted (length c.args.family.now.indices) (length c.args.ctor.now.result) in
    let a2 = rw (c.len.ensures.is, c.len-2.ensures.is) at c.in_ok-counted.ensures.answers c.arguments.new.draft.meter.account in
    let longer = c.in_ok-sorts.ensures.longer ∙ ap (λ d. extend d c.args.ctor.now.args) c.in_ok-inner.ensures.same in
    let f3 = rw (longer, c.in_ok-args.ensures.is ∙ c.len-3.ensures.is) at c.in_ok-check_all.ensures.makes in
    let names = result_names c.args.block c.args.at.family c.args.at.ctor c.args.ctor.now.result in
    let a4 = c.in_ok-names_none.ensures.answers c.check_all.new.draft.meter.account in
    rw (en, ep, c.in_ok-with_sorts.ensures.ok)
    (makes_on _ f1 (makes_on _ (makes_answers want a2) (makes_on _ f3 (makes_on _ (makes_answers names a4) (makes_done _ _)))))
