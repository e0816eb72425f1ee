use Rattle.std.proofs.Common.{rules, ◌∙◌, length, ap}
use Rattle.calculus_rules.specs.Context.{extend}
use Rattle.pc_rules.specs.DirectedTyping.{counted}
use Rattle.type_infer.specs.Ready.{IsReady}
use Rattle.type_cert.proofs.Retracing.{retraces_on, retraces_err, retraces_pass, retraces_memory, retraces_passed, retraces_answers, told_of}
use Rattle.block_cert.proofs.constructors.constructor.Goals as goal

pub arguments-requires : goal.arguments-requires
arguments-requires g c =
    let r : IsReady c.args.walk.now.verifier.env.now c.in_ok-inner.inner = rw c.in_ok-inner.ensures.same c.requires.ready in
    search rules

pub returns-in_err-sorts-clause-retraces : goal.returns-in_err-sorts-clause-retraces
returns-in_err-sorts-clause-retraces g c = λ B ep.
    let f1 = rw c.in_ok-inner.ensures.same at c.in_err-sorts.ensures.retraces in
    rw ep (retraces_passed c.from_residual-in_err-sorts.ensures.1 (retraces_err _ f1))

pub returns-in_err-at_item-clause-retraces : goal.returns-in_err-at_item-clause-retraces
returns-in_err-at_item-clause-retraces g c = λ B ep.
    let f1 = rw c.in_ok-inner.ensures.same at c.in_ok-sorts.ensures.retraces in
    let want = counted (length c.args.family.now.indices) (length c.args.ctor.now.result) in
    let a2 = rw (c.len.ensures.is, c.len-2.ensures.is) at c.counted.ensures.answers c.arguments.new.trail.meter.account in
    rw ep (retraces_passed c.from_residual-in_err-at_item.ensures.1 (retraces_on _ f1 (retraces_err _ (retraces_answers want _ c.in_err-at_item.ensures.is a2))))

pub returns-in_err-args-clause-retraces : goal.returns-in_err-args-clause-retraces
returns-in_err-args-clause-retraces g c = λ B ep.
    let f1 = rw c.in_ok-inner.ensures.same at c.in_ok-sorts.ensures.retraces in
    let want = counted (length c.args.family.now.indices) (length c.args.ctor.now.result) in
    let a2 = rw (c.len.ensures.is, c.len-2.ensures.is) at c.counted.ensures.answers c.arguments.new.trail.meter.account in
    rw ep (retraces_passed c.from_residual-in_err-args.ensures.1 (rw c.in_err-args.ensures.only_memory
    (retraces_on _ f1 (retraces_on _ (retraces_answers want _ c.in_ok-at_item.ensures.is a2) (retraces_memory _ _)))))

pub check_all-requires : goal.check_all-requires
check_all-requires g c =
    let e = told_of _ _ _ _ c.in_ok-at_item.ensures.is c.counted.ensures.equal in
    let l = rw (c.len.ensures.is, c.len-2.ensures.is) at e in
    let r = c.in_ok-sorts.ensures.ready in
    let n = c.in_ok-sorts.ensures.retraces.after.nest in
    search rules

pub returns-in_err-check_all-clause-retraces : goal.returns-in_err-check_all-clause-retraces
returns-in_err-check_all-clause-retraces g c = λ B ep.
    let f1 = rw c.in_ok-inner.ensures.same at c.in_ok-sorts.ensures.retraces in
    let want = counted (length c.args.family.now.indices) (length c.args.ctor.now.result) in
    let a2 = rw (c.len.ensures.is, c.len-2.ensures.is) at c.counted.ensures.answers c.arguments.new.trail.meter.account in
    let longer = c.in_ok-sorts.ensures.longer ∙ ap (λ d. extend d c.args.ctor.now.args) c.in_ok-inner.ensures.same in
    let f3 = rw (longer, c.in_ok-args.ensures.is ∙ c.len-3.ensures.is) at c.in_err-check_all.ensures.retraces in
    rw ep (retraces_passed c.from_residual-in_err-check_all.ensures.1
    (retraces_on _ f1 (retraces_on _ (retraces_answers want _ c.in_ok-at_item.ensures.is a2) (retraces_err _ f3))))

pub returns-in_err-with_sorts-clause-retraces : goal.returns-in_err-with_sorts-clause-retraces
returns-in_err-with_sorts-clause-retraces g c = λ B ep.
    let f1 = rw c.in_ok-inner.ensures.same at c.in_ok-sorts.ensures.retraces in
    let want = counted (length c.args.family.now.indices) (length c.args.ctor.now.result) in
    let a2 = rw (c.len.ensures.is, c.len-2.ensures.is) at c.counted.ensures.answers c.arguments.new.trail.meter.account in
    let longer = c.in_ok-sorts.ensures.longer ∙ ap (λ d. extend d c.args.ctor.now.args) c.in_ok-inner.ensures.same in
    let f3 = rw (longer, c.in_ok-args.ensures.is ∙ c.len-3.ensures.is) at c.in_ok-check_all.ensures.retraces in
    rw ep (retraces_passed c.from_residual-in_err-with_sorts.ensures.1 (rw c.in_err-with_sorts.ensures.only_memory
    (retraces_on _ f1 (retraces_on _ (retraces_answers want _ c.in_ok-at_item.ensures.is a2) (retraces_on _ f3 (retraces_memory _ _))))))

pub returns-clause-retraces : goal.returns-clause-retraces
returns-clause-retraces g c = λ B ep.
    let f1 = rw c.in_ok-inner.ensures.same at c.in_ok-sorts.ensures.retraces in
    let want = counted (length c.args.family.now.indices) (length c.args.ctor.now.result) in
    let a2 = rw (c.len.ensures.is, c.len-2.ensures.is) at c.counted.ensures.answers c.arguments.new.trail.meter.account in
    let longer = c.in_ok-sorts.ensures.longer ∙ ap (λ d. extend d c.args.ctor.now.args) c.in_ok-inner.ensures.same in
    let f3 = rw (longer, c.in_ok-args.ensures.is ∙ c.len-3.ensures.is) at c.in_ok-check_all.ensures.retraces in
    rw (ep, c.in_ok-with_sorts.ensures.ok)
    (retraces_on _ f1 (retraces_on _ (retraces_answers want _ c.in_ok-at_item.ensures.is a2) (retraces_on _ f3 (retraces_pass _ _))))
