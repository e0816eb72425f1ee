use Rattle.std.proofs.Common.{rules}
use Rattle.type_infer.specs.Ready.{IsReady}
use Rattle.type_cert.proofs.Retracing.{retraces_on, retraces_err, retraces_pass, retraces_memory, retraces_passed}
use Rattle.env_cert.proofs.constants.constant.Goals as goal

pub sort_of-requires : goal.sort_of-requires
sort_of-requires g c =
    let r : IsReady c.args.walk.now.verifier.env.now c.new-none.result = rw c.new-none.ensures.empty c.requires.ready in
    search rules

pub returns-in_err-_sort-clause-retraces : goal.returns-in_err-_sort-clause-retraces
returns-in_err-_sort-clause-retraces g c =
    let p = rw c.new-none.ensures.empty at c.in_err-_sort.ensures.retraces in
    retraces_passed c.from_residual.ensures.1 (retraces_err _ p)

pub check_body-requires : goal.check_body-requires
check_body-requires g c =
    let n = c.in_ok-_sort.ensures.retraces.after.nest in
    search rules

pub returns-in_err-check_body-clause-retraces : goal.returns-in_err-check_body-clause-retraces
returns-in_err-check_body-clause-retraces g c =
    let p = rw c.new-none.ensures.empty at c.in_ok-_sort.ensures.retraces in
    retraces_passed c.from_residual-in_err-check_body.ensures.1 (retraces_on _ p (retraces_err _ c.in_err-check_body.ensures.retraces))

pub returns-in_err-ty-clause-retraces : goal.returns-in_err-ty-clause-retraces
returns-in_err-ty-clause-retraces g c =
    let p = rw c.new-none.ensures.empty at c.in_ok-_sort.ensures.retraces in
    retraces_passed c.from_residual-in_err-ty.ensures.1 (rw c.in_err-ty.ensures.only_memory (retraces_on _ p (retraces_on _ c.in_ok-check_body.ensures.retraces (retraces_memory _ _))))

pub returns-in_err-body-clause-retraces : goal.returns-in_err-body-clause-retraces
returns-in_err-body-clause-retraces g c =
    let p = rw c.new-none.ensures.empty at c.in_ok-_sort.ensures.retraces in
    retraces_passed c.from_residual-in_err-body.ensures.1 (rw c.in_err-body.ensures.only_memory (retraces_on _ p (retraces_on _ c.in_ok-check_body.ensures.retraces (retraces_memory _ _))))

pub returns-clause-retraces : goal.returns-clause-retraces
returns-clause-retraces g c =
    let p = rw c.new-none.ensures.empty at c.in_ok-_sort.ensures.retraces in
    rw (c.in_ok-ty.ensures.ok, c.in_ok-body.ensures.same) (retraces_on _ p (retraces_on _ c.in_ok-check_body.ensures.retraces (retraces_pass _ _)))
