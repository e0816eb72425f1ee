use Rattle.std.proofs.Common.{rules}
use Rattle.type_infer.specs.Ready.{IsReady}
use Rattle.script_making.proofs.Making.{makes_on, makes_err, makes_done, makes_memory, makes_passed}
use Rattle.env_making.proofs.constants.constant.Goals as goal

pub sort_of-requires : goal.sort_of-requires
sort_of-requires g c =
    let r : IsReady c.args.typer.now.maker.env.now c.new-none.result = rw c.new-none.ensures.empty c.requires.ready in
    search rules

pub returns-in_err-_sort : goal.returns-in_err-_sort
returns-in_err-_sort g c =
    let p = rw c.new-none.ensures.empty at c.in_err-_sort.ensures.makes in
    record { makes = makes_passed c.from_residual.ensures.1 (makes_err _ p) }

pub check_body-requires : goal.check_body-requires
check_body-requires g c =
    let n = c.in_ok-_sort.ensures.makes.after.nest in
    search rules

pub returns-in_err-check_body : goal.returns-in_err-check_body
returns-in_err-check_body g c =
    let p = rw c.new-none.ensures.empty at c.in_ok-_sort.ensures.makes in
    record { makes = makes_passed c.from_residual-in_err-check_body.ensures.1 (makes_on _ p (makes_err _ c.in_err-check_body.ensures.makes)) }

pub returns-in_err-ty : goal.returns-in_err-ty
returns-in_err-ty g c =
    let p = rw c.new-none.ensures.empty at c.in_ok-_sort.ensures.makes in
    record { makes = makes_passed c.from_residual-in_err-ty.ensures.1 (rw c.in_err-ty.ensures.only_memory (makes_on _ p (makes_on _ c.in_ok-check_body.ensures.makes (makes_memory _ _)))) }

pub returns-in_err-body : goal.returns-in_err-body
returns-in_err-body g c =
    let p = rw c.new-none.ensures.empty at c.in_ok-_sort.ensures.makes in
    record { makes = makes_passed c.from_residual-in_err-body.ensures.1 (rw c.in_err-body.ensures.only_memory (makes_on _ p (makes_on _ c.in_ok-check_body.ensures.makes (makes_memory _ _)))) }

pub returns : goal.returns
returns g c =
    let p = rw c.new-none.ensures.empty at c.in_ok-_sort.ensures.makes in
    record { makes = rw (c.in_ok-ty.ensures.ok, c.in_ok-body.ensures.same) (makes_on _ p (makes_on _ c.in_ok-check_body.ensures.makes (makes_done _ _))) }
