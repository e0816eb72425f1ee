use Rattle.std.proofs.lemmas.Result.{err_from_is_err_and}
use Rattle.first_order.proofs.Parts.{entries_fault, types_mention, types_found}
use Rattle.first_order.proofs.arguments.types_of.Goals as goal

pub returns-in_err-entries : goal.returns-in_err-entries
returns-in_err-entries c =
    let p = err_from_is_err_and c.from_residual.result c.from_residual.ensures.1 in
    record { answers = λ u. rw (p.1, p.2) (entries_fault c.args.ty.now c.args.params.now c.args.ctor.now c.in_err-entries.field-0.0 u c.in_err-entries.ensures.too_deep) }

pub returns-in_default : goal.returns-in_default
returns-in_default c =
    let n = rw c.in_default.is at c.in_ok-found.ensures.ok in
    record { answers = λ u. types_mention c.args.ty.now c.args.params.now c.args.ctor.now c.in_ok-entries.entries c.in_ok-ty.ty u c.in_ok-entries.ensures.ok n c.in_ok-ty.ensures.ok }

pub returns : goal.returns
returns c =
    let n = rw c.in-Some.is at c.in_ok-found.ensures.ok in
    record { answers = λ u. types_found c.args.ty.now c.args.params.now c.args.ctor.now c.in_ok-entries.entries c.in-Some.types u c.in_ok-entries.ensures.ok n }
