use Rattle.std.proofs.Common.{◌≡◌, true, false, arith}
use Rattle.std.proofs.lemmas.Grind.{common_steps}
use Rattle.guard_check.proofs.Endings.{mark_smaller, mark_other}
use Rattle.guard_check.proofs.scope.branch_mark.Goals as goal

pub returns-then-branch-clause-is : goal.returns-then-branch-clause-is
returns-then-branch-clause-is c =
    let p : c.in-Ok.under ≡ c.args.place = grind (arith, common_steps) in
    let t : c.in_ok-ends_smaller.field-0 ≡ true = grind (arith, common_steps) in
    mark_smaller c.args.env.now c.args.recursive c.args.x.now.family c.args.x.now.params c.args.place c.in-Ok.under c.args.ty.now c.in_ok-ends_smaller.field-0 p c.in_ok-ends_smaller.ensures.is t

pub returns-clause-is : goal.returns-clause-is
returns-clause-is c =
    let p : c.in-Ok.under ≡ c.args.place = grind (arith, common_steps) in
    let t : c.in_ok-ends_smaller.field-0 ≡ false = grind (arith, common_steps) in
    mark_other c.args.env.now c.args.recursive c.args.x.now.family c.args.x.now.params c.args.place c.in-Ok.under c.args.ty.now c.in_ok-ends_smaller.field-0 p c.in_ok-ends_smaller.ensures.is t
