use Rattle.std.proofs.Common.{◌≡◌, ◌<◌, ◌≤◌, length, get_or, arith, refl}
use Rattle.std.proofs.lemmas.Result.{err_from_is_err_and}
use Rattle.pc_rules.specs.DirectedPositivity.{is_positive, types_positive}
use Rattle.pc_rules.proofs.FairPositivity.{types_positive_leaves}
use Rattle.inductive_check.proofs.EachItem.{none_fails, item_stops, item_fails, item_holds}
use Rattle.inductive_check.proofs.positive.types_positive.Goals as goal

pub loop-ty-init : goal.loop-ty-init
loop-ty-init c = λ r n f. f

pub returns-in_err-is_positive : goal.returns-in_err-is_positive
returns-in_err-is_positive c =
    let p = err_from_is_err_and c.from_residual.result c.from_residual.ensures.1 in
    let xs = c.args.types.now in
    let i = c.loop-ty.ty-index in
    let x = c.ty-item.result in
    let lt : i < length xs = grind arith in
    let is : x ≡ get_or xs i x = cc in
    record {
      follows = rw (p.1, p.2) (c.loop-ty.invariant _ _
          (item_stops (λ A. is_positive c.args.env.now c.args.block A) (types_positive c.args.env.now c.args.block) (λ x xs u. refl) xs i x lt is c.loop-ty.m c.is_positive.new.m _ c.in_err-is_positive.ensures.follows (types_positive_leaves c.args.env.now c.args.block)));
    }

pub returns-then-not-branch : goal.returns-then-not-branch
returns-then-not-branch c =
    let xs = c.args.types.now in
    let i = c.loop-ty.ty-index in
    let x = c.ty-item.result in
    let lt : i < length xs = grind arith in
    let is : x ≡ get_or xs i x = cc in
    record {
      follows = c.loop-ty.invariant _ _
          (item_fails (λ A. is_positive c.args.env.now c.args.block A) (types_positive c.args.env.now c.args.block) (λ x xs u. refl) xs i x lt is c.loop-ty.m c.is_positive.new.m _ c.if-not-branch.true c.in_ok-is_positive.ensures.follows);
    }

pub loop-ty-preserved : goal.loop-ty-preserved
loop-ty-preserved c = λ r n f.
    let xs = c.args.types.now in
    let i = c.loop-ty.ty-index in
    let x = c.ty-item.result in
    let lt : i < length xs = grind arith in
    let is : x ≡ get_or xs i x = cc in
    c.loop-ty.invariant r n
    (item_holds (λ A. is_positive c.args.env.now c.args.block A) (types_positive c.args.env.now c.args.block) (λ x xs u. refl) xs i x lt is c.loop-ty.m c.is_positive.new.m _ c.if-not-branch.false c.in_ok-is_positive.ensures.follows r n f)

pub returns : goal.returns
returns c =
    let xs = c.args.types.now in
    let i = c.loop-ty.ty-index in
    let ge : length xs ≤ i = grind arith in
    record { follows = c.loop-ty.invariant _ _ (none_fails (λ A. is_positive c.args.env.now c.args.block A) (types_positive c.args.env.now c.args.block) (λ u. refl) xs i c.loop-ty.m ge) }
