use Rattle.std.proofs.Common.{◌≡◌, ◌<◌, ◌≤◌, length, get_or, arith, refl, map}
use Rattle.std.proofs.lemmas.Result.{err_from_is_err_and}
use Rattle.pc_rules.specs.DirectedPositivity.{constructor_positive, constructors_positive}
use Rattle.pc_rules.proofs.FairPositivity.{constructors_positive_leaves}
use Rattle.inductive_check.specs.Given.{ctor_of}
use Rattle.inductive_check.proofs.EachItem.{none_fails, item_stops, item_fails, item_holds}
use Rattle.inductive_check.proofs.positive.constructors_positive.Goals as goal

pub loop-ctor-init : goal.loop-ctor-init
loop-ctor-init c = λ r n f. f

pub returns-in_err-constructor_positive : goal.returns-in_err-constructor_positive
returns-in_err-constructor_positive c =
    let p = err_from_is_err_and c.from_residual.result c.from_residual.ensures.1 in
    let xs = c.args.ctors.now in
    let i = c.loop-ctor.ctor-index in
    let x = c.ctor-item.result in
    let lt : i < length xs = grind arith in
    let is : x ≡ get_or xs i x = cc in
    record {
      follows = rw (p.1, p.2) (c.loop-ctor.invariant _ _
          (item_stops (λ C. constructor_positive c.args.env.now c.args.block (ctor_of C)) (λ Cs. constructors_positive c.args.env.now c.args.block (map ctor_of Cs)) (λ x xs u. refl) xs i x lt is c.loop-ctor.m c.constructor_positive.new.m _ c.in_err-constructor_positive.ensures.follows (λ Cs v. constructors_positive_leaves c.args.env.now c.args.block (map ctor_of Cs) v)));
    }

pub returns-then-not-branch : goal.returns-then-not-branch
returns-then-not-branch c =
    let xs = c.args.ctors.now in
    let i = c.loop-ctor.ctor-index in
    let x = c.ctor-item.result in
    let lt : i < length xs = grind arith in
    let is : x ≡ get_or xs i x = cc in
    record {
      follows = c.loop-ctor.invariant _ _
          (item_fails (λ C. constructor_positive c.args.env.now c.args.block (ctor_of C)) (λ Cs. constructors_positive c.args.env.now c.args.block (map ctor_of Cs)) (λ x xs u. refl) xs i x lt is c.loop-ctor.m c.constructor_positive.new.m _ c.if-not-branch.true c.in_ok-constructor_positive.ensures.follows);
    }

pub loop-ctor-preserved : goal.loop-ctor-preserved
loop-ctor-preserved c = λ r n f.
    let xs = c.args.ctors.now in
    let i = c.loop-ctor.ctor-index in
    let x = c.ctor-item.result in
    let lt : i < length xs = grind arith in
    let is : x ≡ get_or xs i x = cc in
    c.loop-ctor.invariant r n
    (item_holds (λ C. constructor_positive c.args.env.now c.args.block (ctor_of C)) (λ Cs. constructors_positive c.args.env.now c.args.block (map ctor_of Cs)) (λ x xs u. refl) xs i x lt is c.loop-ctor.m c.constructor_positive.new.m _ c.if-not-branch.false c.in_ok-constructor_positive.ensures.follows r n f)

pub returns : goal.returns
returns c =
    let xs = c.args.ctors.now in
    let i = c.loop-ctor.ctor-index in
    let ge : length xs ≤ i = grind arith in
    record { follows = c.loop-ctor.invariant _ _ (none_fails (λ C. constructor_positive c.args.env.now c.args.block (ctor_of C)) (λ Cs. constructors_positive c.args.env.now c.args.block (map ctor_of Cs)) (λ u. refl) xs i c.loop-ctor.m ge) }
