use Rattle.std.proofs.Common.{◌≡◌, ◌<◌, ◌≤◌, length, get_or, arith, refl, map}
use Rattle.std.proofs.lemmas.Result.{err_from_is_err_and}
use Rattle.pc_rules.specs.DirectedPositivity.{constructors_positive, families_positive}
use Rattle.pc_rules.proofs.FairPositivity.{families_positive_leaves}
use Rattle.inductive_check.specs.Given.{ctor_of, family_of}
use Rattle.inductive_check.proofs.EachItem.{none_fails, item_stops, item_fails, item_holds}
use Rattle.inductive_check.proofs.positive.families_positive.Goals as goal

pub loop-family-init : goal.loop-family-init
loop-family-init c = λ r n f. f

pub returns-in_err-constructors_positive : goal.returns-in_err-constructors_positive
returns-in_err-constructors_positive c =
    let p = err_from_is_err_and c.from_residual.result c.from_residual.ensures.1 in
    let xs = c.args.families.now in
    let i = c.loop-family.family-index in
    let x = c.family-item.result in
    let lt : i < length xs = grind arith in
    let is : x ≡ get_or xs i x = cc in
    record {
      follows = rw (p.1, p.2) (c.loop-family.invariant _ _
          (item_stops (λ F. constructors_positive c.args.env.now c.args.block (map ctor_of F.ctors)) (λ Fs. families_positive c.args.env.now c.args.block (map family_of Fs)) (λ x xs u. refl) xs i x lt is c.loop-family.m c.constructors_positive.new.m _ (rw (← c.as_slice.ensures.is) c.in_err-constructors_positive.ensures.follows) (λ Fs v. families_positive_leaves c.args.env.now c.args.block (map family_of Fs) v)));
    }

pub returns-then-not-branch : goal.returns-then-not-branch
returns-then-not-branch c =
    let xs = c.args.families.now in
    let i = c.loop-family.family-index in
    let x = c.family-item.result in
    let lt : i < length xs = grind arith in
    let is : x ≡ get_or xs i x = cc in
    record {
      follows = c.loop-family.invariant _ _
          (item_fails (λ F. constructors_positive c.args.env.now c.args.block (map ctor_of F.ctors)) (λ Fs. families_positive c.args.env.now c.args.block (map family_of Fs)) (λ x xs u. refl) xs i x lt is c.loop-family.m c.constructors_positive.new.m _ c.if-not-branch.true (rw (← c.as_slice.ensures.is) c.in_ok-constructors_positive.ensures.follows));
    }

pub loop-family-preserved : goal.loop-family-preserved
loop-family-preserved c = λ r n f.
    let xs = c.args.families.now in
    let i = c.loop-family.family-index in
    let x = c.family-item.result in
    let lt : i < length xs = grind arith in
    let is : x ≡ get_or xs i x = cc in
    c.loop-family.invariant r n
    (item_holds (λ F. constructors_positive c.args.env.now c.args.block (map ctor_of F.ctors)) (λ Fs. families_positive c.args.env.now c.args.block (map family_of Fs)) (λ x xs u. refl) xs i x lt is c.loop-family.m c.constructors_positive.new.m _ c.if-not-branch.false (rw (← c.as_slice.ensures.is) c.in_ok-constructors_positive.ensures.follows) r n f)

pub returns : goal.returns
returns c =
    let xs = c.args.families.now in
    let i = c.loop-family.family-index in
    let ge : length xs ≤ i = grind arith in
    record { follows = c.loop-family.invariant _ _ (none_fails (λ F. constructors_positive c.args.env.now c.args.block (map ctor_of F.ctors)) (λ Fs. families_positive c.args.env.now c.args.block (map family_of Fs)) (λ u. refl) xs i c.loop-family.m ge) }
