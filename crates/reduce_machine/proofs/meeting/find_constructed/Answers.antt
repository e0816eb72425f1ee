use Rattle.std.proofs.Common.{◌≡◌, ◌+◌, length, map, drop, refl, arith}
use Rattle.trees.proofs.Put.{each_length}
use Rattle.redexes.proofs.Reading.{built_no_block, built_no_family, built_no_constructor, built_wrong, built_found}
use Rattle.reduce_machine.specs.Values.{term_of}
use Rattle.reduce_machine.specs.Reads.{read}
use Rattle.reduce_machine.proofs.Arms.{count_is}
use Rattle.reduce_machine.proofs.ValueParts.{stuck_value_not_built, value_not_built, value_head, value_args}
use Rattle.reduce_machine.proofs.meeting.find_constructed.Goals as goal

pub returns-in_default-clause-is : goal.returns-in_default-clause-is
returns-in_default-clause-is c = stuck_value_not_built c.args.env.now c.args.value.now c.requires c.in_default.not-Open

pub returns-in_default-view-clause-is : goal.returns-in_default-view-clause-is
returns-in_default-view-clause-is c =
    value_not_built c.args.env.now c.args.value.now c.in-Open.head c.view.result.now c.in-Open.is c.view.ensures.is c.requires c.in_default-view.not-Construct

pub returns-in_default-whole_block-clause-is : goal.returns-in_default-whole_block-clause-is
returns-in_default-whole_block-clause-is c =
    let e = rw c.in-Construct.is at c.view.ensures.is in
    let h = value_head c.args.value.now c.in-Open.head c.in-Construct.id c.in-Construct.number c.in-Open.is e in
    built_no_block c.args.env.now (term_of c.args.value.now) c.in-Construct.id c.in-Construct.number h c.in_default-whole_block.ensures.whole

pub returns-in_default-family_at-clause-is : goal.returns-in_default-family_at-clause-is
returns-in_default-family_at-clause-is c =
    let e = rw c.in-Construct.is at c.view.ensures.is in
    let h = value_head c.args.value.now c.in-Open.head c.in-Construct.id c.in-Construct.number c.in-Open.is e in
    built_no_family c.args.env.now (term_of c.args.value.now) c.in-Construct.id c.in-Construct.number c.in-Some.block.now h c.in-Some.ensures.whole
    c.in_default-family_at.ensures.at

pub returns-in_default-constructor_at-clause-is : goal.returns-in_default-constructor_at-clause-is
returns-in_default-constructor_at-clause-is c =
    let e = rw c.in-Construct.is at c.view.ensures.is in
    let h = value_head c.args.value.now c.in-Open.head c.in-Construct.id c.in-Construct.number c.in-Open.is e in
    built_no_constructor c.args.env.now (term_of c.args.value.now) c.in-Construct.id c.in-Construct.number c.in-Some.block.now c.in-Some-family_at.family.now h
    c.in-Some.ensures.whole c.in-Some-family_at.ensures.at c.in_default-constructor_at.ensures.at

pub returns-then-count-params-clause-is : goal.returns-then-count-params-clause-is
returns-then-count-params-clause-is c =
    let e = rw c.in-Construct.is at c.view.ensures.is in
    let h = value_head c.args.value.now c.in-Open.head c.in-Construct.id c.in-Construct.number c.in-Open.is e in
    let a = value_args c.args.value.now c.in-Open.head c.in-Construct.id c.in-Construct.number c.in-Open.is e in
    let l = each_length read c.args.value.now.spine.args.items in
    built_wrong c.args.env.now (term_of c.args.value.now) c.in-Construct.id c.in-Construct.number c.in-Some.block.now c.in-Some-family_at.family.now
    c.in-Some-constructor_at.ctor.now c.len-params.result (map read c.args.value.now.spine.args.items) h c.in-Some.ensures.whole c.in-Some-family_at.ensures.at
    c.in-Some-constructor_at.ensures.at a c.len-params.ensures.is (λ w. omega arith)

pub returns-then-given-wanted-clause-is : goal.returns-then-given-wanted-clause-is
returns-then-given-wanted-clause-is c =
    let e = rw c.in-Construct.is at c.view.ensures.is in
    let h = value_head c.args.value.now c.in-Open.head c.in-Construct.id c.in-Construct.number c.in-Open.is e in
    let a = value_args c.args.value.now c.in-Open.head c.in-Construct.id c.in-Construct.number c.in-Open.is e in
    let l = each_length read c.args.value.now.spine.args.items in
    built_wrong c.args.env.now (term_of c.args.value.now) c.in-Construct.id c.in-Construct.number c.in-Some.block.now c.in-Some-family_at.family.now
    c.in-Some-constructor_at.ctor.now c.len-params.result (map read c.args.value.now.spine.args.items) h c.in-Some.ensures.whole c.in-Some-family_at.ensures.at
    c.in-Some-constructor_at.ensures.at a c.len-params.ensures.is (λ w. omega arith)

pub returns-clause-is : goal.returns-clause-is
returns-clause-is c =
    let e = rw c.in-Construct.is at c.view.ensures.is in
    let h = value_head c.args.value.now c.in-Open.head c.in-Construct.id c.in-Construct.number c.in-Open.is e in
    let a = value_args c.args.value.now c.in-Open.head c.in-Construct.id c.in-Construct.number c.in-Open.is e in
    let l = each_length read c.args.value.now.spine.args.items in
    let n : length (map read c.args.value.now.spine.args.items) ≡ c.len-params.result + length c.in-Some-constructor_at.ctor.now.args = omega arith in
    built_found c.args.env.now (term_of c.args.value.now) c.in-Construct.id c.in-Construct.number c.in-Some.block.now c.in-Some-family_at.family.now
    c.in-Some-constructor_at.ctor.now c.len-params.result (map read c.args.value.now.spine.args.items) (drop c.len-params.result (map read c.args.value.now.spine.args.items)) h
    c.in-Some.ensures.whole c.in-Some-family_at.ensures.at c.in-Some-constructor_at.ensures.at a c.len-params.ensures.is n refl

pub returns-clause-count : goal.returns-clause-count
returns-clause-count c = count_is c.args.value.now.spine.args.items c.len-params.result _ (omega arith)
