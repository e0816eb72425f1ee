use Rattle.std.proofs.Common.{◌≡◌, ◌+◌, length, arith}
use Rattle.first_order.proofs.NodeByNode.{is_taken}
use Rattle.first_order.proofs.reading.take_node.Goals as goal

pub returns-clause-ok : goal.returns-clause-ok
returns-clause-ok c =
    let e = rw c.in-Construct.is at c.view.ensures.is in
    let l : length c.in_ok-head.values ≡ length c.in_ok-family.parameters + length c.in-Some-constructor_at.ctor.now.args = omega arith in
    let n : c.in-Ok.count ≡ length c.in-Some-constructor_at.ctor.now.args = omega arith in
    is_taken c.args.shapes.now.types c.args.field.now c.in-Some.shape.now c.in-Construct.id c.in-Construct.number c.in_ok-head.head c.in_ok-family.family
    c.is_of-of_family.result c.in-Some-constructor_at.ctor.now c.in_ok-head.values c.in_ok-family.parameters c.in-Ok.count c.len-before.result c.args.waiting.now.items
    c.put_fields.new.waiting.items c.in-Some.ensures.at e c.in_ok-head.ensures.head c.in_ok-family.ensures.head c.is_of-of_family.ensures.is
    c.if-not-of_family.false c.in-Some-constructor_at.ensures.at c.in_ok-head.ensures.args c.in_ok-family.ensures.args l n c.len-before.ensures.is c.in_ok-put_fields.ensures.ok
