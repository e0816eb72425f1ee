use Rattle.std.proofs.Common.{rules}
use Rattle.first_order.specs.declared.shapes.Shapes.{Shapes}
use Rattle.first_order.specs.Searching.{as_is, members}
use Rattle.first_order.specs.DirectedSignature.{found_argument, set_of}
use Rattle.first_order.proofs.Signing.{argument_no_set, argument_no_type, argument_found}
use Rattle.first_order.proofs.signatures.argument.Goals as goal

pub returns-in_err-shapes-clause-follows : goal.returns-in_err-shapes-clause-follows
returns-in_err-shapes-clause-follows g c =
    let e = rw c.in-Prod.is at c.view.ensures.is in
    let lost = argument_no_set c.args.env.now _ _ c.args.ty.now e (λ (s : Shapes). members s.types) found_argument c.in_err-shapes.field-0.0 c.args.m.now c.first_order.new.m c.in_err-shapes.ensures.follows in
    search rules

pub returns-in_err-next-clause-follows : goal.returns-in_err-next-clause-follows
returns-in_err-next-clause-follows g c =
    let e = rw c.in-Prod.is at c.view.ensures.is in
    let lost = argument_no_type c.args.env.now _ _ c.args.ty.now e (set_of c.in_ok-shapes.shapes) c.args.m.now c.first_order.new.m c.next_type.new.m c.in_ok-shapes.ensures.follows as_is found_argument c.in_err-next.field-0.0 c.in_err-next.ensures.follows in
    search rules

pub returns-clause-follows : goal.returns-clause-follows
returns-clause-follows g c =
    let e = rw c.in-Prod.is at c.view.ensures.is in
    argument_found c.args.env.now _ _ c.args.ty.now e (set_of c.in_ok-shapes.shapes) c.args.m.now c.first_order.new.m c.next_type.new.m c.in_ok-shapes.ensures.follows c.in_ok-next.next c.in_ok-next.ensures.follows
