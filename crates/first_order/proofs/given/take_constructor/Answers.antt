use Rattle.std.proofs.Common.{◌∙◌, refl, ap, reverse, ◌++◌}
use Rattle.first_order.specs.declared.given.Turn.TheVariants.{First}
use Rattle.first_order.specs.Nexts.{nexts_in}
use Rattle.first_order.proofs.ArgumentNodes.{opens, inside_trees}
use Rattle.first_order.proofs.given.take_constructor.Goals as goal

pub returns-clause-is : goal.returns-clause-is
returns-clause-is c =
    let js = c.in-Some.ctor.now.args in
    let waits = c.in_ok-put_inside.ensures.ok ∙ ap (λ ks. nexts_in First ks ++ reverse c.args.waiting.now.items) c.as_slice.ensures.is in
    (nexts_in First js, opens c.args.shapes.now.types _ c.in-Some.number js c.in_ok-node.node c.in-Some.ensures.is (c.in_ok-node.ensures.ok ∙ ap (λ n. (c.in-Some.number, n)) c.len.ensures.is), waits)

pub returns-clause-trees : goal.returns-clause-trees
returns-clause-trees c =
    let js = c.in-Some.ctor.now.args in
    let waits = c.in_ok-put_inside.ensures.ok ∙ ap (λ ks. nexts_in First ks ++ reverse c.args.waiting.now.items) c.as_slice.ensures.is in
    (refl, inside_trees First js (reverse c.put_inside.new.waiting.items) (reverse c.args.waiting.now.items) c.in-Some.number c.in_ok-node.node waits (c.in_ok-node.ensures.ok ∙ ap (λ n. (c.in-Some.number, n)) c.len.ensures.is))
