use Rattle.std.proofs.Common.{rules, ◌≡◌, ◌∙◌, ◌∷◌, Err, refl, sym, subst, arith}
use Rattle.data_trees.specs.Preorder.{IsTree}
use Rattle.first_order.specs.declared.given.Next.TheVariants.{Item}
use Rattle.first_order.specs.Awaited.{AwaitsItem, with_nodes}
use Rattle.first_order.specs.Nexts.{reading_on}
use Rattle.first_order.proofs.ArgumentNodes.{here, node_read, trees_kept, argument_starts, tree_starts, argument_ends, tree_ends, argument_refused, lacks_memory}
use Rattle.first_order.proofs.given.argument.Goals as goal

pub next-init : goal.next-init
next-init c = record {
  same = refl;
  goes = argument_starts c.args.names.now c.args.shapes.now.types c.args.tokens.now c.put.new.items.items c.new-waiting.result.items c.new-nodes.result.items (Item c.args.turn 0) c.new-waiting.ensures.items c.new-nodes.ensures.items c.in_ok-put.ensures.ok;
  forest = tree_starts c.put.new.items.items c.new-waiting.result.items c.new-nodes.result.items (Item c.args.turn 0) refl c.new-waiting.ensures.items c.new-nodes.ensures.items c.in_ok-put.ensures.ok;
  few = rw c.new-nodes.ensures.items (omega arith);
}

pub returns-in_err-node-clause-passes : goal.returns-in_err-node-clause-passes
returns-in_err-node-clause-passes c =
    let q : c.from_residual-in_err-node.result ≡ Err c.in_err-node.field-0.0 = search rules in
    let S = c.args.shapes.now.types in
    let inv = c.next.invariant in
    argument_refused c.args.names.now c.from_residual-in_err-node.result c.in_err-node.field-0.0 q c.args.tokens.now c.take_next.new.tokens (AwaitsItem c.args.turn S 0) with_nodes _ _ c.next.nodes.items
    (c.in_err-node.ensures.passes.same ∙ inv.same)
    (λ xs. here c.args.names.now S c.next.tokens c.next.waiting.items c.take_last.new.items.items c.in-Some.next c.in-Some.ensures.last (reading_on c.args.names.now c.args.tokens.now (AwaitsItem c.args.turn S 0 ∷ xs)) c.next.nodes.items xs (inv.goes xs))
    c.in_err-node.ensures.passes.goes

pub next-preserved : goal.next-preserved
next-preserved c =
    let S = c.args.shapes.now.types in
    let inv = c.next.invariant in
    let ws = c.next.waiting.items in
    let vs = c.take_last.new.items.items in
    let us = c.take_next.new.waiting.items in
    record {
      same = c.in_ok-node.ensures.passes.same ∙ inv.same;
      goes = λ xs. node_read c.args.names.now S c.next.tokens ws vs c.in-Some.next c.in-Some.ensures.last c.take_next.new.tokens us c.in_ok-node.node (reading_on c.args.names.now c.args.tokens.now (AwaitsItem c.args.turn S 0 ∷ xs))
          c.next.nodes.items c.put_node.new.nodes.items xs (inv.goes xs) (c.in_ok-node.ensures.passes.goes xs) c.in_ok-put_node.ensures.ok;
      forest = trees_kept c.args.names.now S c.next.tokens ws vs c.in-Some.next c.in-Some.ensures.last us c.in_ok-node.node c.next.nodes.items c.put_node.new.nodes.items inv.forest c.in_ok-node.ensures.passes.trees c.in_ok-put_node.ensures.ok;
      few = c.in_ok-put_node.ensures.few inv.few;
    }

pub returns-in_err-put_node-clause-passes : goal.returns-in_err-put_node-clause-passes
returns-in_err-put_node-clause-passes c =
    let q : c.from_residual-in_err-put_node.result ≡ Err c.in_err-put_node.field-0.0 = search rules in
    lacks_memory c.args.names.now c.from_residual-in_err-put_node.result c.in_err-put_node.field-0.0 q c.in_err-put_node.ensures.only_memory c.args.tokens.now c.take_next.new.tokens (AwaitsItem c.args.turn c.args.shapes.now.types 0) with_nodes
    (c.in_ok-node.ensures.passes.same ∙ c.next.invariant.same)

pub of-requires-clause-tree : goal.of-requires-clause-tree
of-requires-clause-tree c = tree_ends c.next.waiting.items c.next.nodes.items c.in_default.ensures.last c.next.invariant.forest

pub of-requires-clause-few : goal.of-requires-clause-few
of-requires-clause-few c = c.next.invariant.few

pub returns-clause-passes : goal.returns-clause-passes
returns-clause-passes c = record {
  same = c.next.invariant.same;
  goes = λ xs. argument_ends c.args.names.now c.args.shapes.now.types c.next.tokens c.next.waiting.items c.next.nodes.items c.of.result
      (reading_on c.args.names.now c.args.tokens.now (AwaitsItem c.args.turn c.args.shapes.now.types 0 ∷ xs)) xs c.in_default.ensures.last c.of.ensures.is (c.next.invariant.goes xs);
}

pub returns-clause-tree : goal.returns-clause-tree
returns-clause-tree c = subst IsTree (sym c.of.ensures.is) (tree_ends c.next.waiting.items c.next.nodes.items c.in_default.ensures.last c.next.invariant.forest)
