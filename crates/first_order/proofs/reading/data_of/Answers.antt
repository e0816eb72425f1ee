use Rattle.std.proofs.Common.{◌≡◌, ◌∙◌, ◌<◌, length, sym, ap, arith}
use Rattle.first_order.specs.Reading.{Read, NotAt, read}
use Rattle.first_order.proofs.NodeByNode.{reads_end, reads_many, reads_not, reads_next, is_tree, few_next}
use Rattle.first_order.proofs.reading.data_of.Goals as goal

pub returns-then-len-eq-MOST_NODES : goal.returns-then-len-eq-MOST_NODES
returns-then-len-eq-MOST_NODES c =
    let l : length c.next.nodes.items ≡ 4000000 = omega arith in
    record {
      read = reads_many c.args.shapes.now.types (read c.args.shapes.now.types c.args.value.now) c.next.nodes.items c.next.waiting.items
          c.take_last.new.items.items c.in-Some.field c.next.invariant.reads c.in-Some.ensures.last l;
    }

pub returns-in_default-taken : goal.returns-in_default-taken
returns-in_default-taken c =
    let l : length c.next.nodes.items < 4000000 = omega arith in
    let q : length c.next.nodes.items ≡ c.len-in_default-taken.result = omega arith in
    let n = rw c.in_default-taken.is at c.in_ok-taken.ensures.ok in
    record {
      read = reads_not c.args.shapes.now.types (read c.args.shapes.now.types c.args.value.now) c.next.nodes.items c.next.waiting.items
          c.take_last.new.items.items c.in-Some.field c.next.invariant.reads c.in-Some.ensures.last l n
          ∙ ap NotAt q;
    }

pub next-preserved : goal.next-preserved
next-preserved c =
    let l : length c.next.nodes.items < 4000000 = omega arith in
    let t = rw c.in-Some-taken.is at c.in_ok-taken.ensures.ok in
    record {
      reads = reads_next c.args.shapes.now.types (read c.args.shapes.now.types c.args.value.now) c.next.nodes.items c.put-in-Some.new.items.items
          c.next.waiting.items c.take_last.new.items.items c.take_node.new.waiting.items c.in-Some.field c.in-Some-taken.node c.next.invariant.reads
          c.in-Some.ensures.last l t c.in_ok-put-2.ensures.ok;
      few = few_next c.next.nodes.items c.put-in-Some.new.items.items c.in-Some-taken.node c.in_ok-put-2.ensures.ok l;
    }

pub of-requires-clause-tree : goal.of-requires-clause-tree
of-requires-clause-tree c =
    is_tree c.args.shapes.now.types c.args.value.now c.next.nodes.items
    (reads_end c.args.shapes.now.types (read c.args.shapes.now.types c.args.value.now) c.next.nodes.items c.next.waiting.items c.next.invariant.reads
    c.in_default.ensures.last)

pub returns : goal.returns
returns c = record {
  read = reads_end c.args.shapes.now.types (read c.args.shapes.now.types c.args.value.now) c.next.nodes.items c.next.waiting.items
      c.next.invariant.reads c.in_default.ensures.last
      ∙ ap Read (sym c.of.ensures.is);
}
