use Rattle.std.proofs.Common.{◌≡◌, ◌∙◌, ◌+◌, ◌<◌, ◌≤◌, ◌∷◌, ◌++◌, [], length, drop, reverse, sym, ap, subst, arith}
use Rattle.std.proofs.lemmas.Option.{get_or_from_slice_get}
use Rattle.pc_rules.proofs.ListSteps.{next_is, none_left}
use Rattle.data_trees.specs.Preorder.{IsForest}
use Rattle.calculus_rules.specs.Lookups.{if_some}
use Rattle.first_order.specs.Texts.{by_shapes, named_ctor, slot, slots, piece, write}
use Rattle.first_order.proofs.Written.{writes_start, writes_not, writes_next, writes_end, forest_next, some_waits, is_text}
use Rattle.first_order.proofs.ReadTexts.{shapes_count, read_has_text, named_at}
use Rattle.first_order.proofs.texts.text_of.Goals as goal

pub loop-i-init : goal.loop-i-init
loop-i-init c =
    let first = c.in_ok-put.ensures.ok ∙ ap (λ s. c.new-waiting.result.items ++ (s ∷ [])) c.slot_of.ensures.is in
    let one : length c.put.new.items.items ≡ 1 = ap length (first ∙ ap (λ l. l ++ (slot 0 0 ∷ [])) c.new-waiting.ensures.items) in
    record {
      writes = writes_start (by_shapes c.args.shapes.now.types c.args.names.now) c.args.tree.now c.put.new.items.items c.new-waiting.result.items c.new-text.result.items c.new-waiting.ensures.items c.new-text.ensures.items first;
      forest = subst (λ n. IsForest n c.args.tree.now) (sym one) c.len-i-end.ensures.tree;
    }

pub unreachable-requires : goal.unreachable-requires
unreachable-requires c =
    let ds = c.args.tree.now in
    let i = c.loop-i.i in
    let d = c.node-number.result in
    let lt : i < length ds = grind arith in
    let is = sym (get_or_from_slice_get ds i d d c.node-number.ensures.at) in
    some_waits c.loop-i.waiting.items d (drop i ds) (drop (i + 1) ds) (next_is ds i d lt is) c.loop-i.invariant.forest c.in_default.ensures.last

pub returns-clause-exact : goal.returns-clause-exact
returns-clause-exact c =
    let ds = c.args.tree.now in
    let ge : length ds ≤ c.loop-i.i = grind arith in
    writes_end (by_shapes c.args.shapes.now.types c.args.names.now) (write (by_shapes c.args.shapes.now.types c.args.names.now) ds) c.loop-i.text.items c.loop-i.waiting.items (drop c.loop-i.i ds) c.loop-i.i c.loop-i.invariant.writes (none_left ds c.loop-i.i ge) c.loop-i.invariant.forest

pub returns-clause-text : goal.returns-clause-text
returns-clause-text c =
    let ds = c.args.tree.now in
    let ge : length ds ≤ c.loop-i.i = grind arith in
    is_text (by_shapes c.args.shapes.now.types c.args.names.now) (shapes_count c.args.shapes.now.types c.args.names.now) ds c.loop-i.text.items
    (writes_end (by_shapes c.args.shapes.now.types c.args.names.now) (write (by_shapes c.args.shapes.now.types c.args.names.now) ds) c.loop-i.text.items c.loop-i.waiting.items (drop c.loop-i.i ds) c.loop-i.i c.loop-i.invariant.writes (none_left ds c.loop-i.i ge) c.loop-i.invariant.forest)

pub returns-in_default-constructor_of-clause-exact : goal.returns-in_default-constructor_of-clause-exact
returns-in_default-constructor_of-clause-exact c =
    let ds = c.args.tree.now in
    let i = c.loop-i.i in
    let d = c.node-number.result in
    let s = c.in-Some.slot in
    let lt : i < length ds = grind arith in
    let is = sym (get_or_from_slice_get ds i d d c.node-number.ensures.at) in
    let none = ap (λ o. if_some o (λ k. named_ctor c.args.names.now k)) c.in_default-constructor_of.ensures.is in
    writes_not (by_shapes c.args.shapes.now.types c.args.names.now) (write (by_shapes c.args.shapes.now.types c.args.names.now) ds) c.loop-i.text.items c.loop-i.waiting.items c.take_last.new.items.items s d (drop i ds) (drop (i + 1) ds) i c.loop-i.invariant.writes c.in-Some.ensures.last
    (next_is ds i d lt is) none

pub returns-in_default-constructor_of-clause-whole : goal.returns-in_default-constructor_of-clause-whole
returns-in_default-constructor_of-clause-whole c =
    let ds = c.args.tree.now in
    let i = c.loop-i.i in
    let d = c.node-number.result in
    let s = c.in-Some.slot in
    let lt : i < length ds = grind arith in
    let is = sym (get_or_from_slice_get ds i d d c.node-number.ensures.at) in
    let none = ap (λ o. if_some o (λ k. named_ctor c.args.names.now k)) c.in_default-constructor_of.ensures.is in
    let not = writes_not (by_shapes c.args.shapes.now.types c.args.names.now) (write (by_shapes c.args.shapes.now.types c.args.names.now) ds) c.loop-i.text.items c.loop-i.waiting.items c.take_last.new.items.items s d (drop i ds) (drop (i + 1) ds) i c.loop-i.invariant.writes c.in-Some.ensures.last
    (next_is ds i d lt is) none in
    λ value e. absurd (read_has_text c.args.shapes.now.types c.args.names.now c.requires.named value ds e i not)

pub loop-i-preserved : goal.loop-i-preserved
loop-i-preserved c =
    let ds = c.args.tree.now in
    let i = c.loop-i.i in
    let d = c.node-number.result in
    let s = c.in-Some.slot in
    let k = c.in-Some-constructor_of.ctor.now in
    let name = c.in-Some-text.name.now in
    let text = c.loop-i.text.items in
    let ws = c.loop-i.waiting.items in
    let vs = c.take_last.new.items.items in
    let lt : i < length ds = grind arith in
    let is = sym (get_or_from_slice_get ds i d d c.node-number.ensures.at) in
    let q = next_is ds i d lt is in
    let p = c.in-Some.ensures.last in
    let n = named_at c.args.shapes.now.types c.args.names.now s.place d k name c.in-Some-constructor_of.ensures.is c.in-Some-text.ensures.bytes in
    let x = c.in_ok-write_node.ensures.ok ∙ ap (λ n. text ++ piece i n d.1 s.closes) c.as_bytes.ensures.value in
    let y = c.in_ok-put_slots.ensures.ok ∙ ap (λ js. slots js s.closes ++ reverse vs) c.as_slice.ensures.is in
    let h = c.loop-i.invariant in
    let count = shapes_count c.args.shapes.now.types c.args.names.now s.place d (name, k.args) n in
    record {
      writes = writes_next (by_shapes c.args.shapes.now.types c.args.names.now) (write (by_shapes c.args.shapes.now.types c.args.names.now) ds) text ws vs s d (drop i ds) (drop (i + 1) ds) i h.writes p q
          (name, k.args) c.write_node.new.text.items c.put_slots.new.waiting.items n x y (i + 1) (omega arith);
      forest = forest_next ws vs c.put_slots.new.waiting.items s d (drop i ds) (drop (i + 1) ds) k.args p q h.forest count y;
    }
