use Rattle.std.proofs.Common.{◌≡◌, ◌∙◌, ◌+◌, ◌<◌, ◌≤◌, ◌∷◌, ◌++◌, [], decimal, length, drop, reverse, refl, sym, ap, subst, arith}
use Rattle.std.specs.Prelude.{replicate}
use Rattle.std.proofs.lemmas.List.{length-replicate}
use Rattle.std.proofs.lemmas.Option.{get_or_from_slice_get}
use Rattle.pc_rules.proofs.ListSteps.{next_is, none_left}
use Rattle.data_trees.specs.Preorder.{IsForest}
use Rattle.first_order.specs.Texts.{by_tags, slot, slots, piece, write}
use Rattle.first_order.proofs.Written.{writes_start, writes_next, writes_end, forest_next, some_waits, is_text}
use Rattle.first_order.proofs.ReadTexts.{tags_count}
use Rattle.first_order.proofs.texts.tags_of.Goals as goal

pub loop-i-init : goal.loop-i-init
loop-i-init c =
    let first = c.in_ok-put.ensures.ok ∙ ap (λ s. c.new-waiting.result.items ++ (s ∷ [])) c.slot_of.ensures.is in
    let one : length c.put.new.items.items ≡ 1 = ap length (first ∙ ap (λ l. l ++ (slot 0 0 ∷ [])) c.new-waiting.ensures.items) in
    record {
      writes = writes_start by_tags c.args.tree.now c.put.new.items.items c.new-waiting.result.items c.new-text.result.items c.new-waiting.ensures.items c.new-text.ensures.items first;
      forest = subst (λ n. IsForest n c.args.tree.now) (sym one) c.len-i-end.ensures.tree;
    }

pub unreachable-requires : goal.unreachable-requires
unreachable-requires c =
    let ds = c.args.tree.now in
    let i = c.loop-i.i in
    let d = c.node-number.result in
    let lt : i < length ds = grind arith in
    let is = sym (get_or_from_slice_get ds i d d c.node-number.ensures.at) in
    some_waits c.loop-i.waiting.items d (drop i ds) (drop (i + 1) ds) (next_is ds i d lt is) c.loop-i.invariant.forest c.in_default.ensures.last

pub returns-clause-exact : goal.returns-clause-exact
returns-clause-exact c =
    let ds = c.args.tree.now in
    let ge : length ds ≤ c.loop-i.i = grind arith in
    writes_end by_tags (write by_tags ds) c.loop-i.text.items c.loop-i.waiting.items (drop c.loop-i.i ds) c.loop-i.i c.loop-i.invariant.writes (none_left ds c.loop-i.i ge) c.loop-i.invariant.forest

pub returns-clause-text : goal.returns-clause-text
returns-clause-text c =
    let ds = c.args.tree.now in
    let ge : length ds ≤ c.loop-i.i = grind arith in
    is_text by_tags tags_count ds c.loop-i.text.items
    (writes_end by_tags (write by_tags ds) c.loop-i.text.items c.loop-i.waiting.items (drop c.loop-i.i ds) c.loop-i.i c.loop-i.invariant.writes (none_left ds c.loop-i.i ge) c.loop-i.invariant.forest)

pub loop-i-preserved : goal.loop-i-preserved
loop-i-preserved c =
    let ds = c.args.tree.now in
    let i = c.loop-i.i in
    let d = c.node-number.result in
    let s = c.in-Some.slot in
    let text = c.loop-i.text.items in
    let ws = c.loop-i.waiting.items in
    let vs = c.take_last.new.items.items in
    let lt : i < length ds = grind arith in
    let is = sym (get_or_from_slice_get ds i d d c.node-number.ensures.at) in
    let q = next_is ds i d lt is in
    let p = c.in-Some.ensures.last in
    let places = c.as_slice.ensures.value ∙ c.in_ok-places.ensures.items_if_clones_equal (λ y h. h) in
    let x = c.in_ok-write_node.ensures.ok ∙ ap (λ n. text ++ piece i n d.1 s.closes) (c.as_bytes-tag.ensures.value ∙ c.format.ensures.text) in
    let y = c.in_ok-put_slots.ensures.ok ∙ ap (λ js. slots js s.closes ++ reverse vs) places in
    let h = c.loop-i.invariant in
    record {
      writes = writes_next by_tags (write by_tags ds) text ws vs s d (drop i ds) (drop (i + 1) ds) i h.writes p q (decimal d.0, replicate d.1 0) c.write_node.new.text.items c.put_slots.new.waiting.items refl x y
          (i + 1) (omega arith);
      forest = forest_next ws vs c.put_slots.new.waiting.items s d (drop i ds) (drop (i + 1) ds) (replicate d.1 0) p q h.forest (length-replicate d.1 0) y;
    }
