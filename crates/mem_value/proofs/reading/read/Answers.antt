use Rattle.std.proofs.Common.{◌≡◌, ◌++◌, ◌∷◌, [], length, reverse, ap, arith}
use Rattle.std.proofs.lemmas.List.{length-reverse, length-append}
use Rattle.mem_value.proofs.Preorder.{next_stands, reading_goes, too_many}
use Rattle.mem_value.proofs.Steps.{starts, popped, ended, went}
use Rattle.mem_value.proofs.reading.read.Goals as goal

pub loop-made-init : goal.loop-made-init
loop-made-init c =
    let r = starts c.args.memory.now c.args.word c.new-nodes.result.items c.new-waiting.result.items c.push.new.self.items c.requires.stands c.new-nodes.ensures.items c.new-waiting.ensures.items c.in_ok-push.ensures.items in
    (omega (arith, ap length c.new-nodes.ensures.items), r)

pub node_of-number-requires : goal.node_of-number-requires
node_of-number-requires c =
    let m = c.args.memory.now in let w = c.args.word in let nodes = c.loop-made.nodes.items in let rest = c.pop.new.self.items in
    record { stands = next_stands m w c.in-Some.next nodes (reverse rest) (popped m w c.in-Some.next nodes c.loop-made.waiting.items rest c.in-Some.ensures.items c.loop-made.invariant.1) }

pub returns-in_default : goal.returns-in_default
returns-in_default c =
    let n : length c.loop-made.waiting.items ≡ 0 = omega (arith, c.in_default.ensures.cases.0, c.loop-made.waiting.ok.0) in
    record { is = ended c.args.memory.now c.args.word c.loop-made.nodes.items c.loop-made.waiting.items n c.loop-made.invariant.1 }

pub returns-then-len-arity-gt-MOST_NODES : goal.returns-then-len-arity-gt-MOST_NODES
returns-then-len-arity-gt-MOST_NODES c =
    let m = c.args.memory.now in let w = c.args.word in let nodes = c.loop-made.nodes.items in let rest = c.pop.new.self.items in let x = c.in-Some.next in
    let r = popped m w x nodes c.loop-made.waiting.items rest c.in-Some.ensures.items c.loop-made.invariant.1 in
    record { is = too_many m w x c.node_of-number.result.0 c.node_of-number.result.1 nodes (reverse rest) r c.node_of-number.ensures.is (omega (arith, length-reverse rest)) }

pub loop-made-preserved : goal.loop-made-preserved
loop-made-preserved c =
    let m = c.args.memory.now in let w = c.args.word in let nodes = c.loop-made.nodes.items in let rest = c.pop.new.self.items in let x = c.in-Some.next in
    let n = c.node_of-number.result.0 in let a = c.node_of-number.result.1 in
    let r = popped m w x nodes c.loop-made.waiting.items rest c.in-Some.ensures.items c.loop-made.invariant.1 in
    let l = length-append nodes ((n, a) ∷ []) in
    let e = ap length c.in_ok-push-2.ensures.items in
    let made = c.loop-made.invariant.0 in (
      omega (arith, l, e, made),
      went m w (nodes ++ (n, a) ∷ []) c.push-in-loop-made.new.self.items _ (reverse c.put_words.new.waiting.items) c.in_ok-push-2.ensures.items c.in_ok-put_words.ensures.is
          (reading_goes m w x n a nodes (reverse rest) r c.node_of-number.ensures.is (omega (arith, length-reverse rest))),
    )
