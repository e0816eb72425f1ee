use Rattle.std.proofs.Common.{reverse, arith}
use Rattle.mem_value.proofs.Steps.{words_put, words_are}
use Rattle.mem_value.proofs.reading.put_words.Goals as goal

pub loop-i-preserved : goal.loop-i-preserved
loop-i-preserved c =
    words_put c.args.memory.now c.args.address c.args.count c.loop-i.i c.load.result (reverse c.args.waiting.now.items) c.loop-i.waiting.items c.push.new.self.items (omega arith) c.loop-i.invariant c.load.ensures.is c.in_ok-push.ensures.items

pub returns : goal.returns
returns c = record { is = words_are c.args.memory.now c.args.address c.args.count c.loop-i.i (reverse c.args.waiting.now.items) c.loop-i.waiting.items (omega arith) c.loop-i.invariant }
