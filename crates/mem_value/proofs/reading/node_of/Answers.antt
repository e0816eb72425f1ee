use Rattle.std.proofs.Common.{refl, arith}
use Rattle.mem_value.proofs.Preorder.{node_odd, node_block, block_inside}
use Rattle.mem_value.proofs.reading.node_of.Goals as goal

pub load-header-requires : goal.load-header-requires
load-header-requires c = record { inside = omega (arith, block_inside c.args.memory.now c.args.word _ c.if-word-eq1.false refl c.requires.stands) }

pub returns-then-word-eq1-clause-is : goal.returns-then-word-eq1-clause-is
returns-then-word-eq1-clause-is c = node_odd c.args.memory.now c.args.word c.if-word-eq1.true

pub returns-clause-is : goal.returns-clause-is
returns-clause-is c = node_block c.args.memory.now c.args.word c.load-header.result c.if-word-eq1.false c.load-header.ensures.is

pub returns-clause-inside : goal.returns-clause-inside
returns-clause-inside c = λ some. block_inside c.args.memory.now c.args.word c.load-header.result c.if-word-eq1.false c.load-header.ensures.is c.requires.stands
