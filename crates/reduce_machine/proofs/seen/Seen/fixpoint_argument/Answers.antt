use Rattle.std.proofs.Common.{◌≡◌, ◌∙◌, ◌-◌, Some, ap, arith, length}
use Rattle.reduce_machine.specs.Seen.{inner_term}
use Rattle.reduce_machine.proofs.Inner.{item_before, item_between, item_behind}
use Rattle.reduce_machine.proofs.Nesting.{not_both}
use Rattle.reduce_machine.proofs.seen.Seen.fixpoint_argument.Goals as goal

pub returns-then-i-count-clause-is : goal.returns-then-i-count-clause-is
returns-then-i-count-clause-is c =
    item_before c.args.before.now c.args.after.now (inner_term c.args.self.now) c.args.i c.index-before-i.result c.index-before-i.is (grind arith)

pub returns-then-i-count-2-clause-is : goal.returns-then-i-count-2-clause-is
returns-then-i-count-2-clause-is c =
    item_behind c.args.before.now c.args.after.now (inner_term c.args.self.now) c.args.i (c.args.i - length c.args.before.now - 1) c.index-after-i.result (grind arith) c.index-after-i.is (grind arith)

pub returns-clause-is : goal.returns-clause-is
returns-clause-is c =
    let e : c.args.i ≡ length c.args.before.now = grind arith in
    item_between c.args.before.now c.args.after.now (inner_term c.args.self.now) c.args.i e ∙ ap Some c.in-Some.ensures.some.inside

pub unreachable-requires : goal.unreachable-requires
unreachable-requires c = not_both c.args.self.now.spine.now.head c.in-None.ensures.none c.requires.stuck
