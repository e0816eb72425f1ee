use Rattle.std.proofs.Common.{rules, ◌≡◌, ◌∙◌, ◌+◌, [], Err, drop}
use Rattle.pc_rules.proofs.ListSteps.{next_is, none_left}
use Rattle.first_order.specs.declared.given.Turn.TheVariants.{First}
use Rattle.first_order.specs.Awaited.{with_nodes, joined, arguments_in, argument_sets}
use Rattle.first_order.specs.Nexts.{reading_on}
use Rattle.first_order.proofs.ArgumentNodes.{set_read, one_more, trees_more, sets_read, refused_as}
use Rattle.first_order.proofs.given.arguments.Goals as goal

pub loop-set-preserved : goal.loop-set-preserved
loop-set-preserved c =
    let names = c.args.names.now in
    let i = c.loop-set.set-index in
    let sets = c.args.sets.now in
    let next = next_is sets i c.set-item.result c.loop-set-test.true c.set-item.is in
    record {
      same = c.in_ok-data.ensures.passes.same ∙ c.loop-set.invariant.same;
      counted = one_more c.loop-set.read.items c.put.new.items.items c.in_ok-data.data i c.in_ok-put.ensures.ok c.loop-set.invariant.counted;
      trees = trees_more c.loop-set.read.items c.put.new.items.items c.in_ok-data.data c.loop-set.invariant.trees c.in_ok-data.ensures.tree c.in_ok-put.ensures.ok;
      goes = set_read names c.loop-set.tokens c.argument.new.tokens (reading_on names c.args.tokens.now (arguments_in First (argument_sets sets))) c.loop-set.turn (drop i sets) (drop (i + 1) sets) c.set-item.result c.loop-set.read.items c.put.new.items.items c.in_ok-data.data
          c.loop-set.invariant.goes next c.in_ok-data.ensures.passes.goes c.in_ok-put.ensures.ok;
    }

pub returns-in_err-close-clause-gives : goal.returns-in_err-close-clause-gives
returns-in_err-close-clause-gives c =
    let names = c.args.names.now in
    let i = c.loop-set.set-index in
    let sets = c.args.sets.now in
    let q : c.from_residual-in_err-close.result ≡ Err c.in_err-close.field-0.0 = search rules in
    let whole = sets_read names c.loop-set.tokens (reading_on names c.args.tokens.now (arguments_in First (argument_sets sets))) c.loop-set.turn (drop i sets) c.loop-set.read.items c.loop-set.invariant.goes (none_left sets i c.loop-set-test.false) in
    refused_as c.from_residual-in_err-close.result c.in_err-close.field-0.0 q _ _ (joined c.loop-set.read.items) _ _ whole ((c.in_err-close.ensures.passes names).goes [])

pub returns-clause-gives : goal.returns-clause-gives
returns-clause-gives c =
    let names = c.args.names.now in
    let i = c.loop-set.set-index in
    let sets = c.args.sets.now in
    let whole = sets_read names c.loop-set.tokens (reading_on names c.args.tokens.now (arguments_in First (argument_sets sets))) c.loop-set.turn (drop i sets) c.loop-set.read.items c.loop-set.invariant.goes (none_left sets i c.loop-set-test.false) in
    whole ∙ (λ j. with_nodes (joined c.loop-set.read.items) ((c.in_ok-close.ensures.passes names).goes [] j))
