use Rattle.std.proofs.Common.{◌∙◌, sym}
use Rattle.type_infer.proofs.MatchLists.{all_prop_next, some_not_prop, all_prop_end}
use Rattle.type_infer.proofs.elimination.all_prop.Goals as goal

pub loop-sort-preserved : goal.loop-sort-preserved
loop-sort-preserved c =
    c.loop-sort.invariant ∙ all_prop_next c.as_slice-sort-items.result.now c.loop-sort.sort-index c.sort-item.result c.loop-sort-test.true c.sort-item.is c.in-Prop.is

pub returns-in-Of : goal.returns-in-Of
returns-in-Of c =
    let e = some_not_prop c.as_slice-sort-items.result.now c.loop-sort.sort-index c.sort-item.result c.in-Of.field-0 c.loop-sort-test.true c.sort-item.is c.in-Of.is in
    record { is = sym (c.loop-sort.invariant ∙ e) }

pub returns : goal.returns
returns c = record { is = sym (c.loop-sort.invariant ∙ all_prop_end c.as_slice-sort-items.result.now c.loop-sort.sort-index c.loop-sort-test.false) }
