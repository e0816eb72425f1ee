use Rattle.std.proofs.Common.{rules, ◌≡◌, ◌+◌, ◌<◌, List, [], ◌∷◌, length, drop, nat_eq, sym, ap, ◌∙◌, subst, arith}
use Rattle.std.proofs.Math.ListN.{drop_of_length-le}
use Rattle.std.specs.HashMap.{get}
use Rattle.lambda_box.specs.BoxProgram.{BoxConstant}
use Rattle.shrink_passes.specs.DeadPlaces.{is_place}
use Rattle.shrink_passes.proofs.Table.{in_order, next_item}
use Rattle.shrink_passes.proofs.DropStages.{through, AreReady, loop_ready, loop_dropped}
use Rattle.shrink_passes.proofs.dropping.drop_dead_params.Goals as goal

pub loop-d-init : goal.loop-d-init
loop-d-init c =
    let D = is_place (get nat_eq c.in_ok-table.table) in
    let P = c.args.p.now in
    let items = c.as_slice-d-items.result.now in (
      ap (through D items) c.new-constants.ensures.empty,
      loop_ready P c.requires.form D c.in_ok-table.ensures.is items (in_order items P.constants c.as_slice-d-items.ensures.is),
    )

pub without_params-requires : goal.without_params-requires
without_params-requires c =
    let D = is_place (get nat_eq c.in_ok-table.table) in
    let items = c.as_slice-d-items.result.now in
    let i = c.loop-d.d-index in
    let l : i < length items = grind arith in
    let h = subst (AreReady D) (next_item items i c.d-item.result l c.d-item.is) c.loop-d.invariant.1 in
    record { closed = h.0.0; leads = h.0.1 }

pub loop-d-preserved : goal.loop-d-preserved
loop-d-preserved c =
    let D = is_place (get nat_eq c.in_ok-table.table) in
    let items = c.as_slice-d-items.result.now in
    let i = c.loop-d.d-index in
    let cs : List BoxConstant = c.loop-d.constants in
    let l : i < length items = grind arith in
    let next = next_item items i c.d-item.result l c.d-item.is in
    let rest = drop (i + 1) items in
    let pushed : c.push.new.self ≡ c.in_ok-constant.constant ∷ cs = search rules in (
      ap (through D rest) (pushed ∙ ap (λ (x : BoxConstant). x ∷ cs) c.in_ok-constant.ensures.ok) ∙ sym (ap (λ (ds : List BoxConstant). through D ds cs) next) ∙ c.loop-d.invariant.0,
      (subst (AreReady D) next c.loop-d.invariant.1).1,
    )

pub returns-clause-is : goal.returns-clause-is
returns-clause-is c =
    let items = c.as_slice-d-items.result.now in
    (loop_dropped c.args.p.now c.requires.form (is_place (get nat_eq c.in_ok-table.table)) c.in_ok-table.ensures.is items (in_order items c.args.p.now.constants c.as_slice-d-items.ensures.is) c.loop-d.constants (drop c.loop-d.d-index items) c.in-Ok.families
    c.in_ok-main.main c.loop-d.invariant.0 (drop_of_length-le items c.loop-d-test.false) c.in-Ok.ensures.ok c.in_ok-main.ensures.ok).is

pub returns-clause-form : goal.returns-clause-form
returns-clause-form c =
    let items = c.as_slice-d-items.result.now in
    (loop_dropped c.args.p.now c.requires.form (is_place (get nat_eq c.in_ok-table.table)) c.in_ok-table.ensures.is items (in_order items c.args.p.now.constants c.as_slice-d-items.ensures.is) c.loop-d.constants (drop c.loop-d.d-index items) c.in-Ok.families
    c.in_ok-main.main c.loop-d.invariant.0 (drop_of_length-le items c.loop-d-test.false) c.in-Ok.ensures.ok c.in_ok-main.ensures.ok).shrinks.form

pub returns-clause-saturated : goal.returns-clause-saturated
returns-clause-saturated c =
    let items = c.as_slice-d-items.result.now in
    (loop_dropped c.args.p.now c.requires.form (is_place (get nat_eq c.in_ok-table.table)) c.in_ok-table.ensures.is items (in_order items c.args.p.now.constants c.as_slice-d-items.ensures.is) c.loop-d.constants (drop c.loop-d.d-index items) c.in-Ok.families
    c.in_ok-main.main c.loop-d.invariant.0 (drop_of_length-le items c.loop-d-test.false) c.in-Ok.ensures.ok c.in_ok-main.ensures.ok).shrinks.saturated

pub returns-clause-ordinary : goal.returns-clause-ordinary
returns-clause-ordinary c =
    let items = c.as_slice-d-items.result.now in
    (loop_dropped c.args.p.now c.requires.form (is_place (get nat_eq c.in_ok-table.table)) c.in_ok-table.ensures.is items (in_order items c.args.p.now.constants c.as_slice-d-items.ensures.is) c.loop-d.constants (drop c.loop-d.d-index items) c.in-Ok.families
    c.in_ok-main.main c.loop-d.invariant.0 (drop_of_length-le items c.loop-d-test.false) c.in-Ok.ensures.ok c.in_ok-main.ensures.ok).shrinks.ordinary

pub returns-clause-data_kept : goal.returns-clause-data_kept
returns-clause-data_kept c =
    let items = c.as_slice-d-items.result.now in
    (loop_dropped c.args.p.now c.requires.form (is_place (get nat_eq c.in_ok-table.table)) c.in_ok-table.ensures.is items (in_order items c.args.p.now.constants c.as_slice-d-items.ensures.is) c.loop-d.constants (drop c.loop-d.d-index items) c.in-Ok.families
    c.in_ok-main.main c.loop-d.invariant.0 (drop_of_length-le items c.loop-d-test.false) c.in-Ok.ensures.ok c.in_ok-main.ensures.ok).shrinks.runs

pub returns-clause-nodes_kept : goal.returns-clause-nodes_kept
returns-clause-nodes_kept c =
    let items = c.as_slice-d-items.result.now in
    (loop_dropped c.args.p.now c.requires.form (is_place (get nat_eq c.in_ok-table.table)) c.in_ok-table.ensures.is items (in_order items c.args.p.now.constants c.as_slice-d-items.ensures.is) c.loop-d.constants (drop c.loop-d.d-index items) c.in-Ok.families
    c.in_ok-main.main c.loop-d.invariant.0 (drop_of_length-le items c.loop-d-test.false) c.in-Ok.ensures.ok c.in_ok-main.ensures.ok).shrinks.nodes

pub returns-clause-no_deeper : goal.returns-clause-no_deeper
returns-clause-no_deeper c =
    let items = c.as_slice-d-items.result.now in
    (loop_dropped c.args.p.now c.requires.form (is_place (get nat_eq c.in_ok-table.table)) c.in_ok-table.ensures.is items (in_order items c.args.p.now.constants c.as_slice-d-items.ensures.is) c.loop-d.constants (drop c.loop-d.d-index items) c.in-Ok.families
    c.in_ok-main.main c.loop-d.invariant.0 (drop_of_length-le items c.loop-d-test.false) c.in-Ok.ensures.ok c.in_ok-main.ensures.ok).shrinks.no_deeper
