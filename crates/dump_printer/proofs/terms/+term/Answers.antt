use Rattle.std.proofs.Common.{rules, arith, true, false, ap, sym, ◌≡◌, ◌∙◌, ◌≤◌, ◌<◌, ◌-◌, max, length, suc}
use Rattle.trees.specs.Tree.{terms_of}
use Rattle.trees.specs.Measures.{depth, depth_trees}
use Rattle.pc_terms.specs.Lists.{arms_of, depth_defs}
use Rattle.pc_terms.specs.View.{tree_of}
use Rattle.dump_printer.specs.Cut.{cut}
use Rattle.dump_printer.specs.TermLists.{arm, definition}
use Rattle.dump_printer.proofs.Lists.{each-item, each-end, along}
use Rattle.dump_printer.proofs.TermTokens.{match-tokens, fix-tokens, cut-off, cut-both, run-at, head-at, deep-term-at, deep-arm-at, deep-def-at}
use Rattle.dump_printer.proofs.terms.+term.Goals as goal

pub write_cut-returns-then-room-eq0 : goal.write_cut-returns-then-room-eq0
write_cut-returns-then-room-eq0 g t c = record {
  goes = λ s more h.
      let z : c.args.room ≡ 0 = grind arith in
      let e = ap (λ k. cut k false c.args.env.now.names c.args.env.now.level_names c.args.t.now more) z ∙ cut-off c.args.env.now.names c.args.env.now.level_names false c.args.t.now more in
      c.atom.ensures.goes s more (along e h);
}

pub write_match-returns : goal.write_match-returns
write_match-returns g t c = record {
  goes = λ s more h.
      let m = c.args.m.now in
      c.close-3.ensures.goes s more (c.write_branches.ensures.goes s _ (c.write_cut.ensures.goes s _ (c.write_predicate.ensures.goes s _ (c.close-2.ensures.goes s _
      (c.write_parameters.ensures.goes s _ (c.head-2.ensures.goes s _ (c.close.ensures.goes s _ (c.write_family_id.ensures.goes s _ (c.open.ensures.goes s _ (c.head.ensures.goes s _
      (along (match-tokens c.args.room c.args.env.now.names c.args.env.now.level_names m.family m.params m.binders m.ret m.scrut m.branches more) h)))))))))));
}

pub write_node-returns-in-Fix : goal.write_node-returns-in-Fix
write_node-returns-in-Fix g t c = record {
  goes = λ s more h.
      c.write_fix.ensures.goes s more
      (along (ap (λ n. cut (suc c.args.room) false c.args.env.now.names c.args.env.now.level_names (tree_of n) more) c.in-Fix.is ∙ fix-tokens c.args.room c.args.env.now.names c.args.env.now.level_names c.in-Fix.i c.in-Fix.defs more) h);
}

pub write_run-returns-in-App : goal.write_run-returns-in-App
write_run-returns-in-App g t c = record {
  goes = λ s more h.
      c.write_cut-in-App.ensures.goes s more (c.write_run.ensures.goes s _
      (along (run-at c.args.env.now.names c.args.env.now.level_names c.args.room (c.args.room - 1) c.args.t.now c.view.result.now c.in-App.g c.in-App.b more (grind arith) c.view.ensures.is c.in-App.is) h));
}

pub write_run-returns-then-room-eq0 : goal.write_run-returns-then-room-eq0
write_run-returns-then-room-eq0 g t c = record {
  goes = λ s more h.
      let z : c.args.room ≡ 0 = grind arith in
      let e = (λ j. cut (z j) true c.args.env.now.names c.args.env.now.level_names c.args.t.now more) ∙ cut-both c.args.env.now.names c.args.env.now.level_names c.args.t.now more
      ∙ sym (ap (λ k. cut k false c.args.env.now.names c.args.env.now.level_names c.args.t.now more) z) in
      c.write_cut.ensures.goes s more (along e h);
}

pub write_run-returns-in_default : goal.write_run-returns-in_default
write_run-returns-in_default g t c = record {
  goes = λ s more h.
      c.write_cut-in_default.ensures.goes s more
      (along (head-at c.args.env.now.names c.args.env.now.level_names c.args.room c.args.t.now c.view.result.now more c.view.ensures.is c.in_default.not-App) h);
}

pub write_parameters-write_cut-requires : goal.write_parameters-write_cut-requires
write_parameters-write_cut-requires g t c κs within =
    let h : c.loop-t.t-index < length c.as_slice-t-items.result.now = c.loop-t-test.true in
    let less : depth c.t-item.result ≤ depth_trees (terms_of c.args.list.now) = deep-term-at _ _ c.loop-t.t-index c.t-item.result c.as_slice-t-items.ensures.is c.t-item.is h in
    (omega arith, search rules)

pub write_parameters-loop-t-preserved : goal.write_parameters-loop-t-preserved
write_parameters-loop-t-preserved g t c = record {
  items = c.loop-t.invariant.items;
  goes = λ s more h.
      c.write_cut.ensures.goes s _ (along (each-item (cut c.args.room false c.args.env.now.names c.args.env.now.level_names) c.as_slice-t-items.result.now c.loop-t.t-index c.t-item.result more c.t-item.is (search rules)) (c.loop-t.invariant.goes s more h));
}

pub write_parameters-returns : goal.write_parameters-returns
write_parameters-returns g t c = record { goes = λ s more h. along (each-end (cut c.args.room false c.args.env.now.names c.args.env.now.level_names) c.as_slice-t-items.result.now c.loop-t.t-index more (omega arith)) (c.loop-t.invariant.goes s more h) }

pub write_branches-write_branch-requires : goal.write_branches-write_branch-requires
write_branches-write_branch-requires g t c κs within =
    let h : c.loop-b.b-index < length c.as_slice-b-items.result.now = c.loop-b-test.true in
    let less : depth c.b-item.result.body ≤ depth_trees (arms_of c.args.branches.now) = deep-arm-at _ _ c.loop-b.b-index c.b-item.result c.as_slice-b-items.ensures.is c.b-item.is h in
    (omega arith, search rules)

pub write_branches-loop-b-preserved : goal.write_branches-loop-b-preserved
write_branches-loop-b-preserved g t c = record {
  items = c.loop-b.invariant.items;
  goes = λ s more h.
      c.write_branch.ensures.goes s _ (along (each-item (arm c.args.room c.args.env.now.names c.args.env.now.level_names) c.as_slice-b-items.result.now c.loop-b.b-index c.b-item.result more c.b-item.is (search rules)) (c.loop-b.invariant.goes s more h));
}

pub write_branches-returns : goal.write_branches-returns
write_branches-returns g t c = record { goes = λ s more h. along (each-end (arm c.args.room c.args.env.now.names c.args.env.now.level_names) c.as_slice-b-items.result.now c.loop-b.b-index more (omega arith)) (c.loop-b.invariant.goes s more h) }

pub write_definitions-write_definition-requires : goal.write_definitions-write_definition-requires
write_definitions-write_definition-requires g t c κs within =
    let h : c.loop-d.d-index < length c.as_slice-d-items.result.now = c.loop-d-test.true in
    let less : max (depth c.d-item.result.ty) (depth c.d-item.result.body) ≤ depth_defs c.args.defs.now = deep-def-at _ _ c.loop-d.d-index c.d-item.result c.as_slice-d-items.ensures.is c.d-item.is h in
    (omega arith, search rules)

pub write_definitions-loop-d-preserved : goal.write_definitions-loop-d-preserved
write_definitions-loop-d-preserved g t c = record {
  items = c.loop-d.invariant.items;
  goes = λ s more h.
      c.write_definition.ensures.goes s _ (along (each-item (definition c.args.room c.args.env.now.names c.args.env.now.level_names) c.as_slice-d-items.result.now c.loop-d.d-index c.d-item.result more c.d-item.is (search rules)) (c.loop-d.invariant.goes s more h));
}

pub write_definitions-returns : goal.write_definitions-returns
write_definitions-returns g t c = record { goes = λ s more h. along (each-end (definition c.args.room c.args.env.now.names c.args.env.now.level_names) c.as_slice-d-items.result.now c.loop-d.d-index more (omega arith)) (c.loop-d.invariant.goes s more h) }
