use Rattle.std.proofs.Common.{rules, ◌≡◌, map, refl, ap, arith}
use Rattle.dump_grammar.specs.Named.{LetIn, App, Fix, terms_of, branches_of, defs_of, depth_terms, depth_branches, depth_defs}
use Rattle.pc_terms.proofs.Parts.{rargs_length}
use Rattle.dump_parser.specs.Tree.{named_sort, named_def, named_branch}
use Rattle.dump_reader.proofs.Parts.{seen, term-at, branch-at, def-at, prod-parts, lambda-parts, let-parts, fix-part, cast-parts, cast-function, case-depths, applied-more, run-within, run-depths}
use Rattle.dump_reader.proofs.Items.{no-terms, no-branches, no-defs, one-term, one-branch, one-def}
use Rattle.dump_reader.proofs.Formers.{as-term, of-tree, kept-term, terms-along, branches-along, defs-along, term-result, term-within, rel-term, sort-term, const-term, ind-term, construct-term, prod-term, lambda-term, app-term, let-term, case-term, defs-count, fix-term}
use Rattle.dump_reader.proofs.term.+term.Goals as goal

pub terms-loop-tree-init : goal.terms-loop-tree-init
terms-loop-tree-init t c = no-terms c.args.tables.now c.new-items.result.items (search rules)

pub branches-loop-branch-init : goal.branches-loop-branch-init
branches-loop-branch-init t c = no-branches c.args.tables.now c.new-items.result.items (search rules)

pub definitions-loop-def-init : goal.definitions-loop-def-init
definitions-loop-def-init t c = no-defs c.args.tables.now c.new-items.result.items (search rules)

pub terms-term-requires : goal.terms-term-requires
terms-term-requires t c = (let p = term-at c.args.trees.now c.loop-tree.tree-index c.tree-item.result c.tree-item.is c.loop-tree-test.true in omega (arith, p))

pub terms-loop-tree-preserved : goal.terms-loop-tree-preserved
terms-loop-tree-preserved t c = one-term c.args.trees.now c.loop-tree.tree-index c.tree-item.result c.loop-tree.items.items c.push.new.self.items c.in_ok-t.t c.tree-item.is c.loop-tree-test.true (search rules) c.loop-tree.invariant c.in_ok-t.ensures.made

pub branches-term-requires : goal.branches-term-requires
branches-term-requires t c = (let p = branch-at c.args.trees.now c.loop-branch.branch-index c.branch-item.result c.branch-item.is c.loop-branch-test.true in omega (arith, p))

pub branches-loop-branch-preserved : goal.branches-loop-branch-preserved
branches-loop-branch-preserved t c = one-branch c.args.trees.now c.loop-branch.branch-index c.branch-item.result c.loop-branch.items.items c.push.new.self.items c.in_ok-body.body c.branch-item.is c.loop-branch-test.true (search rules) c.loop-branch.invariant c.in_ok-body.ensures.made

pub definitions-term-requires : goal.definitions-term-requires
definitions-term-requires t c = (let p = def-at c.args.trees.now c.loop-def.def-index c.def-item.result c.def-item.is c.loop-def-test.true in omega (arith, p.0))

pub definitions-term-requires-in-loop-def : goal.definitions-term-requires-in-loop-def
definitions-term-requires-in-loop-def t c = (let p = def-at c.args.trees.now c.loop-def.def-index c.def-item.result c.def-item.is c.loop-def-test.true in omega (arith, p.1))

pub definitions-loop-def-preserved : goal.definitions-loop-def-preserved
definitions-loop-def-preserved t c = one-def c.args.trees.now c.loop-def.def-index c.def-item.result c.loop-def.items.items c.push.new.self.items c.in_ok-ty.ty c.in_ok-body.body c.def-item.is c.loop-def-test.true (search rules) c.loop-def.invariant c.in_ok-ty.ensures.made c.in_ok-body.ensures.made

pub term-returns-in-Rel-clause-made : goal.term-returns-in-Rel-clause-made
term-returns-in-Rel-clause-made t c = term-result (kept-term (of-tree (seen c.node.ensures.is c.in-Rel.is) (rel-term c.in-Rel.n c.args.tables.now (omega arith))) c.leaf.ensures.names c.leaf.ensures.levels) c.leaf.result c.leaf.ensures.ok

pub term-returns-in_ok-s-in-Sort-clause-made : goal.term-returns-in_ok-s-in-Sort-clause-made
term-returns-in_ok-s-in-Sort-clause-made t c = term-result (kept-term (of-tree (seen c.node.ensures.is c.in-Sort.is) (sort-term (named_sort c.in-Sort.s) c.in_ok-s-in-Sort.s c.in_ok-s-in-Sort.ensures.made)) c.sort-in-Sort.ensures.names c.sort-in-Sort.ensures.levels) c.sort-in-Sort.result c.sort-in-Sort.ensures.ok

pub term-returns-in_ok-name-in-Const-clause-made : goal.term-returns-in_ok-name-in-Const-clause-made
term-returns-in_ok-name-in-Const-clause-made t c = term-result (kept-term (of-tree (seen c.node.ensures.is c.in-Const.is) (const-term c.in-Const.name.now c.in_ok-name-in-Const.name c.in_ok-name-in-Const.ensures.made)) c.leaf-in-Const.ensures.names c.leaf-in-Const.ensures.levels) c.leaf-in-Const.result c.leaf-in-Const.ensures.ok

pub term-returns-in_ok-block-in-Ind-clause-made : goal.term-returns-in_ok-block-in-Ind-clause-made
term-returns-in_ok-block-in-Ind-clause-made t c = term-result (kept-term (of-tree (seen c.node.ensures.is c.in-Ind.is) (ind-term c.in-Ind.block.now c.in_ok-block-in-Ind.block c.in_ok-block-in-Ind.ensures.made c.in-Ind.family)) c.leaf-in-Ind.ensures.names c.leaf-in-Ind.ensures.levels) c.leaf-in-Ind.result c.leaf-in-Ind.ensures.ok

pub term-returns-in_ok-block-in-Construct-clause-made : goal.term-returns-in_ok-block-in-Construct-clause-made
term-returns-in_ok-block-in-Construct-clause-made t c = term-result (kept-term (of-tree (seen c.node.ensures.is c.in-Construct.is) (construct-term c.in-Construct.block.now c.in_ok-block-in-Construct.block c.in_ok-block-in-Construct.ensures.made c.in-Construct.family
    c.in-Construct.place)) c.leaf-in-Construct.ensures.names c.leaf-in-Construct.ensures.levels) c.leaf-in-Construct.result c.leaf-in-Construct.ensures.ok

pub term-term-requires : goal.term-term-requires
term-term-requires t c = (let p = prod-parts c.args.tree.now c.in-Prod.domain c.in-Prod.codomain (seen c.node.ensures.is c.in-Prod.is) in omega (arith, p.0))

pub term-term-requires-in-Prod : goal.term-term-requires-in-Prod
term-term-requires-in-Prod t c = (let p = prod-parts c.args.tree.now c.in-Prod.domain c.in-Prod.codomain (seen c.node.ensures.is c.in-Prod.is) in omega (arith, p.1))

pub term-made-requires-clause-within : goal.term-made-requires-clause-within
term-made-requires-clause-within t c = term-within (of-tree (seen c.node.ensures.is c.in-Prod.is) (prod-term c.in_ok-domain-in-Prod.ensures.made c.in_ok-codomain-in-Prod.ensures.made)) c.node.ensures.within

pub term-returns-in_ok-codomain-in-Prod-clause-made : goal.term-returns-in_ok-codomain-in-Prod-clause-made
term-returns-in_ok-codomain-in-Prod-clause-made t c = term-result (of-tree (seen c.node.ensures.is c.in-Prod.is) (prod-term c.in_ok-domain-in-Prod.ensures.made c.in_ok-codomain-in-Prod.ensures.made)) c.made.result c.made.ensures.ok

pub term-term-requires-in-Lambda : goal.term-term-requires-in-Lambda
term-term-requires-in-Lambda t c = (let p = lambda-parts c.args.tree.now c.in-Lambda.domain c.in-Lambda.body (seen c.node.ensures.is c.in-Lambda.is) in omega (arith, p.0))

pub term-term-requires-in-Lambda-2 : goal.term-term-requires-in-Lambda-2
term-term-requires-in-Lambda-2 t c = (let p = lambda-parts c.args.tree.now c.in-Lambda.domain c.in-Lambda.body (seen c.node.ensures.is c.in-Lambda.is) in omega (arith, p.1))

pub term-made-requires-in-Lambda-clause-within : goal.term-made-requires-in-Lambda-clause-within
term-made-requires-in-Lambda-clause-within t c = term-within (of-tree (seen c.node.ensures.is c.in-Lambda.is) (lambda-term c.in_ok-domain-in-Lambda.ensures.made c.in_ok-body-in-Lambda.ensures.made)) c.node.ensures.within

pub term-returns-in_ok-body-in-Lambda-clause-made : goal.term-returns-in_ok-body-in-Lambda-clause-made
term-returns-in_ok-body-in-Lambda-clause-made t c = term-result (of-tree (seen c.node.ensures.is c.in-Lambda.is) (lambda-term c.in_ok-domain-in-Lambda.ensures.made c.in_ok-body-in-Lambda.ensures.made)) c.made-in-Lambda.result c.made-in-Lambda.ensures.ok

pub case-terms-requires : goal.case-terms-requires
case-terms-requires t c =
    let d = case-depths c.args.m.now.block.now c.args.m.now.family c.args.m.now.params.items c.args.m.now.binders c.args.m.now.ret c.args.m.now.scrut c.args.m.now.branches.items in
    let same : depth_terms (terms_of c.as_slice.result.now) ≡ depth_terms (terms_of c.args.m.now.params.items) = ap (λ ts. depth_terms (terms_of ts)) c.as_slice.ensures.value in
    omega (arith, d.0)

pub case-term-requires : goal.case-term-requires
case-term-requires t c = (let d = case-depths c.args.m.now.block.now c.args.m.now.family c.args.m.now.params.items c.args.m.now.binders c.args.m.now.ret c.args.m.now.scrut c.args.m.now.branches.items in
    omega (arith, d.1))

pub case-term-requires-2 : goal.case-term-requires-2
case-term-requires-2 t c = (let d = case-depths c.args.m.now.block.now c.args.m.now.family c.args.m.now.params.items c.args.m.now.binders c.args.m.now.ret c.args.m.now.scrut c.args.m.now.branches.items in
    omega (arith, d.2))

pub case-branches-requires : goal.case-branches-requires
case-branches-requires t c =
    let d = case-depths c.args.m.now.block.now c.args.m.now.family c.args.m.now.params.items c.args.m.now.binders c.args.m.now.ret c.args.m.now.scrut c.args.m.now.branches.items in
    let same : depth_branches (branches_of (map named_branch c.as_slice-2.result.now)) ≡ depth_branches (branches_of (map named_branch c.args.m.now.branches.items)) = ap (λ bs. depth_branches (branches_of (map named_branch bs))) c.as_slice-2.ensures.value in
    omega (arith, d.3)

pub case-made_match-requires : goal.case-made_match-requires
case-made_match-requires t c = record {
  within = term-within (case-term c.args.m.now.block.now c.args.m.now.family c.args.m.now.params.items c.args.m.now.binders c.args.m.now.ret c.args.m.now.scrut c.args.m.now.branches.items c.in_ok-block.ensures.made
      (terms-along c.as_slice.ensures.value c.of.ensures.is c.in_ok-params.ensures.made) c.in_ok-ret.ensures.made c.in_ok-scrut.ensures.made (branches-along c.as_slice-2.ensures.value c.of-2.ensures.is c.in_ok-branches.ensures.made)) c.requires.within;
}

pub case-returns-clause-made : goal.case-returns-clause-made
case-returns-clause-made t c = as-term c.in_ok-whole.ensures.ok (case-term c.args.m.now.block.now c.args.m.now.family c.args.m.now.params.items c.args.m.now.binders c.args.m.now.ret c.args.m.now.scrut c.args.m.now.branches.items c.in_ok-block.ensures.made
    (terms-along c.as_slice.ensures.value c.of.ensures.is c.in_ok-params.ensures.made) c.in_ok-ret.ensures.made c.in_ok-scrut.ensures.made (branches-along c.as_slice-2.ensures.value c.of-2.ensures.is c.in_ok-branches.ensures.made))

pub cast-term-requires : goal.cast-term-requires
cast-term-requires t c = (let p = cast-parts c.args.subject.now c.args.ty.now in omega (arith, p.1))

pub cast-made-requires-clause-within : goal.cast-made-requires-clause-within
cast-made-requires-clause-within t c = term-within (lambda-term c.in_ok-ty.ensures.made (as-term c.in_ok-variable.ensures.ok (kept-term {new = c.leaf.new.self} (rel-term 0 c.term.new.tables (omega arith)) c.leaf.ensures.names c.leaf.ensures.levels))) (cast-function c.args.subject.now c.args.ty.now c.requires.within)

pub cast-term-requires-2 : goal.cast-term-requires-2
cast-term-requires-2 t c = (let p = cast-parts c.args.subject.now c.args.ty.now in omega (arith, p.0))

pub cast-made-requires-2-clause-within : goal.cast-made-requires-2-clause-within
cast-made-requires-2-clause-within t c = term-within (app-term (as-term c.in_ok-function.ensures.ok (lambda-term c.in_ok-ty.ensures.made (as-term c.in_ok-variable.ensures.ok (kept-term (rel-term 0 c.term.new.tables (omega arith)) c.leaf.ensures.names c.leaf.ensures.levels)))) c.in_ok-subject.ensures.made) c.requires.within

pub cast-returns-clause-made : goal.cast-returns-clause-made
cast-returns-clause-made t c = as-term c.in_ok-whole.ensures.ok (app-term (as-term c.in_ok-function.ensures.ok (lambda-term c.in_ok-ty.ensures.made (as-term c.in_ok-variable.ensures.ok (kept-term (rel-term 0 c.term.new.tables (omega arith)) c.leaf.ensures.names c.leaf.ensures.levels)))) c.in_ok-subject.ensures.made)

pub run-term-requires : goal.run-term-requires
run-term-requires t c = (let d = run-depths c.args.function.now c.args.first.now c.args.more.now.items in omega (arith, d.0))

pub run-term-requires-2 : goal.run-term-requires-2
run-term-requires-2 t c = (let d = run-depths c.args.function.now c.args.first.now c.args.more.now.items in omega (arith, d.1))

pub run-made-requires-clause-within : goal.run-made-requires-clause-within
run-made-requires-clause-within t c = (let d = run-depths c.args.function.now c.args.first.now c.args.more.now.items in term-within (app-term c.in_ok-function.ensures.made c.in_ok-first.ensures.made) (omega (arith, d.2)))

pub run-loop-tree-init : goal.run-loop-tree-init
run-loop-tree-init t c = as-term c.in_ok-whole.ensures.ok (app-term c.in_ok-function.ensures.made c.in_ok-first.ensures.made)

pub run-term-requires-in-loop-tree : goal.run-term-requires-in-loop-tree
run-term-requires-in-loop-tree t c =
    let ts = c.args.more.now.items in
    let same : c.deref-tree-items.result.now ≡ ts = c.deref-tree-items.ensures.value in
    let d = run-depths c.args.function.now c.args.first.now ts in
    let p = term-at ts c.loop-tree.tree-index c.tree-item.result (rw same at c.tree-item.is) (rw same at c.loop-tree-test.true) in
    omega (arith, d.3, p)

pub run-made-requires-in-loop-tree-clause-within : goal.run-made-requires-in-loop-tree-clause-within
run-made-requires-in-loop-tree-clause-within t c =
    let ts = c.args.more.now.items in
    let same : c.deref-tree-items.result.now ≡ ts = c.deref-tree-items.ensures.value in
    let within = run-within c.args.function.now c.args.first.now ts c.loop-tree.tree-index c.tree-item.result (rw same at c.tree-item.is) (rw same at c.loop-tree-test.true) in
    term-within (app-term c.loop-tree.invariant c.in_ok-argument.ensures.made) (omega (arith, within, c.requires.within))

pub run-loop-tree-preserved : goal.run-loop-tree-preserved
run-loop-tree-preserved t c =
    let ts = c.args.more.now.items in
    let same : c.deref-tree-items.result.now ≡ ts = c.deref-tree-items.ensures.value in
    let more = applied-more (App c.args.function.now c.args.first.now) ts c.loop-tree.tree-index c.tree-item.result (rw same at c.tree-item.is) (rw same at c.loop-tree-test.true) in
    of-tree more (as-term c.in_ok-whole-2.ensures.ok (app-term c.loop-tree.invariant c.in_ok-argument.ensures.made))

pub let_in-term-requires : goal.let_in-term-requires
let_in-term-requires t c = (let p = let-parts (LetIn c.args.value.now c.args.ty.now c.args.body.now) c.args.value.now c.args.ty.now c.args.body.now refl in omega (arith, p.0))

pub let_in-term-requires-2 : goal.let_in-term-requires-2
let_in-term-requires-2 t c = (let p = let-parts (LetIn c.args.value.now c.args.ty.now c.args.body.now) c.args.value.now c.args.ty.now c.args.body.now refl in omega (arith, p.1))

pub let_in-term-requires-3 : goal.let_in-term-requires-3
let_in-term-requires-3 t c = (let p = let-parts (LetIn c.args.value.now c.args.ty.now c.args.body.now) c.args.value.now c.args.ty.now c.args.body.now refl in omega (arith, p.2))

pub let_in-made-requires-clause-within : goal.let_in-made-requires-clause-within
let_in-made-requires-clause-within t c = term-within (let-term c.in_ok-value.ensures.made c.in_ok-ty.ensures.made c.in_ok-body.ensures.made) c.requires.within

pub let_in-returns-clause-made : goal.let_in-returns-clause-made
let_in-returns-clause-made t c = as-term c.in_ok-whole.ensures.ok (let-term c.in_ok-value.ensures.made c.in_ok-ty.ensures.made c.in_ok-body.ensures.made)

pub fixpoint-definitions-requires : goal.fixpoint-definitions-requires
fixpoint-definitions-requires t c =
    let p = fix-part (Fix (defs_of (map named_def c.args.defs.now.items)) c.args.index) c.args.defs.now.items c.args.index refl in
    let same : depth_defs (defs_of (map named_def c.as_slice.result.now)) ≡ depth_defs (defs_of (map named_def c.args.defs.now.items)) = ap (λ ds. depth_defs (defs_of (map named_def ds))) c.as_slice.ensures.value in
    omega (arith, p)

pub fixpoint-made-requires-clause-indexed : goal.fixpoint-made-requires-clause-indexed
fixpoint-made-requires-clause-indexed t c =
    let count = rargs_length c.of.result in
    let same = defs-count (defs-along c.as_slice.ensures.value c.of.ensures.is c.in_ok-items.ensures.made) in
    omega (arith, count, same, c.requires.indexed)

pub fixpoint-made-requires-clause-within : goal.fixpoint-made-requires-clause-within
fixpoint-made-requires-clause-within t c = term-within (fix-term c.args.defs.now.items c.args.index c.of.result (defs-along c.as_slice.ensures.value c.of.ensures.is c.in_ok-items.ensures.made)) c.requires.within

pub fixpoint-returns-clause-made : goal.fixpoint-returns-clause-made
fixpoint-returns-clause-made t c = as-term c.in_ok-whole.ensures.ok (fix-term c.args.defs.now.items c.args.index c.of.result (defs-along c.as_slice.ensures.value c.of.ensures.is c.in_ok-items.ensures.made))
