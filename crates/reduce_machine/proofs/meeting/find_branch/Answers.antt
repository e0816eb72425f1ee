use Rattle.trees.specs.Tree.{terms_of}
use Rattle.pc_terms.specs.Lists.{arms_of}
use Rattle.reduce_machine.specs.Values.{term_of}
use Rattle.reduce_machine.proofs.Arms.{not_case}
use Rattle.reduce_machine.proofs.Meetings.{match_none, match_no_arm, match_takes}
use Rattle.reduce_machine.proofs.meeting.find_branch.Goals as goal

pub unreachable-requires : goal.unreachable-requires
unreachable-requires c = not_case c.view.result.now c.args.outer.now.term c.view.ensures.is c.requires.node c.in_default.not-Case

pub find_constructed-requires : goal.find_constructed-requires
find_constructed-requires c = c.requires.value

pub returns-in_default-find_constructed-clause-ok : goal.returns-in_default-find_constructed-clause-ok
returns-in_default-find_constructed-clause-ok c =
    λ V n. match_none c.args.env.now V c.args.outer.now (term_of c.args.value.now) c.requires.node n c.in_default-find_constructed.ensures.is

pub returns-in_default-chosen-clause-ok : goal.returns-in_default-chosen-clause-ok
returns-in_default-chosen-clause-ok c =
    let e = rw c.in-Case.is at c.view.ensures.is in
    λ V n. match_no_arm c.args.env.now V c.args.outer.now.env.items c.in-Case.m.family c.in-Some.found.family (terms_of c.in-Case.m.params) c.in-Case.m.binders
    c.in-Case.m.ret c.in-Case.m.scrut (arms_of c.in-Case.m.branches) c.args.outer.now.term (term_of c.args.value.now) c.in-Some.found.number c.in-Some.found.count _ e n
    c.in-Some.ensures.is c.in-Some.ensures.count (rw c.get-m.ensures.is at c.in_default-chosen.ensures.is)

pub returns-clause-ok : goal.returns-clause-ok
returns-clause-ok c =
    let e = rw c.in-Case.is at c.view.ensures.is in
    λ V n. match_takes c.args.env.now V c.args.outer.now.env.items c.in-Case.m.family c.in-Some.found.family (terms_of c.in-Case.m.params) c.in-Case.m.binders
    c.in-Case.m.ret c.in-Case.m.scrut (arms_of c.in-Case.m.branches) c.args.outer.now.term (term_of c.args.value.now) c.in-Some.found.number c.in-Some.found.count _
    c.in-Some-chosen.arm.now.body c.in_ok-body.body e n c.in-Some.ensures.is c.in-Some.ensures.count (rw c.get-m.ensures.is at c.in-Some-chosen.ensures.is) c.in_ok-body.ensures.ok
