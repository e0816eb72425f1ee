use Rattle.std.proofs.Common.{◌≡◌, drop}
use Rattle.trees.specs.Tree.{terms_of}
use Rattle.calculus_rules.specs.Guardedness.{ending, branch_marks}
use Rattle.guard_check.specs.Marks.{marks_of}
use Rattle.guard_check.proofs.scope.Scope.opened.Given as goal

abbrev pub invariant-loop-i : goal.invariant-loop-i
invariant-loop-i l =
    branch_marks (ending l.env l.recursive l.x.family (terms_of l.x.params)) l.i (drop l.i l.args) (marks_of l.marks) ≡
    branch_marks (ending l.env l.recursive l.x.family (terms_of l.x.params)) 0 l.args (marks_of l.self.marks)
