use Rattle.std.proofs.Common.{◌≡◌, ◌-◌, ◌++◌, drop, map}
use Rattle.trees.specs.Tree.{terms_of}
use Rattle.pc_terms.specs.Lists.{arms_of}
use Rattle.calculus_rules.specs.Guardedness.{ending}
use Rattle.calculus_rules.specs.Lookups.{family_of}
use Rattle.pc_rules.specs.DirectedGuard.{constructors_of}
use Rattle.guard_check.specs.Marks.{values_in, marks_in}
use Rattle.guard_check.specs.Tasks.{to_find, bodies_to_find}
use Rattle.guard_check.proofs.tasks.push_bodies.Given as goal

abbrev pub invariant-loop-i : goal.invariant-loop-i
invariant-loop-i l =
    map to_find l.tasks.items ≡
    map to_find l.fn.tasks.items ++ bodies_to_find (values_in l.scope) (marks_in l.scope) (ending l.env l.recursive l.x.family (terms_of l.x.params)) (drop (l.count - l.i) (constructors_of (family_of l.env l.x.family))) (arms_of (drop (l.count - l.i) l.branches))
