use Rattle.std.proofs.Common.{◌≡◌, [], drop}
use Rattle.pc_terms.specs.Lists.{rargs_of}
use Rattle.calculus_rules.specs.Context.{values, under}
use Rattle.calculus_rules.specs.Guardedness.{definition_marks}
use Rattle.guard_check.specs.Marks.{values_in, marks_in}
use Rattle.guard_check.proofs.guard.definitions_scope.Given as goal

abbrev pub invariant-loop-def : goal.invariant-loop-def
invariant-loop-def l = record {
  values : values_in l.scope ≡ under l.def-index (values l.ctx);
  marks : definition_marks (rargs_of (drop l.def-index l.defs)) (marks_in l.scope) ≡ definition_marks (rargs_of l.defs) [];
}
