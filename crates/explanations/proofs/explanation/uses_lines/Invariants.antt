use Rattle.std.proofs.Common.{◌+◌, drop}
use Rattle.explanations.specs.declared.text.Text.{Text}
use Rattle.explanations.specs.Adding.{Adds}
use Rattle.explanations.specs.Explanation.{uses_lines}
use Rattle.explanations.proofs.explanation.uses_lines.Given as goal

-- what answers for the rest answers for the whole
abbrev pub invariant-loop-rule : goal.invariant-loop-rule
invariant-loop-rule l = (t : Text) → Adds l.out t (uses_lines (l.rule + 1) (drop l.rule l.uses)) → Adds l.fn.out t (uses_lines 1 l.uses)
