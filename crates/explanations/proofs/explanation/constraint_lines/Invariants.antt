use Rattle.std.proofs.Common.{drop}
use Rattle.explanations.specs.declared.text.Text.{Text}
use Rattle.explanations.specs.Adding.{Adds}
use Rattle.explanations.specs.Explanation.{constraint_lines}
use Rattle.explanations.proofs.explanation.constraint_lines.Given as goal

-- what answers for the rest answers for the whole
abbrev pub invariant-loop-i : goal.invariant-loop-i
invariant-loop-i l = (t : Text) → Adds l.out t (constraint_lines l.raw (drop l.i-index l.places)) → Adds l.fn.out t (constraint_lines l.raw l.places)
