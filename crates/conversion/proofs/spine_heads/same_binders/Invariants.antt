use Rattle.std.proofs.Common.{◌≡◌, drop}
use Rattle.pc_terms.specs.Formed.{binders_of}
use Rattle.pc_terms.specs.Lists.{arms_of}
use Rattle.calculus_rules.specs.Same.{same_numbers}
use Rattle.conversion.proofs.spine_heads.same_binders.Given as goal

-- the rest decides
abbrev pub invariant-loop-i : goal.invariant-loop-i
invariant-loop-i l =
    same_numbers (binders_of (arms_of l.xs)) (binders_of (arms_of l.ys)) ≡ same_numbers (binders_of (arms_of (drop l.i l.xs))) (binders_of (arms_of (drop l.i l.ys)))
