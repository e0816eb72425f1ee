use Rattle.std.proofs.Common.{◌≡◌, take}
use Rattle.inductive_check.proofs.sharing.shared_terms.Given as goal

abbrev pub invariant-loop-term : goal.invariant-loop-term
invariant-loop-term l = l.out ≡ take l.term-index l.terms
