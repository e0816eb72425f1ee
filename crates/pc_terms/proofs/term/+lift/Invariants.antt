use Rattle.std.proofs.Common.{◌≡◌, length, map, take}
use Rattle.trees.specs.Substitution.{walk, lift_var}
use Rattle.pc_terms.specs.Lists.{walk_branch, walk_def}
use Rattle.pc_terms.specs.Copies.{AreCopies}
use Rattle.pc_terms.proofs.term.+lift.Given as goal

abbrev pub invariant-Terms::lift_above-loop-t : goal.invariant-Terms::lift_above-loop-t
invariant-Terms::lift_above-loop-t l = record {
  made : l.items.items ≡ map (walk (lift_var l.k) l.n) (take l.t-index l.t-items);
  copies : AreCopies (lift_var l.k) l.copies.items.items;
}

abbrev pub invariant-Branches::lift_above-loop-b : goal.invariant-Branches::lift_above-loop-b
invariant-Branches::lift_above-loop-b l = record {
  made : l.items.items ≡ map (walk_branch (lift_var l.k) l.n) (take l.b-index l.b-items);
  copies : AreCopies (lift_var l.k) l.copies.items.items;
}

abbrev pub invariant-Defs::lift_above-loop-d : goal.invariant-Defs::lift_above-loop-d
invariant-Defs::lift_above-loop-d l = record {
  made : l.items.items ≡ map (walk_def (lift_var l.k) l.n (length l.d-items)) (take l.d-index l.d-items);
  copies : AreCopies (lift_var l.k) l.copies.items.items;
}
