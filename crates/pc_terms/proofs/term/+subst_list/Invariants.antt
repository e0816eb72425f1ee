use Rattle.std.proofs.Common.{◌≡◌, length, map, take}
use Rattle.trees.specs.Substitution.{walk, subst_list_var}
use Rattle.pc_terms.specs.Lists.{walk_branch, walk_def}
use Rattle.pc_terms.specs.Copies.{AreCopies}
use Rattle.pc_terms.proofs.term.+subst_list.Given as goal

abbrev pub invariant-Terms::subst_list_above-loop-t : goal.invariant-Terms::subst_list_above-loop-t
invariant-Terms::subst_list_above-loop-t l = record {
  made : l.items.items ≡ map (walk (subst_list_var l.xs) l.k) (take l.t-index l.t-items);
  copies : AreCopies (subst_list_var l.xs) l.copies.items.items;
}

abbrev pub invariant-Branches::subst_list_above-loop-b : goal.invariant-Branches::subst_list_above-loop-b
invariant-Branches::subst_list_above-loop-b l = record {
  made : l.items.items ≡ map (walk_branch (subst_list_var l.xs) l.k) (take l.b-index l.b-items);
  copies : AreCopies (subst_list_var l.xs) l.copies.items.items;
}

abbrev pub invariant-Defs::subst_list_above-loop-d : goal.invariant-Defs::subst_list_above-loop-d
invariant-Defs::subst_list_above-loop-d l = record {
  made : l.items.items ≡ map (walk_def (subst_list_var l.xs) l.k (length l.d-items)) (take l.d-index l.d-items);
  copies : AreCopies (subst_list_var l.xs) l.copies.items.items;
}
