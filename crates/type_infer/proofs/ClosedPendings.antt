-- A closed codomain takes no argument, so none is kept for it.
use Rattle.std.proofs.Common.{◌≡◌, ◌∙◌, ap, sym, List, arith}
use Rattle.trees.specs.Measures.{loose}
use Rattle.trees.proofs.Closed.{subst-closed, subst_list-closed}
use Rattle.trees.proofs.Cutoffs.{subst-substitute}
use Rattle.pc_terms.specs.Syntax.{Term, subst_list, put, substitute}

pub pending_closed : (xs : List Term) (a t : Term) → loose t ≡ 0 → subst_list 0 xs t ≡ substitute (put a) (subst_list 1 xs t)
pending_closed xs a t h =
    subst_list-closed 0 xs t (omega (arith, h)) ∙ sym (subst-closed 0 a t (omega (arith, h))) ∙ subst-substitute a 0 t
    ∙ ap (λ x. substitute (put a) x) (sym (subst_list-closed 1 xs t (omega (arith, h))))
