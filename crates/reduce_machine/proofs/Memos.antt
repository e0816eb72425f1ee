-- Terms that were read before.
use Rattle.std.proofs.Common.{◌≡◌, ℕ, List, Option, Some, sym, ap, ◌∙◌, subst as along}
use Rattle.std.specs.declared.alloc.Global.{Global}
use Rattle.std.specs.declared.rc.Rc.{Rc}
use Rattle.trees.specs.Substitution.{walk}
use Rattle.pc_terms.specs.Syntax.{Term, Rel, apply, args}
use Rattle.calculus_rules.proofs.Spines.{args-apply}
use Rattle.pc_terms.specs.Counted.{number_of}
use Rattle.pc_terms.proofs.Numbered.{number_of-inj}
use Rattle.reduce_machine.specs.Cells.{bound_of, IsRanked}
use Rattle.reduce_machine.specs.declared.bindings.Cell.{Cell}
use Rattle.reduce_machine.specs.Memos.{number_of_list}
use Rattle.reduce_machine.specs.Reads.{stands_under, read}
use Rattle.reduce_machine.specs.declared.bindings.Lazy.{Lazy}
use Rattle.reduce_machine.proofs.Standing.{walk_read}

-- a term that is in the place for what an item is
pub memo_read : (l : Lazy) (n : ℕ) (t : Term) → number_of t ≡ n → n ≡ number_of (read l) → t ≡ walk (stands_under l.env.items) 0 l.term
memo_read l n t p q = number_of-inj t (read l) (p ∙ q) ∙ sym (walk_read l.env.items l.term)

-- a term that may be put there
pub memo_number : (l : Lazy) (n : ℕ) (t : Term) → n ≡ number_of (read l) → t ≡ walk (stands_under l.env.items) 0 l.term → n ≡ number_of t
memo_number l n t q e = q ∙ ap number_of (sym (e ∙ walk_read l.env.items l.term))

-- lists that have one number
pub list_number : (ts us : List Term) → number_of_list ts ≡ number_of_list us → ts ≡ us
list_number ts us e =
    sym (args-apply (Rel 0) ts) ∙ ap args (number_of-inj (apply (Rel 0) ts) (apply (Rel 0) us) e) ∙ args-apply (Rel 0) us

-- cells with one stamp
pub cells_same : (a b : Option (Rc Cell Global)) (c d : Rc Cell Global) → a ≡ Some c → b ≡ Some d → IsRanked a → IsRanked b → c.value.stamp ≡ d.value.stamp →
    (bound_of a).items ≡ (bound_of b).items
cells_same a b c d p q r s e =
    let x : IsRanked (Some c) = along (λ o. IsRanked o) p r in
    let y : IsRanked (Some d) = along (λ o. IsRanked o) q s in
    ap (λ o. (bound_of o).items) p ∙ list_number (bound_of (Some c)).items (bound_of (Some d)).items (sym x.4 ∙ e ∙ y.4) ∙ sym (ap (λ o. (bound_of o).items) q)

pub ruleset memo_laws = (memo_read, memo_number)
