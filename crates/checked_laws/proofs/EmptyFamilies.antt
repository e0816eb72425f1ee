-- The evaluation of a term of a family without constructors progresses, and gives no value.
use Rattle.std.proofs.Common.{◌≡◌, ◌⊎◌, List, [], inl, inr, refl}
use Rattle.pc_terms.specs.declared.leaf.Name.{Name}
use Rattle.pc_terms.specs.declared.leaf.FamilyId.{FamilyId}
use Rattle.pc_terms.specs.Syntax.{Term, Const, Ind, apply}
use Rattle.pc_rules.specs.declared.meter.Account.{Account}
use Rattle.calculus_rules.specs.Environment.{Env}
use Rattle.calculus_rules.specs.Typing.{bare, Types}
use Rattle.calculus_rules.specs.Accepted.{IsAccepted}
use Rattle.pc_rules.specs.DirectedRun.{End, Done, NoUnit}
use Rattle.pc_rules.specs.DirectedEvaluation.{Evaluated, Stuck, evaluation}
use Rattle.progress.specs.Ends.{IsAxiom, Progresses, gives, spends, meets}
use Rattle.progress.proofs.Progress.{evaluation_progresses}
use Rattle.metatheory.specs.EmptyFamilies.{IsEmptyFamily}
use Rattle.metatheory.proofs.EmptyFamilies.{empty_families_have_no_values}
use Rattle.checked_laws.specs.EmptyFamilies.{SpendsOrMeets, EmptyFamiliesEndAtAxioms, EmptyFamiliesNeverEnd}

ends : {E : Env} → IsAccepted E → {f : FamilyId} → IsEmptyFamily E f → {t : Term} (xs : List Term) {e : End Evaluated} → Types bare E [] t (apply (Ind f) xs) → Progresses E t (apply (Ind f) xs) e →
    (e ≡ NoUnit) ⊎ ((k : Name) × (w : Account) × (e ≡ Done (Stuck (Const k)) w) × IsAxiom E k)
ends {E} h {f} empty {t} xs d (gives {v = v} {n = n} ev p) = absurd (empty_families_have_no_values E h f empty t (xs, d) v n ev)
ends h empty xs d spends = inl refl
ends h empty xs d (meets {k = k} {u = u} a) = inr (k, u, refl, a)

pub empty_families_end_at_axioms : EmptyFamiliesEndAtAxioms
empty_families_end_at_axioms E h f empty t (xs, d) u = ends h empty xs d (evaluation_progresses E h t (apply (Ind f) xs) d u)

pub empty_families_never_end : EmptyFamiliesNeverEnd
empty_families_never_end E h none f empty t o u = only (empty_families_end_at_axioms E h f empty t o u)
  where
    only : SpendsOrMeets E t u → (evaluation E t u).end ≡ NoUnit
    only (inl e) = e
    only (inr (k, w, e, a)) = absurd (none k a)
