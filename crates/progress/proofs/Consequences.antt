-- What progress tells: main progresses; what is stuck is an axiom, and without axioms nothing is; a term of a family gives a constructor; and a value of first-order type is data.
use Rattle.std.proofs.Common.{◌≡◌, List, sym, ap}
use Rattle.pc_terms.specs.declared.leaf.Name.{Name}
use Rattle.pc_terms.specs.declared.leaf.FamilyId.{FamilyId}
use Rattle.pc_terms.specs.Syntax.{Term, Const, Ind, apply}
use Rattle.pc_rules.specs.declared.meter.Account.{Account}
use Rattle.calculus_rules.specs.Environment.{Env}
use Rattle.calculus_rules.specs.Accepted.{IsAccepted}
use Rattle.calculus_rules.specs.Conversion.{equal}
use Rattle.pc_rules.specs.DirectedRun.{End, Done}
use Rattle.pc_rules.specs.DirectedEvaluation.{Evaluated, Stuck, evaluation}
use Rattle.calculus_rules.proofs.Bare.{bare_types}
use Rattle.calculus_rules.proofs.WeakHead.{weak_equal}
use Rattle.pc_rules.proofs.EvaluationRuns.{evaluate_sound}
use Rattle.type_laws.proofs.Results.{result}
use Rattle.type_laws.proofs.Canonical.{values_are_constructors}
use Rattle.type_laws.proofs.EvaluationKeeps.{evaluation_keeps}
use Rattle.type_laws.proofs.FirstOrderValues.{result_read}
use Rattle.progress.specs.Ends.{IsAxiom, HasNoAxioms, Progresses, gives, spends, meets, Builds, builds, spends_all}
use Rattle.progress.specs.Laws.{MainProgresses, StuckAtAxioms, NothingIsStuck, FamiliesAreBuilt, FirstOrderValuesAreData}
use Rattle.progress.proofs.Progress.{evaluation_progresses}

pub main_progresses : MainProgresses
main_progresses listed E main T w u = evaluation_progresses E w.accepted main T (bare_types w.typed) u

stuck_is : {E : Env} {t T w : Term} {x : Account} (e : End Evaluated) → Progresses E t T e → e ≡ Done (Stuck w) x → (k : Name) × (w ≡ Const k) × IsAxiom E k
stuck_is e (gives ev d) q = absurd (cc)
stuck_is e spends q = absurd (cc)
stuck_is {w = w} e (meets {k = k} a) q = (k, sym (ap (term_in w) q), a)
  where
    term_in : Term → End Evaluated → Term
    term_in o (Done (Stuck w) u) = w
    term_in o e = o

pub stuck_at_axioms : StuckAtAxioms
stuck_at_axioms E h t T w u x d e = stuck_is (evaluation E t u).end (evaluation_progresses E h t T d u) e

pub nothing_is_stuck : NothingIsStuck
nothing_is_stuck E h n t T w u x d e = let (k, _, a) = stuck_at_axioms E h t T w u x d e in n k a

builds_it : (E : Env) → IsAccepted E → HasNoAxioms E → (f : FamilyId) (is : List Term) {t : Term} {e : End Evaluated} → Progresses E t (apply (Ind f) is) e → Builds E f e
builds_it E h n f is {t} (gives {v = v} {n = m} ev d) = let (c, qs, xs, i) = values_are_constructors E h f is t v m ev d in builds i
builds_it E h n f is spends = spends_all
builds_it E h n f is (meets {k = k} a) = absurd (n k a)

pub families_are_built : FamiliesAreBuilt
families_are_built E h n f is t d u = builds_it E h n f is (evaluation_progresses E h t (apply (Ind f) is) d u)

pub first_order_values_are_data : FirstOrderValuesAreData
first_order_values_are_data E h t v T S u x d f e =
    let (n, ev, _) = evaluate_sound E u.left t v u x e in
    let (k, at, steps) = f.first in
    let r = result_read E h S f.members (result ev) 0 k T at (evaluation_keeps E h ev T d).typed (equal (weak_equal steps)) in
    (r.answer, r.reading)
