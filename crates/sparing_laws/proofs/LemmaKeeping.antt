-- An evaluation over lemmas of a typed closed term keeps its types, and lies in equality; and each evaluation is one.
use Rattle.std.proofs.Common.{ℕ, ◌≤◌, [], refl, arith}
use Rattle.pc_terms.specs.Syntax.{Term, Lambda}
use Rattle.calculus_rules.specs.Environment.{Env}
use Rattle.calculus_rules.specs.Conversion.{step, same, chain, inside, end, and}
use Rattle.calculus_rules.specs.Step.{Root, zeta, matched}
use Rattle.calculus_rules.specs.Evaluation as plain
use Rattle.calculus_rules.specs.Evaluation.{Evaluates}
use Rattle.calculus_rules.specs.Accepted.{IsAccepted}
use Rattle.calculus_rules.specs.Lawful.{IsLawful}
use Rattle.typing_laws.proofs.Generating.{of_let_in}
use Rattle.type_laws.specs.Contexts.{IsContext}
use Rattle.type_laws.proofs.RootsKeep.{constant_keeps}
use Rattle.type_laws.proofs.EvaluationKeeps.{AllKept, let_contracts, application_kept, beta_contracts, unfold_contracts, match_kept, enter_contracts, contracted, unfolding_equal}
use Rattle.type_laws.proofs.Lawful.{evaluations_are_lawful}
use Rattle.sparing_laws.specs.LemmaEvaluation.{EvaluatesOverLemmas, value, lemma_is, let_in, beta, extend, lemma_takes, unfold_fix, enter}
use Rattle.sparing_laws.specs.LemmaLaws.{EvaluationsAreOverLemmas, OverLemmasKeepsTypes, OverLemmasIsEquality}

pub lemmas_keep : (E : Env) → IsAccepted E → {t v : Term} {n : ℕ} → EvaluatesOverLemmas E t v n → AllKept E t v
lemmas_keep E h (value i) T d = record { typed = d; equals = same }
lemmas_keep E h (lemma_is i) T d = record { typed = d; equals = same }
lemmas_keep E h (EvaluatesOverLemmas.constant {k = k} {T = U} {b = b} q e) T d =
    contracted (λ W p. constant_keeps E h [] k U b W IsContext.empty q p) (λ W p. step (Root.constant q)) (lemmas_keep E h e) T d
lemmas_keep E h (let_in {b = b} {B = B} {t = t} {v = v} e e') T d =
    contracted (let_contracts E h b B t v (lemmas_keep E h e))
    (λ W p. chain (inside (and (lemmas_keep E h e B (of_let_in p).value).equals (and same (and same end)))) (step zeta)) (lemmas_keep E h e') T d
lemmas_keep E h (beta {f = f} {a = a} {A = A} {b = b} {v = v} e e' e'') T d =
    contracted (beta_contracts E h f a A b v (lemmas_keep E h e) (lemmas_keep E h e'))
    (λ W p. chain (application_kept E h f a (Lambda A b) v (lemmas_keep E h e) (lemmas_keep E h e') W p).equals (step Root.beta)) (lemmas_keep E h e'') T d
lemmas_keep E h (extend {f = f} {a = a} {g = g} {v = v} e e' m) T d = application_kept E h f a g v (lemmas_keep E h e) (lemmas_keep E h e') T d
lemmas_keep E h (lemma_takes {f = f} {a = a} {g = g} {v = v} e e' l) T d = application_kept E h f a g v (lemmas_keep E h e) (lemmas_keep E h e') T d
lemmas_keep E h (unfold_fix {f = f} {a = a} {g = g} {v = v} {u = u} e e' n built e'') T d =
    contracted (unfold_contracts E h f a g v u (lemmas_keep E h e) (lemmas_keep E h e') n)
    (λ W p. chain (application_kept E h f a g v (lemmas_keep E h e) (lemmas_keep E h e') W p).equals (unfolding_equal n built)) (lemmas_keep E h e'') T d
lemmas_keep E h (enter {f = f} {ps = ps} {bs = bs} {p = m} {c = c} {ret = ret} {s = s} {v = v} {body = body} {qs = qs} {xs = xs} e i b e') T d =
    contracted (enter_contracts E h f ps bs m c ret s v body qs xs (lemmas_keep E h e) i b)
    (λ W p. chain (match_kept E h f ps bs m ret s v (lemmas_keep E h e) W p).equals (step (matched i b refl))) (lemmas_keep E h e') T d

pub over_lemmas_keeps_types : OverLemmasKeepsTypes
over_lemmas_keeps_types E h t v T n e d = (lemmas_keep E h e T d).typed

pub over_lemmas_is_equality : OverLemmasIsEquality
over_lemmas_is_equality E h t v T n e d = (lemmas_keep E h e T d).equals

-- an evaluation has a node at least
pub some_nodes : {E : Env} {t v : Term} {n : ℕ} → EvaluatesOverLemmas E t v n → 1 ≤ n
some_nodes (value i) = omega arith
some_nodes (lemma_is i) = omega arith
some_nodes (EvaluatesOverLemmas.constant q e) = omega arith
some_nodes (let_in e e') = omega arith
some_nodes (beta e e' e'') = omega arith
some_nodes (extend e e' m) = omega arith
some_nodes (lemma_takes e e' l) = omega arith
some_nodes (unfold_fix e e' n b e'') = omega arith
some_nodes (enter e i b e') = omega arith

-- a lawful evaluation unfolds fixpoints at constructors
over_lemmas : {E : Env} {t v : Term} {n : ℕ} (e : Evaluates E t v n) → IsLawful e → EvaluatesOverLemmas E t v n
over_lemmas (plain.value i) h = value i
over_lemmas (plain.constant k e) h = EvaluatesOverLemmas.constant k (over_lemmas e h.1)
over_lemmas (plain.let_in e e') h = let_in (over_lemmas e h.1) (over_lemmas e' h.2)
over_lemmas (plain.beta e e' e'') h = beta (over_lemmas e h.3) (over_lemmas e' h.4) (over_lemmas e'' h.5)
over_lemmas (plain.extend e e' m) h = extend (over_lemmas e h.2) (over_lemmas e' h.3) m
over_lemmas (plain.unfold_fix e e' u e'') h = unfold_fix (over_lemmas e h.3) (over_lemmas e' h.4) u h.2 (over_lemmas e'' h.5)
over_lemmas (plain.enter e c b e') h = enter (over_lemmas e h.3) c b (over_lemmas e' h.4)

pub evaluations_are_over_lemmas : EvaluationsAreOverLemmas
evaluations_are_over_lemmas E h t v T n d e = over_lemmas e (evaluations_are_lawful E h t v T n e d)
