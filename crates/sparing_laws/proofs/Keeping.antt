-- A sparing evaluation of a typed closed term keeps its types, and lies in equality.
use Rattle.std.proofs.Common.{ℕ, [], refl}
use Rattle.pc_terms.specs.Syntax.{Term, Lambda}
use Rattle.calculus_rules.specs.Environment.{Env}
use Rattle.calculus_rules.specs.Conversion.{step, same, chain, inside, end, and}
use Rattle.calculus_rules.specs.Step.{Root, zeta, matched}
use Rattle.calculus_rules.specs.Accepted.{IsAccepted}
use Rattle.typing_laws.proofs.Generating.{of_let_in}
use Rattle.type_laws.specs.Contexts.{IsContext}
use Rattle.type_laws.proofs.RootsKeep.{constant_keeps}
use Rattle.type_laws.proofs.EvaluationKeeps.{AllKept, let_contracts, application_kept, beta_contracts, unfold_contracts, match_kept, enter_contracts, contracted, unfolding_equal}
use Rattle.sparing_laws.specs.SparingEvaluation.{EvaluatesSparingly, value, let_in, beta, extend, unfold_fix, enter, HandsOn, left, evaluated}
use Rattle.sparing_laws.specs.Laws.{SparingKeepsTypes, SparingIsEquality}
use Rattle.sparing_laws.proofs.Results.{looked_at_is_built}

mutual
  pub sparing_keeps : (E : Env) → IsAccepted E → {t v : Term} {n : ℕ} → EvaluatesSparingly E t v n → AllKept E t v
  sparing_keeps E h (value i) T d = record { typed = d; equals = same }
  sparing_keeps E h (EvaluatesSparingly.constant {k = k} {T = U} {b = b} q e) T d =
      contracted (λ W p. constant_keeps E h [] k U b W IsContext.empty q p) (λ W p. step (Root.constant q)) (sparing_keeps E h e) T d
  sparing_keeps E h (let_in {b = b} {B = B} {t = t} {v = v} e e') T d =
      contracted (let_contracts E h b B t v (handed_keeps E h e))
      (λ W p. chain (inside (and (handed_keeps E h e B (of_let_in p).value).equals (and same (and same end)))) (step zeta)) (sparing_keeps E h e') T d
  sparing_keeps E h (beta {f = f} {a = a} {A = A} {b = b} {v = v} e e' e'') T d =
      contracted (beta_contracts E h f a A b v (sparing_keeps E h e) (handed_keeps E h e'))
      (λ W p. chain (application_kept E h f a (Lambda A b) v (sparing_keeps E h e) (handed_keeps E h e') W p).equals (step Root.beta)) (sparing_keeps E h e'') T d
  sparing_keeps E h (extend {f = f} {a = a} {g = g} {v = v} e e' m) T d = application_kept E h f a g v (sparing_keeps E h e) (handed_keeps E h e') T d
  sparing_keeps E h (unfold_fix {f = f} {a = a} {g = g} {v = v} {u = u} e e' n e'') T d =
      contracted (unfold_contracts E h f a g v u (sparing_keeps E h e) (sparing_keeps E h e') n)
      (λ W p.
      let q = application_kept E h f a g v (sparing_keeps E h e) (sparing_keeps E h e') W p in
      chain q.equals (unfolding_equal n (looked_at_is_built E h g a v u W _ e' n q.typed)))
      (sparing_keeps E h e'') T d
  sparing_keeps E h (enter {f = f} {ps = ps} {bs = bs} {p = m} {c = c} {ret = ret} {s = s} {v = v} {body = body} {qs = qs} {xs = xs} e i b e') T d =
      contracted (enter_contracts E h f ps bs m c ret s v body qs xs (sparing_keeps E h e) i b)
      (λ W p. chain (match_kept E h f ps bs m ret s v (sparing_keeps E h e) W p).equals (step (matched i b refl))) (sparing_keeps E h e') T d

  pub handed_keeps : (E : Env) → IsAccepted E → {t v : Term} {n : ℕ} → HandsOn E t v n → AllKept E t v
  handed_keeps E h (left e) T d = record { typed = d; equals = same }
  handed_keeps E h (evaluated e) T d = sparing_keeps E h e T d

pub sparing_keeps_types : SparingKeepsTypes
sparing_keeps_types E h t v T n e d = (sparing_keeps E h e T d).typed

pub sparing_is_equality : SparingIsEquality
sparing_is_equality E h t v T n e d = (sparing_keeps E h e T d).equals
