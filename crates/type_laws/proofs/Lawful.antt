-- Each evaluation of a typed closed term is lawful.
use Rattle.std.proofs.Common.{◌≡◌, ℕ, zero, suc, List, [], ◌∷◌, refl, ap, ◌∙◌}
use mathlib.Core.Path.{fun_ext}
use Rattle.pc_terms.specs.declared.leaf.FamilyId.{FamilyId}
use Rattle.pc_terms.specs.Syntax.{Term, Terms, Rel, Lambda, App, Const, Case, over, first, put_all, substitute}
use Rattle.calculus_rules.specs.Environment.{Env}
use Rattle.calculus_rules.specs.Context.{Context}
use Rattle.calculus_rules.specs.Conversion.{equal}
use Rattle.calculus_rules.specs.Instances.{entries_at}
use Rattle.calculus_rules.specs.Step.{IsConstructor}
use Rattle.calculus_rules.specs.Evaluation.{Evaluates, value, constant, let_in, beta, extend, unfold_fix, enter}
use Rattle.calculus_rules.specs.Typing.{bare, Types, TypesAll, no_terms, term}
use Rattle.calculus_rules.specs.Accepted.{IsAccepted}
use Rattle.calculus_rules.specs.Lawful.{KeepsTypes, Kept, ArgumentsFit, IsLawful}
use Rattle.calculus_rules.proofs.WeakHead.{weak_equal}
use Rattle.trees.proofs.Fusion.{substitute-rename, substitute-substitute}
use Rattle.trees.proofs.Put.{substitute_same}
use Rattle.typing_laws.proofs.Generating.{of_app, of_case, of_let_in}
use Rattle.typing_laws.proofs.Traversal.{types_at}
use Rattle.type_laws.specs.Contexts.{IsContext}
use Rattle.type_laws.specs.Laws.{EvaluationsAreLawful, WholeEvaluationsAreLawful}
use Rattle.type_laws.proofs.RootsKeep.{beta_keeps, beta_argument, constant_keeps}
use Rattle.type_laws.proofs.MatchesKeep.{matched_arguments}
use Rattle.type_laws.proofs.Results.{result}
use Rattle.type_laws.proofs.Canonical.{recursive_argument_built}
use Rattle.type_laws.proofs.Solid.{families_stay, erasable_kept, passes_on}
use Rattle.type_laws.proofs.EvaluationKeeps.{let_contracts, application_kept, beta_contracts, unfolding_keeps, unfold_contracts, match_kept, enter_contracts, evaluation_keeps}
use Rattle.type_laws.proofs.FirstOrderValues.{result_read}

-- a telescope in which terms are put in, and the terms put in later
pub entries_put : {E : Env} {c : Context} (As : List Term) {xs : List Term} (s p q : ℕ → Term) → ((i : ℕ) → substitute p (s i) ≡ q i) → TypesAll bare E c p xs (entries_at s As) →
    TypesAll bare E c q xs As
entries_put [] s p q h no_terms = no_terms
entries_put {E} {c} (A ∷ As) s p q h (term {t = x} r rs) =
    term (types_at refl (substitute-substitute A s p ∙ ap (λ q. substitute q A) (fun_ext h)) r) (entries_put As (over s) (first x p) (first x q) next rs)
  where
    next : (i : ℕ) → substitute (first x p) (over s i) ≡ first x q i
    next zero = refl
    next (suc i) = substitute-rename (s i) suc (first x p) ∙ h i

-- a node
kept : (E : Env) → IsAccepted E → {t v : Term} {n : ℕ} → Evaluates E t v n → (T : Term) → Types bare E [] t T → Kept E t v
kept E h {t} {v} e T d = record { types = types; erasable = erasable_kept E h t v T d types }
  where
    types : KeepsTypes E t v
    types U p = (evaluation_keeps E h e U p).typed

pub arguments_fit : (E : Env) → IsAccepted E → (f : FamilyId) (ps bs : Terms) (n c : ℕ) (ret v T : Term) (qs xs : List Term) → IsConstructor E f c v qs xs →
    Types bare E [] (Case f ps n ret v bs) T → ArgumentsFit E f c ps xs
arguments_fit E h f ps bs n c ret v T qs xs i d F C rs k at e =
    entries_put C.args (put_all rs Rel) Rel (put_all rs Rel) (λ i. substitute_same (put_all rs Rel i))
    (matched_arguments E h [] f F C c n rs qs xs bs ret v T IsContext.empty k at i (types_at (ap (λ ps. Case f ps n ret v bs) e) refl d))

lawful : (E : Env) → IsAccepted E → {t v : Term} {n : ℕ} (e : Evaluates E t v n) (T : Term) → Types bare E [] t T → IsLawful e
lawful E h (value i) T d = tt
lawful E h (constant {k = k} {T = U} {b = b} q e) T d =
    let c : KeepsTypes E (Const k) b = λ W p. constant_keeps E h [] k U b W IsContext.empty q p in
    (record { contractum = c; kept = kept E h (constant q e) T d }, lawful E h e T (c T d))
lawful E h (let_in {b = b} {B = B} {t = t} {v = v} e e') T d =
    let c = let_contracts E h b B t v (evaluation_keeps E h e) in
    (record { contractum = c; kept = kept E h (let_in e e') T d }, lawful E h e B (of_let_in d).value, lawful E h e' T (c T d))
lawful E h (beta {f = f} {a = a} {A = A} {b = b} {v = v} {w = w} e e' e'') T d =
    let c = beta_contracts E h f a A b v (evaluation_keeps E h e) (evaluation_keeps E h e') in
    let r = of_app d in
    let p = (application_kept E h f a (Lambda A b) v (evaluation_keeps E h e) (evaluation_keeps E h e') T d).typed in (
      record { contractum = c; kept = kept E h (beta e e' e'') T d },
      passes_on E h f (Lambda A b) v w T _ e p (λ U q. (evaluation_keeps E h e'' U (beta_keeps E h [] A b v U IsContext.empty q)).typed),
      beta_argument E h [] A b v T IsContext.empty p,
      lawful E h e _ r.function,
      lawful E h e' _ r.argument,
      lawful E h e'' T (c T d),
    )
lawful E h (extend {f = f} {a = a} {g = g} {v = v} e e' m) T d =
    let r = of_app d in
    let p = (application_kept E h f a g v (evaluation_keeps E h e) (evaluation_keeps E h e') T d).typed in
    (kept E h (extend e e' m) T d, passes_on E h f g v (App g v) T _ e p (λ U q. q), lawful E h e _ r.function, lawful E h e' _ r.argument)
lawful E h (unfold_fix {f = f} {a = a} {g = g} {v = v} {u = u} {w = w} e e' m e'') T d =
    let c = unfold_contracts E h f a g v u (evaluation_keeps E h e) (evaluation_keeps E h e') m in
    let r = of_app d in
    let p = (application_kept E h f a g v (evaluation_keeps E h e) (evaluation_keeps E h e') T d).typed in (
      record { contractum = c; kept = kept E h (unfold_fix e e' m e'') T d },
      passes_on E h f g v w T _ e p (λ U q. (evaluation_keeps E h e'' U (unfolding_keeps E h g v u m U q)).typed),
      recursive_argument_built E h g a v u T _ e' m p,
      lawful E h e _ r.function,
      lawful E h e' _ r.argument,
      lawful E h e'' T (c T d),
    )
lawful E h (enter {f = f} {ps = ps} {bs = bs} {p = m} {c = n} {ret = ret} {s = s} {v = v} {body = body} {qs = qs} {xs = xs} e i b e') T d =
    let c = enter_contracts E h f ps bs m n ret s v body qs xs (evaluation_keeps E h e) i b in
    let r = of_case d in (
      record { contractum = c; kept = kept E h (enter e i b e') T d },
      arguments_fit E h f ps bs m n ret v T qs xs i (match_kept E h f ps bs m ret s v (evaluation_keeps E h e) T d).typed,
      λ F k p. families_stay E h f F n v qs xs _ k p i (evaluation_keeps E h e _ r.scrutinee).typed,
      lawful E h e _ r.scrutinee,
      lawful E h e' T (c T d),
    )

pub evaluations_are_lawful : EvaluationsAreLawful
evaluations_are_lawful E h t v T n e d = lawful E h e T d

pub whole_evaluations_are_lawful : WholeEvaluationsAreLawful
whole_evaluations_are_lawful E h main v T n e S d f =
    let (k, at, steps) = f.first in
    let r = result_read E h S f.members (result e) 0 k T at (evaluation_keeps E h e T d).typed (equal (weak_equal steps)) in
    record { shapes = S; first_order = f; main = record { nodes = lawful E h e T d; answer = r.answer; reading = r.reading; solid = r.solid } }
