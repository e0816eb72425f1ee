-- Subject reduction: a step anywhere in a term keeps its types.
use Rattle.std.specs.Prelude.{[], ◌∷◌, ◌++◌}
use Rattle.std.proofs.Common.{refl, sym, ◌∙◌}
use Rattle.pc_terms.specs.Syntax.{Term, Terms, Child, Group, End, SortOf, ProdOf, LambdaOf, LetInOf, AppOf, ConstOf, IndOf, ConstructOf, CaseOf, FixOf, App, Fix}
use Rattle.calculus_rules.specs.Environment.{Env}
use Rattle.calculus_rules.specs.Context.{Context, Values, values}
use Rattle.calculus_rules.specs.Instances.{unfolded}
use Rattle.calculus_rules.specs.Step.{Root, beta, zeta, constant, variable, matched, fixpoint, Step, root, inside, let_body, in_child, in_group, past_child, past_group, StepTerms, in_first, in_rest}
use Rattle.calculus_rules.specs.Typing.{bare, Types}
use Rattle.calculus_rules.specs.Accepted.{IsAccepted}
use Rattle.type_laws.specs.Contexts.{IsContext, Reduces, none, more}
use Rattle.type_laws.specs.Laws.{ReductionKeepsTypes}
use Rattle.typing_laws.proofs.Traversal.{types_at}
use Rattle.equality_laws.proofs.Spines.{apply-append}
use Rattle.type_laws.proofs.RootsKeep.{beta_keeps, zeta_keeps, constant_keeps, variable_keeps}
use Rattle.type_laws.proofs.MatchesKeep.{matched_keeps}
use Rattle.type_laws.proofs.FixpointsKeep.{unfolded_typed, head_replaced}
use Rattle.type_laws.proofs.Kept.{Keeps, KeptTerms, kept_first, kept_rest, covers_all, covers_same, covers_given, root_covered, equal_covered, product_domain, product_codomain, lambda_domain, lambda_body, let_value, let_type, let_inner, app_function, app_argument}
use Rattle.type_laws.proofs.StepsInMatches.{case_parameters, case_predicate, case_scrutinee, case_branches}
use Rattle.type_laws.proofs.StepsInFixpoints.{fix_types, fix_bodies}

pub root_keeps : (E : Env) → IsAccepted E → (c : Context) (t u T : Term) → IsContext E c → Root E (values c) t u → Types bare E c t T → Types bare E c u T
root_keeps E h c t u T k (beta {A = A} {b = b} {a = a}) d = beta_keeps E h c A b a T k d
root_keeps E h c t u T k (zeta {b = b} {B = B} {t = r}) d = zeta_keeps E h c b B r T k d
root_keeps E h c t u T k (constant {k = n} {T = U} {b = b} q) d = constant_keeps E h c n U b T k q d
root_keeps E h c t u T k (variable {i = i} {v = v} e) d = variable_keeps E h c i v T k e d
root_keeps E h c t u T k (matched {f = f} {ps = ps} {bs = bs} {n = n} {c = m} {m = i} {ret = ret} {s = s} {body = body} {qs = qs} {xs = xs} q e l) d =
    matched_keeps E h c f m n i ps bs qs xs ret s body T k q e l d
root_keeps E h c t u T k (fixpoint i rargs types bodies {body = body} {g = g} {a = a} before r l q e p) d =
    let f : Term = Fix i rargs types bodies in
    let g : Term = unfolded rargs types bodies body in
    types_at (apply-append g before (a ∷ [])) refl
    (head_replaced E h c f g (before ++ (a ∷ [])) T (λ U. unfolded_typed E h c i rargs types bodies body U k e)
    (types_at ((λ i. App (p i) a) ∙ sym (apply-append f before (a ∷ []))) refl d))

-- by induction on the step
mutual
  keeps : {E : Env} → IsAccepted E → {V : Values} {t u : Term} → Step E V t u → Keeps E V t u
  keeps {E} h {t = t} {u = u} (root r) c w k = λ T d. root_keeps E h c t u T k (root_covered w r) d
  keeps h (inside {l = ProdOf} {ts = Child A (Child B End)} (in_child p)) c w k = product_domain h k (equal_covered w p) (keeps h p c w k)
  keeps h (inside {l = ProdOf} {ts = Child A (Child B End)} (past_child (in_child p))) c w k = product_codomain h k (keeps h p _ (covers_same w))
  keeps h (inside {l = LambdaOf} {ts = Child A (Child b End)} (in_child p)) c w k = lambda_domain h k (equal_covered w p) (keeps h p c w k)
  keeps h (inside {l = LambdaOf} {ts = Child A (Child b End)} (past_child (in_child p))) c w k = lambda_body h k (keeps h p _ (covers_same w))
  keeps h (inside {l = LetInOf} {ts = Child b (Child B (Child r End))} (in_child p)) c w k = let_value h k (equal_covered w p) (keeps h p c w k)
  keeps h (inside {l = LetInOf} {ts = Child b (Child B (Child r End))} (past_child (in_child p))) c w k = let_type h k (equal_covered w p) (keeps h p c w k)
  keeps h (inside {l = LetInOf} {ts = Child b (Child B (Child r End))} (past_child (past_child (in_child p)))) c w k = let_inner h k (keeps h p _ (covers_given w))
  keeps h (inside {l = AppOf} {ts = Child f (Child a End)} (in_child p)) c w k = app_function h k (keeps h p c w k)
  keeps h (inside {l = AppOf} {ts = Child f (Child a End)} (past_child (in_child p))) c w k = app_argument h k (equal_covered w p) (keeps h p c w k)
  keeps h (inside {l = CaseOf f n} {ts = Group ps (Child ret (Child s (Group bs End)))} (in_group p)) c w k = case_parameters h k w (keeps_terms h p)
  keeps h (inside {l = CaseOf f n} {ts = Group ps (Child ret (Child s (Group bs End)))} (past_group (in_child p))) c w k = case_predicate h k w p (keeps h p)
  keeps h (inside {l = CaseOf f n} {ts = Group ps (Child ret (Child s (Group bs End)))} (past_group (past_child (in_child p)))) c w k =
      case_scrutinee h k (equal_covered w p) (keeps h p c w k)
  keeps h (inside {l = CaseOf f n} {ts = Group ps (Child ret (Child s (Group bs End)))} (past_group (past_child (past_child (in_group p))))) c w k =
      case_branches h k w (keeps_terms h p)
  keeps h (inside {l = FixOf i rargs} {ts = Group types (Group bodies End)} (in_group p)) c w k = fix_types h k w (keeps_terms h p)
  keeps h (inside {l = FixOf i rargs} {ts = Group types (Group bodies End)} (past_group (in_group p))) c w k = fix_bodies h k w (keeps_terms h p)
  keeps h (inside {l = SortOf s} {ts = ts} p) c w k = elim p [ ]
  keeps h (inside {l = ProdOf} {ts = Child A (Child B End)} (past_child (past_child p))) c w k = elim p [ ]
  keeps h (inside {l = LambdaOf} {ts = Child A (Child b End)} (past_child (past_child p))) c w k = elim p [ ]
  keeps h (inside {l = LetInOf} {ts = Child b (Child B (Child r End))} (past_child (past_child (past_child p)))) c w k = elim p [ ]
  keeps h (inside {l = AppOf} {ts = Child f (Child a End)} (past_child (past_child p))) c w k = elim p [ ]
  keeps h (inside {l = ConstOf n} {ts = ts} p) c w k = elim p [ ]
  keeps h (inside {l = IndOf f} {ts = ts} p) c w k = elim p [ ]
  keeps h (inside {l = ConstructOf f n} {ts = ts} p) c w k = elim p [ ]
  keeps h (inside {l = CaseOf f n} {ts = Group ps (Child ret (Child s (Group bs End)))} (past_group (past_child (past_child (past_group p))))) c w k = elim p [ ]
  keeps h (inside {l = FixOf i rargs} {ts = Group types (Group bodies End)} (past_group (past_group p))) c w k = elim p [ ]
  keeps h (let_body p) c w k = let_inner h k (keeps h p _ (covers_same w))

  keeps_terms : {E : Env} → IsAccepted E → {V : Values} {ts us : Terms} → StepTerms E V ts us → KeptTerms E V ts us
  keeps_terms h (in_first p) = kept_first p (keeps h p)
  keeps_terms h (in_rest p) = kept_rest (keeps_terms h p)

pub reduction_keeps_types : ReductionKeepsTypes
reduction_keeps_types E h c t u T k s d = keeps h s c (covers_all (values c)) k T d

pub reduces_keeps : (E : Env) → IsAccepted E → (c : Context) (t u T : Term) → IsContext E c → Reduces E (values c) t u → Types bare E c t T → Types bare E c u T
reduces_keeps E h c t u T k none d = d
reduces_keeps E h c t u T k (more {u = w} s r) d = reduces_keeps E h c w u T k r (reduction_keeps_types E h c t w T k s d)
