-- What comes after the check of an environment in `eval`: its run is one, and the statuses of the run's refusals.
use Rattle.std.proofs.Common.{◌≡◌, ℕ, List, [], length, Option, Some, None, ◌⊎◌, inl, inr, false, sym, ap, subst, ◌∙◌}
use Rattle.universe_levels.specs.declared.level.Level.{Level}
use Rattle.pc_terms.specs.Syntax.{Term}
use Rattle.pc_rules.specs.declared.meter.Account.{Account}
use Rattle.calculus_rules.specs.Environment.{Env}
use Rattle.calculus_rules.specs.Accepted.{IsAccepted}
use Rattle.pc_rules.specs.DirectedRun.{Run, End, most_nested}
use Rattle.pc_rules.specs.DirectedDeclarations.{Checked, Outcome, Gives, Accepts, first_repeated, first_undeclared_end, declarations_rule, graph_rule, constraints_rule, levels_rule}
use Rattle.dump_reader.specs.declared.environment.RawEnv.{RawEnv}
use Rattle.pc_rules.specs.Entailment.{entailed_by}
use Rattle.env_check.specs.Rules.{rules_of, givens}
use Rattle.driver.specs.declared.refusal.Refusal.{Refusal}
use Rattle.driver.specs.declared.refusal.Refusal.TheVariants as refusals
use Rattle.driver.specs.Lines.{status_of}
use Rattle.driver.specs.Judged.{start, IsAcceptedBy, EndsWith}
use Rattle.driver.specs.SourceEnds.{Ended, source_rule, IsAcceptedWith, IsSourceRun, IsStuck, ShowsEnd, IsSourceCause, source_status, SourceEndsWith, EvalEndsWith}
use Rattle.driver.specs.Evaluable.{IsEvaluable}
use Rattle.driver.specs.Serve.{IsCheckCause, IsSure}
use Rattle.driver.proofs.Evaluable.{evaluable_ends}
use Rattle.driver.proofs.CheckCauses.{deep_or_not, cause_status, not_zero, accepted_status}

-- the rules accept with no cycle alone
no_cycle_accepts : (o p : Option (ℕ × Level)) (q : List ℕ) (go : Checked) (u w : Account) (E : Env) (T : Term) →
    (levels_rule o (constraints_rule p (graph_rule (Some q) go u) u) u).outcome ≡ Accepts E T w → ⊥
no_cycle_accepts None None q go u w E T e = absurd cc
no_cycle_accepts None (Some p) q go u w E T e = absurd cc
no_cycle_accepts (Some o) p q go u w E T e = absurd cc

accepts_plainly : (turns : ℕ) → (e : RawEnv) (c : Option (List ℕ)) (E : Env) (T : Term) (u : Account) → (rules_of e c most_nested (start turns)).outcome ≡ Accepts E T u →
    (rules_of e None most_nested (start turns)).outcome ≡ Accepts E T u
accepts_plainly turns e None E T u h = h
accepts_plainly turns e (Some q) E T u h =
    absurd (no_cycle_accepts (first_repeated 0 [] e.levels) (first_undeclared_end (length e.levels) 0 e.constraints) q
    (declarations_rule (length e.levels) e.constraints (entailed_by (length e.levels) e.constraints) most_nested 0 [] (givens e) e.main (start turns)) (start turns) u E T h)

pub plainly : (turns : ℕ) → (e : RawEnv) (E : Env) (T : Term) (u : Account) → IsAcceptedWith turns e E T u → (rules_of e None most_nested (start turns)).outcome ≡ Accepts E T u
plainly turns e E T u a = accepts_plainly turns e a.judged.cycle E T u (ap (λ d. d.outcome) (sym a.judged.is) ∙ a.accepts)

abbrev accepted_in : Outcome (Env × Term) → Env × Term → Env × Term
accepted_in (Gives p u) q = p
accepted_in o q = q

pub accepts_inj : (E F : Env) (T U : Term) (u v : Account) → Accepts E T u ≡ Accepts F U v → (E ≡ F) × (T ≡ U) × (u ≡ v)
accepts_inj E F T U u v e = (ap (λ o. (accepted_in o (E, T)).0) e, ap (λ o. (accepted_in o (E, T)).1) e, cc)

pub same_run : (turns : ℕ) → (e : RawEnv) (r s : Run Ended) → IsSourceRun turns e r → IsSourceRun turns e s → r ≡ s
same_run turns e r s h k =
    let q = accepts_inj h.kept k.kept h.type k.type h.left k.left (sym (plainly turns e h.kept h.type h.left h.accepted) ∙ plainly turns e k.kept k.type k.left k.accepted) in
    h.is ∙ (λ i. source_rule (q.0 i) e.main (q.1 i) (q.2 i)) ∙ sym k.is

-- an environment that the rules accept
pub accepted_by : (turns : ℕ) → (e : RawEnv) (E : Env) (T : Term) (u : Account) → IsAcceptedWith turns e E T u → IsAcceptedBy turns e
accepted_by turns e E T u a = record { rules = a.rules; judged = a.judged; kept = E; type = T; left = u; accepts = a.accepts }

run_status : (turns : ℕ) → (e : RawEnv) (r : Run Ended) (status : ℕ) → IsSourceRun turns e r → EndsWith turns e status → status ≡ 0
run_status turns e r status h k = accepted_status turns e status (accepted_by turns e h.kept h.type h.left h.accepted) k

stuck_status : (x : End Ended) (w : Account) → IsStuck x w → source_status x ≡ 15
stuck_status x w (inl (t, e)) = ap source_status e
stuck_status x w (inr (k, e)) = ap source_status e

pub end_status : (r : Refusal) (run : Run Ended) (w : Account) → ShowsEnd r run w → run.deep ≡ false → source_status run.end ≡ status_of r
end_status refusals.TurnsSpent run w h d = ap source_status h
end_status refusals.Depth run w h d = absurd (deep_or_not run.deep h d)
end_status refusals.NotFirstOrder run w h d = ap source_status h.1
end_status refusals.Types run w h d = ap source_status h
end_status refusals.Stuck run w h d = stuck_status run.end w h
end_status refusals.AnswerNodes run w h d = ap source_status h
end_status _ run w h d = absurd h

source_cause_status : (turns : ℕ) → (r : Refusal) (e : RawEnv) (status : ℕ) → IsSourceCause turns r e → SourceEndsWith turns e status → status ≡ status_of r
source_cause_status turns r e status c h =
    let same = same_run turns e h.run c.run h.of c.of in
    h.status_is ∙ ap (λ x. source_status x.end) same ∙ end_status r c.run c.left c.shows (ap (λ x. x.deep) (sym same) ∙ h.within)

pub eval_status : (turns : ℕ) → (r : Refusal) (e : RawEnv) (status : ℕ) → IsCheckCause turns r e ⊎ IsSourceCause turns r e → (IsSure r → ⊥) → EvalEndsWith turns e status → status ≡ status_of r
eval_status turns r e status (inl c) n (inl h) = cause_status turns r e status c n h.0
eval_status turns r e status (inl c) n (inr h) = absurd (not_zero r (sym (cause_status turns r e 0 c n h.check)))
eval_status turns r e status (inr c) n (inl h) = absurd (h.1 (run_status turns e c.run status c.of h.0))
eval_status turns r e status (inr c) n (inr h) = source_cause_status turns r e status c h

-- where `eval` has an answer, by the relation of evaluation, no refusal of it has a cause

evaluable_source : (turns : ℕ) (r : Refusal) (e : RawEnv) → IsEvaluable turns e → IsSourceCause turns r e → 0 ≡ status_of r
evaluable_source turns r e h c =
    let same = accepts_inj c.of.kept h.kept c.of.type h.type c.of.left h.left
    (sym (plainly turns e c.of.kept c.of.type c.of.left c.of.accepted) ∙ plainly turns e h.kept h.type h.left h.accepted) in
    source_cause_status turns r e 0 c (evaluable_ends turns e h (subst IsAccepted same.0 c.well.formed.accepted))

pub evaluable_status : (turns : ℕ) (r : Refusal) (e : RawEnv) → IsEvaluable turns e → IsCheckCause turns r e ⊎ IsSourceCause turns r e → (IsSure r → ⊥) → 0 ≡ status_of r
evaluable_status turns r e h (inl c) n = cause_status turns r e 0 c n h.check
evaluable_status turns r e h (inr c) n = evaluable_source turns r e h c
