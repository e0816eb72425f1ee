-- What the job `explain` says, from its check and its texts.
use Rattle.std.proofs.Common.{◌≡◌, ℕ, ◌<◌, ◌-◌, List, [], length, ◌++◌, Result, Ok, Err, inl, inr, refl, sym, ap, subst, ◌∙◌}
use Rattle.std.specs.Prelude.{IfOk, IfErr, OnOk, codes}
use Rattle.pc_rules.specs.DirectedRun.{most_nested}
use Rattle.reports.specs.declared.fact.Fact.{Fact}
use Rattle.reports.specs.Shown.{Shown}
use Rattle.reports.proofs.FactByFact.{all_told_none}
use Rattle.module_run.specs.RunFacts.{AreTold}
use Rattle.dump_reader.specs.declared.environment.RawEnv.{RawEnv}
use Rattle.pc_rules.specs.declared.accepted.Accepted.{Accepted}
use Rattle.pc_rules.specs.declared.broken.Broken.{Broken}
use Rattle.pc_rules.specs.declared.broken.Place.{Place}
use Rattle.pc_rules.specs.declared.broken.Place.TheVariants.{Declaration}
use Rattle.pc_rules.specs.declared.meter.Meter.{Meter}
use Rattle.rule_laws.specs.Declarations.{IsCheckedEnvironment}
use Rattle.env_check.specs.declared.refusal.Refusal.{Refusal as Fault}
use Rattle.env_check.specs.declared.refusal.Refusal.TheVariants as faults
use Rattle.env_check.specs.Answers.{AnswersFound, FollowsRules}
use Rattle.env_check.specs.Places.{StandsAt, bare}
use Rattle.env_check.specs.Rules.{givens}
use Rattle.explanations.specs.Explanation.{explain_broken}
use Rattle.command_line.specs.declared.job.Job.TheVariants.{Explain}
use Rattle.command_line.specs.declared.line.Request.{Request}
use Rattle.driver.specs.declared.refusal.Where.{Where}
use Rattle.driver.specs.declared.refusal.Refusal.{Refusal}
use Rattle.driver.specs.declared.refusal.Refusal.TheVariants as refusals
use Rattle.driver.specs.declared.reporting.facts.Facts.{Facts}
use Rattle.driver.specs.CheckFacts.{facts_of_check}
use Rattle.driver.specs.JobFacts.{AreJobFacts, JobIsTold}
use Rattle.driver.specs.Lines.{line_of}
use Rattle.driver.specs.Judged.{PlaceIsTold, number_of, start}
use Rattle.driver.specs.ReportedFacts.{facts_of}
use Rattle.driver.specs.Texts.{SpellsWithin}
use Rattle.driver.specs.Explained.{IsBrokenText, IsExplanation, IsRefusalText}
use Rattle.driver.specs.ExplainSays.{ExplainIsTold, ExplainSays, FaultSays}
use Rattle.driver.specs.Serve.{IsAnswerOf, JobSays}
use Rattle.driver.proofs.Checking.{accepted_with, broken_within}
use Rattle.driver.proofs.SourceCauses.{accepted_by}

-- a text behind a line, of which another name is known
pub behind_as : {V : Type 0} (view : V → List ℕ) (x : Result V Refusal) (line text told : List ℕ) → text ≡ told → IfOk x (λ v. view v ≡ line ++ text) → IfOk x (λ v. view v ≡ line ++ told)
behind_as view (Ok v) line text told same h = h ∙ ap (λ t. line ++ t) same
behind_as view (Err r) line text told same h = tt

-- the text of a broken rule: its line with the place as it is told, and what explains it
pub broken_says : {V : Type 0} (view : V → List ℕ) (x : Result V Refusal) (e : RawEnv) (p : Place) (b : Broken) (told : Where) (n : ℕ) (text : List ℕ) → n ≡ number_of b → PlaceIsTold e p told →
    text ≡ explain_broken e p b → IfOk x (λ v. view v ≡ line_of (refusals.Broken n told) ++ text) → IfOk x (λ v. IsBrokenText e p b (view v))
broken_says view (Ok v) e p b told n text number is same h = (told, is, h ∙ (λ i. line_of (refusals.Broken (number i) told) ++ same i))
broken_says view (Err r) e p b told n text number is same h = tt

-- the place of a broken rule is one of the environment
pub broken_place : (turns : ℕ) (e : RawEnv) (p : Place) (b : Broken) → FaultSays turns e (faults.Broken p b) → (i : ℕ) → p ≡ Declaration i → i < length e.decls
broken_place turns e p b h i is = broken_within turns e 0 (start turns) h.left refl refl p b i h.answers is

explanation_of : (turns : ℕ) (e : RawEnv) (r : Fault) (text : List ℕ) → FaultSays turns e r → IsRefusalText turns e r text → IsExplanation turns e text
explanation_of turns e faults.Memory text h t = absurd t
explanation_of turns e r text h t = record { refusal = r; refused = h; text_is = t }

-- the text of a refusal explains it
pub text_says : {V : Type 0} (view : V → List ℕ) (x : Result V Refusal) (turns : ℕ) (e : RawEnv) (fault r : Fault) → fault ≡ r → FaultSays turns e fault → IfOk x (λ v. IsRefusalText turns e r (view v)) →
    IfOk x (λ v. IsExplanation turns e (view v))
text_says view (Ok v) turns e fault r same h t = explanation_of turns e r (view v) (subst (FaultSays turns e) same h) t
text_says view (Err a) turns e fault r same h t = tt

-- a refusal of a check that begins with a new meter
module _ (turns : ℕ) (e : RawEnv) (m m' : Meter) (none : m.nest ≡ 0) (fresh : m.account ≡ start turns) where
  answers_fresh : (r : Fault) → AnswersFound e (most_nested - m.nest) m.account (Err r) m'.account → AnswersFound e most_nested (start turns) (Err r) m'.account
  answers_fresh r h = subst (λ u. AnswersFound e most_nested u (Err r) m'.account) fresh (subst (λ k. AnswersFound e (most_nested - k) m.account (Err r) m'.account) none h)

  stands_fresh : (r : Fault) → StandsAt (bare e) (most_nested - m.nest) (givens e) e.main m.account r → StandsAt (bare e) most_nested (givens e) e.main (start turns) r
  stands_fresh r h = subst (λ u. StandsAt (bare e) most_nested (givens e) e.main u r) fresh (subst (λ k. StandsAt (bare e) (most_nested - k) (givens e) e.main m.account r) none h)

  pub fault_says : (r : Fault) → FollowsRules e (Err r) m m' → StandsAt (bare e) (most_nested - m.nest) (givens e) e.main m.account r → FaultSays turns e r
  fault_says faults.Memory h s = tt
  fault_says r h s = record { left = m'.account; answers = answers_fresh r h; stands = stands_fresh r s }

  -- an acceptance, with the text `ok` and reports that are told its facts
  pub acceptance_says : {V X : Type 0} (view : V → List ℕ) (shown : X → Shown) (x : Result V Refusal) (a : Accepted) (check : Facts) (old new : List X) → FollowsRules e (Ok a) m m' →
      IsCheckedEnvironment e.levels e.constraints (givens e) e.main a.env a.main_type → check ≡ facts_of_check e m'.account → AreTold shown (facts_of check) old new → IfOk x (λ v. view v ≡ codes "ok\n") →
      IfOk x (λ v. ExplainIsTold shown turns e (view v) old new)
  acceptance_says view shown (Ok v) a check old new h well are told text =
      let accepted = accepted_with turns e m.nest m.account m'.account none fresh a h in (
        facts_of check,
        inl (record {
          accepted = accepted_by turns e a.env a.main_type m'.account accepted;
          well = record { kept = a.env; type = a.main_type; checked = well };
          text_is = text;
          check = check;
          checked = record { kept = a.env; type = a.main_type; left = m'.account; accepted = accepted; facts_are = are };
          facts_are = refl;
        }),
        told,
      )
  acceptance_says view shown (Err r) a check old new h well are told text = tt

-- and a refusal, with reports that are told nothing
pub refusal_says : {V X : Type 0} (view : V → List ℕ) (shown : X → Shown) (x : Result V Refusal) (turns : ℕ) (e : RawEnv) (reports : List X) → IfOk x (λ v. IsExplanation turns e (view v)) →
    IfOk x (λ v. ExplainIsTold shown turns e (view v) reports reports)
refusal_says view shown (Ok v) turns e reports h = ([], inr (h, refl), all_told_none shown reports)
refusal_says view shown (Err r) turns e reports h = tt

-- ---- on the bytes of a dump

answer_of : (q : Request) (bytes text : List ℕ) (e : RawEnv) (facts : List Fact) → SpellsWithin bytes e → ExplainSays q.turns e text facts → IsAnswerOf Explain q bytes text
answer_of q bytes text e facts s (inl a) = inl (record { environment = e; spelled = s; accepted = a.accepted; well = a.well; text_is = a.text_is })
answer_of q bytes text e facts s (inr (x, none)) = inr (record { environment = e; spelled = s; explains = x })

job_facts : (q : Request) (bytes text : List ℕ) (e : RawEnv) (facts : List Fact) → SpellsWithin bytes e → ExplainSays q.turns e text facts → AreJobFacts Explain q bytes facts
job_facts q bytes text e facts s (inl a) = inl (a.check, (e, s, a.checked), a.facts_are)
job_facts q bytes text e facts s (inr (x, none)) = inr (text, record { environment = e; spelled = s; explains = x }, none)

module _ {V X : Type 0} (view : V → List ℕ) (shown : X → Shown) (q : Request) (bytes : List ℕ) (e : RawEnv) (old new : List X) (s : SpellsWithin bytes e) where
  pub explain_says : (x : Result V Refusal) → IfOk x (λ v. ExplainIsTold shown q.turns e (view v) old new) → IfErr x (λ r. r ≡ refusals.Memory) → JobSays Explain q view x bytes
  explain_says (Ok v) (facts, says, told) memory = answer_of q bytes (view v) e facts s says
  explain_says (Err r) h memory = subst (λ y. JobSays {V = V} Explain q view (Err y) bytes) (sym memory) tt

  pub explain_told : (x : Result V Refusal) → IfOk x (λ v. ExplainIsTold shown q.turns e (view v) old new) → OnOk x (JobIsTold shown Explain q bytes old new)
  explain_told (Ok v) (facts, says, told) = (facts, job_facts q bytes (view v) e facts s says, told)
  explain_told (Err r) h = tt
