-- Reports that are told the facts of a job, from what its stages tell them.
use Rattle.std.proofs.Common.{◌≡◌, ℕ, List, [], ◌++◌, Result, Ok, Err, refl, sym, subst}
use Rattle.std.specs.Prelude.{OnOk}
use Rattle.reports.specs.Shown.{Shown}
use Rattle.reports.proofs.FactByFact.{all_told_none, all_told_then}
use Rattle.module_run.specs.CallFacts.{AreCallFacts, CallRunIsTold}
use Rattle.module_run.specs.RunFacts.{AreRunFacts, AreTold, FileIsTold, RunIsTold}
use Rattle.pc_terms.specs.Syntax.{Term}
use Rattle.pc_rules.specs.declared.accepted.Accepted.{Accepted}
use Rattle.pc_rules.specs.declared.meter.Account.{Account}
use Rattle.calculus_rules.specs.Environment.{Env}
use Rattle.dump_reader.specs.declared.environment.RawEnv.{RawEnv}
use Rattle.command_line.specs.declared.job.Job.{Job}
use Rattle.command_line.specs.declared.job.Job.TheVariants.{Call, Check, Exec, Run, Verify}
use Rattle.command_line.specs.declared.line.Request.{Request}
use Rattle.command_line.specs.Line.{IsInRange}
use Rattle.driver.specs.declared.called_main.CalledMain.{CalledMain}
use Rattle.driver.specs.declared.main_module.MainModule.{MainModule}
use Rattle.driver.specs.declared.refusal.Refusal.{Refusal}
use Rattle.driver.specs.CheckFacts.{facts_of_check}
use Rattle.driver.specs.CalledMain.{IsCalledMain}
use Rattle.driver.specs.JobFacts.{AreJobFacts, CheckIsTold, FrontIsTold, JobIsTold}
use Rattle.driver.specs.MainModule.{IsMainModule}
use Rattle.driver.specs.ReportedFacts.{facts_of}
use Rattle.driver.specs.Serve.{AcceptSays}
use Rattle.driver.specs.SourceEnds.{IsAcceptedWith}
use Rattle.driver.specs.Texts.{SpellsWithin}
use Rattle.driver.proofs.CallSaying.{reading}
use Rattle.module_run.proofs.CallEnding.{told_anyway}

module _ {X : Type 0} (shown : X → Shown) where
  -- where the check accepts, the facts that it noted
  pub noted : (turns : ℕ) (r : Result Accepted Refusal) (e : RawEnv) (u : Account) (old new : List X) → AcceptSays turns r e u → OnOk r (AreTold shown (facts_of (facts_of_check e u)) old new) →
      OnOk r (CheckIsTold shown turns e old new)
  noted turns (Ok a) e u old new says told = (facts_of_check e u, record { kept = a.env; type = a.main_type; left = u; accepted = says.0; facts_are = refl }, told)
  noted turns (Err r) e u old new says told = tt

  module _ (q : Request) (bytes : List ℕ) where
    -- those of the check of the environment that the bytes spell
    pub of_check : (e : RawEnv) (old new : List X) → SpellsWithin bytes e → CheckIsTold shown q.turns e old new → JobIsTold shown Check q bytes old new
    of_check e old new s (check, has, told) = (facts_of check, (check, (e, s, has), refl), told)

    pub of_account : (e : RawEnv) (E : Env) (T : Term) (u : Account) (old new : List X) → SpellsWithin bytes e → IsAcceptedWith q.turns e E T u → AreTold shown (facts_of (facts_of_check e u)) old new → JobIsTold shown Check q bytes old new
    of_account e E T u old new s accepted told = of_check e old new s (facts_of_check e u, record { kept = E; type = T; left = u; accepted = accepted; facts_are = refl }, told)

    -- and then those of the run of main's module
    pub of_run : (m : MainModule) (old mid new : List X) → IsMainModule q bytes m → JobIsTold shown Check q bytes old mid → RunIsTold shown m.module q.pages q.steps mid new → JobIsTold shown Exec q bytes old new
    of_run m old mid new made (check, checked, first) (ran, run, then) = (
      check ++ ran,
      record {
        check = check;
        checked = checked;
        ran = ran;
        run = record { environment = m.environment; spelled = made.spelled; stages = made.stages; run = subst (λ x. AreRunFacts x q.pages q.steps ran) made.module_is run };
        are = refl;
      },
      all_told_then shown check ran old mid new first then,
    )

    -- those of the run of the module that the bytes spell
    pub of_file : (old new : List X) → FileIsTold shown bytes q.pages q.steps old new → JobIsTold shown Run q bytes old new
    of_file old new (m, spelled, (facts, run, told)) = (facts, (m, spelled, run), told)

    -- those of the check of the environment in front of the arguments, and then those of the run of main's module with the arguments stored
    pub of_call : IsInRange q → (m : CalledMain) (old mid new : List X) → IsCalledMain q bytes m → FrontIsTold shown q.turns bytes old mid → CallRunIsTold shown m.module q.pages q.steps m.arguments.items mid new → JobIsTold shown Call q bytes old new
    of_call range m old mid new made (check, checked, first) (ran, run, then) = (
      check ++ ran,
      record {
        check = check;
        checked = checked;
        environment = m.environment;
        spelled = made.spelled;
        reading = reading q range bytes m made;
        stages = made.stages;
        ran = ran;
        run = subst (λ x. AreCallFacts x q.pages q.steps m.arguments.items ran) made.module_is run;
        are = refl;
      },
      all_told_then shown check ran old mid new first then,
    )

    -- by `verify` there are none
    pub of_verify : (job : Job) → job ≡ Verify → {V E : Type 0} (r : Result V E) (reports : List X) → OnOk r (JobIsTold shown job q bytes reports reports)
    of_verify job is r reports = told_anyway r ([], subst (λ j. AreJobFacts j q bytes []) (sym is) refl, all_told_none shown reports)
