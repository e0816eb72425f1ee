-- Completeness: where main has a module for calls and the arguments are whole, the status is 0, or 1, or the run shows it.
use Rattle.std.proofs.Common.{ℕ, List, Err, sym, subst}
use Rattle.dump_reader.specs.Front.{front_bytes}
use Rattle.dump_reader.specs.declared.environment.RawEnv.{RawEnv}
use Rattle.module_run.specs.declared.refusal.RunRefusal.TheVariants as running
use Rattle.module_run.specs.CallEnds.{start_with}
use Rattle.module_run.specs.Ends.{IsLargeFrom, IsSmall}
use Rattle.command_line.specs.declared.line.Request.{Request}
use Rattle.command_line.specs.Line.{IsInRange}
use Rattle.driver.specs.CallEnds.{ReadingArguments}
use Rattle.driver.specs.CallFinishes.{CanBeCalled, CallFinishes as StatusIsShown}
use Rattle.driver.specs.CallStages.{CallCompiling, its_call_module}
use Rattle.driver.specs.Promises.{CanRun, RunFinishes}
use Rattle.driver.specs.Serve.{IsAskedOnText, environment_text}
use Rattle.driver.specs.Texts.{SpellsWithin}
use Rattle.driver.proofs.CallCauses.{one_call_module}
use Rattle.driver.proofs.Sizes.{has_call_module}
use Rattle.driver.proofs.TextCauses.{is_spelled}
use Rattle.call_laws.specs.CallValues.{IsCallable}
use Rattle.call_laws.specs.Laws.{CallsFinish}
use Rattle.call_laws.proofs.CallStatuses.{ends_on_them, reading_of_them}
use Rattle.call_laws.proofs.Serving.{data_answered, range}

-- an answer of too many nodes, by whichever stages it comes, is one of a run with the arguments that are spelled
module _ (q : Request) (in_range : IsInRange q) (bytes : List ℕ) (e : RawEnv) (s : SpellsWithin (front_bytes bytes) e) (c : IsCallable q e bytes) where
  on_them : (y : ReadingArguments q.turns e bytes) (x : CallCompiling q.turns e) → IsLargeFrom (start_with (its_call_module q.pages x) q.pages y.arguments) (its_call_module q.pages x) q.pages q.steps →
      IsLargeFrom (start_with (its_call_module q.pages x) q.pages c.given.arguments) (its_call_module q.pages x) q.pages q.steps
  on_them y x large =
      let m = has_call_module q.turns e q.pages (is_spelled (front_bytes bytes) e s) c.compiled in
      (ends_on_them q in_range bytes e s c.given x y (Err running.AnswerNodes) (subst IsSmall (one_call_module q.turns e q.pages m.stages x) m.small, large)).1

pub calls_finish : {S K E : Type 0} → CallsFinish S K E
calls_finish status words reports src src' out out' err err' s q e bytes asks c calm =
    let r = range q e bytes words src.told asks in
    let d : IsAskedOnText q e words src.told = record { bytes = bytes; asked = asks.asked; short = asks.short; spelled = subst (λ j. SpellsWithin (environment_text j bytes) e) (sym asks.job) asks.spelled } in
    let can : CanBeCalled q.turns e bytes q.pages = record { compiled = c.compiled; reading = reading_of_them q r bytes e asks.spelled c.given } in
    let f : StatusIsShown q.turns e bytes q.pages q.steps status = subst (λ j. RunFinishes j q e bytes status) asks.job (s.finishes q e d (subst (λ j. CanRun j q e bytes) (sym asks.job) can) calm) in
    record {
      among = f.among;
      many = λ is. let (y, x, large) = f.many is in (x, on_them q r bytes e asks.spelled c y x large);
      none = λ is n tree d. (data_answered status words reports src src' out out' err err' s q e bytes asks c.given n tree d).answers is;
    }
