-- What a job accepts and erases within its units, as the laws of crate `headline` take it.
use Rattle.std.proofs.Common.{ℕ, sym, ap, ◌∙◌}
use Rattle.pc_terms.specs.Syntax.{Term}
use Rattle.pc_rules.specs.declared.meter.Account.{Account}
use Rattle.calculus_rules.specs.Environment.{Env}
use Rattle.pc_rules.specs.DirectedRun.{most_nested}
use Rattle.headline.specs.AcceptedProgram.{IsAcceptedAs, IsErasedTo}
use Rattle.dump_reader.specs.declared.environment.RawEnv.{RawEnv}
use Rattle.dump_reader.specs.Spelled.{IsSpelled}
use Rattle.driver.specs.Judged.{start}
use Rattle.driver.specs.SourceEnds.{IsAcceptedWith}
use Rattle.driver.specs.CallStages.{CallErasing}
use Rattle.driver.specs.ExecEnds.{Erasing, its_environment}

pub accepted_as : (turns : ℕ) (e : RawEnv) → IsSpelled e → (E : Env) (T : Term) (u : Account) → IsAcceptedWith turns e E T u → IsAcceptedAs e E T
accepted_as turns e spelled E T u a = record {
  spelled = spelled;
  cycle = a.judged.cycle;
  found = a.judged.found;
  room = most_nested;
  before = start turns;
  after = u;
  accepts = ap (λ d. d.outcome) (sym a.judged.is) ∙ a.accepts;
}

pub erased_to : (turns : ℕ) (e : RawEnv) (x : Erasing turns e) → IsErasedTo (its_environment x) e.main x.program
erased_to turns e x = record { room = most_nested; before = x.before.left; after = x.left; gives = x.erased }

pub call_erased_to : (turns : ℕ) (e : RawEnv) (x : CallErasing turns e) → IsErasedTo x.before.before.kept e.main x.program
call_erased_to turns e x = record { room = most_nested; before = x.before.left; after = x.left; gives = x.erased }
