use Rattle.std.proofs.Common.{◌≡◌, IsTrue}
use Rattle.calculus_rules.specs.Context.{values}
use Rattle.pc_rules.specs.DirectedRun.{is_beyond}
use Rattle.pc_rules.specs.DirectedWeakHead.{whnf}
use Rattle.pc_rules.specs.Follows.{IsAfter}
use Rattle.pc_rules.specs.Leads.{Leads}
use Rattle.reduce_machine.specs.Reducts.{IsReady, AreReducts, AreWaiting}
use Rattle.reduce_machine.specs.Passed.{reduced}
use Rattle.reduce_machine.specs.Reads.{read}
use Rattle.reduce_machine.specs.Sought.{whole, AreSound}
use Rattle.reduce_machine.proofs.weak.value_with.Given as goal

abbrev pub invariant-steps : goal.invariant-steps
invariant-steps l = record {
  leads : Leads (reduced l.env (values l.ctx) (read l.fn.term) l.fn.m.account) (whnf l.env (values l.ctx) (whole l.machine) l.m.account);
  beyond : IsTrue (is_beyond (whole l.machine)) → IsTrue (reduced l.env (values l.ctx) (read l.fn.term) l.fn.m.account).deep;
  sound : AreSound l.machine.frames.items;
  ready : IsReady l.kept;
  reducts : AreReducts l.env (values l.ctx) l.kept.entries.items;
  waiting : AreWaiting l.env (values l.ctx) l.m.account.left l.machine.frames.items (read l.machine.focus);
  after : IsAfter l.fn.m l.m;
}

abbrev pub decreases-steps : goal.decreases-steps
decreases-steps l = l.m.account.left
