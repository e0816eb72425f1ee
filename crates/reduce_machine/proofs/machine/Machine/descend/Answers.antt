use Rattle.std.proofs.Common.{arith}
use Rattle.reduce_machine.proofs.Layering.{grown_same, grown_on}
use Rattle.reduce_machine.proofs.machine.Machine.descend.Goals as goal

pub inward-init : goal.inward-init
inward-init c = record { grown = grown_same c.args.self.now; sound = c.requires.sound; load = omega arith; waiting = λ E V h. h }

pub enter-requires : goal.enter-requires
enter-requires c = record { sound = c.inward.invariant.sound; ready = c.requires.ready }

pub inward-preserved : goal.inward-preserved
inward-preserved c = record {
  grown = grown_on c.args.self.now c.inward.self c.enter.new.self c.inward.invariant.grown c.in_ok-enter.ensures.grown;
  sound = c.in_ok-enter.ensures.sound;
  load = omega (arith, c.inward.invariant.load, c.in_ok-enter.ensures.load);
  waiting = λ E V h. c.in_ok-enter.ensures.waiting E V (c.inward.invariant.waiting E V h);
}

pub returns-in-Open-clause-grown : goal.returns-in-Open-clause-grown
returns-in-Open-clause-grown c = grown_on c.args.self.now c.inward.self c.enter.new.self c.inward.invariant.grown c.in_ok-enter.ensures.grown

pub returns-in-Open-clause-waiting : goal.returns-in-Open-clause-waiting
returns-in-Open-clause-waiting c = λ E V h. c.in_ok-enter.ensures.waiting E V (c.inward.invariant.waiting E V h)

pub returns-in-Known-clause-grown : goal.returns-in-Known-clause-grown
returns-in-Known-clause-grown c = grown_on c.args.self.now c.inward.self c.enter.new.self c.inward.invariant.grown c.in_ok-enter.ensures.grown

pub returns-in-Known-clause-waiting : goal.returns-in-Known-clause-waiting
returns-in-Known-clause-waiting c = λ E V h. c.in_ok-enter.ensures.waiting E V (c.inward.invariant.waiting E V h)

pub returns-in-Open-clause-end : goal.returns-in-Open-clause-end
returns-in-Open-clause-end c = let o = rw c.in-Open.is at c.in_ok-enter.ensures.open in o

pub returns-in-Known-clause-known : goal.returns-in-Known-clause-known
returns-in-Known-clause-known c = λ E V h. let k = rw c.in-Known.is at (c.in_ok-enter.ensures.known E V h) in k

pub inward-smaller : goal.inward-smaller
inward-smaller c = let f = rw c.in-Deeper.is at c.in_ok-enter.ensures.falls in f
