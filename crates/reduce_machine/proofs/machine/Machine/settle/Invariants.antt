use Rattle.std.proofs.Common.{◌≡◌, ◌≤◌, None, IfSome, length}
use Rattle.calculus_rules.specs.Context.{Values}
use Rattle.pc_rules.specs.DirectedWeakHead.{weak_next}
use Rattle.reduce_machine.specs.Layered.{plug, weights}
use Rattle.reduce_machine.specs.Layers.{layers}
use Rattle.reduce_machine.specs.Values.{term_of, IsValue}
use Rattle.reduce_machine.specs.Reducts.{IsReady, AreReducts, AreWaiting}
use Rattle.reduce_machine.specs.Reads.{read}
use Rattle.reduce_machine.specs.Sought.{whole, AreSound, IsRoot}
use Rattle.reduce_machine.proofs.machine.Machine.settle.Given as goal

abbrev pub invariant-outward : goal.invariant-outward
invariant-outward l = record {
  whole : plug (layers l.self.frames.items) (term_of l.value) ≡ whole l.fn.self;
  none : (V : Values) → weak_next l.env V (read l.fn.self.focus) ≡ None → weak_next l.env V (term_of l.value) ≡ None;
  value : IsValue l.value;
  sound : AreSound l.self.frames.items;
  weights : weights (layers l.self.frames.items) ≤ weights (layers l.fn.self.frames.items);
  root : IsRoot l.self.frames.items (term_of l.value) l.root;
  known : IfSome l.known (λ x. read x ≡ term_of l.value);
  ready : IsReady l.kept;
  left : l.kept.left ≡ l.fn.kept.left;
  waiting : (V : Values) → AreWaiting l.env V l.fn.kept.left l.fn.self.frames.items (read l.fn.self.focus) → AreWaiting l.env V l.fn.kept.left l.self.frames.items (term_of l.value);
  reducts : (V : Values) → AreReducts l.env V l.fn.kept.entries.items → AreWaiting l.env V l.fn.kept.left l.fn.self.frames.items (read l.fn.self.focus) →
      AreReducts l.env V l.kept.entries.items;
}

abbrev pub decreases-outward : goal.decreases-outward
decreases-outward l = length l.self.frames.items
