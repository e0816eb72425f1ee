use Rattle.std.proofs.Common.{◌∙◌, [], ◌∷◌, length, length-append, map, sym, ap, subst as along, arith}
use Rattle.pc_terms.specs.Syntax.{App, apply}
use Rattle.reduce_machine.specs.Reducts.{AreWaiting}
use Rattle.reduce_machine.specs.Layered.{plug}
use Rattle.reduce_machine.specs.Layers.{layers}
use Rattle.reduce_machine.specs.Reads.{read}
use Rattle.reduce_machine.proofs.Binding.{last_applied}
use Rattle.reduce_machine.proofs.machine.Machine.apply.Goals as goal

pub unfolded-requires : goal.unfolded-requires
unfolded-requires c = c.requires.node

pub push_argument-requires : goal.push_argument-requires
push_argument-requires c = c.requires.sound

pub next-init : goal.next-init
next-init c = record {
  applied = λ t. c.in_ok-push_argument.ensures.plug (apply t (map read c.args.before.items));
  sound = c.in_ok-push_argument.ensures.sound;
  waiting = λ E V u t h. c.in_ok-push_argument.ensures.waiting E V u (apply t (map read c.args.before.items)) h;
}

pub next-smaller : goal.next-smaller
next-smaller c =
    let x = ap length c.in-Some.ensures.items in
    let y = length-append c.last.new.args.items (c.in-Some.x ∷ []) in
    omega arith

pub push_argument-requires-in-Some : goal.push_argument-requires-in-Some
push_argument-requires-in-Some c = c.next.invariant.sound

pub next-preserved : goal.next-preserved
next-preserved c = record {
  applied = λ t. c.in_ok-push_argument-2.ensures.plug (apply t (map read c.last.new.args.items))
      ∙ ap (plug (layers c.next.self.frames.items)) (sym (last_applied t c.last.new.args.items c.next.rest.items c.in-Some.x c.in-Some.ensures.items))
      ∙ c.next.invariant.applied t;
  sound = c.in_ok-push_argument-2.ensures.sound;
  waiting = λ E V u t h. c.in_ok-push_argument-2.ensures.waiting E V u (apply t (map read c.last.new.args.items))
      (along (λ x. AreWaiting E V u c.next.self.frames.items x) (last_applied t c.last.new.args.items c.next.rest.items c.in-Some.x c.in-Some.ensures.items)
      (c.next.invariant.waiting E V u t h));
}

pub returns-clause-ok : goal.returns-clause-ok
returns-clause-ok c =
    sym (ap (λ ys. plug (layers c.next.self.frames.items) (apply (read c.in_ok-body.body) (map read ys))) c.in_default.ensures.items)
    ∙ c.next.invariant.applied (read c.in_ok-body.body)
    ∙ ap (λ t. plug (layers c.args.self.now.frames.items) (App (apply t (map read c.args.before.items)) (read c.args.argument))) c.in_ok-body.ensures.ok

pub returns-clause-sound : goal.returns-clause-sound
returns-clause-sound c = c.next.invariant.sound

pub returns-clause-waiting : goal.returns-clause-waiting
returns-clause-waiting c = λ E V u h.
    along (λ ys. AreWaiting E V u c.next.self.frames.items (apply (read c.in_ok-body.body) (map read ys))) c.in_default.ensures.items
    (c.next.invariant.waiting E V u (read c.in_ok-body.body)
    (along (λ t. AreWaiting E V u c.args.self.now.frames.items (App (apply t (map read c.args.before.items)) (read c.args.argument))) (sym c.in_ok-body.ensures.ok) h))
