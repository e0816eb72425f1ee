use Rattle.std.proofs.Common.{◌∙◌, sym, ap, refl, arith, subst as along}
use Rattle.std.proofs.lemmas.Result.{err_from_is_err_and}
use Rattle.trees.specs.Measures.{IsBeyond}
use Rattle.pc_terms.specs.Syntax.{Term}
use Rattle.calculus_rules.specs.Context.{values}
use Rattle.pc_rules.specs.DirectedWeakHead.{weak_next}
use Rattle.reduce_machine.specs.Reducts.{AreWaiting, AreWaitingFor}
use Rattle.reduce_machine.specs.Layers.{layers}
use Rattle.reduce_machine.specs.Reads.{read}
use Rattle.reduce_machine.specs.Sought.{whole}
use Rattle.reduce_machine.specs.Steps.{contractum}
use Rattle.reduce_machine.proofs.Layering.{grown_whole, root_grown, step_along}
use Rattle.reduce_machine.proofs.Plugging.{plug_steps}
use Rattle.reduce_machine.proofs.Opens.{head_part}
use Rattle.reduce_machine.proofs.machine.Machine.seek.Goals as goal

pub search-init : goal.search-init
search-init c = record { whole = refl; sound = c.requires.sound; ready = c.requires.ready; left = refl; waiting = c.requires.waiting; reducts = c.requires.reducts }

pub descend-requires : goal.descend-requires
descend-requires c = record { sound = c.search.invariant.sound; ready = c.search.invariant.ready }

pub head_step-requires : goal.head_step-requires
head_step-requires c = rw c.in_default.is at c.in_ok-known.ensures.end

-- the focus is known
pub returns-in-Some-clause-sought : goal.returns-in-Some-clause-sought
returns-in-Some-clause-sought c =
    let k = rw c.in-Some.is at (c.in_ok-known.ensures.known c.args.env.now (values c.args.ctx.now) c.search.invariant.reducts) in
    (grown_whole c.search.self c.descend.new.self c.in_ok-known.ensures.grown ∙ c.search.invariant.whole, k)

pub returns-in-Some-clause-sound : goal.returns-in-Some-clause-sound
returns-in-Some-clause-sound c = c.in_ok-known.ensures.sound

pub returns-in-Some-clause-waiting : goal.returns-in-Some-clause-waiting
returns-in-Some-clause-waiting c =
    along (λ u. AreWaiting c.args.env.now (values c.args.ctx.now) u c.descend.new.self.frames.items (read c.descend.new.self.focus)) c.search.invariant.left
    (c.in_ok-known.ensures.waiting c.args.env.now (values c.args.ctx.now) (along (λ u. AreWaiting c.args.env.now (values c.args.ctx.now) u c.search.self.frames.items (read c.search.self.focus)) (sym c.search.invariant.left) c.search.invariant.waiting))

-- it has a step
pub returns-in-Some-step-clause-sought : goal.returns-in-Some-step-clause-sought
returns-in-Some-step-clause-sought c =
    let s = rw c.in-Some-step.is at c.in_ok-step.ensures.ok in
    let p = rw c.in-Some-step.is at c.in_ok-step.ensures.plain in
    let w = grown_whole c.search.self c.descend.new.self c.in_ok-known.ensures.grown ∙ c.search.invariant.whole in (
      ap (weak_next c.args.env.now (values c.args.ctx.now)) (sym w)
          ∙ plug_steps c.args.env.now (values c.args.ctx.now) (layers c.descend.new.self.frames.items) (read c.descend.new.self.focus) (contractum c.in-Some-step.step)
          c.in_ok-known.ensures.sound.frames s,
      head_part (whole c.args.self.now) c.in-Some-step.step p,
    )

pub returns-in-Some-step-clause-sound : goal.returns-in-Some-step-clause-sound
returns-in-Some-step-clause-sound c = c.in_ok-known.ensures.sound

pub returns-in-Some-step-clause-waiting : goal.returns-in-Some-step-clause-waiting
returns-in-Some-step-clause-waiting c =
    let s = rw c.in-Some-step.is at c.in_ok-step.ensures.ok in (
      read c.descend.new.self.focus,
      s,
      along (λ u. AreWaiting c.args.env.now (values c.args.ctx.now) u c.descend.new.self.frames.items (read c.descend.new.self.focus))
          c.search.invariant.left
          (c.in_ok-known.ensures.waiting c.args.env.now (values c.args.ctx.now) (along (λ u. AreWaiting c.args.env.now (values c.args.ctx.now) u c.search.self.frames.items (read c.search.self.focus)) (sym c.search.invariant.left) c.search.invariant.waiting)),
    )

pub settle-requires-clause-sound : goal.settle-requires-clause-sound
settle-requires-clause-sound c = c.in_ok-known.ensures.sound

pub settle-requires-clause-open : goal.settle-requires-clause-open
settle-requires-clause-open c = rw c.in_default.is at c.in_ok-known.ensures.end

pub settle-requires-clause-ready : goal.settle-requires-clause-ready
settle-requires-clause-ready c = c.search.invariant.ready

pub settle-requires-clause-root : goal.settle-requires-clause-root
settle-requires-clause-root c = root_grown c.search.self c.descend.new.self c.in_ok-root.root c.in_ok-root.ensures.start c.in_ok-known.ensures.grown

pub returns-in_err-settled-clause-too_deep : goal.returns-in_err-settled-clause-too_deep
returns-in_err-settled-clause-too_deep c =
    let p = err_from_is_err_and c.from_residual-in_err-settled.result c.from_residual-in_err-settled.ensures.1 in
    let w = grown_whole c.search.self c.descend.new.self c.in_ok-known.ensures.grown ∙ c.search.invariant.whole in
    rw (p.1, p.2) (λ e. along (λ (t : Term). IsBeyond t) w (c.in_err-settled.ensures.too_deep e))

pub returns-in-Step-clause-sought : goal.returns-in-Step-clause-sought
returns-in-Step-clause-sought c =
    let n = rw c.in_default-step.is at c.in_ok-step.ensures.ok in
    let w = grown_whole c.search.self c.descend.new.self c.in_ok-known.ensures.grown ∙ c.search.invariant.whole in
    let s = rw c.in-Step.is at (c.in_ok-settled.ensures.settled (values c.args.ctx.now) n) in
    let k = rw c.in-Step.is at c.in_ok-settled.ensures.keeps in
    (ap (weak_next c.args.env.now (values c.args.ctx.now)) (sym w) ∙ s, step_along _ _ c.in-Step.step w k)

pub returns-in-Step-clause-sound : goal.returns-in-Step-clause-sound
returns-in-Step-clause-sound c = c.in_ok-settled.ensures.sound

pub search-smaller : goal.search-smaller
search-smaller c =
    let k = rw c.in-Inward.is at c.in_ok-settled.ensures.keeps in
    omega (arith, k.1, c.in_ok-known.ensures.load)

pub search-preserved : goal.search-preserved
search-preserved c =
    let k = rw c.in-Inward.is at c.in_ok-settled.ensures.keeps in
    let w = grown_whole c.search.self c.descend.new.self c.in_ok-known.ensures.grown ∙ c.search.invariant.whole in
    let n = rw c.in_default-step.is at c.in_ok-step.ensures.ok in
    record {
      whole = k.0 ∙ w;
      sound = c.in_ok-settled.ensures.sound;
      ready = c.settle.ensures.ready;
      left = c.settle.ensures.left ∙ c.search.invariant.left;
      waiting = rw (c.in-Inward.is, c.search.invariant.left) at (c.in_ok-settled.ensures.waiting (values c.args.ctx.now) n (c.in_ok-known.ensures.waiting c.args.env.now (values c.args.ctx.now) (along (λ u. AreWaiting c.args.env.now (values c.args.ctx.now) u c.search.self.frames.items
          (read c.search.self.focus)) (sym c.search.invariant.left) c.search.invariant.waiting)));
      reducts = c.settle.ensures.reducts (values c.args.ctx.now) c.search.invariant.reducts (c.in_ok-known.ensures.waiting c.args.env.now (values c.args.ctx.now) (along (λ u. AreWaiting c.args.env.now (values c.args.ctx.now) u c.search.self.frames.items (read c.search.self.focus)) (sym
          c.search.invariant.left) c.search.invariant.waiting));
    }

pub returns-in-Whole-clause-sought : goal.returns-in-Whole-clause-sought
returns-in-Whole-clause-sought c =
    let n = rw c.in_default-step.is at c.in_ok-step.ensures.ok in
    let w = grown_whole c.search.self c.descend.new.self c.in_ok-known.ensures.grown ∙ c.search.invariant.whole in
    let k = rw c.in-Whole.is at c.in_ok-settled.ensures.keeps in
    let s = rw c.in-Whole.is at (c.in_ok-settled.ensures.settled (values c.args.ctx.now) n) in
    (k.0 ∙ w, k.1, ap (weak_next c.args.env.now (values c.args.ctx.now)) (sym w) ∙ s)

pub returns-in-Whole-clause-sound : goal.returns-in-Whole-clause-sound
returns-in-Whole-clause-sound c = c.in_ok-settled.ensures.sound

pub returns-in-Step-clause-waiting : goal.returns-in-Step-clause-waiting
returns-in-Step-clause-waiting c =
    let n = rw c.in_default-step.is at c.in_ok-step.ensures.ok in
    let w = rw c.in-Step.is at (c.in_ok-settled.ensures.waiting (values c.args.ctx.now) n (c.in_ok-known.ensures.waiting c.args.env.now (values c.args.ctx.now) (along (λ u. AreWaiting c.args.env.now (values c.args.ctx.now) u c.search.self.frames.items (read c.search.self.focus)) (sym
    c.search.invariant.left) c.search.invariant.waiting))) in
    along (λ u. AreWaitingFor c.args.env.now (values c.args.ctx.now) u c.settle.new.self.frames.items c.in-Step.step) c.search.invariant.left w

pub returns-in-Step-clause-reducts : goal.returns-in-Step-clause-reducts
returns-in-Step-clause-reducts c = c.settle.ensures.reducts (values c.args.ctx.now) c.search.invariant.reducts (c.in_ok-known.ensures.waiting c.args.env.now (values c.args.ctx.now) (along (λ u. AreWaiting c.args.env.now (values c.args.ctx.now) u c.search.self.frames.items (read
    c.search.self.focus)) (sym c.search.invariant.left) c.search.invariant.waiting))
