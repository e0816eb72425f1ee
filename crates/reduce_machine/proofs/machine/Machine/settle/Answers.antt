use Rattle.std.proofs.Common.{◌≡◌, ◌∙◌, length, refl, sym, ap, subst as along, arith}
use Rattle.std.proofs.lemmas.Result.{err_from_is_err_and}
use Rattle.pc_rules.specs.DirectedWeakHead.{weak_next}
use Rattle.reduction.specs.Frames.{work}
use Rattle.reduce_machine.specs.Reducts.{AreWaiting}
use Rattle.reduce_machine.specs.Layered.{plug, around}
use Rattle.reduce_machine.specs.Layers.{layer, layers}
use Rattle.reduce_machine.specs.Values.{term_of}
use Rattle.reduce_machine.specs.Reads.{read}
use Rattle.reduce_machine.specs.Steps.{contractum}
use Rattle.reduce_machine.specs.declared.frames.Frame.TheVariants.{Recursive}
use Rattle.reduce_machine.proofs.Entering.{settled_whole, popped_whole, popped_weights, popped_beyond, popped_steps, inward_whole, inward_load}
use Rattle.reduce_machine.proofs.Layering.{layers_last, sound_popped, sound_pushed, sound_none, root_popped, known_or, popped_count, step_around}
use Rattle.reduce_machine.proofs.Keeping.{waiting_popped, waiting_pushed, waited}
use Rattle.reduce_machine.proofs.machine.Machine.settle.Goals as goal

pub of-value-requires : goal.of-value-requires
of-value-requires c = rw c.in_ok-start.ensures.ok c.requires.open

pub outward-init : goal.outward-init
outward-init c =
    let e = c.of-value.ensures.term ∙ ap read c.in_ok-start.ensures.ok in
    record {
      whole = ap (plug (layers c.args.self.now.frames.items)) e;
      none = λ V n. ap (weak_next c.args.env.now V) e ∙ n;
      value = c.of-value.ensures.value;
      sound = c.requires.sound;
      weights = omega arith;
      root = rw e c.requires.root;
      known = tt;
      ready = c.requires.ready;
      left = refl;
      waiting = λ V h. along (λ t. AreWaiting c.args.env.now V c.args.kept.now.left c.args.self.now.frames.items t) (sym e) h;
      reducts = λ V r h. r;
    }

pub meet-requires-clause-frame : goal.meet-requires-clause-frame
meet-requires-clause-frame c =
    (sound_popped c.outward.self.frames.items c.pop.new.self.frames.items c.in-Some.frame c.in-Some.ensures.frames c.outward.invariant.sound).frame

pub meet-requires-clause-node : goal.meet-requires-clause-node
meet-requires-clause-node c =
    (sound_popped c.outward.self.frames.items c.pop.new.self.frames.items c.in-Some.frame c.in-Some.ensures.frames c.outward.invariant.sound).node

pub meet-requires-clause-value : goal.meet-requires-clause-value
meet-requires-clause-value c = c.outward.invariant.value

pub meet-requires-clause-root : goal.meet-requires-clause-root
meet-requires-clause-root c =
    let b : c.len-below.result ≡ length c.pop.new.self.frames.items = omega arith in
    known_or c.outward.self.frames.items c.pop.new.self.frames.items c.in-Some.frame (term_of c.outward.value) c.outward.root-1 c.len-below.result c.outward.known c.in_ok-at.at
    c.in-Some.ensures.frames c.outward.invariant.root b c.outward.invariant.known c.in_ok-at.ensures.ok

pub returns-in_err-met-in_default-frame-clause-too_deep : goal.returns-in_err-met-in_default-frame-clause-too_deep
returns-in_err-met-in_default-frame-clause-too_deep c =
    let p = err_from_is_err_and c.from_residual-in_err-met-in_default-frame.result c.from_residual-in_err-met-in_default-frame.ensures.1 in
    let l = layers_last c.pop.new.self.frames.items c.outward.self.frames.items c.in-Some.frame c.in-Some.ensures.frames in
    rw (p.1, p.2) (λ e. popped_beyond (layers c.outward.self.frames.items) (layers c.pop.new.self.frames.items) (layer c.in-Some.frame) (term_of c.outward.value) _ l
    c.outward.invariant.sound.frames c.outward.invariant.whole (c.in_err-met-in_default-frame.ensures.too_deep e))

pub returns-in-Step-clause-settled : goal.returns-in-Step-clause-settled
returns-in-Step-clause-settled c =
    let l = layers_last c.pop.new.self.frames.items c.outward.self.frames.items c.in-Some.frame c.in-Some.ensures.frames in
    λ V n. let m = rw c.in-Step.is at (c.in_ok-met-in_default-frame.ensures.ok V (c.outward.invariant.none V n)) in
    popped_steps c.args.env.now V (layers c.outward.self.frames.items) (layers c.pop.new.self.frames.items) (layer c.in-Some.frame) (term_of c.outward.value) _
    (contractum c.in-Step.step) l c.outward.invariant.sound.frames c.outward.invariant.whole m

pub returns-in-Step-clause-keeps : goal.returns-in-Step-clause-keeps
returns-in-Step-clause-keeps c =
    let k = rw c.in-Step.is at c.in_ok-met-in_default-frame.ensures.keeps in
    let l = layers_last c.pop.new.self.frames.items c.outward.self.frames.items c.in-Some.frame c.in-Some.ensures.frames in
    step_around (layers c.outward.self.frames.items) (layers c.pop.new.self.frames.items) (layer c.in-Some.frame) (term_of c.outward.value) _ c.in-Step.step l
    c.outward.invariant.sound.frames c.outward.invariant.whole k

pub returns-in-Step-clause-sound : goal.returns-in-Step-clause-sound
returns-in-Step-clause-sound c =
    (sound_popped c.outward.self.frames.items c.pop.new.self.frames.items c.in-Some.frame c.in-Some.ensures.frames c.outward.invariant.sound).sound

pub returns-in-Inward-clause-keeps : goal.returns-in-Inward-clause-keeps
returns-in-Inward-clause-keeps c =
    let k = rw c.in-Inward.is at c.in_ok-met-in_default-frame.ensures.keeps in
    let l = layers_last c.pop.new.self.frames.items c.outward.self.frames.items c.in-Some.frame c.in-Some.ensures.frames in
    let m = layers_last c.pop.new.self.frames.items c.push.new.self.frames.items (Recursive c.in-Inward.fix c.in-Inward.before) c.in_ok-push-in-Inward.ensures.ok in (
      inward_whole (layers c.outward.self.frames.items) (layers c.pop.new.self.frames.items) (layers c.push.new.self.frames.items) (layer c.in-Some.frame)
          (term_of c.outward.value) _ (read c.in-Inward.argument) _ l m c.outward.invariant.whole k.0,
      inward_load (layers c.outward.self.frames.items) (layers c.pop.new.self.frames.items) (layers c.push.new.self.frames.items) (layer c.in-Some.frame) _
          (read c.in-Inward.argument) _ (work (read c.args.self.now.focus)) l m k.3 c.outward.invariant.weights,
    )

pub returns-in-Inward-clause-sound : goal.returns-in-Inward-clause-sound
returns-in-Inward-clause-sound c =
    let k = rw c.in-Inward.is at c.in_ok-met-in_default-frame.ensures.keeps in
    sound_pushed c.pop.new.self.frames.items c.push.new.self.frames.items (Recursive c.in-Inward.fix c.in-Inward.before) c.in_ok-push-in-Inward.ensures.ok
    (sound_popped c.outward.self.frames.items c.pop.new.self.frames.items c.in-Some.frame c.in-Some.ensures.frames c.outward.invariant.sound).sound k.1 k.2

pub outward-smaller : goal.outward-smaller
outward-smaller c = popped_count c.outward.self.frames.items c.pop.new.self.frames.items c.in-Some.frame c.in-Some.ensures.frames

pub outward-preserved : goal.outward-preserved
outward-preserved c =
    let k = rw c.in-Stuck.is at c.in_ok-met-in_default-frame.ensures.keeps in
    let l = layers_last c.pop.new.self.frames.items c.outward.self.frames.items c.in-Some.frame c.in-Some.ensures.frames in
    record {
      whole = ap (plug (layers c.pop.new.self.frames.items)) k.0
          ∙ popped_whole (layers c.outward.self.frames.items) (layers c.pop.new.self.frames.items) (layer c.in-Some.frame) (term_of c.outward.value) _ l c.outward.invariant.whole;
      none = λ V n. let m = rw c.in-Stuck.is at (c.in_ok-met-in_default-frame.ensures.ok V (c.outward.invariant.none V n)) in ap (weak_next c.args.env.now V) k.0 ∙ m;
      value = k.1;
      sound = (sound_popped c.outward.self.frames.items c.pop.new.self.frames.items c.in-Some.frame c.in-Some.ensures.frames c.outward.invariant.sound).sound;
      weights = popped_weights (layers c.outward.self.frames.items) (layers c.pop.new.self.frames.items) (layer c.in-Some.frame) _ l c.outward.invariant.weights;
      root = root_popped c.outward.self.frames.items c.pop.new.self.frames.items c.in-Some.frame (term_of c.outward.value) _ c.outward.root-1 c.in-Some.ensures.frames k.0
          c.outward.invariant.root;
      waiting = λ V h. along (λ t. AreWaiting c.args.env.now V c.args.kept.now.left c.pop.new.self.frames.items t) (sym k.0)
          (waiting_popped c.args.env.now V c.args.kept.now.left c.outward.self.frames.items c.pop.new.self.frames.items c.in-Some.frame (term_of c.outward.value)
          c.in-Some.ensures.frames (c.outward.invariant.waiting V h)).others;
      known = tt;
      ready = c.outward.invariant.ready;
      left = c.outward.invariant.left;
      reducts = c.outward.invariant.reducts;
    }

pub outward-preserved-in-Update : goal.outward-preserved-in-Update
outward-preserved-in-Update c =
    let e : term_of c.outward.value ≡ around (layer c.in-Some.frame) (term_of c.outward.value) = ap (λ g. around (layer g) (term_of c.outward.value)) (sym c.in-Update.is) in
    let l = layers_last c.pop.new.self.frames.items c.outward.self.frames.items c.in-Some.frame c.in-Some.ensures.frames in
    record {
      whole = ap (plug (layers c.pop.new.self.frames.items)) e
          ∙ popped_whole (layers c.outward.self.frames.items) (layers c.pop.new.self.frames.items) (layer c.in-Some.frame) (term_of c.outward.value) _ l c.outward.invariant.whole;
      none = c.outward.invariant.none;
      value = c.outward.invariant.value;
      sound = (sound_popped c.outward.self.frames.items c.pop.new.self.frames.items c.in-Some.frame c.in-Some.ensures.frames c.outward.invariant.sound).sound;
      weights = popped_weights (layers c.outward.self.frames.items) (layers c.pop.new.self.frames.items) (layer c.in-Some.frame) _ l c.outward.invariant.weights;
      root = root_popped c.outward.self.frames.items c.pop.new.self.frames.items c.in-Some.frame (term_of c.outward.value) _ c.outward.root-1 c.in-Some.ensures.frames e
          c.outward.invariant.root;
      waiting = λ V h. along (λ t. AreWaiting c.args.env.now V c.args.kept.now.left c.pop.new.self.frames.items t) (sym e)
          (waiting_popped c.args.env.now V c.args.kept.now.left c.outward.self.frames.items c.pop.new.self.frames.items c.in-Some.frame (term_of c.outward.value)
          c.in-Some.ensures.frames (c.outward.invariant.waiting V h)).others;
      known = c.keep-known.ensures.known;
      ready = c.keep-known.ensures.ready;
      left = c.keep-known.ensures.left ∙ c.outward.invariant.left;
      reducts = λ V r h.
          let w = (waiting_popped c.args.env.now V c.args.kept.now.left c.outward.self.frames.items c.pop.new.self.frames.items c.in-Some.frame (term_of c.outward.value)
          c.in-Some.ensures.frames (c.outward.invariant.waiting V h)).frame in
          let u = waited c.args.env.now V c.args.kept.now.left c.outward.kept.left c.in-Some.frame c.in-Update.own c.in-Update.began (term_of c.outward.value)
          (term_of c.outward.value) c.in-Update.is c.outward.invariant.left refl w in
          c.keep-known.ensures.kept c.args.env.now V (c.outward.invariant.reducts V r h) u.0 u.1;
    }

-- where what was known before is let go of
pub outward-preserved-in-Update-2 : goal.outward-preserved-in-Update-2
outward-preserved-in-Update-2 c =
    let e : term_of c.outward.value ≡ around (layer c.in-Some.frame) (term_of c.outward.value) = ap (λ g. around (layer g) (term_of c.outward.value)) (sym c.in-Update.is) in
    let l = layers_last c.pop.new.self.frames.items c.outward.self.frames.items c.in-Some.frame c.in-Some.ensures.frames in
    record {
      whole = ap (plug (layers c.pop.new.self.frames.items)) e
          ∙ popped_whole (layers c.outward.self.frames.items) (layers c.pop.new.self.frames.items) (layer c.in-Some.frame) (term_of c.outward.value) _ l c.outward.invariant.whole;
      none = c.outward.invariant.none;
      value = c.outward.invariant.value;
      sound = (sound_popped c.outward.self.frames.items c.pop.new.self.frames.items c.in-Some.frame c.in-Some.ensures.frames c.outward.invariant.sound).sound;
      weights = popped_weights (layers c.outward.self.frames.items) (layers c.pop.new.self.frames.items) (layer c.in-Some.frame) _ l c.outward.invariant.weights;
      root = root_popped c.outward.self.frames.items c.pop.new.self.frames.items c.in-Some.frame (term_of c.outward.value) _ c.outward.root-1 c.in-Some.ensures.frames e
          c.outward.invariant.root;
      waiting = λ V h. along (λ t. AreWaiting c.args.env.now V c.args.kept.now.left c.pop.new.self.frames.items t) (sym e)
          (waiting_popped c.args.env.now V c.args.kept.now.left c.outward.self.frames.items c.pop.new.self.frames.items c.in-Some.frame (term_of c.outward.value)
          c.in-Some.ensures.frames (c.outward.invariant.waiting V h)).others;
      known = c.keep-known.ensures.known;
      ready = c.keep-known.ensures.ready;
      left = c.keep-known.ensures.left ∙ c.outward.invariant.left;
      reducts = λ V r h.
          let w = (waiting_popped c.args.env.now V c.args.kept.now.left c.outward.self.frames.items c.pop.new.self.frames.items c.in-Some.frame (term_of c.outward.value)
          c.in-Some.ensures.frames (c.outward.invariant.waiting V h)).frame in
          let u = waited c.args.env.now V c.args.kept.now.left c.outward.kept.left c.in-Some.frame c.in-Update.own c.in-Update.began (term_of c.outward.value)
          (term_of c.outward.value) c.in-Update.is c.outward.invariant.left refl w in
          c.keep-known.ensures.kept c.args.env.now V (c.outward.invariant.reducts V r h) u.0 u.1;
    }

pub keep-known-requires-clause-ready : goal.keep-known-requires-clause-ready
keep-known-requires-clause-ready c = c.outward.invariant.ready

pub keep-known-requires-clause-value : goal.keep-known-requires-clause-value
keep-known-requires-clause-value c = c.outward.invariant.value

pub keep-known-requires-clause-known : goal.keep-known-requires-clause-known
keep-known-requires-clause-known c =
    let b : c.len-below.result ≡ length c.pop.new.self.frames.items = omega arith in
    known_or c.outward.self.frames.items c.pop.new.self.frames.items c.in-Some.frame (term_of c.outward.value) c.outward.root-1 c.len-below.result c.outward.known c.in_ok-at.at
    c.in-Some.ensures.frames c.outward.invariant.root b c.outward.invariant.known c.in_ok-at.ensures.ok

pub returns-in-Step-clause-waiting : goal.returns-in-Step-clause-waiting
returns-in-Step-clause-waiting c = λ V n h.
    let m = rw c.in-Step.is at (c.in_ok-met-in_default-frame.ensures.ok V (c.outward.invariant.none V n)) in (
      around (layer c.in-Some.frame) (term_of c.outward.value),
      m,
      (waiting_popped c.args.env.now V c.args.kept.now.left c.outward.self.frames.items c.pop.new.self.frames.items c.in-Some.frame (term_of c.outward.value)
          c.in-Some.ensures.frames (c.outward.invariant.waiting V h)).others,
    )

pub returns-in-Inward-clause-waiting : goal.returns-in-Inward-clause-waiting
returns-in-Inward-clause-waiting c = λ V n h.
    let k = rw c.in-Inward.is at c.in_ok-met-in_default-frame.ensures.keeps in
    waiting_pushed c.args.env.now V c.args.kept.now.left c.pop.new.self.frames.items c.push.new.self.frames.items (Recursive c.in-Inward.fix c.in-Inward.before)
    (read c.in-Inward.argument) c.in_ok-push-in-Inward.ensures.ok tt (along (λ t. AreWaiting c.args.env.now V c.args.kept.now.left c.pop.new.self.frames.items t) k.0
    (waiting_popped c.args.env.now V c.args.kept.now.left c.outward.self.frames.items c.pop.new.self.frames.items c.in-Some.frame (term_of c.outward.value)
    c.in-Some.ensures.frames (c.outward.invariant.waiting V h)).others)

pub returns-clause-settled : goal.returns-clause-settled
returns-clause-settled c =
    λ V n. ap (weak_next c.args.env.now V) (sym (settled_whole (layers c.outward.self.frames.items) (term_of c.outward.value) _ (ap layers c.in_default.ensures.frames)
    c.outward.invariant.whole)) ∙ c.outward.invariant.none V n

pub returns-clause-keeps : goal.returns-clause-keeps
returns-clause-keeps c = (
  settled_whole (layers c.outward.self.frames.items) (term_of c.outward.value) _ (ap layers c.in_default.ensures.frames) c.outward.invariant.whole,
  c.outward.invariant.value,
)

pub returns-clause-sound : goal.returns-clause-sound
returns-clause-sound c = sound_none c.pop.new.self.frames.items c.in_default.ensures.empty
