use Rattle.std.proofs.Common.{◌≡◌, ◌∙◌, ◌+◌, IsTrue, refl, sym, ap, arith, subst as along}
use Rattle.std.proofs.lemmas.Result.{err_from_is_err_and}
use Rattle.calculus_rules.specs.Context.{values}
use Rattle.pc_rules.specs.DirectedRun.{is_beyond}
use Rattle.pc_rules.specs.DirectedWeakHead.{weak_next, whnf}
use Rattle.pc_rules.specs.Leads.{Leads}
use Rattle.pc_rules.proofs.Following.{beyond_is}
use Rattle.pc_rules.proofs.Meters.{after-refl}
use Rattle.reduction.proofs.Ending.{whnf_left, fault_follows, done_follows, goes_on}
use Rattle.reduce_machine.specs.Layered.{plug}
use Rattle.reduce_machine.specs.Layers.{layers}
use Rattle.reduce_machine.specs.Passed.{reduced}
use Rattle.reduce_machine.specs.Reads.{read}
use Rattle.reduce_machine.specs.Sought.{whole}
use Rattle.reduce_machine.specs.Steps.{contractum}
use Rattle.reduce_machine.specs.Values.{term_of}
use Rattle.reduce_machine.proofs.Ending.{unpaid_follows, known_goes, known_spends}
use Rattle.reduce_machine.specs.Reducts.{AreWaiting}
use Rattle.reduce_machine.proofs.Keeping.{waiting_none, waiting_known, waits_on, ticks_left}
use Rattle.reduce_machine.proofs.Layering.{sound_none, start_whole}
use Rattle.reduce_machine.proofs.Passed.{passed_start, passed_beyond, passed_reached}
use Rattle.reduce_machine.proofs.weak.value_with.Goals as goal

pub steps-init : goal.steps-init
steps-init c =
    let e = start_whole c.of-machine.result c.args.term c.of-machine.ensures.focus c.of-machine.ensures.frames in
    record {
      leads = passed_start c.args.env.now (values c.args.ctx.now) (read c.args.term) (whole c.of-machine.result) c.args.m.now.account e;
      beyond = passed_beyond c.args.env.now (values c.args.ctx.now) (read c.args.term) (whole c.of-machine.result) c.args.m.now.account e;
      sound = sound_none c.of-machine.result.frames.items c.of-machine.ensures.frames;
      ready = c.requires.ready;
      reducts = c.requires.reducts;
      waiting = waiting_none c.args.env.now (values c.args.ctx.now) c.args.m.now.account.left c.of-machine.result.frames.items (read c.of-machine.result.focus)
          c.of-machine.ensures.frames;
      after = after-refl c.args.m.now;
    }

pub seek-requires : goal.seek-requires
seek-requires c = record {
  sound = c.steps.invariant.sound;
  ready = c.steps.invariant.ready;
  reducts = c.steps.invariant.reducts;
  waiting = rw c.left-now.ensures.is c.steps.invariant.waiting;
}

pub paid-requires-clause-sound : goal.paid-requires-clause-sound
paid-requires-clause-sound c = c.in_ok-sought.ensures.sound

pub paid-requires-clause-node : goal.paid-requires-clause-node
paid-requires-clause-node c = let s = rw c.in-Step.is at c.in_ok-sought.ensures.sought in s.1.node

pub flatten-requires : goal.flatten-requires
flatten-requires c = record { sound = c.in_ok-paid-in-Step.ensures.sound }

pub returns-in_err-sought-clause-follows : goal.returns-in_err-sought-clause-follows
returns-in_err-sought-clause-follows c =
    let p = err_from_is_err_and c.from_residual.result c.from_residual.ensures.1 in
    rw (p.1, p.2) (fault_follows (reduced c.args.env.now (values c.args.ctx.now) (read c.args.term) c.args.m.now.account) c.in_err-sought.field-0.0 c.args.m.now c.steps.m
    (λ e. c.steps.invariant.beyond (beyond_is (whole c.steps.machine) (c.in_err-sought.ensures.too_deep e))) c.steps.invariant.after
    (whnf_left (reduced c.args.env.now (values c.args.ctx.now) (read c.args.term) c.args.m.now.account) c.args.env.now (values c.args.ctx.now) (whole c.steps.machine) c.steps.m.account c.steps.invariant.leads))

pub returns-in_err-paid-in-Step-clause-follows : goal.returns-in_err-paid-in-Step-clause-follows
returns-in_err-paid-in-Step-clause-follows c =
    let s = rw c.in-Step.is at c.in_ok-sought.ensures.sought in
    let p = err_from_is_err_and c.from_residual-in_err-paid-in-Step.result c.from_residual-in_err-paid-in-Step.ensures.1 in
    rw (p.1, p.2) (unpaid_follows (reduced c.args.env.now (values c.args.ctx.now) (read c.args.term) c.args.m.now.account) c.args.env.now (values c.args.ctx.now)
    (whole c.steps.machine) (layers c.seek.new.self.frames.items) c.in-Step.step c.in_err-paid-in-Step.field-0.0 c.args.m.now c.steps.m c.paid.new.m c.steps.invariant.leads
    c.steps.invariant.beyond c.steps.invariant.after s.0 s.1 c.in_ok-sought.ensures.sound.frames c.in_err-paid-in-Step.ensures.none c.paid.ensures.account c.paid.ensures.nest)

pub returns-in_err-flatten-in-Step-clause-follows : goal.returns-in_err-flatten-in-Step-clause-follows
returns-in_err-flatten-in-Step-clause-follows c =
    let s = rw c.in-Step.is at c.in_ok-sought.ensures.sought in
    let g = goes_on (reduced c.args.env.now (values c.args.ctx.now) (read c.args.term) c.args.m.now.account) c.args.env.now (values c.args.ctx.now) (whole c.steps.machine)
    (plug (layers c.seek.new.self.frames.items) (contractum c.in-Step.step)) (whole c.paid.new.machine) c.args.m.now c.steps.m c.paid.new.m
    c.steps.invariant.leads c.steps.invariant.after s.0 c.in_ok-paid-in-Step.ensures.ok c.in_ok-paid-in-Step.ensures.unit c.paid.ensures.account c.paid.ensures.nest in
    let p = err_from_is_err_and c.from_residual-in_err-flatten-in-Step.result c.from_residual-in_err-flatten-in-Step.ensures.1 in
    rw (p.1, p.2) (fault_follows (reduced c.args.env.now (values c.args.ctx.now) (read c.args.term) c.args.m.now.account) c.in_err-flatten-in-Step.field-0.0 c.args.m.now c.paid.new.m
    (λ e. g.beyond (beyond_is (whole c.paid.new.machine) (c.in_err-flatten-in-Step.ensures.too_deep e))) g.after
    (whnf_left (reduced c.args.env.now (values c.args.ctx.now) (read c.args.term) c.args.m.now.account) c.args.env.now (values c.args.ctx.now) (whole c.paid.new.machine) c.paid.new.m.account g.leads))

pub steps-smaller-in-Continue-branch-3 : goal.steps-smaller-in-Continue-branch-3
steps-smaller-in-Continue-branch-3 c = rw c.paid.ensures.account (omega (arith, c.in_ok-paid-in-Step.ensures.unit))

pub steps-preserved-in-Continue-branch-3 : goal.steps-preserved-in-Continue-branch-3
steps-preserved-in-Continue-branch-3 c =
    let s = rw c.in-Step.is at c.in_ok-sought.ensures.sought in
    let g = goes_on (reduced c.args.env.now (values c.args.ctx.now) (read c.args.term) c.args.m.now.account) c.args.env.now (values c.args.ctx.now) (whole c.steps.machine)
    (plug (layers c.seek.new.self.frames.items) (contractum c.in-Step.step)) (whole c.flatten.new.self) c.args.m.now c.steps.m c.paid.new.m
    c.steps.invariant.leads c.steps.invariant.after s.0 (c.in_ok-flatten-in-Step.ensures.ok ∙ c.in_ok-paid-in-Step.ensures.ok) c.in_ok-paid-in-Step.ensures.unit
    c.paid.ensures.account c.paid.ensures.nest in
    let w = rw c.in-Step.is at c.in_ok-sought.ensures.waiting in
    record {
      leads = g.leads;
      beyond = g.beyond;
      sound = c.in_ok-flatten-in-Step.ensures.sound;
      after = g.after;
      ready = c.seek.ensures.ready;
      reducts = c.seek.ensures.reducts;
      waiting = waits_on c.args.env.now (values c.args.ctx.now) c.left-now.result c.paid.new.m.account.left c.seek.new.self.frames.items c.paid.new.machine.frames.items
          c.flatten.new.self.frames.items w.0 (contractum c.in-Step.step) (read c.paid.new.machine.focus) (read c.flatten.new.self.focus) c.in_ok-sought.ensures.sound.frames
          (omega (arith, c.in_ok-paid-in-Step.ensures.unit, c.left-now.ensures.is, ap (λ a. a.left) c.paid.ensures.account)) w.1 w.2 (c.in_ok-paid-in-Step.ensures.waiting c.args.env.now (values c.args.ctx.now) c.paid.new.m.account.left)
          c.in_ok-flatten-in-Step.ensures.frames c.in_ok-flatten-in-Step.ensures.focus;
    }

pub returns-in_err-charged-in-Known-clause-follows : goal.returns-in_err-charged-in-Known-clause-follows
returns-in_err-charged-in-Known-clause-follows c =
    let s = rw c.in-Known.is at c.in_ok-sought.ensures.sought in
    let n = c.in_err-charged-in-Known.ensures.none in
    let p = err_from_is_err_and c.from_residual-in_err-charged-in-Known.result c.from_residual-in_err-charged-in-Known.ensures.1 in
    rw (p.1, p.2, n.0) (known_spends (reduced c.args.env.now (values c.args.ctx.now) (read c.args.term) c.args.m.now.account) c.args.env.now (values c.args.ctx.now) c.in-Known.known.units
    (layers c.seek.new.self.frames.items) (read c.seek.new.self.focus) (read c.in-Known.known.term) c.args.m.now c.steps.m c.charged.new.m c.in_ok-sought.ensures.sound.frames
    n.1 s.1.steps (along (λ t. Leads (reduced c.args.env.now (values c.args.ctx.now) (read c.args.term) c.args.m.now.account) (whnf c.args.env.now (values c.args.ctx.now) t c.steps.m.account)) (sym s.0) c.steps.invariant.leads) c.steps.invariant.after n.2 c.charged.ensures.nest)

pub steps-smaller : goal.steps-smaller
steps-smaller c =
    let s = rw c.in-Known.is at c.in_ok-sought.ensures.sought in
    let k = c.in_ok-charged-in-Known.ensures.ok in
    let l = ticks_left c.in-Known.known.units c.steps.m.account k.0 in
    omega (arith, l, s.1.some, ap (λ a. a.left) k.1)

pub steps-preserved : goal.steps-preserved
steps-preserved c =
    let s = rw c.in-Known.is at c.in_ok-sought.ensures.sought in
    let w = rw c.in-Known.is at c.in_ok-sought.ensures.waiting in
    let k = c.in_ok-charged-in-Known.ensures.ok in
    let l = ticks_left c.in-Known.known.units c.steps.m.account k.0 in
    let u : c.left-now.result ≡ c.in-Known.known.units + c.charged.new.m.account.left = omega (arith, l, c.left-now.ensures.is, ap (λ a. a.left) k.1) in
    let g = known_goes (reduced c.args.env.now (values c.args.ctx.now) (read c.args.term) c.args.m.now.account) c.args.env.now (values c.args.ctx.now) c.in-Known.known.units
    (layers c.seek.new.self.frames.items) (read c.seek.new.self.focus) (read c.in-Known.known.term) c.args.m.now c.steps.m c.charged.new.m c.in_ok-sought.ensures.sound.frames
    k.0 s.1.steps (along (λ t. Leads (reduced c.args.env.now (values c.args.ctx.now) (read c.args.term) c.args.m.now.account) (whnf c.args.env.now (values c.args.ctx.now) t c.steps.m.account)) (sym s.0) c.steps.invariant.leads) (λ h. c.steps.invariant.beyond (along (λ t. IsTrue (is_beyond t))
    s.0 h)) c.steps.invariant.after k.1 c.charged.ensures.nest in
    record {
      leads = rw (c.in_ok-charged-in-Known.ensures.focus, c.charged.ensures.frames) g.leads;
      beyond = rw (c.in_ok-charged-in-Known.ensures.focus, c.charged.ensures.frames) g.beyond;
      sound = rw c.charged.ensures.frames c.in_ok-sought.ensures.sound;
      after = g.after;
      ready = c.seek.ensures.ready;
      reducts = c.seek.ensures.reducts;
      waiting = rw (c.in_ok-charged-in-Known.ensures.focus, c.charged.ensures.frames) (waiting_known c.args.env.now (values c.args.ctx.now) c.in-Known.known.units
          c.charged.new.m.account.left c.seek.new.self.frames.items (read c.seek.new.self.focus) (read c.in-Known.known.term) c.in_ok-sought.ensures.sound.frames s.1.steps
          (along (λ u. AreWaiting c.args.env.now (values c.args.ctx.now) u c.seek.new.self.frames.items (read c.seek.new.self.focus)) u w));
    }

pub returns-in-Value-clause-follows : goal.returns-in-Value-clause-follows
returns-in-Value-clause-follows c =
    let s = rw c.in-Value.is at c.in_ok-sought.ensures.sought in
    done_follows (reduced c.args.env.now (values c.args.ctx.now) (read c.args.term) c.args.m.now.account) c.args.env.now (values c.args.ctx.now) (whole c.steps.machine)
    (term_of c.in-Value.value) c.args.m.now c.steps.m c.steps.invariant.leads s.2 s.0 c.steps.invariant.after

pub returns-in-Value-clause-value : goal.returns-in-Value-clause-value
returns-in-Value-clause-value c = let s = rw c.in-Value.is at c.in_ok-sought.ensures.sought in s.1

pub returns-in-Value-clause-normal : goal.returns-in-Value-clause-normal
returns-in-Value-clause-normal c =
    let s = rw c.in-Value.is at c.in_ok-sought.ensures.sought in
    ap (weak_next c.args.env.now (values c.args.ctx.now)) s.0 ∙ s.2

pub returns-in-Value-clause-beyond : goal.returns-in-Value-clause-beyond
returns-in-Value-clause-beyond c =
    let s = rw c.in-Value.is at c.in_ok-sought.ensures.sought in
    λ h. c.steps.invariant.beyond (along (λ t. IsTrue (is_beyond t)) s.0 h)

pub returns-in-Value-clause-reached : goal.returns-in-Value-clause-reached
returns-in-Value-clause-reached c =
    let s = rw c.in-Value.is at c.in_ok-sought.ensures.sought in
    passed_reached c.args.env.now (values c.args.ctx.now) (read c.args.term) (whole c.steps.machine) (term_of c.in-Value.value) c.args.m.now.account c.steps.m.account
    c.steps.invariant.leads s.2 s.0

pub returns-in-Value-clause-ready : goal.returns-in-Value-clause-ready
returns-in-Value-clause-ready c = c.seek.ensures.ready

pub returns-in-Value-clause-reducts : goal.returns-in-Value-clause-reducts
returns-in-Value-clause-reducts c = c.seek.ensures.reducts
