use Rattle.std.proofs.Common.{rules, ◌≡◌, ◌-◌, arith, subst, sym, refl}
use Rattle.calculus_rules.specs.Accepted.{IsAccepted}
use Rattle.pc_rules.specs.DirectedRun.{most_nested}
use Rattle.env_cert.proofs.Declaring.{accepted_ready}
use Rattle.env_check.proofs.Whole.{bare_accepted}
use Rattle.env_cert.proofs.Whole.{declarations_along, main_along, main_well_formed, along_halted}
use Rattle.env_cert.proofs.verify.walk_env.Goals as goal

pub returns-in_err-bare-clause-walks : goal.returns-in_err-bare-clause-walks
returns-in_err-bare-clause-walks g c =
    along_halted c.args.raw.now c.args.cert.now c.args.trail.now c.args.trail.now c.from_residual.result _ c.from_residual.ensures.1 (c.in_err-bare.ensures.refused c.args.cert.now c.args.trail.now refl)

pub declarations-requires-clause-accepted : goal.declarations-requires-clause-accepted
declarations-requires-clause-accepted g c = subst (λ E. IsAccepted E) (sym c.in_ok-bare.ensures.bare) (bare_accepted c.args.raw.now c.in_ok-bare.ensures.sound)

pub returns-in_err-env-clause-walks : goal.returns-in_err-env-clause-walks
returns-in_err-env-clause-walks g c =
    let room : c.room-room.result ≡ most_nested - c.args.trail.now.meter.nest = (let e = c.room-room.ensures in omega arith) in
    along_halted c.args.raw.now c.args.cert.now c.args.trail.now c.declarations.new.trail c.from_residual-in_err-env.result _ c.from_residual-in_err-env.ensures.1
    (declarations_along c.args.raw.now c.in_ok-bare.ensures.sound c.args.cert.now c.args.trail.now _ _ _ room c.in_ok-bare.ensures.bare c.as_slice.ensures.is _ c.declarations.new.trail c.in_err-env.ensures.halts)

pub walk_main-requires : goal.walk_main-requires
walk_main-requires g c =
    let r = accepted_ready c.in_ok-env.env c.in_ok-env.ensures.accepted in
    let n = c.in_ok-env.ensures.after.nest in
    search rules

pub returns-in_err-ty-clause-walks : goal.returns-in_err-ty-clause-walks
returns-in_err-ty-clause-walks g c =
    let room : c.room-room.result ≡ most_nested - c.args.trail.now.meter.nest = (let e = c.room-room.ensures in omega arith) in
    along_halted c.args.raw.now c.args.cert.now c.args.trail.now c.walk_main.new.trail c.from_residual-in_err-ty.result _ c.from_residual-in_err-ty.ensures.1
    (main_along c.args.raw.now c.in_ok-bare.ensures.sound c.args.cert.now c.args.trail.now _ _ _ room c.in_ok-bare.ensures.bare c.as_slice.ensures.is c.in_ok-env.env c.declarations.new.trail
    c.in_ok-env.ensures.leads_on _ c.walk_main.new.trail c.in_err-ty.ensures.retraces)

pub returns-clause-walks : goal.returns-clause-walks
returns-clause-walks g c =
    let room : c.room-room.result ≡ most_nested - c.args.trail.now.meter.nest = (let e = c.room-room.ensures in omega arith) in
    main_along c.args.raw.now c.in_ok-bare.ensures.sound c.args.cert.now c.args.trail.now _ _ _ room c.in_ok-bare.ensures.bare c.as_slice.ensures.is c.in_ok-env.env c.declarations.new.trail
    c.in_ok-env.ensures.leads_on _ c.walk_main.new.trail c.in_ok-ty.ensures.retraces

pub returns-clause-well_formed : goal.returns-clause-well_formed
returns-clause-well_formed g c =
    let room : c.room-room.result ≡ most_nested - c.args.trail.now.meter.nest = (let e = c.room-room.ensures in omega arith) in
    main_well_formed c.args.raw.now c.in_ok-bare.ensures.sound c.args.cert.now c.args.trail.now _ _ _ room c.in_ok-bare.ensures.bare c.as_slice.ensures.is c.in_ok-env.env c.declarations.new.trail
    c.in_ok-env.ensures.leads_on c.in_ok-env.ensures.formed c.view.ensures.formed _ c.walk_main.new.trail c.in_ok-ty.ensures.retraces
