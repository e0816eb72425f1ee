use Rattle.std.proofs.Common.{rules, ◌≡◌, ◌-◌, arith, subst, sym}
use Rattle.calculus_rules.specs.Accepted.{IsAccepted}
use Rattle.pc_rules.specs.DirectedRun.{most_nested}
use Rattle.env_check.proofs.Limits.{spelled_few}
use Rattle.env_check.proofs.ReadFormed.{read_formed}
use Rattle.env_cert.proofs.Declaring.{accepted_ready}
use Rattle.env_check.proofs.Whole.{bare_accepted}
use Rattle.env_making.proofs.Declaring.{main_given, main_halts}
use Rattle.env_making.proofs.Whole.{first_refused, declarations_along, main_along, along_passed}
use Rattle.env_making.proofs.make.make_env.Goals as goal

pub returns-in_err-bare-clause-makes : goal.returns-in_err-bare-clause-makes
returns-in_err-bare-clause-makes g c =
    along_passed c.args.raw.now c.args.draft.now c.args.draft.now c.from_residual.result _ c.from_residual.ensures.1 (first_refused c.args.raw.now c.args.draft.now _ c.in_err-bare.ensures.refused)

pub declarations-requires-clause-few : goal.declarations-requires-clause-few
declarations-requires-clause-few g c = rw c.as_slice.ensures.is (spelled_few c.args.raw.now c.requires.spelled).declarations

pub declarations-requires-clause-accepted : goal.declarations-requires-clause-accepted
declarations-requires-clause-accepted g c = subst (λ E. IsAccepted E) (sym c.in_ok-bare.ensures.bare) (bare_accepted c.args.raw.now c.in_ok-bare.ensures.sound)

pub declarations-requires-clause-formed : goal.declarations-requires-clause-formed
declarations-requires-clause-formed g c = rw c.as_slice.ensures.is (read_formed c.args.raw.now c.requires.spelled).0

pub returns-in_err-env-clause-makes : goal.returns-in_err-env-clause-makes
returns-in_err-env-clause-makes g c =
    let room : c.room-room.result ≡ most_nested - c.args.draft.now.meter.nest = (let e = c.room-room.ensures in omega arith) in
    along_passed c.args.raw.now c.args.draft.now c.declarations.new.draft c.from_residual-in_err-env.result _ c.from_residual-in_err-env.ensures.1
    (declarations_along c.args.raw.now c.in_ok-bare.ensures.sound c.args.draft.now _ _ _ room c.in_ok-bare.ensures.bare c.as_slice.ensures.is _ c.declarations.new.draft c.in_err-env.ensures.halts)

pub infer-requires : goal.infer-requires
infer-requires g c =
    let r = accepted_ready c.in_ok-env.env c.in_ok-env.ensures.accepted in
    let n = c.in_ok-env.ensures.after.nest in
    search rules

pub returns-in-Err-clause-makes : goal.returns-in-Err-clause-makes
returns-in-Err-clause-makes g c =
    let raw = c.args.raw.now in
    let room : c.room-room.result ≡ most_nested - c.args.draft.now.meter.nest = (let e = c.room-room.ensures in omega arith) in
    let p = rw c.new-none.ensures.empty at c.in-Err.ensures.makes in
    rw c.halted_at.ensures.is (main_along raw c.in_ok-bare.ensures.sound c.args.draft.now _ _ _ room c.in_ok-bare.ensures.bare c.as_slice.ensures.is c.in_ok-env.env _ c.declarations.new.draft c.in_ok-env.ensures.leads_on
    _ c.infer.new.draft (main_halts c.room-room.result c.in_ok-env.env _ raw.main _ c.declarations.new.draft c.infer.new.draft p))

pub returns-in-Ok-clause-makes : goal.returns-in-Ok-clause-makes
returns-in-Ok-clause-makes g c =
    let raw = c.args.raw.now in
    let room : c.room-room.result ≡ most_nested - c.args.draft.now.meter.nest = (let e = c.room-room.ensures in omega arith) in
    let p = rw c.new-none.ensures.empty at c.in-Ok.ensures.makes in
    main_along raw c.in_ok-bare.ensures.sound c.args.draft.now _ _ _ room c.in_ok-bare.ensures.bare c.as_slice.ensures.is c.in_ok-env.env _ c.declarations.new.draft c.in_ok-env.ensures.leads_on
    _ c.infer.new.draft (main_given c.room-room.result c.in_ok-env.env _ raw.main _ c.declarations.new.draft c.infer.new.draft p)
