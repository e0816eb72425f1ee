use Rattle.std.proofs.Common.{Err, refl, subst, arith}
use Rattle.command_line.specs.declared.job.Job.TheVariants.{Compile}
use Rattle.driver.specs.ExecEnds.{ErasureSays}
use Rattle.driver.specs.MadeModule.{by_search, by_erasure, by_passes}
use Rattle.driver.specs.MainModule.{MakesSay}
use Rattle.driver.proofs.Answering.{cause_of, checked_says, exit_at}
use Rattle.driver.proofs.MadeSaying.{accepting, searching, erasing, make_says}
use Rattle.driver.proofs.JobTold.{of_account}
use Rattle.driver.proofs.TextCauses.{within_limits}
use Rattle.driver.proofs.main_module.main_module.Goals as goal

pub returns-in_err-accepted-clause-says : goal.returns-in_err-accepted-clause-says
returns-in_err-accepted-clause-says g c =
    let q = c.args.request in
    let e = c.in_ok-environment.environment in
    let bytes = c.args.bytes.now in
    let s = within_limits bytes e c.in_ok-environment.ensures.exact in
    let r = c.in_err-accepted.field-0.0 in
    exit_at (λ x. MakesSay q x bytes) c.from_residual-in_err-accepted.result r c.from_residual-in_err-accepted.ensures.1 (checked_says Compile q r bytes e s tt (cause_of q.turns r e c.in_err-accepted.ensures.says))

pub returns-in_err-shapes-clause-says : goal.returns-in_err-shapes-clause-says
returns-in_err-shapes-clause-says g c =
    let q = c.args.request in
    let e = c.in_ok-environment.environment in
    let bytes = c.args.bytes.now in
    let s = within_limits bytes e c.in_ok-environment.ensures.exact in
    let a = c.in_ok-accepted.accepted in
    let known = c.in_ok-accepted.ensures.says in
    let u = c.accept_within.new.meter.account in
    let r = c.in_err-shapes.field-0.0 in
    exit_at (λ x. MakesSay q x bytes) c.from_residual-in_err-shapes.result r c.from_residual-in_err-shapes.ensures.1
    (make_says q r bytes e s (by_search (accepting q e a.env a.main a.main_type u known.0 known.1 known.2) c.shapes_of.new.m.account c.in_err-shapes.ensures.says))

pub erased-requires-clause-checked : goal.erased-requires-clause-checked
erased-requires-clause-checked g c = c.in_ok-accepted.ensures.says.2

pub erased-requires-clause-main : goal.erased-requires-clause-main
erased-requires-clause-main g c = c.in_ok-accepted.ensures.says.1

pub returns-in_err-program-clause-says : goal.returns-in_err-program-clause-says
returns-in_err-program-clause-says g c =
    let q = c.args.request in
    let e = c.in_ok-environment.environment in
    let bytes = c.args.bytes.now in
    let s = within_limits bytes e c.in_ok-environment.ensures.exact in
    let a = c.in_ok-accepted.accepted in
    let known = c.in_ok-accepted.ensures.says in
    let u = c.accept_within.new.meter.account in
    let v = c.shapes_of.new.m.account in
    let w = c.erased.new.m.account in
    let f = c.in_ok-shapes.ensures in
    let there = searching q e a.env a.main a.main_type u known.0 known.1 known.2 c.in_ok-shapes.shapes.types f.set f.named v f.says in
    let r = c.in_err-program.field-0.0 in
    exit_at (λ x. MakesSay q x bytes) c.from_residual-in_err-program.result r c.from_residual-in_err-program.ensures.1
    (make_says q r bytes e s (by_erasure there w (subst (λ t. ErasureSays e a.env t v (Err r) w) known.1 c.in_err-program.ensures.says)))

pub compiled-requires : goal.compiled-requires
compiled-requires g c = let pages = c.requires.range.pages in record { range = (omega (arith, pages.0), omega (arith, pages.1)); form = c.in_ok-program.ensures.form }

pub returns-in_err-module-clause-says : goal.returns-in_err-module-clause-says
returns-in_err-module-clause-says g c =
    let q = c.args.request in
    let e = c.in_ok-environment.environment in
    let bytes = c.args.bytes.now in
    let s = within_limits bytes e c.in_ok-environment.ensures.exact in
    let a = c.in_ok-accepted.accepted in
    let known = c.in_ok-accepted.ensures.says in
    let u = c.accept_within.new.meter.account in
    let f = c.in_ok-shapes.ensures in
    let p = c.in_ok-program.ensures in
    let there = erasing q e a.env a.main a.main_type u known.0 known.1 known.2 c.in_ok-shapes.shapes.types f.set f.named c.shapes_of.new.m.account f.says c.in_ok-program.program p.form p.sources p.erased c.erased.new.m.account p.says in
    let r = c.in_err-module.field-0.0 in
    exit_at (λ x. MakesSay q x bytes) c.from_residual-in_err-module.result r c.from_residual-in_err-module.ensures.1 (make_says q r bytes e s (by_passes there c.in_err-module.ensures.says))

pub returns-clause-says : goal.returns-clause-says
returns-clause-says g c =
    let q = c.args.request in
    let e = c.in_ok-environment.environment in
    let bytes = c.args.bytes.now in
    let a = c.in_ok-accepted.accepted in
    let known = c.in_ok-accepted.ensures.says in
    let u = c.accept_within.new.meter.account in
    let f = c.in_ok-shapes.ensures in
    let p = c.in_ok-program.ensures in
    let there = erasing q e a.env a.main a.main_type u known.0 known.1 known.2 c.in_ok-shapes.shapes.types f.set f.named c.shapes_of.new.m.account f.says c.in_ok-program.program p.form p.sources p.erased c.erased.new.m.account p.says in
    let h = c.in_ok-module.ensures.says in
    record { spelled = within_limits bytes e c.in_ok-environment.ensures.exact; stages = record { before = there; fits = h.0 }; shapes_are = refl; module_is = h.1 }

pub returns-clause-told : goal.returns-clause-told
returns-clause-told g c =
    let e = c.in_ok-environment.environment in
    let bytes = c.args.bytes.now in
    let a = c.in_ok-accepted.accepted in
    let known = c.in_ok-accepted.ensures in
    of_account g.R.Report.shown c.args.request bytes e a.env a.main_type c.accept_within.new.meter.account _ _ (within_limits bytes e c.in_ok-environment.ensures.exact) known.says.0 known.told
