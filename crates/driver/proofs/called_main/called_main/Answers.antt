use Rattle.std.proofs.Common.{Err, refl, subst, arith}
use Rattle.command_line.specs.declared.job.Job.TheVariants.{Call}
use Rattle.dump_reader.specs.Front.{front_bytes}
use Rattle.read_counts.proofs.KeptBlocks.{few_counts}
use Rattle.first_order.proofs.ArgumentComplete.{arguments_trees}
use Rattle.first_order.specs.DirectedSignature.{set_of}
use Rattle.driver.specs.ExecEnds.{ErasureSays}
use Rattle.driver.specs.CallEnds.{in_signature, in_arguments, in_call_erasure, in_call_passes, ReadingArguments}
use Rattle.driver.specs.CalledMain.{CalledMainSays}
use Rattle.driver.proofs.Answering.{cause_of, exit_at}
use Rattle.driver.proofs.MadeSaying.{accepting}
use Rattle.driver.proofs.ExportSaying.{signing, call_erasing, takes_some}
use Rattle.driver.proofs.CallSaying.{call_says, check_says, main_is_called}
use Rattle.driver.proofs.SmallArguments.{arguments_small, each_tree, signature_few}
use Rattle.driver.proofs.JobTold.{of_account}
use Rattle.driver.proofs.TextCauses.{is_spelled, within_limits}
use Rattle.driver.proofs.called_main.called_main.Goals as goal

pub returns-in_err-accepted-clause-says : goal.returns-in_err-accepted-clause-says
returns-in_err-accepted-clause-says g c =
    let q = c.args.request in
    let e = c.in_ok-environment.environment in
    let bytes = c.args.bytes.now in
    let s = within_limits (front_bytes bytes) e c.in_ok-environment.ensures.exact.1 in
    let r = c.in_err-accepted.field-0.0 in
    exit_at (λ x. CalledMainSays q x bytes) c.from_residual-in_err-accepted.result r c.from_residual-in_err-accepted.ensures.1 (check_says q r bytes e s (cause_of q.turns r e c.in_err-accepted.ensures.says))

pub returns-in_err-signature-clause-says : goal.returns-in_err-signature-clause-says
returns-in_err-signature-clause-says g c =
    let q = c.args.request in
    let e = c.in_ok-environment.environment in
    let bytes = c.args.bytes.now in
    let s = within_limits (front_bytes bytes) e c.in_ok-environment.ensures.exact.1 in
    let a = c.in_ok-accepted.accepted in
    let known = c.in_ok-accepted.ensures.says in
    let u = c.accept_within.new.meter.account in
    let r = c.in_err-signature.field-0.0 in
    exit_at (λ x. CalledMainSays q x bytes) c.from_residual-in_err-signature.result r c.from_residual-in_err-signature.ensures.1
    (call_says q r bytes e s (in_signature (accepting q e a.env a.main a.main_type u known.0 known.1 known.2) c.signature_of.new.m.account c.in_err-signature.ensures.says))

pub arguments_of-requires-clause-from : goal.arguments_of-requires-clause-from
arguments_of-requires-clause-from g c = c.in_ok-environment.ensures.exact.0

pub returns-in_err-arguments-clause-says : goal.returns-in_err-arguments-clause-says
returns-in_err-arguments-clause-says g c =
    let q = c.args.request in
    let e = c.in_ok-environment.environment in
    let bytes = c.args.bytes.now in
    let s = within_limits (front_bytes bytes) e c.in_ok-environment.ensures.exact.1 in
    let a = c.in_ok-accepted.accepted in
    let known = c.in_ok-accepted.ensures.says in
    let u = c.accept_within.new.meter.account in
    let f = c.in_ok-signature.ensures in
    let there = signing q e a.env a.main a.main_type u known.0 known.1 known.2 c.in_ok-signature.signature f.is f.takes f.few f.named c.signature_of.new.m.account f.says in
    let r = c.in_err-arguments.field-0.0 in
    exit_at (λ x. CalledMainSays q x bytes) c.from_residual-in_err-arguments.result r c.from_residual-in_err-arguments.ensures.1 (call_says q r bytes e s (in_arguments there c.in_err-arguments.ensures.says))

pub erased-requires-clause-checked : goal.erased-requires-clause-checked
erased-requires-clause-checked g c = c.in_ok-accepted.ensures.says.2

pub erased-requires-clause-main : goal.erased-requires-clause-main
erased-requires-clause-main g c = c.in_ok-accepted.ensures.says.1

pub returns-in_err-program-clause-says : goal.returns-in_err-program-clause-says
returns-in_err-program-clause-says g c =
    let q = c.args.request in
    let e = c.in_ok-environment.environment in
    let bytes = c.args.bytes.now in
    let s = within_limits (front_bytes bytes) e c.in_ok-environment.ensures.exact.1 in
    let a = c.in_ok-accepted.accepted in
    let known = c.in_ok-accepted.ensures.says in
    let u = c.accept_within.new.meter.account in
    let v = c.signature_of.new.m.account in
    let w = c.erased.new.m.account in
    let f = c.in_ok-signature.ensures in
    let there = signing q e a.env a.main a.main_type u known.0 known.1 known.2 c.in_ok-signature.signature f.is f.takes f.few f.named v f.says in
    let given : ReadingArguments q.turns e bytes = record { before = there; arguments = c.in_ok-arguments.arguments.items; read = c.in_ok-arguments.ensures.says } in
    let r = c.in_err-program.field-0.0 in
    exit_at (λ x. CalledMainSays q x bytes) c.from_residual-in_err-program.result r c.from_residual-in_err-program.ensures.1
    (call_says q r bytes e s (in_call_erasure given there w (subst (λ t. ErasureSays e a.env t v (Err r) w) known.1 c.in_err-program.ensures.says)))

pub call_compiled-requires-clause-range : goal.call_compiled-requires-clause-range
call_compiled-requires-clause-range g c = let pages = c.requires.range.pages in (omega (arith, pages.0), omega (arith, pages.1))

pub call_compiled-requires-clause-some : goal.call_compiled-requires-clause-some
call_compiled-requires-clause-some g c =
    let is = c.count_arguments-count.ensures.is in
    let some = takes_some c.in_ok-signature.signature.args c.in_ok-signature.ensures.takes in
    omega (arith, is, some)

pub call_compiled-requires-clause-most : goal.call_compiled-requires-clause-most
call_compiled-requires-clause-most g c = let is = c.count_arguments-count.ensures.is in let few = c.in_ok-signature.ensures.few in omega (arith, is, few)

pub returns-in_err-module-clause-says : goal.returns-in_err-module-clause-says
returns-in_err-module-clause-says g c =
    let q = c.args.request in
    let e = c.in_ok-environment.environment in
    let bytes = c.args.bytes.now in
    let s = within_limits (front_bytes bytes) e c.in_ok-environment.ensures.exact.1 in
    let a = c.in_ok-accepted.accepted in
    let known = c.in_ok-accepted.ensures.says in
    let u = c.accept_within.new.meter.account in
    let v = c.signature_of.new.m.account in
    let f = c.in_ok-signature.ensures in
    let p = c.in_ok-program.ensures in
    let there = signing q e a.env a.main a.main_type u known.0 known.1 known.2 c.in_ok-signature.signature f.is f.takes f.few f.named v f.says in
    let given : ReadingArguments q.turns e bytes = record { before = there; arguments = c.in_ok-arguments.arguments.items; read = c.in_ok-arguments.ensures.says } in
    let program = call_erasing q e a.env a.main a.main_type u known.0 known.1 known.2 c.in_ok-signature.signature f.is f.takes f.few f.named v f.says c.in_ok-program.program p.form p.sources p.erased c.erased.new.m.account p.says in
    let r = c.in_err-module.field-0.0 in
    exit_at (λ x. CalledMainSays q x bytes) c.from_residual-in_err-module.result r c.from_residual-in_err-module.ensures.1 (call_says q r bytes e s (in_call_passes given program c.in_err-module.ensures.says))

pub returns-clause-says : goal.returns-clause-says
returns-clause-says g c =
    let q = c.args.request in
    let e = c.in_ok-environment.environment in
    let bytes = c.args.bytes.now in
    let s = within_limits (front_bytes bytes) e c.in_ok-environment.ensures.exact.1 in
    let a = c.in_ok-accepted.accepted in
    let known = c.in_ok-accepted.ensures.says in
    let u = c.accept_within.new.meter.account in
    let f = c.in_ok-signature.ensures in
    let p = c.in_ok-program.ensures in
    let program = call_erasing q e a.env a.main a.main_type u known.0 known.1 known.2 c.in_ok-signature.signature f.is f.takes f.few f.named c.signature_of.new.m.account f.says c.in_ok-program.program p.form p.sources p.erased c.erased.new.m.account p.says in
    main_is_called q bytes _ s program refl c.in_ok-arguments.ensures.says c.count_arguments-count.result c.count_arguments-count.ensures.is c.in_ok-module.ensures.says

pub returns-clause-small : goal.returns-clause-small
returns-clause-small g c =
    let e = c.in_ok-environment.environment in
    let a = c.in_ok-accepted.accepted in
    let bytes = c.args.bytes.now in
    let signature = c.in_ok-signature.signature in
    let few = few_counts e (is_spelled (front_bytes bytes) e (within_limits (front_bytes bytes) e c.in_ok-environment.ensures.exact.1)) a.env a.main_type c.in_ok-accepted.ensures.says.2 in
    arguments_small e.names signature.args (signature_few a.env few a.main_type signature.args (set_of signature.answer) c.in_ok-signature.ensures.is) _ c.in_ok-arguments.arguments.items c.in_ok-arguments.ensures.spells

pub returns-clause-trees : goal.returns-clause-trees
returns-clause-trees g c = each_tree c.in_ok-arguments.arguments.items (arguments_trees _ _ _ c.in_ok-arguments.arguments.items c.in_ok-arguments.ensures.spells).0

pub returns-clause-told : goal.returns-clause-told
returns-clause-told g c =
    let e = c.in_ok-environment.environment in
    let bytes = c.args.bytes.now in
    let a = c.in_ok-accepted.accepted in
    let known = c.in_ok-accepted.ensures in
    of_account g.R.Report.shown c.args.request (front_bytes bytes) e a.env a.main_type c.accept_within.new.meter.account _ _ (within_limits (front_bytes bytes) e c.in_ok-environment.ensures.exact.1) known.says.0 known.told
