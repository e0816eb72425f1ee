use Rattle.first_order.specs.Searching.{members}
use Rattle.command_line.specs.declared.job.Job.TheVariants.{Eval}
use Rattle.driver.proofs.Answering.{cause_of, checked_says, exit_says}
use Rattle.driver.proofs.SourceSaying.{of_shapes, of_value, of_data, names_there, source_says, evaluated, line_says}
use Rattle.driver.proofs.JobTold.{of_account}
use Rattle.driver.proofs.TextCauses.{within_limits}
use Rattle.driver.proofs.eval.eval.Goals as goal
use Rattle.module_run.proofs.CallEnding.{told_anyway}

pub returns-in_err-accepted-clause-says : goal.returns-in_err-accepted-clause-says
returns-in_err-accepted-clause-says g c =
    let e = c.in_ok-environment.environment in
    let bytes = c.args.bytes.now in
    let s = within_limits bytes e c.in_ok-environment.ensures.exact in
    let r = c.in_err-accepted.field-0.0 in
    exit_says (λ v. v.items) Eval c.args.request c.from_residual-in_err-accepted.result r bytes c.from_residual-in_err-accepted.ensures.1 (checked_says Eval c.args.request r bytes e s tt (cause_of c.args.request.turns r e c.in_err-accepted.ensures.says))

pub returns-in_err-shapes-clause-says : goal.returns-in_err-shapes-clause-says
returns-in_err-shapes-clause-says g c =
    let e = c.in_ok-environment.environment in
    let bytes = c.args.bytes.now in
    let s = within_limits bytes e c.in_ok-environment.ensures.exact in
    let a = c.in_ok-accepted.accepted in
    let known = c.in_ok-accepted.ensures.says in
    let u = c.accept_within.new.meter.account in
    let v = c.shapes_of.new.m.account in
    let r = c.in_err-shapes.field-0.0 in
    exit_says (λ v. v.items) Eval c.args.request c.from_residual-in_err-shapes.result r bytes c.from_residual-in_err-shapes.ensures.1 (source_says c.args.request r bytes e a.env a.main a.main_type u v s known.0 known.1 known.2 (of_shapes a.env a.main a.main_type u r v c.in_err-shapes.ensures.says))

pub returns-in_err-value-clause-says : goal.returns-in_err-value-clause-says
returns-in_err-value-clause-says g c =
    let e = c.in_ok-environment.environment in
    let bytes = c.args.bytes.now in
    let s = within_limits bytes e c.in_ok-environment.ensures.exact in
    let a = c.in_ok-accepted.accepted in
    let known = c.in_ok-accepted.ensures.says in
    let u = c.accept_within.new.meter.account in
    let v = c.shapes_of.new.m.account in
    let w = c.value_of.new.m.account in
    let r = c.in_err-value.field-0.0 in
    exit_says (λ v. v.items) Eval c.args.request c.from_residual-in_err-value.result r bytes c.from_residual-in_err-value.ensures.1 (source_says c.args.request r bytes e a.env a.main a.main_type u w s known.0 known.1 known.2
    (of_value a.env a.main a.main_type u (members c.in_ok-shapes.shapes.types) v c.in_ok-shapes.ensures.says r w c.in_err-value.ensures.says))

pub returns-in_err-tree-clause-says : goal.returns-in_err-tree-clause-says
returns-in_err-tree-clause-says g c =
    let e = c.in_ok-environment.environment in
    let bytes = c.args.bytes.now in
    let s = within_limits bytes e c.in_ok-environment.ensures.exact in
    let a = c.in_ok-accepted.accepted in
    let known = c.in_ok-accepted.ensures.says in
    let u = c.accept_within.new.meter.account in
    let v = c.shapes_of.new.m.account in
    let w = c.value_of.new.m.account in
    let r = c.in_err-tree.field-0.0 in
    exit_says (λ v. v.items) Eval c.args.request c.from_residual-in_err-tree.result r bytes c.from_residual-in_err-tree.ensures.1 (source_says c.args.request r bytes e a.env a.main a.main_type u w s known.0 known.1 known.2
    (of_data a.env a.main a.main_type u v w c.in_ok-shapes.shapes.types c.in_ok-shapes.ensures.named c.in_ok-shapes.ensures.says c.in_ok-value.value c.in_ok-value.ensures.says r c.in_err-tree.ensures.says))

pub line_of-requires-clause-named : goal.line_of-requires-clause-named
line_of-requires-clause-named g c =
    let e = c.in_ok-environment.environment in
    let bytes = c.args.bytes.now in
    let s = within_limits bytes e c.in_ok-environment.ensures.exact in
    let a = c.in_ok-accepted.accepted in
    names_there bytes e a.env a.main_type s c.in_ok-accepted.ensures.says.2 c.in_ok-shapes.shapes.types c.in_ok-shapes.ensures.named

pub returns-clause-says : goal.returns-clause-says
returns-clause-says g c =
    let e = c.in_ok-environment.environment in
    let bytes = c.args.bytes.now in
    let s = within_limits bytes e c.in_ok-environment.ensures.exact in
    let a = c.in_ok-accepted.accepted in
    let known = c.in_ok-accepted.ensures.says in
    let u = c.accept_within.new.meter.account in
    let v = c.shapes_of.new.m.account in
    let w = c.value_of.new.m.account in
    let hs = c.in_ok-shapes.shapes.types in
    line_says (λ v. v.items) c.args.request c.line_of.result bytes hs e.names c.in_ok-tree.tree (λ text line. evaluated c.args.request.turns bytes text e a.env a.main a.main_type u v w s known.0 known.1 known.2 hs c.in_ok-shapes.ensures.named
    c.in_ok-shapes.ensures.set c.in_ok-shapes.ensures.says c.in_ok-value.value c.in_ok-value.ensures.says c.in_ok-value.ensures.value c.in_ok-tree.tree c.in_ok-tree.ensures.says line) c.line_of.ensures.line c.line_of.ensures.only_memory

pub returns-clause-told : goal.returns-clause-told
returns-clause-told g c =
    let e = c.in_ok-environment.environment in
    let bytes = c.args.bytes.now in
    let a = c.in_ok-accepted.accepted in
    let known = c.in_ok-accepted.ensures in
    told_anyway c.line_of.result (of_account g.R.Report.shown c.args.request bytes e a.env a.main_type c.accept_within.new.meter.account _ _ (within_limits bytes e c.in_ok-environment.ensures.exact) known.says.0 known.told)
