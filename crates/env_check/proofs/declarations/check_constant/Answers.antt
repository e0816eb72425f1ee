use Rattle.std.proofs.Common.{rules}
use Rattle.std.proofs.lemmas.Result.{err_from_is_err_and}
use Rattle.pc_rules.specs.Entailment.{test_of}
use Rattle.pc_rules.proofs.Following.{follows_halted}
use Rattle.pc_rules.proofs.Leaving.{leaving}
use Rattle.rule_laws.proofs.TypedCounts.{accepted_counted}
use Rattle.env_check.proofs.Constants.{constant_halted, constant_wanting, constant_done, constant_checked}
use Rattle.env_check.proofs.declarations.check_constant.Goals as goal

pub sort_of-requires-clause-env : goal.sort_of-requires-clause-env
sort_of-requires-clause-env g c = accepted_counted c.args.env.now c.requires.accepted

pub returns-in_err-sort_of-clause-follows : goal.returns-in_err-sort_of-clause-follows
returns-in_err-sort_of-clause-follows g c =
    let f = rw c.new.ensures.empty at c.in_err-sort_of.ensures.follows in
    follows_halted _ _ _ _ _ _ c.from_residual.ensures.1 f (search leaving)

pub returns-in_err-check_body-clause-follows : goal.returns-in_err-check_body-clause-follows
returns-in_err-check_body-clause-follows g c =
    let e = c.new.ensures.empty in
    let f = rw e at c.in_ok-sort_of.ensures.follows in
    let E = c.args.env.now in
    let p = constant_halted E (test_of E) c.args.name c.args.ty.now c.args.body.now c.in_ok-sort_of.field-0 c.args.m.now c.sort_of-2.new.m c.check_body.new.m f _ c.in_err-check_body.ensures.follows in
    search rules

pub returns-clause-follows : goal.returns-clause-follows
returns-clause-follows g c =
    let e = c.new.ensures.empty in
    let f = rw e at c.in_ok-sort_of.ensures.follows in
    let E = c.args.env.now in
    rw (c.in_ok-ty.ensures.ok, c.in_ok-body.ensures.same)
    (constant_done E (test_of E) c.args.name c.args.ty.now c.args.body.now c.in_ok-sort_of.field-0 c.args.m.now c.sort_of-2.new.m c.check_body.new.m f c.in_ok-check_body.ensures.follows)

pub returns-clause-checked : goal.returns-clause-checked
returns-clause-checked g c =
    let e = c.new.ensures.empty in
    let typed = rw e at c.in_ok-sort_of.ensures.typed in
    rw (c.in_ok-ty.ensures.ok, c.in_ok-body.ensures.same)
    (constant_checked c.args.env.now c.args.name c.args.ty.now c.args.body.now c.in_ok-sort_of.field-0 c.requires.accepted c.requires.new typed c.in_ok-check_body.ensures.fits)

pub returns-in_err-ty-clause-follows : goal.returns-in_err-ty-clause-follows
returns-in_err-ty-clause-follows g c =
    let e = c.new.ensures.empty in
    let f = rw e at c.in_ok-sort_of.ensures.follows in
    let E = c.args.env.now in
    let p = err_from_is_err_and c.from_residual-in_err-ty.result c.from_residual-in_err-ty.ensures.1 in
    rw (p.1, p.2, c.in_err-ty.ensures.only_memory)
    (constant_wanting E (test_of E) c.args.name c.args.ty.now c.args.body.now c.in_ok-sort_of.field-0 c.args.m.now c.sort_of-2.new.m c.check_body.new.m f c.in_ok-check_body.ensures.follows)

pub returns-in_err-body-clause-follows : goal.returns-in_err-body-clause-follows
returns-in_err-body-clause-follows g c =
    let e = c.new.ensures.empty in
    let f = rw e at c.in_ok-sort_of.ensures.follows in
    let E = c.args.env.now in
    let p = err_from_is_err_and c.from_residual-in_err-body.result c.from_residual-in_err-body.ensures.1 in
    rw (p.1, p.2, c.in_err-body.ensures.only_memory)
    (constant_wanting E (test_of E) c.args.name c.args.ty.now c.args.body.now c.in_ok-sort_of.field-0 c.args.m.now c.sort_of-2.new.m c.check_body.new.m f c.in_ok-check_body.ensures.follows)
