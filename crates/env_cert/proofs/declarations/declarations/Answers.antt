use Rattle.std.proofs.Common.{rules, map, subst}
use Rattle.std.proofs.lemmas.List.{take_all}
use Rattle.pc_rules.proofs.Meters.{after-refl, after-trans}
use Rattle.rule_laws.specs.Declarations.{AllGivenFormed}
use Rattle.inductive_check.specs.Given.{given_of}
use Rattle.env_check.proofs.Declaring.{checked_new}
use Rattle.env_cert.specs.EnvWalks.{StopsAmong}
use Rattle.env_cert.proofs.Halted.{given_on}
use Rattle.env_cert.proofs.Declaring.{accepted_ready, not_heads, declaration_checked, kept_accepted, formed_next, goes_further, goes_no_further, goes_short, goes_through, goes_nowhere}
use Rattle.env_cert.proofs.declarations.declarations.Goals as goal

pub loop-i-init : goal.loop-i-init
loop-i-init g c = record {
  leads_on = goes_nowhere _ _ _ _ _;
  accepted = c.requires.accepted;
  formed = tt;
  after = after-refl c.args.trail.now.meter;
}

pub declaration-requires : goal.declaration-requires
declaration-requires g c =
    let n = c.loop-i.invariant.after.nest in
    let r = accepted_ready c.loop-i.env c.loop-i.invariant.accepted in
    search rules

pub returns-in_err-kept-clause-halts : goal.returns-in_err-kept-clause-halts
returns-in_err-kept-clause-halts g c =
    let l = c.loop-i in
    let p = goes_no_further c.args.cert.now c.args.room c.args.env (map given_of c.args.decls.now) c.args.trail.now l.env c.args.decls.now l.i l.trail l.invariant.leads_on
    c.index-decls-i.result c.loop-i-test.true c.index-decls-i.is _ c.declaration.new.trail c.in_err-kept.ensures.retraces in
    given_on (λ h. StopsAmong c.args.cert.now c.args.room c.args.env (map given_of c.args.decls.now) c.args.trail.now h c.declaration.new.trail) c.from_residual.result _ c.from_residual.ensures.1 p

pub returns-in_err-kept-clause-after : goal.returns-in_err-kept-clause-after
returns-in_err-kept-clause-after g c = after-trans _ _ _ c.loop-i.invariant.after c.in_err-kept.ensures.retraces.after

pub keep-requires : goal.keep-requires
keep-requires g c =
    let l = c.loop-i in
    let checked = declaration_checked c.args.cert.now c.args.room l.env l.invariant.accepted (given_of c.index-decls-i.result) c.in_ok-kept.kept l.trail c.declaration.new.trail c.in_ok-kept.ensures.formed
    c.in_ok-kept.ensures.retraces in
    record { new = checked_new l.env _ c.in_ok-kept.kept checked; no_heads = not_heads checked.accepted }

pub returns-in_err-keep-clause-halts : goal.returns-in_err-keep-clause-halts
returns-in_err-keep-clause-halts g c =
    let l = c.loop-i in
    let p = goes_short c.args.cert.now c.args.room c.args.env (map given_of c.args.decls.now) c.args.trail.now l.env c.args.decls.now l.i l.trail l.invariant.leads_on
    c.index-decls-i.result c.loop-i-test.true c.index-decls-i.is c.in_ok-kept.kept c.declaration.new.trail c.in_ok-kept.ensures.retraces in
    given_on (λ h. StopsAmong c.args.cert.now c.args.room c.args.env (map given_of c.args.decls.now) c.args.trail.now h c.declaration.new.trail) c.from_residual-in_err-keep.result
    _ c.from_residual-in_err-keep.ensures.1 (rw c.in_err-keep.ensures.only_memory p)

pub returns-in_err-keep-clause-after : goal.returns-in_err-keep-clause-after
returns-in_err-keep-clause-after g c = after-trans _ _ _ c.loop-i.invariant.after c.in_ok-kept.ensures.retraces.after

pub loop-i-preserved : goal.loop-i-preserved
loop-i-preserved g c =
    let l = c.loop-i in
    let checked = declaration_checked c.args.cert.now c.args.room l.env l.invariant.accepted (given_of c.index-decls-i.result) c.in_ok-kept.kept l.trail c.declaration.new.trail c.in_ok-kept.ensures.formed
    c.in_ok-kept.ensures.retraces in
    rw c.in_ok-keep.ensures.kept (record {
      leads_on = goes_further c.args.cert.now c.args.room c.args.env (map given_of c.args.decls.now) c.args.trail.now l.env c.args.decls.now l.i l.trail l.invariant.leads_on
          c.index-decls-i.result c.loop-i-test.true c.index-decls-i.is c.in_ok-kept.kept c.declaration.new.trail c.in_ok-kept.ensures.retraces;
      accepted = kept_accepted l.env l.invariant.accepted (given_of c.index-decls-i.result) c.in_ok-kept.kept checked;
      formed = formed_next c.args.decls.now l.i c.index-decls-i.result c.loop-i-test.true c.index-decls-i.is l.invariant.formed c.in_ok-kept.ensures.formed;
      after = after-trans _ _ _ l.invariant.after c.in_ok-kept.ensures.retraces.after;
    })

pub returns-clause-leads_on : goal.returns-clause-leads_on
returns-clause-leads_on g c =
    let l = c.loop-i in
    goes_through c.args.cert.now c.args.room c.args.env (map given_of c.args.decls.now) c.args.trail.now l.env c.args.decls.now l.i l.trail l.invariant.leads_on c.loop-i-test.false

pub returns-clause-formed : goal.returns-clause-formed
returns-clause-formed g c =
    subst (λ xs. AllGivenFormed (map given_of xs)) (take_all c.loop-i.i c.args.decls.now c.loop-i-test.false) c.loop-i.invariant.formed
