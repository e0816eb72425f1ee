use Rattle.std.proofs.Common.{rules, map}
use Rattle.pc_rules.proofs.Meters.{after-refl, after-trans}
use Rattle.inductive_check.specs.Given.{given_of}
use Rattle.env_check.proofs.Declaring.{checked_new}
use Rattle.env_cert.proofs.Declaring.{accepted_ready, not_heads, kept_accepted}
use Rattle.env_making.proofs.Declaring.{made_checked, formed_at, makes_further, makes_no_further, makes_through, makes_nowhere}
use Rattle.env_making.proofs.declarations.declarations.Goals as goal

pub loop-i-init : goal.loop-i-init
loop-i-init g c = record {
  leads_on = makes_nowhere _ _ _ _;
  accepted = c.requires.accepted;
  after = after-refl c.args.draft.now.meter;
}

pub declaration-requires : goal.declaration-requires
declaration-requires g c =
    let n = c.loop-i.invariant.after.nest in
    let r = accepted_ready c.loop-i.env c.loop-i.invariant.accepted in
    search rules

pub returns-in-Err-clause-halts : goal.returns-in-Err-clause-halts
returns-in-Err-clause-halts g c =
    let l = c.loop-i in
    rw c.halted_at.ensures.is
    (makes_no_further c.args.room c.args.env (map given_of c.args.decls.now) c.args.draft.now l.env c.args.decls.now l.i l.draft l.invariant.leads_on
    c.index-decls-i.result c.loop-i-test.true c.index-decls-i.is c.in-Err.halt c.declaration.new.draft c.in-Err.ensures.makes)

pub returns-in-Err-clause-after : goal.returns-in-Err-clause-after
returns-in-Err-clause-after g c = after-trans _ _ _ c.loop-i.invariant.after c.in-Err.ensures.makes.after

pub keep-requires : goal.keep-requires
keep-requires g c =
    let l = c.loop-i in
    let formed = formed_at c.args.decls.now l.i c.index-decls-i.result c.loop-i-test.true c.index-decls-i.is c.requires.formed in
    let checked = made_checked c.args.room l.env l.invariant.accepted (given_of c.index-decls-i.result) c.in-Ok.kept l.draft c.declaration.new.draft formed c.in-Ok.ensures.makes in
    record { new = checked_new l.env _ c.in-Ok.kept checked; no_heads = not_heads checked.accepted }

pub loop-i-preserved : goal.loop-i-preserved
loop-i-preserved g c =
    let l = c.loop-i in
    let formed = formed_at c.args.decls.now l.i c.index-decls-i.result c.loop-i-test.true c.index-decls-i.is c.requires.formed in
    let checked = made_checked c.args.room l.env l.invariant.accepted (given_of c.index-decls-i.result) c.in-Ok.kept l.draft c.declaration.new.draft formed c.in-Ok.ensures.makes in
    rw c.in-Ok-keep.ensures.kept (record {
      leads_on = makes_further c.args.room c.args.env (map given_of c.args.decls.now) c.args.draft.now l.env c.args.decls.now l.i l.draft l.invariant.leads_on
          c.index-decls-i.result c.loop-i-test.true c.index-decls-i.is c.in-Ok.kept c.declaration.new.draft c.in-Ok.ensures.makes;
      accepted = kept_accepted l.env l.invariant.accepted (given_of c.index-decls-i.result) c.in-Ok.kept checked;
      after = after-trans _ _ _ l.invariant.after c.in-Ok.ensures.makes.after;
    })

pub returns-clause-leads_on : goal.returns-clause-leads_on
returns-clause-leads_on g c =
    let l = c.loop-i in
    makes_through c.args.room c.args.env (map given_of c.args.decls.now) c.args.draft.now l.env c.args.decls.now l.i l.draft l.invariant.leads_on c.loop-i-test.false
