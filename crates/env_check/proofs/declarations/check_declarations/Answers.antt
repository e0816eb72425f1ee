use Rattle.std.proofs.Common.{◌-◌, map}
use Rattle.pc_rules.specs.DirectedRun.{most_nested}
use Rattle.inductive_check.specs.Given.{given_of}
use Rattle.pc_rules.proofs.Meters.{after-refl, after-trans}
use Rattle.env_check.proofs.Declaring.{checked_none, checked_new, read_more, read_halted, read_place}
use Rattle.env_check.proofs.declarations.check_declarations.Goals as goal

pub loop-i-init : goal.loop-i-init
loop-i-init g c = record {
  checked = checked_none c.args.env (most_nested - c.args.m.now.nest) (map given_of c.args.decls.now) c.args.m.now.account c.requires.accepted c.requires.empty;
  after = after-refl c.args.m.now;
}

pub returns-in-Err-clause-refused : goal.returns-in-Err-clause-refused
returns-in-Err-clause-refused g c =
    let l = c.loop-i in
    rw c.refusal_at.ensures.is
    (read_halted c.args.env c.args.m.now c.args.decls.now l.i l.env l.m l.invariant.checked l.invariant.after _ c.loop-i-test.true c.index-decls-i.is c.in-Err.halt c.check_declaration.new.m c.in-Err.ensures.follows)

pub returns-in-Err-clause-placed : goal.returns-in-Err-clause-placed
returns-in-Err-clause-placed g c =
    let l = c.loop-i in
    rw c.refusal_at.ensures.is
    (read_place c.args.env c.args.m.now c.args.decls.now l.i l.env l.m l.invariant.checked l.invariant.after _ c.loop-i-test.true c.index-decls-i.is c.in-Err.halt c.check_declaration.new.m c.in-Err.ensures.follows)

pub keep-requires-clause-new : goal.keep-requires-clause-new
keep-requires-clause-new g c = checked_new c.loop-i.env _ c.in-Ok.kept c.in-Ok.ensures.checked

pub loop-i-preserved : goal.loop-i-preserved
loop-i-preserved g c =
    let l = c.loop-i in
    let f = c.in-Ok.ensures.follows in
    record {
      checked = read_more c.args.env c.args.m.now c.args.decls.now l.i l.env l.m l.invariant.checked l.invariant.after c.index-decls-i.result c.loop-i-test.true c.index-decls-i.is
          c.in-Ok.kept c.check_declaration.new.m c.keep.new.self f c.in-Ok.ensures.checked c.in-Ok-keep.ensures.kept;
      after = after-trans c.args.m.now l.m c.check_declaration.new.m l.invariant.after f.after;
    }
