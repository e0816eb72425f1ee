use Rattle.std.proofs.Common.{◌≤◌, arith, subst, sym}
use Rattle.pc_rules.specs.declared.meter.Account.{Account}
use Rattle.driver.proofs.CertSaying.{making_says, making_told, making_why}
use Rattle.driver.proofs.VerifySaying.{verified_well}
use Rattle.driver.proofs.cert.made.Goals as goal

pub make_cert-requires-clause-units : goal.make_cert-requires-clause-units
make_cert-requires-clause-units g c =
    let small : c.args.turns ≤ 4294967295 = grind arith in
    subst (λ (u : Account). u.left ≤ 4294967295) (sym c.units-meter.ensures.account) small

pub refusal_of-requires-clause-refused : goal.refusal_of-requires-clause-refused
refusal_of-requires-clause-refused g c =
    let m = c.units-meter in
    making_why c.args.turns c.args.raw.now m.result c.make_cert.new.m m.ensures.nest m.ensures.account c.in-Err.why c.in-Err.ensures.follows

pub returns-in-Ok-clause-says : goal.returns-in-Ok-clause-says
returns-in-Ok-clause-says g c =
    let m = c.units-meter in
    let m' = c.make_cert.new.m in
    let x = c.in-Ok in
    (m'.account, making_says c.args.turns c.args.raw.now m.result m' m.ensures.nest m.ensures.account x.certificate x.ensures.makes x.ensures.follows x.ensures.accepted)

pub returns-in-Ok-clause-well : goal.returns-in-Ok-clause-well
returns-in-Ok-clause-well g c = verified_well c.args.raw.now c.in-Ok.ensures.well_formed

pub returns-in-Ok-clause-told : goal.returns-in-Ok-clause-told
returns-in-Ok-clause-told g c =
    let e = c.args.raw.now in
    let m = c.units-meter in
    let m' = c.make_cert.new.m in
    let x = c.in-Ok in
    let made = making_says c.args.turns e m.result m' m.ensures.nest m.ensures.account x.certificate x.ensures.makes x.ensures.follows x.ensures.accepted in
    making_told g.R.Report.shown c.args.turns e x.certificate m'.account c.check_facts.result c.args.reports.now.items c.tell_check.new.reports.items made c.check_facts.ensures.is c.tell_check.ensures.told
