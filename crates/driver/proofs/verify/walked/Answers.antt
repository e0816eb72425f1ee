use Rattle.std.proofs.Common.{Err, subst}
use Rattle.env_cert.specs.Verified.{Verifies}
use Rattle.driver.proofs.VerifySaying.{verified_well, walk_barred, walk_deep, walk_passes, walk_unpaid}
use Rattle.driver.proofs.verify.walked.Goals as goal

pub returns-in-Ok-clause-says : goal.returns-in-Ok-clause-says
returns-in-Ok-clause-says c =
    let e = c.args.raw.now in
    let m = c.units-meter in
    walk_passes c.args.turns e c.args.certificate.now m.result c.verify_env.new.m m.ensures.nest m.ensures.account c.in-Ok.ensures.walks

pub returns-in-Ok-clause-well : goal.returns-in-Ok-clause-well
returns-in-Ok-clause-well c = verified_well c.args.raw.now c.in-Ok.ensures.well_formed

pub returns-in-Err-Bad-clause-says : goal.returns-in-Err-Bad-clause-says
returns-in-Err-Bad-clause-says c =
    let e = c.args.raw.now in
    let items = c.args.certificate.now in
    let m = c.units-meter in
    let x = c.in-Err-Bad in
    walk_barred c.args.turns e items m.result c.verify_env.new.m m.ensures.nest m.ensures.account x.item (subst (λ r. Verifies e items (Err r) m.result c.verify_env.new.m) x.field-0-is x.ensures.walks)

pub returns-in-Err-Spent-clause-says : goal.returns-in-Err-Spent-clause-says
returns-in-Err-Spent-clause-says c =
    let e = c.args.raw.now in
    let items = c.args.certificate.now in
    let m = c.units-meter in
    let x = c.in-Err-Spent in
    walk_unpaid c.args.turns e items m.result c.verify_env.new.m m.ensures.nest m.ensures.account (subst (λ r. Verifies e items (Err r) m.result c.verify_env.new.m) x.field-0-is x.ensures.walks)

pub returns-in-Err-TooDeep-clause-says : goal.returns-in-Err-TooDeep-clause-says
returns-in-Err-TooDeep-clause-says c =
    let e = c.args.raw.now in
    let items = c.args.certificate.now in
    let m = c.units-meter in
    let x = c.in-Err-TooDeep in
    walk_deep c.args.turns e items m.result c.verify_env.new.m m.ensures.nest m.ensures.account (subst (λ r. Verifies e items (Err r) m.result c.verify_env.new.m) x.field-0-is x.ensures.walks)
