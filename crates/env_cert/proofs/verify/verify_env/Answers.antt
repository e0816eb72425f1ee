use Rattle.std.proofs.Common.{refl}
use Rattle.env_cert.proofs.Whole.{verifies, verified_well_formed}
use Rattle.env_cert.proofs.verify.verify_env.Goals as goal

pub returns-clause-walks : goal.returns-clause-walks
returns-clause-walks g c =
    let w = rw c.items.ensures.is at c.walk_env-answer.ensures.walks in
    rw c.verified.ensures.is (verifies c.args.raw.now c.args.cert.now _ c.walk_env-answer.new.trail c.args.m.now _ refl refl refl refl c.walk_env-answer.result w)

pub returns-clause-well_formed : goal.returns-clause-well_formed
returns-clause-well_formed g c =
    rw c.verified.ensures.is (verified_well_formed c.args.raw.now c.walk_env-answer.result c.walk_env-answer.ensures.well_formed)
