use Rattle.std.proofs.Common.{rules}
use Rattle.type_infer.specs.Ready.{IsReady}
use Rattle.type_infer.proofs.Finding.{if_ok}
use Rattle.type_cert.proofs.Retracing.{retraces_pass}
use Rattle.env_cert.proofs.constants.check_body.Goals as goal

pub returns-in-None : goal.returns-in-None
returns-in-None g c = rw c.in-None.is (record { retraces = retraces_pass _ _; formed = tt })

pub check-requires : goal.check-requires
check-requires g c =
    let r : IsReady c.args.walk.now.verifier.env.now c.new-none.result = rw c.new-none.ensures.empty c.requires.ready in
    search rules

pub returns-in-Some : goal.returns-in-Some
returns-in-Some g c =
    let p = rw c.new-none.ensures.empty at c.check.ensures.retraces in
    rw c.in-Some.is (record { retraces = p; formed = if_ok _ c.check.result c.view.ensures.formed })
