use Rattle.std.proofs.Common.{rules}
use Rattle.type_infer.specs.Ready.{IsReady}
use Rattle.script_making.proofs.Making.{makes_done}
use Rattle.env_making.proofs.constants.check_body.Goals as goal

pub returns-in-None : goal.returns-in-None
returns-in-None g c = rw c.in-None.is (record { makes = makes_done _ _ })

pub check-requires : goal.check-requires
check-requires g c =
    let r : IsReady c.args.typer.now.maker.env.now c.new-none.result = rw c.new-none.ensures.empty c.requires.ready in
    search rules

pub returns-in-Some : goal.returns-in-Some
returns-in-Some g c =
    let p = rw c.new-none.ensures.empty at c.check.ensures.makes in
    rw c.in-Some.is (record { makes = p })
