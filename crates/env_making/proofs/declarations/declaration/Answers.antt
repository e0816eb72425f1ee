use Rattle.std.proofs.Common.{rules}
use Rattle.calculus_rules.specs.Lookups.{kept_at}
use Rattle.pc_rules.specs.Lookup.{IsNew}
use Rattle.pc_rules.specs.DirectedDeclarations.{fresh_name}
use Rattle.script_making.proofs.Making.{makes_on, makes_err, makes_passed, makes_answers}
use Rattle.env_making.proofs.Declaring.{block_halts, block_kept}
use Rattle.env_making.proofs.declarations.declaration.Goals as goal

pub returns-in_err-check_name-in-Constant : goal.returns-in_err-check_name-in-Constant
returns-in_err-check_name-in-Constant g c =
    let x = c.in-Constant in
    let f = fresh_name (kept_at c.args.typer.now.maker.env.now.declarations x.name) x.name in
    record { makes = rw x.is (makes_passed c.from_residual.ensures.1 (makes_err _ (makes_answers f (c.in_err-check_name-in-Constant.ensures.answers _)))) }

pub returns-in_ok-check_name-in-Constant : goal.returns-in_ok-check_name-in-Constant
returns-in_ok-check_name-in-Constant g c =
    let x = c.in-Constant in
    let f = fresh_name (kept_at c.args.typer.now.maker.env.now.declarations x.name) x.name in
    record { makes = rw x.is (makes_on _ (makes_answers f (c.in_ok-check_name-in-Constant.ensures.answers _)) c.constant.ensures.makes) }

pub returns-in_err-check_name-in-Block : goal.returns-in_err-check_name-in-Block
returns-in_err-check_name-in-Block g c =
    let x = c.in-Block in
    let f = fresh_name (kept_at c.args.typer.now.maker.env.now.declarations x.name) x.name in
    record { makes = rw x.is (makes_passed c.from_residual-in_err-check_name-in-Block.ensures.1 (makes_err _ (makes_answers f (c.in_err-check_name-in-Block.ensures.answers _)))) }

pub make_block-requires : goal.make_block-requires
make_block-requires g c =
    let x = c.in-Block in
    let new : IsNew c.args.typer.now.maker.env.now x.name = c.in_ok-check_name-in-Block.ensures.new in
    rw x.is (search rules)

pub returns-in_err-block-in-Block : goal.returns-in_err-block-in-Block
returns-in_err-block-in-Block g c =
    let x = c.in-Block in
    let v = c.args.typer.now.maker in
    let f = makes_answers (fresh_name (kept_at v.env.now.declarations x.name) x.name) {t = c.args.draft.now} (c.in_ok-check_name-in-Block.ensures.answers _) in
    record { makes = makes_passed c.from_residual-in_err-block-in-Block.ensures.1 (block_halts v.env.now v.room x.name x.params x.families c.args.decl.now x.is _ _ f _ c.in_err-block-in-Block.ensures.makes) }

pub returns-in_ok-block-in-Block : goal.returns-in_ok-block-in-Block
returns-in_ok-block-in-Block g c =
    let x = c.in-Block in
    let v = c.args.typer.now.maker in
    let f = makes_answers (fresh_name (kept_at v.env.now.declarations x.name) x.name) {t = c.args.draft.now} (c.in_ok-check_name-in-Block.ensures.answers _) in
    record { makes = block_kept v.env.now v.room x.name x.params x.families c.args.decl.now x.is _ _ f _ c.in_ok-block-in-Block.ensures.makes }
