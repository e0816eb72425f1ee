use Rattle.std.proofs.Common.{refl, sym}
use Rattle.inductive_check.specs.Given.{block_from}
use Rattle.inductive_check.proofs.Heading.{heads_context, heads_env, heads_families}
use Rattle.type_infer.proofs.Beginning.{ready_from}
use Rattle.script_making.proofs.Making.{makes_on, makes_err, makes_done, makes_memory, makes_passed}
use Rattle.block_making.proofs.block.make_parts.Goals as goal

pub returns-in_err-ctx : goal.returns-in_err-ctx
returns-in_err-ctx g c = record { makes = makes_passed c.from_residual.ensures.1 (makes_err _ (c.in_err-ctx.ensures.makes c.args.name)) }

pub returns-in_err-under : goal.returns-in_err-under
returns-in_err-under g c =
    record { makes = makes_passed c.from_residual-in_err-under.ensures.1 (rw c.in_err-under.ensures.only_memory (makes_on _ (c.in_ok-ctx.ensures.makes c.args.name) (makes_memory _ _))) }

pub families-requires-clause-ready : goal.families-requires-clause-ready
families-requires-clause-ready g c =
    let E = c.args.typer.now.maker.env.now in
    let r = c.requires.ready in
    let k = c.args.name in
    let ps = c.args.params.now in
    let fs = c.args.listed.now in
    let d = c.in_ok-ctx.ctx in
    rw c.in_ok-under.ensures.ok
    (ready_from _ d (heads_env E r.env k ps fs c.requires.new c.in_ok-ctx.ensures.params c.in_ok-ctx.ensures.counted)
    (heads_context E r.env k ps fs c.requires.new d c.in_ok-ctx.ensures.ready.context) r.consistent)

pub families-requires-clause-heads : goal.families-requires-clause-heads
families-requires-clause-heads g c =
    rw c.in_ok-under.ensures.ok
    (heads_families c.args.typer.now.maker.env.now c.requires.ready.env c.args.name c.args.params.now c.args.listed.now c.requires.new c.in_ok-ctx.ensures.params c.in_ok-ctx.ensures.counted)

pub returns-in_err-made : goal.returns-in_err-made
returns-in_err-made g c =
    let B = block_from c.args.name c.args.params.now c.args.listed.now in
    let f1 = c.in_ok-ctx.ensures.makes c.args.name in
    let f2 = rw c.in_ok-under.ensures.ok at c.in_err-made.ensures.makes B refl (sym c.in_ok-ctx.ensures.longer) in
    record { makes = makes_passed c.from_residual-in_err-made.ensures.1 (makes_on _ f1 (makes_err _ f2)) }

pub returns-in_err-shared_telescope : goal.returns-in_err-shared_telescope
returns-in_err-shared_telescope g c =
    let B = block_from c.args.name c.args.params.now c.args.listed.now in
    let f1 = c.in_ok-ctx.ensures.makes c.args.name in
    let f2 = rw c.in_ok-under.ensures.ok at c.in_ok-made.ensures.makes B refl (sym c.in_ok-ctx.ensures.longer) in
    record { makes = makes_passed c.from_residual-in_err-shared_telescope.ensures.1 (rw c.in_err-shared_telescope.ensures.only_memory (makes_on _ f1 (makes_on _ f2 (makes_memory _ _)))) }

pub returns : goal.returns
returns g c =
    let B = block_from c.args.name c.args.params.now c.args.listed.now in
    let f1 = c.in_ok-ctx.ensures.makes c.args.name in
    let f2 = rw c.in_ok-under.ensures.ok at c.in_ok-made.ensures.makes B refl (sym c.in_ok-ctx.ensures.longer) in
    record { makes = rw c.in_ok-shared_telescope.ensures.ok (makes_on _ f1 (makes_on _ f2 (makes_done _ _))) }
