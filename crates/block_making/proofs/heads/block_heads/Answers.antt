use Rattle.std.proofs.Common.{rules, ◌∙◌, ap, sym}
use Rattle.calculus_rules.specs.Context.{extend}
use Rattle.type_infer.specs.Ready.{IsReady}
use Rattle.inductive_check.specs.Given.{block_from}
use Rattle.type_making.proofs.Grouping.{makes_after, makes_before}
use Rattle.type_making.proofs.Starting.{makes_with}
use Rattle.block_making.specs.BlockMaking.{heads_making}
use Rattle.block_making.proofs.heads.block_heads.Goals as goal

pub entered-requires : goal.entered-requires
entered-requires g c =
    let r : IsReady c.args.typer.now.maker.env.now c.new-none.result = rw c.new-none.ensures.empty c.requires.ready in
    search rules

pub returns-in_err-ctx-clause-makes : goal.returns-in_err-ctx-clause-makes
returns-in_err-ctx-clause-makes g c = λ k.
    let v = c.args.typer.now.maker in
    let B = block_from k c.args.params.now c.args.families.now in
    let p = rw c.new-none.ensures.empty at c.in_err-ctx.ensures.makes in
    makes_with c.from_residual.result c.from_residual.ensures.1 (makes_before (λ w. heads_making v.env.now v.room B B.families w) _ p)

pub heads-requires : goal.heads-requires
heads-requires g c =
    let n = c.in_ok-ctx.ensures.makes.after.nest in
    search rules

pub returns-in_err-heads-clause-makes : goal.returns-in_err-heads-clause-makes
returns-in_err-heads-clause-makes g c = λ k.
    let v = c.args.typer.now.maker in
    let B = block_from k c.args.params.now c.args.families.now in
    let p = rw c.new-none.ensures.empty at c.in_ok-ctx.ensures.makes in
    let longer = c.in_ok-ctx.ensures.longer ∙ ap (λ d. extend d c.args.params.now) c.new-none.ensures.empty in
    let q = c.in_err-heads.ensures.makes B (sym longer) in
    makes_with c.from_residual-in_err-heads.result c.from_residual-in_err-heads.ensures.1 (makes_after (λ w. heads_making v.env.now v.room B B.families w) _ p q)

pub returns-clause-makes : goal.returns-clause-makes
returns-clause-makes g c = λ k.
    let v = c.args.typer.now.maker in
    let B = block_from k c.args.params.now c.args.families.now in
    let p = rw c.new-none.ensures.empty at c.in_ok-ctx.ensures.makes in
    let longer = c.in_ok-ctx.ensures.longer ∙ ap (λ d. extend d c.args.params.now) c.new-none.ensures.empty in
    let q = c.in_ok-heads.ensures.makes B (sym longer) in
    makes_after (λ w. heads_making v.env.now v.room B B.families w) _ p q
