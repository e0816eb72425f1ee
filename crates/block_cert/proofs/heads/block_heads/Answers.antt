use Rattle.std.proofs.Common.{rules, ◌∙◌, ap, sym}
use Rattle.calculus_rules.specs.Context.{extend}
use Rattle.type_infer.specs.Ready.{IsReady}
use Rattle.inductive_check.specs.Given.{block_from}
use Rattle.type_cert.proofs.Retracing.{retraces_after, retraces_before, retraces_with}
use Rattle.block_cert.specs.BlockWalks.{heads_walk}
use Rattle.block_cert.proofs.heads.block_heads.Goals as goal

pub entered-requires : goal.entered-requires
entered-requires g c =
    let r : IsReady c.args.walk.now.verifier.env.now c.new-none.result = rw c.new-none.ensures.empty c.requires.ready in
    search rules

pub returns-in_err-ctx-clause-retraces : goal.returns-in_err-ctx-clause-retraces
returns-in_err-ctx-clause-retraces g c = λ k.
    let B = block_from k c.args.params.now c.args.families.now in
    let p = rw c.new-none.ensures.empty at c.in_err-ctx.ensures.retraces in
    retraces_with c.from_residual.result c.from_residual.ensures.1 (retraces_before (λ s. heads_walk c.args.walk.now.verifier B B.families s) _ p)

pub heads-requires : goal.heads-requires
heads-requires g c =
    let n = c.in_ok-ctx.ensures.retraces.after.nest in
    search rules

pub returns-in_err-heads-clause-retraces : goal.returns-in_err-heads-clause-retraces
returns-in_err-heads-clause-retraces g c = λ k.
    let B = block_from k c.args.params.now c.args.families.now in
    let p = rw c.new-none.ensures.empty at c.in_ok-ctx.ensures.retraces in
    let longer = c.in_ok-ctx.ensures.longer ∙ ap (λ d. extend d c.args.params.now) c.new-none.ensures.empty in
    let q = c.in_err-heads.ensures.retraces B (sym longer) in
    retraces_with c.from_residual-in_err-heads.result c.from_residual-in_err-heads.ensures.1 (retraces_after (λ s. heads_walk c.args.walk.now.verifier B B.families s) _ p q)

pub returns-clause-retraces : goal.returns-clause-retraces
returns-clause-retraces g c = λ k.
    let B = block_from k c.args.params.now c.args.families.now in
    let p = rw c.new-none.ensures.empty at c.in_ok-ctx.ensures.retraces in
    let longer = c.in_ok-ctx.ensures.longer ∙ ap (λ d. extend d c.args.params.now) c.new-none.ensures.empty in
    let q = c.in_ok-heads.ensures.retraces B (sym longer) in
    retraces_after (λ s. heads_walk c.args.walk.now.verifier B B.families s) _ p q
