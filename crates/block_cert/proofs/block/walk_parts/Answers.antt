use Rattle.std.proofs.Common.{sym}
use Rattle.pc_rules.specs.DirectedDeclarations.{with_families, with_heads}
use Rattle.rule_laws.proofs.MatchRule.{all_formed}
use Rattle.inductive_check.specs.Given.{block_from}
use Rattle.inductive_check.proofs.Heading.{heads_families}
use Rattle.cert_rules.specs.Walk.{pass}
use Rattle.type_cert.proofs.Retracing.{retraces_on, retraces_err, retraces_pass, retraces_memory, retraces_passed}
use Rattle.block_cert.proofs.Heading.{heads_ready}
use Rattle.block_cert.proofs.Whole.{positivity_then, positivity_halts}
use Rattle.block_cert.proofs.block.walk_parts.Goals as goal

pub returns-in_err-ctx-clause-retraces : goal.returns-in_err-ctx-clause-retraces
returns-in_err-ctx-clause-retraces g c = retraces_passed c.from_residual.ensures.1 (retraces_err _ (c.in_err-ctx.ensures.retraces c.args.name))

pub returns-in_err-under-clause-retraces : goal.returns-in_err-under-clause-retraces
returns-in_err-under-clause-retraces g c =
    retraces_passed c.from_residual-in_err-under.ensures.1 (rw c.in_err-under.ensures.only_memory (retraces_on _ (c.in_ok-ctx.ensures.retraces c.args.name) (retraces_memory _ _)))

pub families-requires-clause-ready : goal.families-requires-clause-ready
families-requires-clause-ready g c =
    let E = c.args.walk.now.verifier.env.now in
    rw c.in_ok-under.ensures.ok
    (heads_ready E c.args.name c.args.params.now c.args.listed.now c.requires.new c.in_ok-ctx.ensures.params c.in_ok-ctx.ensures.counted c.in_ok-ctx.ctx c.in_ok-ctx.ensures.ready)

pub families-requires-clause-heads : goal.families-requires-clause-heads
families-requires-clause-heads g c =
    rw c.in_ok-under.ensures.ok
    (heads_families c.args.walk.now.verifier.env.now c.requires.ready.env c.args.name c.args.params.now c.args.listed.now c.requires.new c.in_ok-ctx.ensures.params c.in_ok-ctx.ensures.counted)

pub returns-in_err-made-clause-retraces : goal.returns-in_err-made-clause-retraces
returns-in_err-made-clause-retraces g c =
    let B = block_from c.args.name c.args.params.now c.args.listed.now in
    let f1 = c.in_ok-ctx.ensures.retraces c.args.name in
    let f2 = rw c.in_ok-under.ensures.ok at c.in_err-made.ensures.retraces B (sym c.in_ok-ctx.ensures.longer) in
    retraces_passed c.from_residual-in_err-made.ensures.1 (retraces_on _ f1 (retraces_err _ f2))

pub returns-in_err-positivity-clause-retraces : goal.returns-in_err-positivity-clause-retraces
returns-in_err-positivity-clause-retraces g c =
    let B = block_from c.args.name c.args.params.now c.args.listed.now in
    let H = with_heads c.args.walk.now.verifier.env.now B in
    let f1 = c.in_ok-ctx.ensures.retraces c.args.name in
    let f2 = rw c.in_ok-under.ensures.ok at c.in_ok-made.ensures.retraces B (sym c.in_ok-ctx.ensures.longer) in
    let f3 = rw (c.in_ok-under.ensures.ok, c.requires.parts) at c.in_err-positivity.ensures.retraces in
    retraces_passed c.from_residual-in_err-positivity.ensures.1
    (retraces_on _ f1 (retraces_on _ f2 (positivity_halts H B (λ s. pass (with_families B c.in_ok-made.made) s) f3)))

pub returns-in_err-shared_telescope-clause-retraces : goal.returns-in_err-shared_telescope-clause-retraces
returns-in_err-shared_telescope-clause-retraces g c =
    let B = block_from c.args.name c.args.params.now c.args.listed.now in
    let H = with_heads c.args.walk.now.verifier.env.now B in
    let f1 = c.in_ok-ctx.ensures.retraces c.args.name in
    let f2 = rw c.in_ok-under.ensures.ok at c.in_ok-made.ensures.retraces B (sym c.in_ok-ctx.ensures.longer) in
    let f3 = rw (c.in_ok-under.ensures.ok, c.requires.parts) at c.in_ok-positivity.ensures.retraces in
    retraces_passed c.from_residual-in_err-shared_telescope.ensures.1 (rw c.in_err-shared_telescope.ensures.only_memory
    (retraces_on _ f1 (retraces_on _ f2 (positivity_then H B (λ s. pass (with_families B c.in_ok-made.made) s) f3 (retraces_memory _ _)))))

pub returns-clause-retraces : goal.returns-clause-retraces
returns-clause-retraces g c =
    let B = block_from c.args.name c.args.params.now c.args.listed.now in
    let H = with_heads c.args.walk.now.verifier.env.now B in
    let f1 = c.in_ok-ctx.ensures.retraces c.args.name in
    let f2 = rw c.in_ok-under.ensures.ok at c.in_ok-made.ensures.retraces B (sym c.in_ok-ctx.ensures.longer) in
    let f3 = rw (c.in_ok-under.ensures.ok, c.requires.parts) at c.in_ok-positivity.ensures.retraces in
    rw c.in_ok-shared_telescope.ensures.ok
    (retraces_on _ f1 (retraces_on _ f2 (positivity_then H B (λ s. pass (with_families B c.in_ok-made.made) s) f3 (retraces_pass (with_families B c.in_ok-made.made) _))))

pub returns-clause-formed : goal.returns-clause-formed
returns-clause-formed g c = (all_formed c.args.walk.now.verifier.env.now c.args.params.now c.in_ok-ctx.ensures.params, c.in_ok-made.ensures.formed)
