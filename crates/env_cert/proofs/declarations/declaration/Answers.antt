use Rattle.std.proofs.Common.{rules}
use Rattle.calculus_rules.specs.Lookups.{kept_at}
use Rattle.pc_rules.specs.Lookup.{IsNew}
use Rattle.pc_rules.specs.DirectedDeclarations.{fresh_name}
use Rattle.type_cert.proofs.Retracing.{retraces_on, retraces_err, retraces_passed, retraces_answers, told_of}
use Rattle.env_cert.proofs.Declaring.{block_halts, block_kept}
use Rattle.env_cert.proofs.declarations.declaration.Goals as goal

pub returns-in_err-at_item-in-Constant-clause-retraces : goal.returns-in_err-at_item-in-Constant-clause-retraces
returns-in_err-at_item-in-Constant-clause-retraces g c =
    let x = c.in-Constant in
    let f = fresh_name (kept_at c.args.walk.now.verifier.env.now.declarations x.name) x.name in
    rw x.is (retraces_passed c.from_residual.ensures.1 (retraces_err _ (retraces_answers f _ c.in_err-at_item-in-Constant.ensures.is (c.check_name.ensures.answers _))))

pub returns-in_ok-at_item-in-Constant-clause-retraces : goal.returns-in_ok-at_item-in-Constant-clause-retraces
returns-in_ok-at_item-in-Constant-clause-retraces g c =
    let x = c.in-Constant in
    let f = fresh_name (kept_at c.args.walk.now.verifier.env.now.declarations x.name) x.name in
    rw x.is (retraces_on _ (retraces_answers f _ c.in_ok-at_item-in-Constant.ensures.is (c.check_name.ensures.answers _)) c.constant.ensures.retraces)

pub returns-in_ok-at_item-in-Constant-clause-formed : goal.returns-in_ok-at_item-in-Constant-clause-formed
returns-in_ok-at_item-in-Constant-clause-formed g c = rw c.in-Constant.is c.constant.ensures.formed

pub returns-in_err-at_item-in-Block-clause-retraces : goal.returns-in_err-at_item-in-Block-clause-retraces
returns-in_err-at_item-in-Block-clause-retraces g c =
    let x = c.in-Block in
    let f = fresh_name (kept_at c.args.walk.now.verifier.env.now.declarations x.name) x.name in
    rw x.is (retraces_passed c.from_residual-in_err-at_item-in-Block.ensures.1 (retraces_err _ (retraces_answers f _ c.in_err-at_item-in-Block.ensures.is (c.check_name-in-Block.ensures.answers _))))

pub walk_block-requires : goal.walk_block-requires
walk_block-requires g c =
    let x = c.in-Block in
    let new : IsNew c.args.walk.now.verifier.env.now x.name = told_of (λ _. IsNew c.args.walk.now.verifier.env.now x.name) _ _ _ c.in_ok-at_item-in-Block.ensures.is c.check_name-in-Block.ensures.new in
    rw x.is (search rules)

pub returns-in_err-block-in-Block-clause-retraces : goal.returns-in_err-block-in-Block-clause-retraces
returns-in_err-block-in-Block-clause-retraces g c =
    let x = c.in-Block in
    let v = c.args.walk.now.verifier in
    let f = retraces_answers (fresh_name (kept_at v.env.now.declarations x.name) x.name) _ c.in_ok-at_item-in-Block.ensures.is (c.check_name-in-Block.ensures.answers _) in
    retraces_passed c.from_residual-in_err-block-in-Block.ensures.1 (block_halts v x.name x.params x.families c.args.decl.now x.is _ _ f _ c.in_err-block-in-Block.ensures.retraces)

pub returns-in_ok-block-in-Block-clause-retraces : goal.returns-in_ok-block-in-Block-clause-retraces
returns-in_ok-block-in-Block-clause-retraces g c =
    let x = c.in-Block in
    let v = c.args.walk.now.verifier in
    let f = retraces_answers (fresh_name (kept_at v.env.now.declarations x.name) x.name) _ c.in_ok-at_item-in-Block.ensures.is (c.check_name-in-Block.ensures.answers _) in
    block_kept v x.name x.params x.families c.args.decl.now x.is _ _ f _ c.in_ok-block-in-Block.ensures.retraces

pub returns-in_ok-block-in-Block-clause-formed : goal.returns-in_ok-block-in-Block-clause-formed
returns-in_ok-block-in-Block-clause-formed g c =
    let x = c.in-Block in
    let f = rw x.is at c.in_ok-block-in-Block.ensures.formed in
    rw x.is f
