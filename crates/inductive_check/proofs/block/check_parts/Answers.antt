use Rattle.std.proofs.Common.{◌≡◌, ◌∙◌, [], ap, sym, refl}
use Rattle.calculus_rules.specs.Context.{extend}
use Rattle.pc_rules.specs.Entailment.{test_of}
use Rattle.pc_rules.proofs.Following.{follows_bind, follows_halted, follows_memory, follows_done}
use Rattle.pc_rules.proofs.Leaving.{leaving}
use Rattle.rule_laws.proofs.MatchRule.{all_formed}
use Rattle.inductive_check.specs.Given.{block_from}
use Rattle.inductive_check.proofs.Heading.{block_run, heads_env, heads_context, heads_families}
use Rattle.std.proofs.lemmas.Result.{err_from_is_err_and}
use Rattle.inductive_check.proofs.block.check_parts.Goals as goal

pub returns-in_err-enter-clause-follows : goal.returns-in_err-enter-clause-follows
returns-in_err-enter-clause-follows g c =
    let E = c.args.setting.now.env.now in
    let B = block_from c.args.setting.now.block c.args.params.now c.args.families.now in
    let f = rw c.new-ctx.ensures.empty at c.in_err-enter.ensures.follows in
    rw (block_run E (test_of E) c.args.setting.now.room B c.args.m.now.account)
    (follows_halted _ _ _ _ _ _ c.from_residual.ensures.1 f (search leaving depth 8))

pub returns-in_err-check_heads-clause-follows : goal.returns-in_err-check_heads-clause-follows
returns-in_err-check_heads-clause-follows g c =
    let E = c.args.setting.now.env.now in
    let B = block_from c.args.setting.now.block c.args.params.now c.args.families.now in
    let f1 = rw c.new-ctx.ensures.empty at c.in_ok-enter.ensures.follows in
    let ep : extend [] c.args.params.now ≡ c.enter.new.ctx = sym (c.in_ok-enter.ensures.longer ∙ ap (λ d. extend d c.args.params.now) c.new-ctx.ensures.empty) in
    let f2 = c.in_err-check_heads.ensures.follows B ep in
    rw (block_run E (test_of E) c.args.setting.now.room B c.args.m.now.account)
    (follows_bind _ _ _ _ _ _ _ f1 (follows_halted _ _ _ _ _ _ c.from_residual-in_err-check_heads.ensures.1 f2 (search leaving)))

pub check_families-requires-clause-env : goal.check_families-requires-clause-env
check_families-requires-clause-env g c =
    rw c.in_ok-under.ensures.ok
    (heads_env c.args.setting.now.env.now c.requires.env c.args.setting.now.block c.args.params.now c.args.families.now c.requires.new c.in_ok-enter.ensures.counted c.in_ok-check_heads.ensures.counted)

pub check_families-requires-clause-ctx : goal.check_families-requires-clause-ctx
check_families-requires-clause-ctx g c =
    rw c.in_ok-under.ensures.ok
    (heads_context c.args.setting.now.env.now c.requires.env c.args.setting.now.block c.args.params.now c.args.families.now c.requires.new c.enter.new.ctx c.in_ok-enter.ensures.context)

pub check_families-requires-clause-heads : goal.check_families-requires-clause-heads
check_families-requires-clause-heads g c =
    rw c.in_ok-under.ensures.ok
    (heads_families c.args.setting.now.env.now c.requires.env c.args.setting.now.block c.args.params.now c.args.families.now c.requires.new c.in_ok-enter.ensures.counted
    c.in_ok-check_heads.ensures.counted)

pub returns-in_err-families-clause-follows : goal.returns-in_err-families-clause-follows
returns-in_err-families-clause-follows g c =
    let E = c.args.setting.now.env.now in
    let B = block_from c.args.setting.now.block c.args.params.now c.args.families.now in
    let f1 = rw c.new-ctx.ensures.empty at c.in_ok-enter.ensures.follows in
    let ep : extend [] c.args.params.now ≡ c.enter.new.ctx = sym (c.in_ok-enter.ensures.longer ∙ ap (λ d. extend d c.args.params.now) c.new-ctx.ensures.empty) in
    let f2 = c.in_ok-check_heads.ensures.follows B ep in
    let f3 = rw c.in_ok-under.ensures.ok at c.in_err-families.ensures.follows B refl ep in
    rw (block_run E (test_of E) c.args.setting.now.room B c.args.m.now.account)
    (follows_bind _ _ _ _ _ _ _ f1 (follows_bind _ _ _ _ _ _ _ f2 (follows_halted _ _ _ _ _ _ c.from_residual-in_err-families.ensures.1 f3 (search leaving))))

pub returns-clause-follows : goal.returns-clause-follows
returns-clause-follows g c =
    let E = c.args.setting.now.env.now in
    let B = block_from c.args.setting.now.block c.args.params.now c.args.families.now in
    let f1 = rw c.new-ctx.ensures.empty at c.in_ok-enter.ensures.follows in
    let ep : extend [] c.args.params.now ≡ c.enter.new.ctx = sym (c.in_ok-enter.ensures.longer ∙ ap (λ d. extend d c.args.params.now) c.new-ctx.ensures.empty) in
    let f2 = c.in_ok-check_heads.ensures.follows B ep in
    let f3 = rw c.in_ok-under.ensures.ok at c.in_ok-families.ensures.follows B refl ep in
    rw (block_run E (test_of E) c.args.setting.now.room B c.args.m.now.account, c.in_ok-params.ensures.ok)
    (follows_bind _ _ _ _ _ _ _ f1 (follows_bind _ _ _ _ _ _ _ f2 (follows_bind _ _ _ _ _ _ _ f3 (follows_done _ c.check_families.new.m))))

pub returns-clause-formed : goal.returns-clause-formed
returns-clause-formed g c = (all_formed c.args.setting.now.env.now c.args.params.now c.in_ok-enter.ensures.counted, c.in_ok-families.ensures.formed)

pub returns-in_err-under-clause-follows : goal.returns-in_err-under-clause-follows
returns-in_err-under-clause-follows g c =
    let E = c.args.setting.now.env.now in
    let B = block_from c.args.setting.now.block c.args.params.now c.args.families.now in
    let f1 = rw c.new-ctx.ensures.empty at c.in_ok-enter.ensures.follows in
    let ep : extend [] c.args.params.now ≡ c.enter.new.ctx = sym (c.in_ok-enter.ensures.longer ∙ ap (λ d. extend d c.args.params.now) c.new-ctx.ensures.empty) in
    let f2 = c.in_ok-check_heads.ensures.follows B ep in
    let p = err_from_is_err_and c.from_residual-in_err-under.result c.from_residual-in_err-under.ensures.1 in
    rw (block_run E (test_of E) c.args.setting.now.room B c.args.m.now.account, p.1, p.2, c.in_err-under.ensures.only_memory)
    (follows_bind _ _ _ _ _ _ _ f1 (follows_bind _ _ _ _ _ _ _ f2 (follows_memory _ c.check_heads.new.m (search leaving))))

pub returns-in_err-params-clause-follows : goal.returns-in_err-params-clause-follows
returns-in_err-params-clause-follows g c =
    let E = c.args.setting.now.env.now in
    let B = block_from c.args.setting.now.block c.args.params.now c.args.families.now in
    let f1 = rw c.new-ctx.ensures.empty at c.in_ok-enter.ensures.follows in
    let ep : extend [] c.args.params.now ≡ c.enter.new.ctx = sym (c.in_ok-enter.ensures.longer ∙ ap (λ d. extend d c.args.params.now) c.new-ctx.ensures.empty) in
    let f2 = c.in_ok-check_heads.ensures.follows B ep in
    let f3 = rw c.in_ok-under.ensures.ok at c.in_ok-families.ensures.follows B refl ep in
    let p = err_from_is_err_and c.from_residual-in_err-params.result c.from_residual-in_err-params.ensures.1 in
    rw (block_run E (test_of E) c.args.setting.now.room B c.args.m.now.account, p.1, p.2, c.in_err-params.ensures.only_memory)
    (follows_bind _ _ _ _ _ _ _ f1 (follows_bind _ _ _ _ _ _ _ f2 (follows_bind _ _ _ _ _ _ _ f3 (follows_memory _ c.check_families.new.m (search leaving)))))
