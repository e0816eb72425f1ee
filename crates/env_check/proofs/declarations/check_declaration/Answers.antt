use Rattle.std.proofs.Common.{rules, ◌-◌, map}
use Rattle.calculus_rules.specs.declared.declaration.Block.{Block as BlockOf}
use Rattle.pc_rules.specs.Entailment.{test_of}
use Rattle.pc_rules.specs.DirectedRun.{most_nested}
use Rattle.rule_laws.proofs.TypedCounts.{accepted_counted}
use Rattle.inductive_check.specs.Given.{family_of}
use Rattle.env_check.proofs.Declared.{constant_name_taken, constant_declared, block_name_taken, read_block_halted, read_block_declared, block_checked}
use Rattle.env_check.proofs.declarations.check_declaration.Goals as goal

pub returns-in_err-check_name-in-Constant-clause-follows : goal.returns-in_err-check_name-in-Constant-clause-follows
returns-in_err-check_name-in-Constant-clause-follows g c =
    let E = c.args.env.now in
    let m = c.args.m.now in
    let x = c.in-Constant in
    let p = constant_name_taken E (test_of E) (most_nested - m.nest) x.name x.ty x.body _ m (c.in_err-check_name-in-Constant.ensures.answers m.account) in
    rw x.is (search rules)

pub returns-in_ok-check_name-in-Constant-clause-follows : goal.returns-in_ok-check_name-in-Constant-clause-follows
returns-in_ok-check_name-in-Constant-clause-follows g c =
    let E = c.args.env.now in
    let m = c.args.m.now in
    let x = c.in-Constant in
    rw x.is
    (constant_declared E (test_of E) (most_nested - m.nest) x.name x.ty x.body _ m _ (c.in_ok-check_name-in-Constant.ensures.answers m.account) c.check_constant.ensures.follows)

pub returns-in_err-check_name-in-Block-clause-follows : goal.returns-in_err-check_name-in-Block-clause-follows
returns-in_err-check_name-in-Block-clause-follows g c =
    let E = c.args.env.now in
    let m = c.args.m.now in
    let x = c.in-Block in
    let B : BlockOf = record { name = x.name; params = x.params; families = map family_of x.families } in
    let p = block_name_taken E (test_of E) (most_nested - m.nest) B _ m (c.in_err-check_name-in-Block.ensures.answers m.account) in
    rw x.is (search rules)

pub check_block-requires-clause-env : goal.check_block-requires-clause-env
check_block-requires-clause-env g c = accepted_counted c.args.env.now c.requires.accepted

pub returns-in_err-block-in-Block-clause-follows : goal.returns-in_err-block-in-Block-clause-follows
returns-in_err-block-in-Block-clause-follows g c =
    let E = c.args.env.now in
    let m = c.args.m.now in
    let x = c.in-Block in
    let p = read_block_halted E (test_of E) (most_nested - m.nest) x.name x.params x.families c.args.decl.now x.is _ m _ (c.in_ok-check_name-in-Block.ensures.answers m.account) c.in_err-block-in-Block.ensures.follows in
    search rules

pub returns-in_ok-block-in-Block-clause-follows : goal.returns-in_ok-block-in-Block-clause-follows
returns-in_ok-block-in-Block-clause-follows g c =
    let E = c.args.env.now in
    let m = c.args.m.now in
    let x = c.in-Block in
    read_block_declared E (test_of E) (most_nested - m.nest) x.name x.params x.families c.args.decl.now x.is _ m _ (c.in_ok-check_name-in-Block.ensures.answers m.account) c.in_ok-block-in-Block.ensures.follows

pub returns-in_ok-block-in-Block-clause-checked : goal.returns-in_ok-block-in-Block-clause-checked
returns-in_ok-block-in-Block-clause-checked g c =
    let x = c.in-Block in
    let B : BlockOf = record { name = x.name; params = x.params; families = map family_of x.families } in
    let fits = rw x.is at c.in_ok-block-in-Block.ensures.fits in
    rw x.is (block_checked c.args.env.now B _ c.requires.accepted c.in_ok-check_name-in-Block.ensures.new fits)
