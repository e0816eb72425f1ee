use Rattle.std.proofs.Common.{◌-◌}
use Rattle.pc_rules.specs.Entailment.{test_of}
use Rattle.pc_rules.specs.DirectedRun.{most_nested}
use Rattle.rule_laws.proofs.TypedCounts.{accepted_counted}
use Rattle.env_check.proofs.Steps.{main_done, main_halted, main_place}
use Rattle.env_check.proofs.check.check_main.Goals as goal

pub infer-requires-clause-env : goal.infer-requires-clause-env
infer-requires-clause-env g c = accepted_counted c.args.env c.requires.accepted

pub returns-in-Err-clause-answers : goal.returns-in-Err-clause-answers
returns-in-Err-clause-answers g c =
    let e = c.new.ensures.empty in
    let f = rw e at c.in-Err.ensures.follows in
    let m = c.args.m.now in
    rw c.refusal_at.ensures.is
    (main_halted c.args.env (test_of c.args.env) (most_nested - m.nest) c.args.main.now m.account c.infer-2.new.m.account c.in-Err.halt f.answer)

pub returns-in-Err-clause-placed : goal.returns-in-Err-clause-placed
returns-in-Err-clause-placed g c =
    let e = c.new.ensures.empty in
    let f = rw e at c.in-Err.ensures.follows in
    let m = c.args.m.now in
    rw c.refusal_at.ensures.is (main_place c.args.env (most_nested - m.nest) c.args.main.now m.account c.infer-2.new.m.account c.in-Err.halt f.answer)

pub returns-clause-answers : goal.returns-clause-answers
returns-clause-answers g c =
    let e = c.new.ensures.empty in
    let f = rw e at c.in-Ok.ensures.follows in
    let m = c.args.m.now in
    main_done c.args.env (test_of c.args.env) (most_nested - m.nest) c.args.main.now c.in-Ok.main_type m.account c.infer-2.new.m.account f.answer
