use Rattle.std.proofs.Common.{rules, ◌≡◌, ◌∙◌, ◌++◌, ◌<◌, ◌≤◌, sym, length, map, true, false, arith}
use Rattle.calculus_rules.specs.Positivity.{types_name}
use Rattle.inductive_check.specs.Waiting.{waiting, families_waiting}
use Rattle.inductive_check.proofs.Looping.{pushed}
use Rattle.inductive_check.proofs.Going.{argument_named_none, further_named, no_unit_left, no_memory_left, place_fails, place_goes}
use Rattle.std.proofs.lemmas.Bool.{lt-ltb, le-ltb}
use Rattle.std.proofs.lemmas.Result.{err_from_is_err_and}
use Rattle.inductive_check.proofs.positivity.argument_good.Goals as goal

pub returns-then-not-names-clause-goes : goal.returns-then-not-names-clause-goes
returns-then-not-names-clause-goes c = λ E. argument_named_none E (map waiting c.args.tests.now.items) c.args.target c.args.under c.args.block.now c.args.place c.args.term.now c.args.m.now c.if-not-names.ensures.is

pub returns-then-place-len-clause-goes : goal.returns-then-place-len-clause-goes
returns-then-place-len-clause-goes c = λ E.
    let q : length c.args.block.now.params ≤ c.args.place = grind arith in
    further_named E (map waiting c.args.tests.now.items) c.args.target c.args.under c.args.block.now c.args.place c.args.term.now c.args.m.now (map waiting c.args.tests.now.items) c.if-not-names.ensures.is (le-ltb c.args.place (length c.args.block.now.params) q)

pub returns-then-not-tick-clause-stops : goal.returns-then-not-tick-clause-stops
returns-then-not-tick-clause-stops c = λ E.
    let q : c.args.place < length c.args.block.now.params = grind arith in
    let z : c.args.m.now.account.left ≡ 0 = search rules in
    no_unit_left E (map waiting c.args.tests.now.items) c.args.target c.args.under c.args.block.now c.args.place c.args.term.now c.if-not-names.ensures.is (lt-ltb c.args.place (length c.args.block.now.params) q) c.args.m.now c.tick.new.self z c.tick.ensures.account c.tick.ensures.nest

pub returns-then-branch-clause-goes : goal.returns-then-branch-clause-goes
returns-then-branch-clause-goes c = λ E.
    let q : c.args.place < length c.args.block.now.params = grind arith in
    let p : 0 < c.args.m.now.account.left = search rules in
    let y : true ≡ types_name c.args.block.now c.args.place = sym c.if-branch.true ∙ c.in_ok-types_name.ensures.is in
    place_fails E (map waiting c.args.tests.now.items) c.args.target c.args.under c.args.block.now c.args.place c.args.term.now c.if-not-names.ensures.is (lt-ltb c.args.place (length c.args.block.now.params) q) c.args.m.now c.tick.new.self (map waiting c.args.tests.now.items) p c.tick.ensures.account c.tick.ensures.nest y

pub returns-clause-goes : goal.returns-clause-goes
returns-clause-goes c = λ E.
    let q : c.args.place < length c.args.block.now.params = grind arith in
    let p : 0 < c.args.m.now.account.left = search rules in
    let y : false ≡ types_name c.args.block.now c.args.place = sym c.if-branch.false ∙ c.in_ok-types_name.ensures.is in
    let w = c.in_ok-push_families.ensures.pushed ∙
    (λ z. pushed c.args.tests.now.items c.push.new.items.items _ c.in_ok-push.ensures.longer z ++ families_waiting (c.in_ok-parameter.ensures.is z) c.args.block.now.families) in
    place_goes E (map waiting c.args.tests.now.items) c.args.target c.args.under c.args.block.now c.args.place c.args.term.now c.if-not-names.ensures.is (lt-ltb c.args.place (length c.args.block.now.params) q) c.args.m.now c.tick.new.self (map waiting c.push_families.new.tests.items) p
    c.tick.ensures.account c.tick.ensures.nest y w

pub returns-in_err-parameter-clause-stops : goal.returns-in_err-parameter-clause-stops
returns-in_err-parameter-clause-stops c = λ E.
    let q : c.args.place < length c.args.block.now.params = grind arith in
    let p : 0 < c.args.m.now.account.left = search rules in
    let f = no_memory_left E (map waiting c.args.tests.now.items) c.args.target c.args.under c.args.block.now c.args.place c.args.term.now c.if-not-names.ensures.is (lt-ltb c.args.place (length c.args.block.now.params) q) c.args.m.now c.tick.new.self p
    c.tick.ensures.account c.tick.ensures.nest in
    let e = err_from_is_err_and c.from_residual.result c.from_residual.ensures.1 in
    rw (e.1, e.2, c.in_err-parameter.ensures.only_memory) f

pub returns-in_err-types_name-clause-stops : goal.returns-in_err-types_name-clause-stops
returns-in_err-types_name-clause-stops c = λ E.
    let q : c.args.place < length c.args.block.now.params = grind arith in
    let p : 0 < c.args.m.now.account.left = search rules in
    let f = no_memory_left E (map waiting c.args.tests.now.items) c.args.target c.args.under c.args.block.now c.args.place c.args.term.now c.if-not-names.ensures.is (lt-ltb c.args.place (length c.args.block.now.params) q) c.args.m.now c.tick.new.self p
    c.tick.ensures.account c.tick.ensures.nest in
    let e = err_from_is_err_and c.from_residual-in_err-types_name.result c.from_residual-in_err-types_name.ensures.1 in
    rw (e.1, e.2, c.in_err-types_name.ensures.only_memory) f

pub returns-in_err-push-clause-stops : goal.returns-in_err-push-clause-stops
returns-in_err-push-clause-stops c = λ E.
    let q : c.args.place < length c.args.block.now.params = grind arith in
    let p : 0 < c.args.m.now.account.left = search rules in
    let f = no_memory_left E (map waiting c.args.tests.now.items) c.args.target c.args.under c.args.block.now c.args.place c.args.term.now c.if-not-names.ensures.is (lt-ltb c.args.place (length c.args.block.now.params) q) c.args.m.now c.tick.new.self p
    c.tick.ensures.account c.tick.ensures.nest in
    let e = err_from_is_err_and c.from_residual-in_err-push.result c.from_residual-in_err-push.ensures.1 in
    rw (e.1, e.2, c.in_err-push.ensures.only_memory) f

pub returns-in_err-push_families-clause-stops : goal.returns-in_err-push_families-clause-stops
returns-in_err-push_families-clause-stops c = λ E.
    let q : c.args.place < length c.args.block.now.params = grind arith in
    let p : 0 < c.args.m.now.account.left = search rules in
    let f = no_memory_left E (map waiting c.args.tests.now.items) c.args.target c.args.under c.args.block.now c.args.place c.args.term.now c.if-not-names.ensures.is (lt-ltb c.args.place (length c.args.block.now.params) q) c.args.m.now c.tick.new.self p
    c.tick.ensures.account c.tick.ensures.nest in
    let e = err_from_is_err_and c.from_residual-in_err-push_families.result c.from_residual-in_err-push_families.ensures.1 in
    rw (e.1, e.2, c.in_err-push_families.ensures.only_memory) f
