use Rattle.std.proofs.Common.{◌≡◌, ◌∙◌, ◌<◌, ◌≤◌, sym, ap, true, false, length, map, arith}
use Rattle.pc_terms.specs.Syntax.{Ind, head, args}
use Rattle.calculus_rules.specs.Same.{same_names}
use Rattle.calculus_rules.specs.Positivity.{block_of}
use Rattle.pc_rules.specs.DirectedPositivity.{own_arguments}
use Rattle.inductive_check.specs.Waiting.{waiting, type_waits, each_test}
use Rattle.inductive_check.proofs.Going.{goes_by, no_family_fails, own_family_is, unknown_fails, short_fails, arguments_go, not_family, same_yes, same_no, too_few, enough}
use Rattle.inductive_check.proofs.positivity.family_good.Goals as goal

pub returns-in_default : goal.returns-in_default
returns-in_default c = record {
  goes = λ m. goes_by c.args.env.now (map waiting c.args.tests.now.items) (type_waits c.args.target c.args.under c.args.ty.now) (map waiting c.args.tests.now.items) false m (no_family_fails c.args.env.now (map waiting c.args.tests.now.items) c.args.target c.args.under c.args.ty.now m.account (c.requires.no_variable) (c.requires.no_product) c.requires.names
      (not_family c.view.result.now (head c.args.ty.now) (c.view.ensures.is ∙ c.in_ok-head.ensures.head) c.in_default.not-Ind));
  only_memory = tt;
}

pub returns-then-family-block_of-clause-goes : goal.returns-then-family-block_of-clause-goes
returns-then-family-block_of-clause-goes c =
    let e = rw c.in-Ind.is at c.view.ensures.is in
    let h : head c.args.ty.now ≡ Ind c.in-Ind.family = sym (e ∙ c.in_ok-head.ensures.head) in
    let s : same_names c.in-Ind.family.block (block_of c.args.target) ≡ true =
    same_yes c.in-Ind.family.block (block_of c.args.target) (c.if-family-block_of.true ∙ ap (λ n. n.0) c.block_of.ensures.is) in
    λ m. goes_by c.args.env.now (map waiting c.args.tests.now.items) (type_waits c.args.target c.args.under c.args.ty.now) (map waiting c.args.tests.now.items) c.own_arguments.result m (own_family_is c.args.env.now (map waiting c.args.tests.now.items) c.args.target c.args.under c.args.ty.now m.account (c.requires.no_variable) (c.requires.no_product) c.requires.names c.in-Ind.family c.own_arguments.result h s
    (c.own_arguments.ensures.is ∙ ap (λ ys. own_arguments c.args.target c.args.under ys) c.in_ok-head.ensures.args))

pub returns-in_default-whole_block-clause-goes : goal.returns-in_default-whole_block-clause-goes
returns-in_default-whole_block-clause-goes c =
    let e = rw c.in-Ind.is at c.view.ensures.is in
    let h : head c.args.ty.now ≡ Ind c.in-Ind.family = sym (e ∙ c.in_ok-head.ensures.head) in
    let s : same_names c.in-Ind.family.block (block_of c.args.target) ≡ false =
    same_no c.in-Ind.family.block (block_of c.args.target) (λ q. c.if-family-block_of.false (q ∙ sym (ap (λ n. n.0) c.block_of.ensures.is))) in
    λ m. goes_by c.args.env.now (map waiting c.args.tests.now.items) (type_waits c.args.target c.args.under c.args.ty.now) (map waiting c.args.tests.now.items) false m (unknown_fails c.args.env.now (map waiting c.args.tests.now.items) c.args.target c.args.under c.args.ty.now m.account (c.requires.no_variable) (c.requires.no_product) c.requires.names c.in-Ind.family h s c.in_default-whole_block.ensures.whole)

pub returns-then-len-clause-goes : goal.returns-then-len-clause-goes
returns-then-len-clause-goes c =
    let e = rw c.in-Ind.is at c.view.ensures.is in
    let h : head c.args.ty.now ≡ Ind c.in-Ind.family = sym (e ∙ c.in_ok-head.ensures.head) in
    let s : same_names c.in-Ind.family.block (block_of c.args.target) ≡ false =
    same_no c.in-Ind.family.block (block_of c.args.target) (λ q. c.if-family-block_of.false (q ∙ sym (ap (λ n. n.0) c.block_of.ensures.is))) in
    let l : length c.in_ok-head.xs < length c.in-Some.block.now.params = grind arith in
    λ m. goes_by c.args.env.now (map waiting c.args.tests.now.items) (type_waits c.args.target c.args.under c.args.ty.now) (map waiting c.args.tests.now.items) false m (short_fails c.args.env.now (map waiting c.args.tests.now.items) c.args.target c.args.under c.args.ty.now m.account (c.requires.no_variable) (c.requires.no_product) c.requires.names c.in-Ind.family c.in-Some.block.now h s c.in-Some.ensures.whole
    (too_few c.in_ok-head.xs (args c.args.ty.now) (length c.in-Some.block.now.params) c.in_ok-head.ensures.args l))

pub returns-clause-goes : goal.returns-clause-goes
returns-clause-goes c =
    let e = rw c.in-Ind.is at c.view.ensures.is in
    let h : head c.args.ty.now ≡ Ind c.in-Ind.family = sym (e ∙ c.in_ok-head.ensures.head) in
    let s : same_names c.in-Ind.family.block (block_of c.args.target) ≡ false =
    same_no c.in-Ind.family.block (block_of c.args.target) (λ q. c.if-family-block_of.false (q ∙ sym (ap (λ n. n.0) c.block_of.ensures.is))) in
    let l : length c.in-Some.block.now.params ≤ length c.in_ok-head.xs = grind arith in
    λ m. goes_by c.args.env.now (map waiting c.args.tests.now.items) (type_waits c.args.target c.args.under c.args.ty.now) (map waiting c.push_arguments.new.tests.items) true m (arguments_go c.args.env.now (map waiting c.args.tests.now.items) c.args.target c.args.under c.args.ty.now m.account (c.requires.no_variable) (c.requires.no_product) c.requires.names c.in-Ind.family c.in-Some.block.now h s
    c.in-Some.ensures.whole (enough c.in_ok-head.xs (args c.args.ty.now) (length c.in-Some.block.now.params) c.in_ok-head.ensures.args l)
    ∙ ap (λ ys. each_test c.args.env.now ys m.account) (sym c.in_ok-push_arguments.ensures.pushed))
