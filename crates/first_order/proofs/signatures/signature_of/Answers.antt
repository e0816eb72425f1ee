use Rattle.std.proofs.Common.{◌≡◌, ◌∙◌, ◌<◌, ◌-◌, ◌∷◌, [], ◌++◌, suc, length, refl, sym, ap, subst, true, false, arith, length-append}
use Rattle.std.proofs.lemmas.List.{map-append}
use Rattle.std.proofs.lemmas.List.Elements.{All-nil, All-cons, All-append}
use Rattle.std.proofs.lemmas.Result.{err_from_is_err_and}
use Rattle.pc_rules.proofs.Meters.{after-refl, after-trans}
use Rattle.first_order.specs.declared.shapes.Shapes.{Shapes}
use Rattle.first_order.specs.Searching.{members, AreNamed}
use Rattle.first_order.specs.DirectedSignature.{is_product, before_arguments, found_argument, set_of, sets_of, AreAllNamed}
use Rattle.first_order.proofs.Signing.{signing, signature_leaves, signing_memory, signing_starts, argument_next, argument_lost, too_many, answer_found, answer_lost}
use Rattle.first_order.proofs.signatures.signature_of.Goals as goal

pub arguments-init : goal.arguments-init
arguments-init g c = record {
  leads = rw c.new-args.ensures.items (signing_starts c.args.env.now c.args.whnf c.args.m.now.account);
  after = after-refl c.args.m.now;
  few = let l = ap length c.new-args.ensures.items in omega (arith, l);
  named = rw c.new-args.ensures.items (All-nil (λ (s : Shapes). AreNamed c.args.env.now s.types));
}

pub returns-then-len-eq-MOST_ARGUMENTS-clause-follows : goal.returns-then-len-eq-MOST_ARGUMENTS-clause-follows
returns-then-len-eq-MOST_ARGUMENTS-clause-follows g c =
    let before = c.arguments.invariant in
    let is : is_product c.arguments.ty ≡ true = sym c.is_product.ensures.is ∙ c.arguments-test.true in
    let full : length c.arguments.args.items ≡ 255 = grind arith in
    too_many c.args.env.now _ c.arguments.ty (sets_of c.arguments.args.items) (length c.arguments.args.items) c.arguments.m.account before.leads is full c.args.m.now c.arguments.m refl before.after

pub returns-in_err-shapes-clause-follows : goal.returns-in_err-shapes-clause-follows
returns-in_err-shapes-clause-follows g c =
    let before = c.arguments.invariant in
    let is : is_product c.arguments.ty ≡ true = sym c.is_product.ensures.is ∙ c.arguments-test.true in
    let few = before.few in
    let lt : length c.arguments.args.items < 255 = grind arith in
    let p = err_from_is_err_and c.from_residual.result c.from_residual.ensures.1 in
    rw (p.1, p.2) (argument_lost c.args.env.now _ c.arguments.ty (sets_of c.arguments.args.items) (length c.arguments.args.items) c.arguments.m.account before.leads is lt found_argument c.in_err-shapes.field-0.0
    c.args.m.now c.arguments.m c.argument.new.m before.after c.in_err-shapes.ensures.follows)

pub returns-in_err-put-clause-follows : goal.returns-in_err-put-clause-follows
returns-in_err-put-clause-follows g c =
    let before = c.arguments.invariant in
    let is : is_product c.arguments.ty ≡ true = sym c.is_product.ensures.is ∙ c.arguments-test.true in
    let few = before.few in
    let lt : length c.arguments.args.items < 255 = grind arith in
    let f = c.in_ok-shapes.ensures.follows in
    let E = c.args.env.now in
    let ss = c.arguments.args.items in
    let V = c.in_ok-shapes.next in
    let Ts = sets_of ss ++ (set_of c.in_ok-shapes.shapes ∷ []) in
    let leads = argument_next E _ c.arguments.ty (sets_of ss) (length ss) c.arguments.m.account before.leads is lt (set_of c.in_ok-shapes.shapes) V c.argument.new.m.account f.answer
    Ts (suc (length ss)) refl refl in
    signing_memory _ (signing E (suc (length ss)) V c.argument.new.m.account) (before_arguments Ts) _ _ c.args.m.now c.argument.new.m c.in_err-put.ensures.only_memory c.from_residual-in_err-put.ensures.1
    leads (after-trans c.args.m.now c.arguments.m c.argument.new.m before.after f.after) (signature_leaves E (255 - suc (length ss)) V c.argument.new.m.account)

pub arguments-preserved : goal.arguments-preserved
arguments-preserved g c =
    let before = c.arguments.invariant in
    let is : is_product c.arguments.ty ≡ true = sym c.is_product.ensures.is ∙ c.arguments-test.true in
    let few = before.few in
    let lt : length c.arguments.args.items < 255 = grind arith in
    let f = c.in_ok-shapes.ensures.follows in
    let E = c.args.env.now in
    let ss = c.arguments.args.items in
    let s = c.in_ok-shapes.shapes in
    let many = ap length c.in_ok-put.ensures.ok ∙ length-append ss (s ∷ []) in
    record {
      leads = argument_next E _ c.arguments.ty (sets_of ss) (length ss) c.arguments.m.account before.leads is lt (set_of s) c.in_ok-shapes.next c.argument.new.m.account f.answer
          (sets_of c.put.new.items.items) (length c.put.new.items.items) (ap sets_of c.in_ok-put.ensures.ok ∙ map-append set_of ss (s ∷ [])) (omega (arith, many));
      after = after-trans c.args.m.now c.arguments.m c.argument.new.m before.after f.after;
      few = omega (arith, many, lt);
      named = subst (AreAllNamed E) (sym c.in_ok-put.ensures.ok)
          (All-append (λ (s : Shapes). AreNamed E s.types) ss (s ∷ []) before.named (All-cons (λ (s : Shapes). AreNamed E s.types) s [] c.in_ok-shapes.ensures.named (All-nil (λ (s : Shapes). AreNamed E s.types))));
    }

pub arguments-smaller : goal.arguments-smaller
arguments-smaller g c =
    let few = c.arguments.invariant.few in
    let lt : length c.arguments.args.items < 255 = grind arith in
    let many = ap length c.in_ok-put.ensures.ok ∙ length-append c.arguments.args.items (_ ∷ []) in
    omega (arith, lt, many)

pub returns-in_err-answer-clause-follows : goal.returns-in_err-answer-clause-follows
returns-in_err-answer-clause-follows g c =
    let before = c.arguments.invariant in
    let is : is_product c.arguments.ty ≡ false = sym c.is_product.ensures.is ∙ c.arguments-test.false in
    let p = err_from_is_err_and c.from_residual-in_err-answer.result c.from_residual-in_err-answer.ensures.1 in
    rw (p.1, p.2) (answer_lost c.args.env.now _ c.arguments.ty (sets_of c.arguments.args.items) (length c.arguments.args.items) c.arguments.m.account before.leads is (λ (s : Shapes). members s.types)
    c.in_err-answer.field-0.0 c.args.m.now c.arguments.m c.first_order.new.m before.after c.in_err-answer.ensures.follows)

pub returns-clause-follows : goal.returns-clause-follows
returns-clause-follows g c =
    let before = c.arguments.invariant in
    let is : is_product c.arguments.ty ≡ false = sym c.is_product.ensures.is ∙ c.arguments-test.false in
    rw c.of.ensures.is (answer_found c.args.env.now _ c.arguments.ty (sets_of c.arguments.args.items) (length c.arguments.args.items) c.arguments.m.account before.leads is (set_of c.in_ok-answer.answer)
    c.args.m.now c.arguments.m c.first_order.new.m refl before.after c.in_ok-answer.ensures.follows)
