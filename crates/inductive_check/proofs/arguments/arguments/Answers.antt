use Rattle.std.proofs.Common.{rules, ◌<◌, ◌≤◌, ◌+◌, ◌≡◌, ◌∙◌, ◌∷◌, sym, ap, subst, length, get_or, drop, arith, refl}
use Rattle.calculus_rules.specs.declared.entry.Entry.TheVariants.{Assumed}
use Rattle.calculus_rules.specs.Context.{extend}
use Rattle.pc_rules.specs.DirectedTyping.{infer}
use Rattle.pc_rules.specs.Entailment.{test_of}
use Rattle.pc_rules.specs.WellCounted.{IsCountedContext}
use Rattle.pc_rules.proofs.Meters.{after-refl, after-trans}
use Rattle.pc_rules.proofs.FairTyping.{inferring_fair}
use Rattle.inductive_check.proofs.Leading.{collect_start, collect_end, follows_wanting}
use Rattle.inductive_check.proofs.Telescopes.{arguments_over, arguments_next, arguments_stop, extend_next, entered_counted, assumed_counted}
use Rattle.std.proofs.lemmas.Result.{err_from_is_err_and}
use Rattle.pc_rules.proofs.Leaving.{leaving}
use Rattle.inductive_check.proofs.arguments.arguments.Goals as goal
use Rattle.pc_rules.proofs.ListSteps.{none_left}

pub loop-ty-init : goal.loop-ty-init
loop-ty-init g c = record {
  leads = rw c.new-sorts.ensures.items (collect_start _);
  after = after-refl c.args.m.now;
  longer = refl;
  counted = c.requires.ctx;
}

pub returns-in_err-sort-clause-follows : goal.returns-in_err-sort-clause-follows
returns-in_err-sort-clause-follows g c =
    let E = c.args.setting.now.env.now in
    let at = c.args.at in
    let As = c.args.args.now in
    let i = c.loop-ty.ty-index in
    let A = c.ty-item.result in
    let lt : i < length As = grind arith in
    let is : A ≡ get_or As i A = cc in
    let before = c.loop-ty.invariant in
    let inf = infer E (test_of E) c.args.setting.now.room in
    let stop = arguments_stop E (test_of E) inf c.args.setting.now.block at.family at.ctor c.args.family.now c.loop-ty.ctx As i c.loop-ty.m.account A lt is _ c.loop-ty.sorts.items
    c.in_err-sort.field-0.0 c.args.m.now c.loop-ty.m c.argument.new.m before.leads before.after c.in_err-sort.ensures.follows (inferring_fair E (test_of E) c.args.setting.now.room) in
    search rules

pub loop-ty-preserved : goal.loop-ty-preserved
loop-ty-preserved g c =
    let E = c.args.setting.now.env.now in
    let at = c.args.at in
    let As = c.args.args.now in
    let i = c.loop-ty.ty-index in
    let A = c.ty-item.result in
    let lt : i < length As = grind arith in
    let is : A ≡ get_or As i A = cc in
    let before = c.loop-ty.invariant in
    let longer : c.assume.new.ctx ≡ Assumed A ∷ c.loop-ty.ctx = c.in_ok-assume.ensures.longer in
    let inf = infer E (test_of E) c.args.setting.now.room in
    let f = c.in_ok-sort.ensures.follows in
    let next = arguments_next E (test_of E) inf c.args.setting.now.block at.family at.ctor c.args.family.now c.loop-ty.ctx As i c.loop-ty.m.account A lt is _ c.loop-ty.sorts.items
    c.in_ok-sort.sort c.argument.new.m.account before.leads f.answer in
    record {
      leads = rw (longer, c.in_ok-push.ensures.longer) next;
      after = after-trans c.args.m.now c.loop-ty.m c.argument.new.m before.after f.after;
      longer = before.longer ∙ (extend_next c.loop-ty.ctx As i A lt is ∙ ap (λ d. extend d (drop (i + 1) As)) (sym longer));
      counted = assumed_counted E c.loop-ty.ctx c.assume.new.ctx A longer c.in_ok-sort.ensures.counted before.counted;
    }

pub returns-clause-follows : goal.returns-clause-follows
returns-clause-follows g c =
    let E = c.args.setting.now.env.now in
    let at = c.args.at in
    let As = c.args.args.now in
    let ge : length As ≤ c.loop-ty.ty-index = grind arith in
    let m = c.loop-ty.m in
    let inf = infer E (test_of E) c.args.setting.now.room in
    let over = arguments_over E (test_of E) inf c.args.setting.now.block at.family at.ctor c.args.family.now c.loop-ty.ctx As c.loop-ty.ty-index m.account ge in
    rw c.of.ensures.is (collect_end _ c.loop-ty.sorts.items _ c.args.m.now m over c.loop-ty.invariant.leads c.loop-ty.invariant.after)

pub returns-clause-counted : goal.returns-clause-counted
returns-clause-counted g c =
    let E = c.args.setting.now.env.now in
    let As = c.args.args.now in
    let ge : length As ≤ c.loop-ty.ty-index = grind arith in
    let same : extend c.args.ctx.now As ≡ c.loop-ty.ctx = c.loop-ty.invariant.longer ∙ ap (λ xs. extend c.loop-ty.ctx xs) (none_left As c.loop-ty.ty-index ge) in
    (entered_counted E c.args.ctx.now As (subst (λ d. IsCountedContext E d) (sym same) c.loop-ty.invariant.counted)).1

pub returns-in_err-push-clause-follows : goal.returns-in_err-push-clause-follows
returns-in_err-push-clause-follows g c =
    let E = c.args.setting.now.env.now in
    let at = c.args.at in
    let As = c.args.args.now in
    let i = c.loop-ty.ty-index in
    let A = c.ty-item.result in
    let lt : i < length As = grind arith in
    let is : A ≡ get_or As i A = cc in
    let before = c.loop-ty.invariant in
    let inf = infer E (test_of E) c.args.setting.now.room in
    let f = c.in_ok-sort.ensures.follows in
    let next = arguments_next E (test_of E) inf c.args.setting.now.block at.family at.ctor c.args.family.now c.loop-ty.ctx As i c.loop-ty.m.account A lt is _ c.loop-ty.sorts.items
    c.in_ok-sort.sort c.argument.new.m.account before.leads f.answer in
    let p = err_from_is_err_and c.from_residual-in_err-push.result c.from_residual-in_err-push.ensures.1 in
    rw (p.1, p.2, c.in_err-push.ensures.only_memory)
    (follows_wanting _ _ c.args.m.now c.argument.new.m next (after-trans c.args.m.now c.loop-ty.m c.argument.new.m before.after f.after) (search leaving))

pub returns-in_err-assume-clause-follows : goal.returns-in_err-assume-clause-follows
returns-in_err-assume-clause-follows g c =
    let E = c.args.setting.now.env.now in
    let at = c.args.at in
    let As = c.args.args.now in
    let i = c.loop-ty.ty-index in
    let A = c.ty-item.result in
    let lt : i < length As = grind arith in
    let is : A ≡ get_or As i A = cc in
    let before = c.loop-ty.invariant in
    let inf = infer E (test_of E) c.args.setting.now.room in
    let f = c.in_ok-sort.ensures.follows in
    let next = arguments_next E (test_of E) inf c.args.setting.now.block at.family at.ctor c.args.family.now c.loop-ty.ctx As i c.loop-ty.m.account A lt is _ c.loop-ty.sorts.items
    c.in_ok-sort.sort c.argument.new.m.account before.leads f.answer in
    let p = err_from_is_err_and c.from_residual-in_err-assume.result c.from_residual-in_err-assume.ensures.1 in
    rw (p.1, p.2, c.in_err-assume.ensures.only_memory)
    (follows_wanting _ _ c.args.m.now c.argument.new.m next (after-trans c.args.m.now c.loop-ty.m c.argument.new.m before.after f.after) (search leaving))
