use Rattle.std.proofs.Common.{◌<◌, ◌≤◌, ◌+◌, ◌≡◌, ◌∙◌, ◌∷◌, sym, ap, subst, length, get_or, drop, arith}
use Rattle.calculus_rules.specs.declared.entry.Entry.TheVariants.{Assumed}
use Rattle.calculus_rules.specs.Context.{extend}
use Rattle.pc_rules.specs.DirectedTyping.{infer, sort_of}
use Rattle.pc_rules.specs.Entailment.{test_of}
use Rattle.pc_rules.specs.WellCounted.{IsCountedContext}
use Rattle.pc_rules.proofs.Meters.{after-trans}
use Rattle.pc_rules.proofs.Following.{follows_passed}
use Rattle.pc_rules.proofs.Leaving.{leaving}
use Rattle.inductive_check.proofs.Leading.{leads_done, follows_first, follows_wanting, follows_end}
use Rattle.inductive_check.proofs.Telescopes.{entries_at, entries_over, extend_next, entered_counted, assumed_counted}
use Rattle.std.proofs.lemmas.Result.{err_from_is_err_and}
use Rattle.inductive_check.proofs.telescope.enter.Goals as goal
use Rattle.pc_rules.proofs.ListSteps.{none_left}
use Rattle.pc_rules.proofs.Leading.{leads_along}

pub returns-in_err-_sort-clause-follows : goal.returns-in_err-_sort-clause-follows
returns-in_err-_sort-clause-follows g c =
    let E = c.args.env.now in
    let As = c.args.telescope.now in
    let lt : c.loop-ty.ty-index < length As = grind arith in
    let is : c.ty-item.result ≡ get_or As c.loop-ty.ty-index c.ty-item.result = cc in
    let split = entries_at E (infer E (test_of E) c.args.room) c.loop-ty.ctx As c.loop-ty.ty-index c.loop-ty.m.account c.ty-item.result lt is in
    let l = leads_along _ _ _ split c.loop-ty.invariant.leads in
    follows_passed _ _ _ _ _ c.from_residual.ensures.1 (follows_first _ _ _ _ _ _ _ l c.loop-ty.invariant.after c.in_err-_sort.ensures.follows (search leaving))

pub loop-ty-preserved : goal.loop-ty-preserved
loop-ty-preserved g c =
    let E = c.args.env.now in
    let As = c.args.telescope.now in
    let i = c.loop-ty.ty-index in
    let A = c.ty-item.result in
    let lt : i < length As = grind arith in
    let is : A ≡ get_or As i A = cc in
    let longer : c.assume.new.ctx ≡ Assumed A ∷ c.loop-ty.ctx = c.in_ok-assume.ensures.longer in
    let inf = infer E (test_of E) c.args.room in
    let split = entries_at E inf c.loop-ty.ctx As i c.loop-ty.m.account A lt is in
    let l = leads_along _ _ _ split c.loop-ty.invariant.leads in
    let f = c.in_ok-_sort.ensures.follows in
    let next = leads_done _ (sort_of E inf c.loop-ty.ctx A c.loop-ty.m.account) _ c.in_ok-_sort._sort c.sort_of.new.m.account l f.answer in
    record {
      leads = rw longer next;
      after = after-trans c.args.m.now c.loop-ty.m c.sort_of.new.m c.loop-ty.invariant.after f.after;
      longer = c.loop-ty.invariant.longer ∙ (extend_next c.loop-ty.ctx As i A lt is ∙ ap (λ d. extend d (drop (i + 1) As)) (sym longer));
      counted = assumed_counted E c.loop-ty.ctx c.assume.new.ctx A longer c.in_ok-_sort.ensures.counted c.loop-ty.invariant.counted;
    }

pub returns-clause-follows : goal.returns-clause-follows
returns-clause-follows g c =
    let E = c.args.env.now in
    let As = c.args.telescope.now in
    let ge : length As ≤ c.loop-ty.ty-index = grind arith in
    let over = entries_over E (infer E (test_of E) c.args.room) c.loop-ty.ctx As c.loop-ty.ty-index c.loop-ty.m.account ge in
    follows_end _ _ _ _ (leads_along _ _ _ over c.loop-ty.invariant.leads) c.loop-ty.invariant.after

pub returns-clause-counted : goal.returns-clause-counted
returns-clause-counted g c =
    let E = c.args.env.now in
    let As = c.args.telescope.now in
    let ge : length As ≤ c.loop-ty.ty-index = grind arith in
    let same : extend c.args.ctx.now As ≡ c.loop-ty.ctx = c.loop-ty.invariant.longer ∙ ap (λ xs. extend c.loop-ty.ctx xs) (none_left As c.loop-ty.ty-index ge) in
    (entered_counted E c.args.ctx.now As (subst (λ d. IsCountedContext E d) (sym same) c.loop-ty.invariant.counted)).1

pub returns-in_err-assume-clause-follows : goal.returns-in_err-assume-clause-follows
returns-in_err-assume-clause-follows g c =
    let E = c.args.env.now in
    let As = c.args.telescope.now in
    let i = c.loop-ty.ty-index in
    let A = c.ty-item.result in
    let lt : i < length As = grind arith in
    let is : A ≡ get_or As i A = cc in
    let inf = infer E (test_of E) c.args.room in
    let split = entries_at E inf c.loop-ty.ctx As i c.loop-ty.m.account A lt is in
    let l = leads_along _ _ _ split c.loop-ty.invariant.leads in
    let f = c.in_ok-_sort.ensures.follows in
    let next = leads_done _ (sort_of E inf c.loop-ty.ctx A c.loop-ty.m.account) _ c.in_ok-_sort._sort c.sort_of.new.m.account l f.answer in
    let p = err_from_is_err_and c.from_residual-in_err-assume.result c.from_residual-in_err-assume.ensures.1 in
    rw (p.1, p.2, c.in_err-assume.ensures.only_memory)
    (follows_wanting _ _ c.args.m.now c.sort_of.new.m next (after-trans c.args.m.now c.loop-ty.m c.sort_of.new.m c.loop-ty.invariant.after f.after) (search leaving))
