use Rattle.std.proofs.Common.{rules, ◌<◌, ◌≤◌, ◌+◌, ◌≡◌, ◌∙◌, ◌∷◌, ◌++◌, [], ℕ, sym, ap, length, get_or, drop, arith}
use Rattle.pc_terms.specs.Syntax.{Term, Rel, put_all}
use Rattle.pc_rules.specs.DirectedComparison.{compare}
use Rattle.pc_rules.specs.DirectedTyping.{infer}
use Rattle.pc_rules.specs.Entailment.{test_of}
use Rattle.pc_rules.proofs.FairReduction.{comparing_fair}
use Rattle.pc_rules.proofs.FairTyping.{inferring_fair, check_all_leaves}
use Rattle.pc_rules.proofs.Meters.{after-trans}
use Rattle.inductive_check.proofs.Leading.{follows_end, follows_wanting}
use Rattle.inductive_check.proofs.Checking.{results_over, results_next, results_stop, results_fault, first_put, counted_more}
use Rattle.std.proofs.lemmas.Result.{err_from_is_err_and}
use Rattle.inductive_check.proofs.results.check_results.Goals as goal
use Rattle.pc_rules.proofs.ListSteps.{take_next}
use Rattle.pc_rules.proofs.Leading.{leads_along}

pub returns-in_err-ty-clause-follows : goal.returns-in_err-ty-clause-follows
returns-in_err-ty-clause-follows g c =
    let E = c.args.setting.now.env.now in
    let ts = c.args.result_terms.now in
    let As = c.args.indices.now in
    let i = c.loop-i.i in
    let lt : i < length ts = grind arith in
    let lA : i < length As = grind (arith, c.requires.count) in
    let t = c.index-terms-i.result in
    let is : t ≡ get_or ts i t = cc in
    let A = c.index-types-i.result in
    let iA : A ≡ get_or As i A = cc in
    let before = c.loop-i.invariant in
    let s : ℕ → Term = λ j. Rel (c.args.args + j) in
    let fault = results_fault E (infer E (test_of E) c.args.setting.now.room) (compare E (test_of E) c.args.setting.now.room) c.args.ctx.now (put_all c.loop-i.before s) ts As i
    t A lt lA is iA _ c.args.m.now c.loop-i.m before.leads before.after c.in_err-ty.field-0.0 c.in_err-ty.ensures.too_deep
    (inferring_fair E (test_of E) c.args.setting.now.room) (comparing_fair E (test_of E) c.args.setting.now.room) in
    search rules

pub returns-in_err-check-clause-follows : goal.returns-in_err-check-clause-follows
returns-in_err-check-clause-follows g c =
    let E = c.args.setting.now.env.now in
    let ts = c.args.result_terms.now in
    let As = c.args.indices.now in
    let i = c.loop-i.i in
    let lt : i < length ts = grind arith in
    let lA : i < length As = grind (arith, c.requires.count) in
    let t = c.index-terms-i.result in
    let is : t ≡ get_or ts i t = cc in
    let A = c.index-types-i.result in
    let iA : A ≡ get_or As i A = cc in
    let before = c.loop-i.invariant in
    let s : ℕ → Term = λ j. Rel (c.args.args + j) in
    let stop = results_stop E (infer E (test_of E) c.args.setting.now.room) (compare E (test_of E) c.args.setting.now.room) c.args.ctx.now (put_all c.loop-i.before s) ts As i c.loop-i.m.account
    t A lt lA is iA _ before.leads c.in_err-check.field-0.0 c.args.m.now c.loop-i.m c.check.new.m before.after (rw c.in_ok-ty.ensures.ok at c.in_err-check.ensures.follows)
    (inferring_fair E (test_of E) c.args.setting.now.room) (comparing_fair E (test_of E) c.args.setting.now.room) in
    search rules

pub loop-i-preserved : goal.loop-i-preserved
loop-i-preserved g c =
    let E = c.args.setting.now.env.now in
    let ts = c.args.result_terms.now in
    let As = c.args.indices.now in
    let i = c.loop-i.i in
    let lt : i < length ts = grind arith in
    let lA : i < length As = grind (arith, c.requires.count) in
    let t = c.index-terms-i.result in
    let is : t ≡ get_or ts i t = cc in
    let A = c.index-types-i.result in
    let iA : A ≡ get_or As i A = cc in
    let before = c.loop-i.invariant in
    let s : ℕ → Term = λ j. Rel (c.args.args + j) in
    let inf = infer E (test_of E) c.args.setting.now.room in
    let cmp = compare E (test_of E) c.args.setting.now.room in
    let f = rw c.in_ok-ty.ensures.ok at c.in_ok-check.ensures.follows in
    let next = results_next E inf cmp c.args.ctx.now (put_all c.loop-i.before s) ts As i c.loop-i.m.account t A lt lA is iA _ before.leads c.check.new.m.account f.answer in
    let more : c.push.new.self ≡ c.loop-i.before ++ (t ∷ []) = c.in_ok-push.ensures.ok ∙ ap (λ x. c.loop-i.before ++ (x ∷ [])) c.in_ok-share.ensures.ok in
    record {
      leads = rw more (leads_along _ _ _ (first_put E inf cmp c.args.ctx.now c.loop-i.before t s (drop (i + 1) ts) (drop (i + 1) As) c.check.new.m.account) next);
      after = after-trans c.args.m.now c.loop-i.m c.check.new.m before.after c.in_ok-check.ensures.follows.after;
      before = more ∙ (ap (λ xs. xs ++ (t ∷ [])) before.before ∙ sym (take_next ts i t lt is));
      counted = rw more (counted_more E c.loop-i.before t before.counted c.in_ok-check.ensures.counted);
    }

pub returns-clause-follows : goal.returns-clause-follows
returns-clause-follows g c =
    let E = c.args.setting.now.env.now in
    let ts = c.args.result_terms.now in
    let ge : length ts ≤ c.loop-i.i = grind arith in
    let s : ℕ → Term = λ j. Rel (c.args.args + j) in
    let over = results_over E (infer E (test_of E) c.args.setting.now.room) (compare E (test_of E) c.args.setting.now.room) c.args.ctx.now (put_all c.loop-i.before s) ts c.args.indices.now c.loop-i.i
    c.loop-i.m.account ge in
    follows_end _ _ _ _ (leads_along _ _ _ over c.loop-i.invariant.leads) c.loop-i.invariant.after

pub returns-in_err-share-clause-follows : goal.returns-in_err-share-clause-follows
returns-in_err-share-clause-follows g c =
    let E = c.args.setting.now.env.now in
    let ts = c.args.result_terms.now in
    let As = c.args.indices.now in
    let i = c.loop-i.i in
    let lt : i < length ts = grind arith in
    let lA : i < length As = grind (arith, c.requires.count) in
    let t = c.index-terms-i.result in
    let is : t ≡ get_or ts i t = cc in
    let A = c.index-types-i.result in
    let iA : A ≡ get_or As i A = cc in
    let before = c.loop-i.invariant in
    let s : ℕ → Term = λ j. Rel (c.args.args + j) in
    let inf = infer E (test_of E) c.args.setting.now.room in
    let cmp = compare E (test_of E) c.args.setting.now.room in
    let f = rw c.in_ok-ty.ensures.ok at c.in_ok-check.ensures.follows in
    let next = results_next E inf cmp c.args.ctx.now (put_all c.loop-i.before s) ts As i c.loop-i.m.account t A lt lA is iA _ before.leads c.check.new.m.account f.answer in
    let p = err_from_is_err_and c.from_residual-in_err-share.result c.from_residual-in_err-share.ensures.1 in
    rw (p.1, p.2, c.in_err-share.ensures.only_memory)
    (follows_wanting _ _ c.args.m.now c.check.new.m next (after-trans c.args.m.now c.loop-i.m c.check.new.m before.after f.after)
    (check_all_leaves E inf cmp (inferring_fair E (test_of E) c.args.setting.now.room) (comparing_fair E (test_of E) c.args.setting.now.room) c.args.ctx.now _ _ _ c.check.new.m.account))

pub returns-in_err-push-clause-follows : goal.returns-in_err-push-clause-follows
returns-in_err-push-clause-follows g c =
    let E = c.args.setting.now.env.now in
    let ts = c.args.result_terms.now in
    let As = c.args.indices.now in
    let i = c.loop-i.i in
    let lt : i < length ts = grind arith in
    let lA : i < length As = grind (arith, c.requires.count) in
    let t = c.index-terms-i.result in
    let is : t ≡ get_or ts i t = cc in
    let A = c.index-types-i.result in
    let iA : A ≡ get_or As i A = cc in
    let before = c.loop-i.invariant in
    let s : ℕ → Term = λ j. Rel (c.args.args + j) in
    let inf = infer E (test_of E) c.args.setting.now.room in
    let cmp = compare E (test_of E) c.args.setting.now.room in
    let f = rw c.in_ok-ty.ensures.ok at c.in_ok-check.ensures.follows in
    let next = results_next E inf cmp c.args.ctx.now (put_all c.loop-i.before s) ts As i c.loop-i.m.account t A lt lA is iA _ before.leads c.check.new.m.account f.answer in
    let p = err_from_is_err_and c.from_residual-in_err-push.result c.from_residual-in_err-push.ensures.1 in
    rw (p.1, p.2, c.in_err-push.ensures.only_memory.0)
    (follows_wanting _ _ c.args.m.now c.check.new.m next (after-trans c.args.m.now c.loop-i.m c.check.new.m before.after f.after)
    (check_all_leaves E inf cmp (inferring_fair E (test_of E) c.args.setting.now.room) (comparing_fair E (test_of E) c.args.setting.now.room) c.args.ctx.now _ _ _ c.check.new.m.account))
