use Rattle.std.proofs.Common.{◌≡◌, ◌<◌, ◌≤◌, [], ◌∷◌, map, sym, subst, length, get_or, take, arith}
use Rattle.std.proofs.lemmas.List.{take_all}
use Rattle.calculus_rules.specs.Environment.{head_of}
use Rattle.pc_rules.specs.DirectedTyping.{infer}
use Rattle.pc_rules.specs.DirectedDeclarations.{family_head}
use Rattle.pc_rules.specs.Entailment.{test_of}
use Rattle.pc_rules.specs.WellCounted.{AreCountedFamilies}
use Rattle.pc_rules.proofs.Meters.{after-trans}
use Rattle.inductive_check.specs.Given.{family_of}
use Rattle.pc_rules.proofs.Following.{follows_passed}
use Rattle.pc_rules.proofs.Leaving.{leaving}
use Rattle.inductive_check.proofs.Leading.{leads_done, follows_first, follows_end}
use Rattle.inductive_check.proofs.Listed.{heads_at, heads_over, heads_next, families_more}
use Rattle.inductive_check.proofs.heads.check_heads.Goals as goal
use Rattle.pc_rules.proofs.Leading.{leads_along}

pub returns-in_err-check_head-clause-follows : goal.returns-in_err-check_head-clause-follows
returns-in_err-check_head-clause-follows g c = λ B ep.
    let E = c.args.env.now in
    let fs = c.args.families.now in
    let i = c.loop-family.family-index in
    let f = c.family-item.result in
    let lt : i < length fs = grind arith in
    let is : f ≡ get_or fs i f = cc in
    let at = heads_at E (infer E (test_of E) c.args.room) B fs i c.loop-family.m.account f lt is in
    let l = leads_along _ _ _ at (c.loop-family.invariant.leads B ep) in
    follows_passed _ _ _ _ _ c.from_residual.ensures.1 (follows_first _ _ _ _ _ _ _ l c.loop-family.invariant.after (c.in_err-check_head.ensures.follows B ep) (search leaving))

pub loop-family-preserved : goal.loop-family-preserved
loop-family-preserved g c =
    let E = c.args.env.now in
    let fs = c.args.families.now in
    let i = c.loop-family.family-index in
    let f = c.family-item.result in
    let lt : i < length fs = grind arith in
    let is : f ≡ get_or fs i f = cc in
    let before = c.loop-family.invariant in
    let inf = infer E (test_of E) c.args.room in
    let m = c.loop-family.m in
    record {
      leads = λ B ep. leads_done _ (family_head E inf B (family_of f) m.account) _ _ _ (leads_along _ _ _ (heads_at E inf B fs i m.account f lt is) (before.leads B ep))
          (c.in_ok-check_head.ensures.follows B ep).answer;
      after = after-trans c.args.m.now m c.check_head.new.m before.after c.check_head.ensures.after;
      counted = subst (λ Fs. AreCountedFamilies E Fs) (sym (heads_next fs i f lt is))
          (families_more E (map head_of (map family_of (take i fs))) (head_of (family_of f) ∷ []) before.counted c.in_ok-check_head.ensures.counted);
    }

pub returns-clause-follows : goal.returns-clause-follows
returns-clause-follows g c = λ B ep.
    let E = c.args.env.now in
    let fs = c.args.families.now in
    let ge : length fs ≤ c.loop-family.family-index = grind arith in
    let over = heads_over E (infer E (test_of E) c.args.room) B fs c.loop-family.family-index c.loop-family.m.account ge in
    follows_end _ _ _ _ (leads_along _ _ _ over (c.loop-family.invariant.leads B ep)) c.loop-family.invariant.after

pub returns-clause-counted : goal.returns-clause-counted
returns-clause-counted g c =
    let fs = c.args.families.now in
    let ge : length fs ≤ c.loop-family.family-index = grind arith in
    subst (λ xs. AreCountedFamilies c.args.env.now (map head_of (map family_of xs))) (take_all c.loop-family.family-index fs ge) c.loop-family.invariant.counted
