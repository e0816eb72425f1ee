use Rattle.std.proofs.Common.{rules, ◌≡◌, ◌<◌, ◌≤◌, map, subst, length, get_or, arith}
use Rattle.std.proofs.lemmas.List.{take_all}
use Rattle.pc_rules.specs.DirectedComparison.{compare}
use Rattle.pc_rules.specs.DirectedTyping.{infer}
use Rattle.pc_rules.specs.Entailment.{test_of}
use Rattle.pc_rules.proofs.FairReduction.{comparing_fair}
use Rattle.pc_rules.proofs.FairTyping.{inferring_fair}
use Rattle.pc_rules.proofs.Meters.{after-refl, after-trans}
use Rattle.rule_laws.specs.Declarations.{FamiliesFormed}
use Rattle.inductive_check.specs.Given.{family_of}
use Rattle.inductive_check.proofs.Leading.{collect_start, collect_end, follows_wanting}
use Rattle.inductive_check.proofs.Constructing.{heads_left, family_formed, families_over, families_next, families_stop}
use Rattle.std.proofs.lemmas.Result.{err_from_is_err_and}
use Rattle.pc_rules.proofs.Leaving.{leaving}
use Rattle.inductive_check.proofs.constructors.check_families.Goals as goal

pub loop-f-init : goal.loop-f-init
loop-f-init g c = record {
  leads = λ B en ep. rw c.new-out.ensures.items (collect_start _);
  after = after-refl c.args.m.now;
  heads = c.requires.heads;
  formed = tt;
}

pub check_constructors-requires-clause-sort : goal.check_constructors-requires-clause-sort
check_constructors-requires-clause-sort g c =
    let E = c.args.setting.now.env.now in
    let fs = c.args.families.now in
    let f = c.loop-f.f in
    let family = c.index-items-f.result in
    let lt : f < length fs = grind arith in
    let is : family ≡ get_or fs f family = cc in
    (heads_left E fs f family lt is c.loop-f.invariant.heads).0.2

pub returns-in_err-ctors-clause-follows : goal.returns-in_err-ctors-clause-follows
returns-in_err-ctors-clause-follows g c = λ B en ep.
    let E = c.args.setting.now.env.now in
    let fs = c.args.families.now in
    let f = c.loop-f.f in
    let family = c.index-items-f.result in
    let lt : f < length fs = grind arith in
    let is : family ≡ get_or fs f family = cc in
    let before = c.loop-f.invariant in
    let done = rw c.in_ok-number.ensures.is at c.in_err-ctors.ensures.follows B en ep in
    let stop = families_stop E (test_of E) (infer E (test_of E) c.args.setting.now.room) (compare E (test_of E) c.args.setting.now.room) B fs f
    c.loop-f.m.account family lt is _ c.loop-f.out.items c.in_err-ctors.field-0.0 c.args.m.now c.loop-f.m c.check_constructors.new.m (before.leads B en ep) before.after done
    (inferring_fair E (test_of E) c.args.setting.now.room) (comparing_fair E (test_of E) c.args.setting.now.room) in
    search rules

pub loop-f-preserved : goal.loop-f-preserved
loop-f-preserved g c =
    let E = c.args.setting.now.env.now in
    let fs = c.args.families.now in
    let f = c.loop-f.f in
    let family = c.index-items-f.result in
    let lt : f < length fs = grind arith in
    let is : family ≡ get_or fs f family = cc in
    let before = c.loop-f.invariant in
    let left = heads_left E fs f family lt is before.heads in
    record {
      leads = λ B en ep.
          let done = rw c.in_ok-number.ensures.is at c.in_ok-ctors.ensures.follows B en ep in
          rw (c.in_ok-push.ensures.longer, c.in_ok-with_constructors.ensures.ok)
          (families_next E (test_of E) (infer E (test_of E) c.args.setting.now.room) (compare E (test_of E) c.args.setting.now.room) B fs f
          c.loop-f.m.account family lt is _ c.loop-f.out.items c.in_ok-ctors.ctors c.check_constructors.new.m.account (before.leads B en ep) done.answer);
      after = after-trans c.args.m.now c.loop-f.m c.check_constructors.new.m before.after c.check_constructors.ensures.after;
      heads = left.1;
      formed = family_formed E fs f family lt is before.formed left.0.0 c.in_ok-ctors.ensures.formed;
    }

pub returns-clause-follows : goal.returns-clause-follows
returns-clause-follows g c = λ B en ep.
    let E = c.args.setting.now.env.now in
    let fs = c.args.families.now in
    let ge : length fs ≤ c.loop-f.f = grind arith in
    let m = c.loop-f.m in
    let over = families_over E (test_of E) (infer E (test_of E) c.args.setting.now.room) (compare E (test_of E) c.args.setting.now.room) B fs c.loop-f.f m.account ge in
    rw c.of.ensures.is (collect_end _ c.loop-f.out.items _ c.args.m.now m over (c.loop-f.invariant.leads B en ep) c.loop-f.invariant.after)

pub returns-clause-formed : goal.returns-clause-formed
returns-clause-formed g c =
    let fs = c.args.families.now in
    let ge : length fs ≤ c.loop-f.f = grind arith in
    subst (λ xs. FamiliesFormed (map family_of xs)) (take_all c.loop-f.f fs ge) c.loop-f.invariant.formed

pub returns-in_err-number-clause-follows : goal.returns-in_err-number-clause-follows
returns-in_err-number-clause-follows g c = λ B en ep.
    let before = c.loop-f.invariant in
    let p = err_from_is_err_and c.from_residual.result c.from_residual.ensures.1 in
    rw (p.1, p.2, c.in_err-number.ensures.only_memory) (follows_wanting _ _ c.args.m.now c.loop-f.m (before.leads B en ep) before.after (search leaving))

pub returns-in_err-with_constructors-clause-follows : goal.returns-in_err-with_constructors-clause-follows
returns-in_err-with_constructors-clause-follows g c = λ B en ep.
    let E = c.args.setting.now.env.now in
    let fs = c.args.families.now in
    let f = c.loop-f.f in
    let family = c.index-items-f.result in
    let lt : f < length fs = grind arith in
    let is : family ≡ get_or fs f family = cc in
    let before = c.loop-f.invariant in
    let done = rw c.in_ok-number.ensures.is at c.in_ok-ctors.ensures.follows B en ep in
    let next = families_next E (test_of E) (infer E (test_of E) c.args.setting.now.room) (compare E (test_of E) c.args.setting.now.room) B fs f
    c.loop-f.m.account family lt is _ c.loop-f.out.items c.in_ok-ctors.ctors c.check_constructors.new.m.account (before.leads B en ep) done.answer in
    let p = err_from_is_err_and c.from_residual-in_err-with_constructors.result c.from_residual-in_err-with_constructors.ensures.1 in
    rw (p.1, p.2, c.in_err-with_constructors.ensures.only_memory)
    (follows_wanting _ _ c.args.m.now c.check_constructors.new.m next (after-trans c.args.m.now c.loop-f.m c.check_constructors.new.m before.after c.check_constructors.ensures.after) (search leaving))

pub returns-in_err-push-clause-follows : goal.returns-in_err-push-clause-follows
returns-in_err-push-clause-follows g c = λ B en ep.
    let E = c.args.setting.now.env.now in
    let fs = c.args.families.now in
    let f = c.loop-f.f in
    let family = c.index-items-f.result in
    let lt : f < length fs = grind arith in
    let is : family ≡ get_or fs f family = cc in
    let before = c.loop-f.invariant in
    let done = rw c.in_ok-number.ensures.is at c.in_ok-ctors.ensures.follows B en ep in
    let next = families_next E (test_of E) (infer E (test_of E) c.args.setting.now.room) (compare E (test_of E) c.args.setting.now.room) B fs f
    c.loop-f.m.account family lt is _ c.loop-f.out.items c.in_ok-ctors.ctors c.check_constructors.new.m.account (before.leads B en ep) done.answer in
    let p = err_from_is_err_and c.from_residual-in_err-push.result c.from_residual-in_err-push.ensures.1 in
    rw (p.1, p.2, c.in_err-push.ensures.only_memory)
    (follows_wanting _ _ c.args.m.now c.check_constructors.new.m next (after-trans c.args.m.now c.loop-f.m c.check_constructors.new.m before.after c.check_constructors.ensures.after) (search leaving))
