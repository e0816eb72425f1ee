use Rattle.std.proofs.Common.{rules, ◌≡◌, ◌<◌, ◌≤◌, map, subst, length, get_or, arith}
use Rattle.std.proofs.lemmas.List.{take_all}
use Rattle.pc_rules.specs.DirectedComparison.{compare}
use Rattle.pc_rules.specs.DirectedTyping.{infer}
use Rattle.pc_rules.specs.Entailment.{test_of}
use Rattle.pc_rules.proofs.FairReduction.{comparing_fair}
use Rattle.pc_rules.proofs.FairTyping.{inferring_fair}
use Rattle.pc_rules.proofs.Meters.{after-refl, after-trans}
use Rattle.rule_laws.specs.Declarations.{ConstructorsFormed}
use Rattle.inductive_check.specs.Given.{ctor_of, family_of}
use Rattle.inductive_check.proofs.Leading.{collect_start, collect_end, follows_wanting}
use Rattle.inductive_check.proofs.Constructing.{formed_next, constructors_over, constructors_next, constructors_stop}
use Rattle.std.proofs.lemmas.Result.{err_from_is_err_and}
use Rattle.pc_rules.proofs.Leaving.{leaving}
use Rattle.inductive_check.proofs.constructors.check_constructors.Goals as goal

pub loop-n-init : goal.loop-n-init
loop-n-init g c = record {
  leads = λ B en ep. rw c.new-out.ensures.items (collect_start _);
  after = after-refl c.args.m.now;
  formed = tt;
}

pub returns-in_err-ctor-clause-follows : goal.returns-in_err-ctor-clause-follows
returns-in_err-ctor-clause-follows g c = λ B en ep.
    let E = c.args.setting.now.env.now in
    let cs = c.args.family.now.ctors in
    let n = c.loop-n.n in
    let ctor = c.index-ctors-n.result in
    let lt : n < length cs = grind arith in
    let is : ctor ≡ get_or cs n ctor = cc in
    let before = c.loop-n.invariant in
    let f = rw c.in_ok-number.ensures.is at c.in_err-ctor.ensures.follows B en ep in
    let stop = constructors_stop E (test_of E) (infer E (test_of E) c.args.setting.now.room) (compare E (test_of E) c.args.setting.now.room) B (family_of c.args.family.now) c.args.place cs n
    c.loop-n.m.account ctor lt is _ c.loop-n.out.items c.in_err-ctor.field-0.0 c.args.m.now c.loop-n.m c.check_constructor.new.m (before.leads B en ep) before.after f
    (inferring_fair E (test_of E) c.args.setting.now.room) (comparing_fair E (test_of E) c.args.setting.now.room) in
    search rules

pub loop-n-preserved : goal.loop-n-preserved
loop-n-preserved g c =
    let E = c.args.setting.now.env.now in
    let cs = c.args.family.now.ctors in
    let n = c.loop-n.n in
    let ctor = c.index-ctors-n.result in
    let lt : n < length cs = grind arith in
    let is : ctor ≡ get_or cs n ctor = cc in
    let before = c.loop-n.invariant in
    let counted = c.in_ok-ctor.ensures.counted in
    record {
      leads = λ B en ep.
          let f = rw c.in_ok-number.ensures.is at c.in_ok-ctor.ensures.follows B en ep in
          rw c.in_ok-push.ensures.longer
          (constructors_next E (test_of E) (infer E (test_of E) c.args.setting.now.room) (compare E (test_of E) c.args.setting.now.room) B (family_of c.args.family.now) c.args.place cs n
          c.loop-n.m.account ctor lt is _ c.loop-n.out.items c.in_ok-ctor.ctor c.check_constructor.new.m.account (before.leads B en ep) f.answer);
      after = after-trans c.args.m.now c.loop-n.m c.check_constructor.new.m before.after c.check_constructor.ensures.after;
      formed = formed_next E cs n ctor lt is before.formed counted;
    }

pub returns-clause-follows : goal.returns-clause-follows
returns-clause-follows g c = λ B en ep.
    let E = c.args.setting.now.env.now in
    let cs = c.args.family.now.ctors in
    let ge : length cs ≤ c.loop-n.n = grind arith in
    let m = c.loop-n.m in
    let over = constructors_over E (test_of E) (infer E (test_of E) c.args.setting.now.room) (compare E (test_of E) c.args.setting.now.room) B (family_of c.args.family.now) c.args.place cs c.loop-n.n m.account ge in
    rw c.of.ensures.is (collect_end _ c.loop-n.out.items _ c.args.m.now m over (c.loop-n.invariant.leads B en ep) c.loop-n.invariant.after)

pub returns-clause-formed : goal.returns-clause-formed
returns-clause-formed g c =
    let cs = c.args.family.now.ctors in
    let ge : length cs ≤ c.loop-n.n = grind arith in
    subst (λ xs. ConstructorsFormed (map ctor_of xs)) (take_all c.loop-n.n cs ge) c.loop-n.invariant.formed

pub returns-in_err-number-clause-follows : goal.returns-in_err-number-clause-follows
returns-in_err-number-clause-follows g c = λ B en ep.
    let before = c.loop-n.invariant in
    let p = err_from_is_err_and c.from_residual.result c.from_residual.ensures.1 in
    rw (p.1, p.2, c.in_err-number.ensures.only_memory) (follows_wanting _ _ c.args.m.now c.loop-n.m (before.leads B en ep) before.after (search leaving))

pub returns-in_err-push-clause-follows : goal.returns-in_err-push-clause-follows
returns-in_err-push-clause-follows g c = λ B en ep.
    let E = c.args.setting.now.env.now in
    let cs = c.args.family.now.ctors in
    let n = c.loop-n.n in
    let ctor = c.index-ctors-n.result in
    let lt : n < length cs = grind arith in
    let is : ctor ≡ get_or cs n ctor = cc in
    let before = c.loop-n.invariant in
    let f = rw c.in_ok-number.ensures.is at c.in_ok-ctor.ensures.follows B en ep in
    let next = constructors_next E (test_of E) (infer E (test_of E) c.args.setting.now.room) (compare E (test_of E) c.args.setting.now.room) B (family_of c.args.family.now) c.args.place cs n
    c.loop-n.m.account ctor lt is _ c.loop-n.out.items c.in_ok-ctor.ctor c.check_constructor.new.m.account (before.leads B en ep) f.answer in
    let p = err_from_is_err_and c.from_residual-in_err-push.result c.from_residual-in_err-push.ensures.1 in
    rw (p.1, p.2, c.in_err-push.ensures.only_memory)
    (follows_wanting _ _ c.args.m.now c.check_constructor.new.m next (after-trans c.args.m.now c.loop-n.m c.check_constructor.new.m before.after c.check_constructor.ensures.after) (search leaving))
