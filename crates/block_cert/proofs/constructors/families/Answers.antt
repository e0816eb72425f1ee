use Rattle.std.proofs.Common.{rules, map, subst}
use Rattle.std.proofs.lemmas.List.{take_all}
use Rattle.pc_rules.proofs.Meters.{after-refl, after-trans}
use Rattle.rule_laws.specs.Declarations.{FamiliesFormed}
use Rattle.inductive_check.specs.Given.{family_of}
use Rattle.inductive_check.proofs.Constructing.{heads_left, family_formed}
use Rattle.type_cert.proofs.Retracing.{retraces_memory, retraces_passed}
use Rattle.block_cert.proofs.InTurn.{collects_start, collects_more, collects_all}
use Rattle.block_cert.proofs.Listing.{families_end, family_next, family_halts}
use Rattle.block_cert.proofs.constructors.families.Goals as goal

pub loop-i-init : goal.loop-i-init
loop-i-init g c = record {
  rest = λ B ep. rw c.new-out.ensures.items (collects_start _ _);
  heads = rw c.as_slice-items.ensures.is c.requires.heads;
  formed = tt;
  after = after-refl c.args.trail.now.meter;
}

pub constructors-requires : goal.constructors-requires
constructors-requires g c =
    let left = heads_left c.args.walk.now.verifier.env.now c.as_slice-items.result.now c.loop-i.i c.index-items-i.result c.loop-i-test.true c.index-items-i.is c.loop-i.invariant.heads in
    let sort = left.0.2 in
    let n = c.loop-i.invariant.after.nest in
    search rules

pub loop-i-preserved : goal.loop-i-preserved
loop-i-preserved g c =
    let v = c.args.walk.now.verifier in
    let fs = c.as_slice-items.result.now in
    let i = c.loop-i.i in
    let F = c.index-items-i.result in
    let lt = c.loop-i-test.true in
    let is = c.index-items-i.is in
    let before = c.loop-i.invariant in
    let left = heads_left v.env.now fs i F lt is before.heads in
    record {
      rest = λ B ep.
          let one = family_next v B fs i F lt is c.loop-i.trail c.constructors.new.trail c.in_ok-ctors.ctors (c.in_ok-ctors.ensures.retraces B ep) in
          rw (c.in_ok-push.ensures.longer, c.in_ok-with_constructors.ensures.ok)
          (collects_more _ c.loop-i.out.items _ _ _ _ c.loop-i.trail c.constructors.new.trail (before.rest B ep) one);
      heads = left.1;
      formed = family_formed v.env.now fs i F lt is before.formed left.0.0 c.in_ok-ctors.ensures.formed;
      after = after-trans _ _ _ before.after c.in_ok-ctors.ensures.after;
    }

pub returns-in_err-ctors-clause-retraces : goal.returns-in_err-ctors-clause-retraces
returns-in_err-ctors-clause-retraces g c = λ B ep.
    let p = family_halts c.args.walk.now.verifier B c.as_slice-items.result.now c.loop-i.i c.index-items-i.result c.loop-i-test.true c.index-items-i.is
    c.loop-i.trail c.constructors.new.trail _ (c.in_err-ctors.ensures.retraces B ep) in
    retraces_passed c.from_residual.ensures.1 (rw c.as_slice-items.ensures.is at (c.loop-i.invariant.rest B ep _ _ p))

pub returns-in_err-with_constructors-clause-retraces : goal.returns-in_err-with_constructors-clause-retraces
returns-in_err-with_constructors-clause-retraces g c = λ B ep.
    let one = family_next c.args.walk.now.verifier B c.as_slice-items.result.now c.loop-i.i c.index-items-i.result c.loop-i-test.true c.index-items-i.is
    c.loop-i.trail c.constructors.new.trail c.in_ok-ctors.ctors (c.in_ok-ctors.ensures.retraces B ep) _ _ (retraces_memory _ _) in
    retraces_passed c.from_residual-in_err-with_constructors.ensures.1 (rw c.in_err-with_constructors.ensures.only_memory (rw c.as_slice-items.ensures.is at (c.loop-i.invariant.rest B ep _ _ one)))

pub returns-in_err-push-clause-retraces : goal.returns-in_err-push-clause-retraces
returns-in_err-push-clause-retraces g c = λ B ep.
    let one = family_next c.args.walk.now.verifier B c.as_slice-items.result.now c.loop-i.i c.index-items-i.result c.loop-i-test.true c.index-items-i.is
    c.loop-i.trail c.constructors.new.trail c.in_ok-ctors.ctors (c.in_ok-ctors.ensures.retraces B ep) _ _ (retraces_memory _ _) in
    retraces_passed c.from_residual-in_err-push.ensures.1 (rw c.in_err-push.ensures.only_memory (rw c.as_slice-items.ensures.is at (c.loop-i.invariant.rest B ep _ _ one)))

pub returns-clause-retraces : goal.returns-clause-retraces
returns-clause-retraces g c = λ B ep.
    let end = families_end c.args.walk.now.verifier B c.as_slice-items.result.now c.loop-i.i c.loop-i.trail c.loop-i-test.false in
    rw c.of.ensures.is (rw c.as_slice-items.ensures.is at (collects_all _ c.loop-i.out.items c.args.trail.now _ c.loop-i.trail (c.loop-i.invariant.rest B ep) end))

pub returns-clause-formed : goal.returns-clause-formed
returns-clause-formed g c =
    let fs = c.as_slice-items.result.now in
    rw c.as_slice-items.ensures.is at (subst (λ xs. FamiliesFormed (map family_of xs)) (take_all c.loop-i.i fs c.loop-i-test.false) c.loop-i.invariant.formed)
