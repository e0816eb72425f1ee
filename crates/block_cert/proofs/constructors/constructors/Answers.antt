use Rattle.std.proofs.Common.{rules, map, subst}
use Rattle.std.proofs.lemmas.List.{take_all}
use Rattle.pc_rules.proofs.Meters.{after-refl, after-trans}
use Rattle.rule_laws.specs.Declarations.{ConstructorsFormed}
use Rattle.inductive_check.specs.Given.{ctor_of, family_of}
use Rattle.inductive_check.proofs.Constructing.{formed_next}
use Rattle.type_cert.proofs.Retracing.{retraces_memory, retraces_passed}
use Rattle.block_cert.proofs.InTurn.{collects_start, collects_more, collects_all}
use Rattle.block_cert.proofs.Listing.{constructors_end, constructor_next, constructor_halts}
use Rattle.block_cert.proofs.constructors.constructors.Goals as goal

pub loop-i-init : goal.loop-i-init
loop-i-init g c = record {
  rest = λ B ep. rw c.new-out.ensures.items (collects_start _ _);
  formed = tt;
  after = after-refl c.args.trail.now.meter;
}

pub constructor-requires : goal.constructor-requires
constructor-requires g c = let n = c.loop-i.invariant.after.nest in search rules

pub loop-i-preserved : goal.loop-i-preserved
loop-i-preserved g c =
    let v = c.args.walk.now.verifier in
    let F = family_of c.args.family.now in
    let cs = c.as_slice-items.result.now in
    let i = c.loop-i.i in
    let C = c.index-items-i.result in
    let lt = c.loop-i-test.true in
    let is = c.index-items-i.is in
    let before = c.loop-i.invariant in
    record {
      rest = λ B ep.
          let one = constructor_next v B F cs i C lt is c.loop-i.trail c.constructor.new.trail c.in_ok-ctor.ctor (c.in_ok-ctor.ensures.retraces B ep) in
          rw c.in_ok-push.ensures.longer (collects_more _ c.loop-i.out.items _ _ _ c.in_ok-ctor.ctor c.loop-i.trail c.constructor.new.trail (before.rest B ep) one);
      formed = formed_next v.env.now cs i C lt is before.formed c.in_ok-ctor.ensures.counted;
      after = after-trans _ _ _ before.after c.in_ok-ctor.ensures.after;
    }

pub returns-in_err-ctor-clause-retraces : goal.returns-in_err-ctor-clause-retraces
returns-in_err-ctor-clause-retraces g c = λ B ep.
    let p = constructor_halts c.args.walk.now.verifier B (family_of c.args.family.now) c.as_slice-items.result.now c.loop-i.i c.index-items-i.result c.loop-i-test.true c.index-items-i.is
    c.loop-i.trail c.constructor.new.trail _ (c.in_err-ctor.ensures.retraces B ep) in
    retraces_passed c.from_residual.ensures.1 (rw c.as_slice-items.ensures.is at (c.loop-i.invariant.rest B ep _ _ p))

pub returns-in_err-push-clause-retraces : goal.returns-in_err-push-clause-retraces
returns-in_err-push-clause-retraces g c = λ B ep.
    let one = constructor_next c.args.walk.now.verifier B (family_of c.args.family.now) c.as_slice-items.result.now c.loop-i.i c.index-items-i.result c.loop-i-test.true c.index-items-i.is
    c.loop-i.trail c.constructor.new.trail c.in_ok-ctor.ctor (c.in_ok-ctor.ensures.retraces B ep) _ _ (retraces_memory _ _) in
    retraces_passed c.from_residual-in_err-push.ensures.1 (rw c.in_err-push.ensures.only_memory (rw c.as_slice-items.ensures.is at (c.loop-i.invariant.rest B ep _ _ one)))

pub returns-clause-retraces : goal.returns-clause-retraces
returns-clause-retraces g c = λ B ep.
    let end = constructors_end c.args.walk.now.verifier B (family_of c.args.family.now) c.as_slice-items.result.now c.loop-i.i c.loop-i.trail c.loop-i-test.false in
    rw c.of.ensures.is (rw c.as_slice-items.ensures.is at (collects_all _ c.loop-i.out.items c.args.trail.now _ c.loop-i.trail (c.loop-i.invariant.rest B ep) end))

pub returns-clause-formed : goal.returns-clause-formed
returns-clause-formed g c =
    let cs = c.as_slice-items.result.now in
    rw c.as_slice-items.ensures.is at (subst (λ xs. ConstructorsFormed (map ctor_of xs)) (take_all c.loop-i.i cs c.loop-i-test.false) c.loop-i.invariant.formed)
