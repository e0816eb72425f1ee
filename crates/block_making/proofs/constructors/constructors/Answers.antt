use Rattle.std.proofs.Common.{rules}
use Rattle.pc_rules.proofs.Meters.{after-refl, after-trans}
use Rattle.inductive_check.specs.Given.{family_of}
use Rattle.script_making.proofs.Making.{makes_memory, makes_passed}
use Rattle.block_making.proofs.InTurn.{collects_start, collects_more, collects_all}
use Rattle.block_making.proofs.Listing.{constructors_end, constructor_next, constructor_halts}
use Rattle.block_making.proofs.constructors.constructors.Goals as goal

pub loop-i-init : goal.loop-i-init
loop-i-init g c = record {
  rest = λ B en ep. rw c.new-out.ensures.items (collects_start _ _);
  after = after-refl c.args.draft.now.meter;
}

pub returns-in_err-number-clause-makes : goal.returns-in_err-number-clause-makes
returns-in_err-number-clause-makes g c = λ B en ep.
    makes_passed c.from_residual.ensures.1 (rw c.in_err-number.ensures.only_memory (rw c.as_slice-items.ensures.is at (c.loop-i.invariant.rest B en ep _ _ (makes_memory _ _))))

pub constructor-requires : goal.constructor-requires
constructor-requires g c = let n = c.loop-i.invariant.after.nest in search rules

pub loop-i-preserved : goal.loop-i-preserved
loop-i-preserved g c =
    let v = c.args.typer.now.maker in
    let F = family_of c.args.family.now in
    let cs = c.as_slice-items.result.now in
    let i = c.loop-i.i in
    let C = c.index-items-i.result in
    let lt = c.loop-i-test.true in
    let is = c.index-items-i.is in
    let before = c.loop-i.invariant in
    record {
      rest = λ B en ep.
          let p = rw c.in_ok-number.ensures.is at c.in_ok-ctor.ensures.makes B en ep in
          let one = constructor_next v.env.now v.room B F c.args.place cs i C lt is c.loop-i.draft c.constructor.new.draft c.in_ok-ctor.ctor p in
          rw c.in_ok-push.ensures.longer (collects_more _ c.loop-i.out.items _ _ _ c.in_ok-ctor.ctor c.loop-i.draft c.constructor.new.draft (before.rest B en ep) one);
      after = after-trans _ _ _ before.after c.in_ok-ctor.ensures.after;
    }

pub returns-in_err-ctor-clause-makes : goal.returns-in_err-ctor-clause-makes
returns-in_err-ctor-clause-makes g c = λ B en ep.
    let v = c.args.typer.now.maker in
    let q = rw c.in_ok-number.ensures.is at c.in_err-ctor.ensures.makes B en ep in
    let p = constructor_halts v.env.now v.room B (family_of c.args.family.now) c.args.place c.as_slice-items.result.now c.loop-i.i c.index-items-i.result c.loop-i-test.true c.index-items-i.is
    c.loop-i.draft c.constructor.new.draft _ q in
    makes_passed c.from_residual-in_err-ctor.ensures.1 (rw c.as_slice-items.ensures.is at (c.loop-i.invariant.rest B en ep _ _ p))

pub returns-in_err-push-clause-makes : goal.returns-in_err-push-clause-makes
returns-in_err-push-clause-makes g c = λ B en ep.
    let v = c.args.typer.now.maker in
    let q = rw c.in_ok-number.ensures.is at c.in_ok-ctor.ensures.makes B en ep in
    let one = constructor_next v.env.now v.room B (family_of c.args.family.now) c.args.place c.as_slice-items.result.now c.loop-i.i c.index-items-i.result c.loop-i-test.true c.index-items-i.is
    c.loop-i.draft c.constructor.new.draft c.in_ok-ctor.ctor q _ _ (makes_memory _ _) in
    makes_passed c.from_residual-in_err-push.ensures.1 (rw c.in_err-push.ensures.only_memory (rw c.as_slice-items.ensures.is at (c.loop-i.invariant.rest B en ep _ _ one)))

pub returns-clause-makes : goal.returns-clause-makes
returns-clause-makes g c = λ B en ep.
    let v = c.args.typer.now.maker in
    let end = constructors_end v.env.now v.room B (family_of c.args.family.now) c.args.place c.as_slice-items.result.now c.loop-i.i c.loop-i.draft c.loop-i-test.false in
    rw c.of.ensures.is (rw c.as_slice-items.ensures.is at (collects_all _ c.loop-i.out.items c.args.draft.now _ c.loop-i.draft (c.loop-i.invariant.rest B en ep) end))
