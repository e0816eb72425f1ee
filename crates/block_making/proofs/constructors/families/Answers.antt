use Rattle.std.proofs.Common.{rules}
use Rattle.pc_rules.proofs.Meters.{after-refl, after-trans}
use Rattle.inductive_check.proofs.Constructing.{heads_left}
use Rattle.script_making.proofs.Making.{makes_memory, makes_passed}
use Rattle.block_making.proofs.InTurn.{collects_start, collects_more, collects_all}
use Rattle.block_making.proofs.Listing.{families_end, family_next, family_halts}
use Rattle.block_making.proofs.constructors.families.Goals as goal

pub loop-i-init : goal.loop-i-init
loop-i-init g c = record {
  rest = λ B en ep. rw c.new-out.ensures.items (collects_start _ _);
  heads = rw c.as_slice-items.ensures.is c.requires.heads;
  after = after-refl c.args.draft.now.meter;
}

pub returns-in_err-number-clause-makes : goal.returns-in_err-number-clause-makes
returns-in_err-number-clause-makes g c = λ B en ep.
    makes_passed c.from_residual.ensures.1 (rw c.in_err-number.ensures.only_memory (rw c.as_slice-items.ensures.is at (c.loop-i.invariant.rest B en ep _ _ (makes_memory _ _))))

pub constructors-requires : goal.constructors-requires
constructors-requires g c =
    let left = heads_left c.args.typer.now.maker.env.now c.as_slice-items.result.now c.loop-i.i c.index-items-i.result c.loop-i-test.true c.index-items-i.is c.loop-i.invariant.heads in
    let sort = left.0.2 in
    let n = c.loop-i.invariant.after.nest in
    search rules

pub loop-i-preserved : goal.loop-i-preserved
loop-i-preserved g c =
    let v = c.args.typer.now.maker in
    let fs = c.as_slice-items.result.now in
    let i = c.loop-i.i in
    let F = c.index-items-i.result in
    let lt = c.loop-i-test.true in
    let is = c.index-items-i.is in
    let before = c.loop-i.invariant in
    record {
      rest = λ B en ep.
          let p = rw c.in_ok-number.ensures.is at c.in_ok-ctors.ensures.makes B en ep in
          let one = family_next v.env.now v.room B fs i F lt is c.loop-i.draft c.constructors.new.draft c.in_ok-ctors.ctors p in
          rw (c.in_ok-push.ensures.longer, c.in_ok-with_constructors.ensures.ok)
          (collects_more _ c.loop-i.out.items _ _ _ _ c.loop-i.draft c.constructors.new.draft (before.rest B en ep) one);
      heads = (heads_left v.env.now fs i F lt is before.heads).1;
      after = after-trans _ _ _ before.after c.in_ok-ctors.ensures.after;
    }

pub returns-in_err-ctors-clause-makes : goal.returns-in_err-ctors-clause-makes
returns-in_err-ctors-clause-makes g c = λ B en ep.
    let v = c.args.typer.now.maker in
    let q = rw c.in_ok-number.ensures.is at c.in_err-ctors.ensures.makes B en ep in
    let p = family_halts v.env.now v.room B c.as_slice-items.result.now c.loop-i.i c.index-items-i.result c.loop-i-test.true c.index-items-i.is c.loop-i.draft c.constructors.new.draft _ q in
    makes_passed c.from_residual-in_err-ctors.ensures.1 (rw c.as_slice-items.ensures.is at (c.loop-i.invariant.rest B en ep _ _ p))

pub returns-in_err-with_constructors-clause-makes : goal.returns-in_err-with_constructors-clause-makes
returns-in_err-with_constructors-clause-makes g c = λ B en ep.
    let v = c.args.typer.now.maker in
    let q = rw c.in_ok-number.ensures.is at c.in_ok-ctors.ensures.makes B en ep in
    let one = family_next v.env.now v.room B c.as_slice-items.result.now c.loop-i.i c.index-items-i.result c.loop-i-test.true c.index-items-i.is c.loop-i.draft c.constructors.new.draft c.in_ok-ctors.ctors q
    _ _ (makes_memory _ _) in
    makes_passed c.from_residual-in_err-with_constructors.ensures.1 (rw c.in_err-with_constructors.ensures.only_memory
    (rw c.as_slice-items.ensures.is at (c.loop-i.invariant.rest B en ep _ _ one)))

pub returns-in_err-push-clause-makes : goal.returns-in_err-push-clause-makes
returns-in_err-push-clause-makes g c = λ B en ep.
    let v = c.args.typer.now.maker in
    let q = rw c.in_ok-number.ensures.is at c.in_ok-ctors.ensures.makes B en ep in
    let one = family_next v.env.now v.room B c.as_slice-items.result.now c.loop-i.i c.index-items-i.result c.loop-i-test.true c.index-items-i.is c.loop-i.draft c.constructors.new.draft c.in_ok-ctors.ctors q
    _ _ (makes_memory _ _) in
    makes_passed c.from_residual-in_err-push.ensures.1 (rw c.in_err-push.ensures.only_memory (rw c.as_slice-items.ensures.is at (c.loop-i.invariant.rest B en ep _ _ one)))

pub returns-clause-makes : goal.returns-clause-makes
returns-clause-makes g c = λ B en ep.
    let v = c.args.typer.now.maker in
    let end = families_end v.env.now v.room B c.as_slice-items.result.now c.loop-i.i c.loop-i.draft c.loop-i-test.false in
    rw c.of.ensures.is (rw c.as_slice-items.ensures.is at (collects_all _ c.loop-i.out.items c.args.draft.now _ c.loop-i.draft (c.loop-i.invariant.rest B en ep) end))
