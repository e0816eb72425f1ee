use Rattle.std.proofs.Common.{rules, [], ◌∷◌, map, sym, subst, take}
use Rattle.std.proofs.lemmas.List.{take_all}
use Rattle.calculus_rules.specs.Environment.{head_of}
use Rattle.pc_rules.specs.WellCounted.{AreCountedFamilies}
use Rattle.pc_rules.proofs.Meters.{after-refl, after-trans}
use Rattle.inductive_check.specs.Given.{family_of}
use Rattle.inductive_check.proofs.Listed.{heads_next, families_more}
use Rattle.script_making.proofs.Making.{makes_passed}
use Rattle.block_making.proofs.Listing.{heads_end, head_next, head_halts}
use Rattle.block_making.proofs.heads.heads.Goals as goal

pub loop-i-init : goal.loop-i-init
loop-i-init g c = record { rest = λ B ep r n x. x; counted = tt; after = after-refl c.args.draft.now.meter }

pub head-requires : goal.head-requires
head-requires g c = let n = c.loop-i.invariant.after.nest in search rules

pub loop-i-preserved : goal.loop-i-preserved
loop-i-preserved g c =
    let v = c.args.typer.now.maker in
    let fs = c.as_slice-items.result.now in
    let i = c.loop-i.i in
    let F = c.index-items-i.result in
    let before = c.loop-i.invariant in
    let lt = c.loop-i-test.true in
    let is = c.index-items-i.is in
    record {
      rest = λ B ep r n x. before.rest B ep r n (head_next v.env.now v.room B fs i F lt is c.loop-i.draft c.head.new.draft (c.in_ok-head.ensures.makes B ep) r n x);
      counted = subst (λ Fs. AreCountedFamilies v.env.now Fs) (sym (heads_next fs i F lt is))
          (families_more v.env.now (map head_of (map family_of (take i fs))) (head_of (family_of F) ∷ []) before.counted c.in_ok-head.ensures.counted);
      after = after-trans _ _ _ before.after c.in_ok-head.ensures.after;
    }

pub returns-in_err-head-clause-makes : goal.returns-in_err-head-clause-makes
returns-in_err-head-clause-makes g c = λ B ep.
    let v = c.args.typer.now.maker in
    let p = head_halts v.env.now v.room B c.as_slice-items.result.now c.loop-i.i c.index-items-i.result c.loop-i-test.true c.index-items-i.is c.loop-i.draft c.head.new.draft _
    (c.in_err-head.ensures.makes B ep) in
    makes_passed c.from_residual.ensures.1 (rw c.as_slice-items.ensures.is at (c.loop-i.invariant.rest B ep _ _ p))

pub returns-in_err-head-clause-after : goal.returns-in_err-head-clause-after
returns-in_err-head-clause-after g c = after-trans _ _ _ c.loop-i.invariant.after c.in_err-head.ensures.after

pub returns-clause-makes : goal.returns-clause-makes
returns-clause-makes g c = λ B ep.
    let v = c.args.typer.now.maker in
    rw c.as_slice-items.ensures.is at (c.loop-i.invariant.rest B ep _ _ (heads_end v.env.now v.room B c.as_slice-items.result.now c.loop-i.i c.loop-i.draft c.loop-i-test.false))

pub returns-clause-counted : goal.returns-clause-counted
returns-clause-counted g c =
    let fs = c.as_slice-items.result.now in
    let k = subst (λ xs. AreCountedFamilies c.args.typer.now.maker.env.now (map head_of (map family_of xs))) (take_all c.loop-i.i fs c.loop-i-test.false) c.loop-i.invariant.counted in
    rw c.as_slice-items.ensures.is at k
