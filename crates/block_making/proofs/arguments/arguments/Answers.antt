use Rattle.std.proofs.Common.{rules, ◌≡◌, ◌∙◌, ◌∷◌, ◌+◌, sym, ap, refl, drop, subst}
use Rattle.calculus_rules.specs.declared.entry.Entry.TheVariants.{Assumed}
use Rattle.calculus_rules.specs.Context.{extend}
use Rattle.pc_rules.proofs.Meters.{after-refl, after-trans}
use Rattle.type_infer.specs.Ready.{IsReady}
use Rattle.type_infer.proofs.Beginning.{assumed_ready}
use Rattle.inductive_check.proofs.Telescopes.{extend_next}
use Rattle.script_making.proofs.Making.{makes_memory, makes_passed}
use Rattle.block_making.proofs.InTurn.{collects_start, collects_more, collects_all}
use Rattle.block_making.proofs.Arguing.{arguments_end, argument_next, argument_halts}
use Rattle.block_making.proofs.arguments.arguments.Goals as goal

pub loop-i-init : goal.loop-i-init
loop-i-init g c = record {
  rest = rw c.new-sorts.ensures.items (collects_start _ _);
  longer = refl;
  ready = c.requires.ready;
  after = after-refl c.args.draft.now.meter;
}

pub argument-requires : goal.argument-requires
argument-requires g c =
    let r = c.loop-i.invariant.ready in
    let n = c.loop-i.invariant.after.nest in
    search rules

pub loop-i-preserved : goal.loop-i-preserved
loop-i-preserved g c =
    let v = c.args.typer.now.maker in
    let d = c.loop-i.ctx in
    let As = c.as_slice-items.result.now in
    let i = c.loop-i.i in
    let A = c.index-items-i.result in
    let lt = c.loop-i-test.true in
    let is = c.index-items-i.is in
    let before = c.loop-i.invariant in
    let longer : c.assume.new.ctx ≡ Assumed A ∷ d = c.in_ok-assume.ensures.longer in
    let one = argument_next v.env.now v.room c.args.block c.args.at.family c.args.at.ctor c.args.family.now d As i A lt is c.in_ok-sort.sort c.loop-i.draft c.argument.new.draft c.in_ok-sort.ensures.makes in
    record {
      rest = rw (longer, c.in_ok-push.ensures.longer) (collects_more _ c.loop-i.sorts.items _ _ _ c.in_ok-sort.sort c.loop-i.draft c.argument.new.draft before.rest one);
      longer = before.longer ∙ (extend_next d As i A lt is ∙ ap (λ x. extend x (drop (i + 1) As)) (sym longer));
      ready = subst (λ x. IsReady v.env.now x) (sym longer) (assumed_ready v.env.now d A before.ready c.in_ok-sort.ensures.counted);
      after = after-trans _ _ _ before.after c.in_ok-sort.ensures.makes.after;
    }

pub returns-in_err-sort-clause-makes : goal.returns-in_err-sort-clause-makes
returns-in_err-sort-clause-makes g c =
    let v = c.args.typer.now.maker in
    let p = argument_halts v.env.now v.room c.args.block c.args.at.family c.args.at.ctor c.args.family.now c.loop-i.ctx c.as_slice-items.result.now c.loop-i.i c.index-items-i.result c.loop-i-test.true
    c.index-items-i.is _ c.loop-i.draft c.argument.new.draft c.in_err-sort.ensures.makes in
    makes_passed c.from_residual.ensures.1 (rw c.as_slice-items.ensures.is at (c.loop-i.invariant.rest _ _ p))

pub returns-in_err-push-clause-makes : goal.returns-in_err-push-clause-makes
returns-in_err-push-clause-makes g c =
    let v = c.args.typer.now.maker in
    let one = argument_next v.env.now v.room c.args.block c.args.at.family c.args.at.ctor c.args.family.now c.loop-i.ctx c.as_slice-items.result.now c.loop-i.i c.index-items-i.result c.loop-i-test.true
    c.index-items-i.is c.in_ok-sort.sort c.loop-i.draft c.argument.new.draft c.in_ok-sort.ensures.makes _ _ (makes_memory _ _) in
    makes_passed c.from_residual-in_err-push.ensures.1 (rw c.in_err-push.ensures.only_memory (rw c.as_slice-items.ensures.is at (c.loop-i.invariant.rest _ _ one)))

pub returns-in_err-assume-clause-makes : goal.returns-in_err-assume-clause-makes
returns-in_err-assume-clause-makes g c =
    let v = c.args.typer.now.maker in
    let one = argument_next v.env.now v.room c.args.block c.args.at.family c.args.at.ctor c.args.family.now c.loop-i.ctx c.as_slice-items.result.now c.loop-i.i c.index-items-i.result c.loop-i-test.true
    c.index-items-i.is c.in_ok-sort.sort c.loop-i.draft c.argument.new.draft c.in_ok-sort.ensures.makes _ _ (makes_memory _ _) in
    makes_passed c.from_residual-in_err-assume.ensures.1 (rw c.in_err-assume.ensures.only_memory (rw c.as_slice-items.ensures.is at (c.loop-i.invariant.rest _ _ one)))

pub returns-clause-makes : goal.returns-clause-makes
returns-clause-makes g c =
    let v = c.args.typer.now.maker in
    let end = arguments_end v.env.now v.room c.args.block c.args.at.family c.args.at.ctor c.args.family.now c.loop-i.ctx c.as_slice-items.result.now c.loop-i.i c.loop-i.draft c.loop-i-test.false in
    rw c.of.ensures.is (rw c.as_slice-items.ensures.is at (collects_all _ c.loop-i.sorts.items c.args.draft.now _ c.loop-i.draft c.loop-i.invariant.rest end))
