use Rattle.std.proofs.Common.{rules, ◌≡◌, ◌∙◌, ◌+◌, ◌<◌, ap, refl, true}
use Rattle.pc_rules.specs.DirectedComparison.{sort_below}
use Rattle.pc_rules.specs.DirectedRun.{ticked}
use Rattle.pc_rules.specs.Entailment.{test_of}
use Rattle.type_cert.specs.declared.trail.Trail.{Trail}
use Rattle.type_cert.proofs.LeafChecks.{low_over, high_over, family_checks}
use Rattle.type_cert.proofs.verifier.Verifier.fits_family.Goals as goal

pub entails-requires-clause-low_over : goal.entails-requires-clause-low_over
entails-requires-clause-low_over c =
    let v = c.args.self.now in
    let room : 0 < v.room = search rules in
    let left : 1 < c.args.trail.now.meter.account.left = search rules in
    let d = rw (c.levels.ensures.value, c.graph.ensures.levels) at (c.sort_stands.ensures.declared c.if-not-sort_stands.false) in
    low_over v.cert.now v.env.now c.args.ctx.now v.room c.in-Some.low.now c.in-Sort.high c.args.id c.in-Some.ensures.answers d c.args.trail.now room left c.requires.ready

pub entails-requires-clause-high_over : goal.entails-requires-clause-high_over
entails-requires-clause-high_over c =
    let v = c.args.self.now in
    let room : 0 < v.room = search rules in
    let left : 1 < c.args.trail.now.meter.account.left = search rules in
    let d = rw (c.levels.ensures.value, c.graph.ensures.levels) at (c.sort_stands.ensures.declared c.if-not-sort_stands.false) in
    high_over v.cert.now v.env.now c.args.ctx.now v.room c.in-Some.low.now c.in-Sort.high c.args.id c.in-Some.ensures.answers d c.args.trail.now room left c.requires.ready

pub returns-clause-checks : goal.returns-clause-checks
returns-clause-checks c h xs =
    let v = c.args.self.now in
    let room : 0 < v.room = search rules in
    let left : 1 < c.args.trail.now.meter.account.left = search rules in
    let d = rw (c.levels.ensures.value, c.graph.ensures.levels) at (c.sort_stands.ensures.declared c.if-not-sort_stands.false) in
    let e = rw c.in-Sort.is at c.view.ensures.is in
    let below : sort_below (test_of v.env.now) c.in-Some.low.now c.in-Sort.high ≡ true = search rules in
    let there = c.next_are_sorts.ensures in
    let yes = c.if-not-next_are_sorts.false in
    let t1 : Trail = record { meter = c.tick-second.new.self; at = c.args.trail.now.at + 3 } in
    rw (← e) (family_checks v.cert.now v.env.now c.args.ctx.now v.room c.in-Some.low.now c.in-Sort.high c.args.id c.in-Some.ensures.answers d c.args.trail.now room left t1
    (c.tick-second.ensures.account ∙ ap ticked c.tick-first.ensures.account) (c.tick-second.ensures.nest ∙ c.tick-first.ensures.nest) refl (there.conv yes) (there.none yes) (there.same yes) below)
