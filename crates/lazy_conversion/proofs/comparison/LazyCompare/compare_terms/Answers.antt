use Rattle.std.proofs.Common.{◌∙◌, ap, refl}
use Rattle.pc_rules.specs.Stops.{stop_of}
use Rattle.pc_rules.proofs.Following.{follows_no_memory}
use Rattle.pc_rules.proofs.Leaving.{leaving}
use Rattle.reduce_machine.proofs.Bodies.{plain_read}
use Rattle.lazy_conversion.proofs.Tracking.{tracked_within}
use Rattle.lazy_conversion.proofs.comparison.LazyCompare.compare_terms.Goals as goal

pub compare-requires : goal.compare-requires
compare-requires c =
    let x = plain_read c.plain-x.result c.in_ok-left.left c.plain-x.ensures.term c.plain-x.ensures.items ∙ c.in_ok-left.ensures.ok in
    let y = plain_read c.plain-y.result c.in_ok-right.right c.plain-y.ensures.term c.plain-y.ensures.items ∙ c.in_ok-right.ensures.ok in
    record { nest = c.requires.nest; left = tt; right = tt; comparable = rw (x, y, c.new-at.ensures.env, c.new-at.ensures.ctx) c.requires.comparable }

pub returns-in_err-left : goal.returns-in_err-left
returns-in_err-left c = record { follows = follows_no_memory _ _ _ _ (ap stop_of c.in_err-left.ensures.only_memory) c.from_residual.ensures.1 (search leaving) }

pub returns-in_err-right : goal.returns-in_err-right
returns-in_err-right c = record { follows = follows_no_memory _ _ _ _ (ap stop_of c.in_err-right.ensures.only_memory) c.from_residual-in_err-right.ensures.1 (search leaving) }

pub returns : goal.returns
returns c =
    let x = plain_read c.plain-x.result c.in_ok-left.left c.plain-x.ensures.term c.plain-x.ensures.items ∙ c.in_ok-left.ensures.ok in
    let y = plain_read c.plain-y.result c.in_ok-right.right c.plain-y.ensures.term c.plain-y.ensures.items ∙ c.in_ok-right.ensures.ok in
    let f = rw (x, y, c.new-at.ensures.env, c.new-at.ensures.ctx) at c.compare.ensures.tracks in
    let v = rw c.in_ok-left.ensures.ok at c.in_ok-left.ensures.within in
    let w = rw c.in_ok-right.ensures.ok at c.in_ok-right.ensures.within in
    record { follows = tracked_within _ _ _ _ _ _ f v w c.args.ctx.now refl }
