use Rattle.std.proofs.Common.{ℕ, ap, subst as along}
use Rattle.trees.specs.Measures.{IsBeyond}
use Rattle.pc_terms.specs.Syntax.{Term}
use Rattle.pc_terms.specs.Lists.{walk_match}
use Rattle.lazy_conversion.specs.Lifted.{lifted_under}
use Rattle.reduce_machine.specs.Reads.{stands_under}
use Rattle.lazy_conversion.proofs.Deepening.{answered, faulted, around_beyond}
use Rattle.lazy_conversion.proofs.Deciding.{around_same, walked_around}
use Rattle.lazy_conversion.proofs.Lifting.{lifted_zero}
use Rattle.lazy_conversion.proofs.sameness.same_around.Goals as goal

pub returns-clause-ok : goal.returns-clause-ok
returns-clause-ok c =
    answered _ _ c.same_matches.result (λ r h t u. around_same c.args.xs.now.items c.args.ys.now.items c.args.x.now c.args.y.now r t u h) c.same_matches.ensures.ok

pub returns-clause-too_deep : goal.returns-clause-too_deep
returns-clause-too_deep c =
    let xs = c.args.xs.now.items in
    let ys = c.args.ys.now.items in
    let x = ap (λ (f : ℕ → ℕ → Term). walk_match f 0 c.args.x.now) (lifted_zero xs) in
    let y = ap (λ (f : ℕ → ℕ → Term). walk_match f 0 c.args.y.now) (lifted_zero ys) in
    faulted _ _ c.same_matches.result (λ h t u.
    let d = around_beyond (walk_match (lifted_under 0 xs) 0 c.args.x.now) (walk_match (lifted_under 0 ys) 0 c.args.y.now) (walk_match (stands_under xs) 0 c.args.x.now) (walk_match (stands_under ys) 0 c.args.y.now) x y h t u in
    (along (λ (z : Term). IsBeyond z) (walked_around (stands_under xs) c.args.x.now t) d.0, along (λ (z : Term). IsBeyond z) (walked_around (stands_under ys) c.args.y.now u) d.1))
    c.same_matches.ensures.too_deep
