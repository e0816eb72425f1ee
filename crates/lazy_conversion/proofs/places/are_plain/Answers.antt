use Rattle.std.proofs.Common.{◌≡◌, ◌≤◌, [], arith, rules}
use Rattle.std.proofs.lemmas.Bool.{eqb-true}
use Rattle.trees.specs.Measures.{loose}
use Rattle.lazy_conversion.proofs.Lifting.{closed_same, none_same}
use Rattle.lazy_conversion.proofs.places.are_plain.Goals as goal

pub returns-then-loose-q : goal.returns-then-loose-q
returns-then-loose-q c =
    let l : loose c.args.a.now ≤ c.args.p.now.under = omega (arith, c.loose.ensures.is, c.if-loose-p.true) in
    let r : loose c.args.b.now ≤ c.args.q.now.under = omega (arith, c.loose-then-loose-p.ensures.is, c.if-loose-q.true) in
    record { plain = λ _. closed_same c.args.p.now.lifted c.args.p.now.env.now.items _ c.args.q.now.lifted c.args.q.now.env.now.items _ _ _ l r }

pub returns : goal.returns
returns c =
    let p : c.args.p.now.env.now.items ≡ [] = search rules in
    let q : c.args.q.now.env.now.items ≡ [] = search rules in
    let d : c.args.p.now.lifted ≡ c.args.q.now.lifted = search rules in
    record { plain = λ t. none_same c.args.p.now.lifted _ _ c.args.q.now.lifted _ _ _ _ p q d (eqb-true c.args.p.now.under c.args.q.now.under t) }
